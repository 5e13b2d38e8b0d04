use Rattle.std.proofs.Common.{ℕ, ◌+◌, length, None, Option, sym, ap, ◌∙◌, arith}
use Rattle.std.proofs.lemmas.Bool.{lt-ltb, le-ltb}
use Rattle.drafts.specs.declared.fault.RuleFault.TheVariants.{NoRoom}
use Rattle.drafts.specs.Drafts.{sides, letters_in, most_letters}
use Rattle.drafts.specs.Rules.{word_faults, shape_faults, rule_fault, no_room, fault_under}
use Rattle.drafts.specs.Stores.{seen, verdict}
use Rattle.terms.proofs.Tables.{items_fit}
use Rattle.drafts.proofs.Verdicts.{handed, refused_first, passed_first, refuse, pass}
use Rattle.drafts.proofs.Ruled.{letters_counted}
use Rattle.drafts.proofs.draft.Draft.rule_verdict.Goals as goal

pub returns-in_err-word_faults : goal.returns-in_err-word_faults
returns-in_err-word_faults c =
    let D = seen c.args.self.now in
    let q = sides c.args.left.now c.args.right.now in
    let f = c.in_ok-function.function in
    handed _ _ c.from_residual-in_err-word_faults.ensures.1
    ∙ refused_first (rule_fault D.signature f q) _ (tt {0}) (tt {0}) _ (refused_first (word_faults D.signature q) (shape_faults D.signature f q) (tt {0}) (tt {0}) _ c.in_err-word_faults.ensures)
    ∙ ap (λ (o : Option ℕ). verdict (fault_under D o q) tt) (sym c.in_ok-function.ensures.ok_part ∙ c.awaited.ensures)

pub returns-in_err-shape_faults : goal.returns-in_err-shape_faults
returns-in_err-shape_faults c =
    let D = seen c.args.self.now in
    let q = sides c.args.left.now c.args.right.now in
    let f = c.in_ok-function.function in
    handed _ _ c.from_residual-in_err-shape_faults.ensures.1
    ∙ refused_first (rule_fault D.signature f q) _ (tt {0}) (tt {0}) _ (c.in_err-shape_faults.ensures ∙ passed_first (word_faults D.signature q) (shape_faults D.signature f q) (tt {0}) _ (tt {0}) c.in_ok-word_faults.ensures)
    ∙ ap (λ (o : Option ℕ). verdict (fault_under D o q) tt) (sym c.in_ok-function.ensures.ok_part ∙ c.awaited.ensures)

pub returns-then-left-right : goal.returns-then-left-right
returns-then-left-right c =
    let a = c.args.self.now in
    let D = seen a in
    let q = sides c.args.left.now c.args.right.now in
    let f = c.in_ok-function.function in
    let k = letters_counted a in
    let n = items_fit a.letters in
    let l = ap length c.as_slice.ensures in
    refuse (no_room D.rules q) NoRoom None (tt {0}) (lt-ltb most_letters (letters_in D.rules + (length q.left + length q.right)) (omega (arith, c.if-left-right.true)))
    ∙ passed_first (rule_fault D.signature f q) _ (tt {0}) _ (tt {0}) (c.in_ok-shape_faults.ensures ∙ passed_first (word_faults D.signature q) (shape_faults D.signature f q) (tt {0}) _ (tt {0}) c.in_ok-word_faults.ensures)
    ∙ ap (λ (o : Option ℕ). verdict (fault_under D o q) tt) (sym c.in_ok-function.ensures.ok_part ∙ c.awaited.ensures)

pub returns : goal.returns
returns c =
    let a = c.args.self.now in
    let D = seen a in
    let q = sides c.args.left.now c.args.right.now in
    let f = c.in_ok-function.function in
    let k = letters_counted a in
    let n = items_fit a.letters in
    let l = ap length c.as_slice.ensures in
    pass (no_room D.rules q) NoRoom None (tt {0}) (le-ltb most_letters (letters_in D.rules + (length q.left + length q.right)) (omega (arith, c.if-left-right.false)))
    ∙ passed_first (rule_fault D.signature f q) _ (tt {0}) _ (tt {0}) (c.in_ok-shape_faults.ensures ∙ passed_first (word_faults D.signature q) (shape_faults D.signature f q) (tt {0}) _ (tt {0}) c.in_ok-word_faults.ensures)
    ∙ ap (λ (o : Option ℕ). verdict (fault_under D o q) tt) (sym c.in_ok-function.ensures.ok_part ∙ c.awaited.ensures)
