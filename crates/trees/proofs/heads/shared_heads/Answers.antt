use Rattle.std.proofs.Common.{◌≡◌, ◌+◌, ◌<◌, Bool, true, false, cond, length, replicate, Some, None, sym, refl, ap, ◌∙◌, subst, arith, rules}
use Rattle.drafts.specs.Books.{book_of}
use Rattle.drafts.specs.Stores.{seen}
use Rattle.drafts.proofs.Sound.{book_rules}
use Rattle.trees.specs.Views.{steps_of}
use Rattle.trees.specs.Rows.{heads_at}
use Rattle.trees.proofs.LeftSides.{rule_count_is}
use Rattle.trees.proofs.LeftSides.{draft_cells}
use Rattle.trees.proofs.Shares.{getD_replicate_same, SharedTo, shared_none_yet, shared_skip, shared_more, shared_stop, shared_all}
use Rattle.trees.proofs.heads.shared_heads.Goals as goal
use Rattle.trees.proofs.heads.shared_heads.Goals.{In-loop-i, then-remain-i+in_ok-symbol_at, else-remain-i}

-- the mask and the rules have the place at hand
at_rule : (c : In-loop-i) → (c.loop-i.i < length c.args.remain.now) × (c.loop-i.i < length (book_of (seen c.args.draft.now)).rules)
at_rule c =
    let few = (book_rules c.args.draft.now).few_rules in
    let n = rule_count_is c.args.draft.now in
    let long : length c.args.remain.now ≡ 96 = search rules in
    (omega (arith, c.loop-i-test.true, c.rule_count-i-end.ensures.value), omega (arith, c.loop-i-test.true, c.rule_count-i-end.ensures.value))

pub loop-i-init : goal.loop-i-init
loop-i-init c =
    let d = c.args.draft.now in
    let long : length c.args.remain.now ≡ 96 = search rules in
    shared_none_yet (steps_of c.args.path.now) c.args.remain.now (book_of (seen d)).rules (draft_cells d (steps_of c.args.path.now)) (replicate 96 None) (sym long) (λ k. getD_replicate_same 96 k)

pub returns-in_err-symbol_at : goal.returns-in_err-symbol_at
returns-in_err-symbol_at c =
    let d = c.args.draft.now in
    let p = steps_of c.args.path.now in
    let m = c.args.remain.now in
    let R = (book_of (seen d)).rules in
    let i = c.loop-i.i in
    let z = at_rule (goal.at.returns-in_err-symbol_at c).In-loop-i in
    let no = shared_stop p m R (draft_cells d p) i c.loop-i.heads true false c.loop-i.invariant z.0 z.1 (sym c.if-remain-i.true) refl c.in_err-symbol_at.ensures in
    c.from_residual.ensures ∙ sym (ap (λ (b : Bool). cond b (Some (heads_at p m R)) None) no)

pub loop-i-preserved : goal.loop-i-preserved
loop-i-preserved c =
    let d = c.args.draft.now in
    let p = steps_of c.args.path.now in
    let m = c.args.remain.now in
    let R = (book_of (seen d)).rules in
    let i = c.loop-i.i in
    let z = at_rule (goal.at.loop-i-preserved c).In-loop-i in
    elim c.if-remain-i.branch [
      | then-remain-i+in_ok-symbol_at w ↦ subst (SharedTo p m R (draft_cells d p) (i + 1)) (sym w.heads-is) (shared_more p m R (draft_cells d p) i c.loop-i.heads true false c.loop-i.invariant z.0 z.1 (sym w.if-remain-i.true) _ refl w.in_ok-symbol_at.ensures)
      | else-remain-i w ↦ subst (SharedTo p m R (draft_cells d p) (i + 1)) (sym w.heads-is) (shared_skip p m R (draft_cells d p) i c.loop-i.heads false false c.loop-i.invariant z.0 z.1 (sym w.if-remain-i.false) refl)
    ]

pub returns : goal.returns
returns c =
    let d = c.args.draft.now in
    let n = rule_count_is d in
    shared_all (steps_of c.args.path.now) c.args.remain.now (book_of (seen d)).rules (draft_cells d (steps_of c.args.path.now)) c.loop-i.i c.loop-i.heads (omega (arith, c.loop-i-test.false, c.rule_count-i-end.ensures.value)) c.loop-i.invariant
