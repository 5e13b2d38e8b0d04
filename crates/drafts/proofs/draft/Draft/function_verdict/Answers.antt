use Rattle.std.proofs.Common.{◌+◌, ◌||◌, eqb, ltb, Option, Ok, sym, ap, ◌∙◌}
use Rattle.std.proofs.lemmas.Bool.{not-true, not-false}
use Rattle.drafts.specs.declared.fault.ContentFault.TheVariants.{WrongPromise}
use Rattle.drafts.specs.Drafts.{total, most_rules}
use Rattle.drafts.specs.declared.fault.ContentFault.{ContentFault}
use Rattle.drafts.specs.Contents.{symbol_fault, symbols_full}
use Rattle.drafts.specs.Stores.{seen, named, verdict}
use Rattle.drafts.proofs.Verdicts.{handed, refused_first, passed_first, refuse, pass, passed, again}
use Rattle.drafts.proofs.draft.Draft.function_verdict.Goals as goal

pub returns-in_err-new : goal.returns-in_err-new
returns-in_err-new c =
    let D = seen c.args.self.now in
    let n = c.args.name.now in
    ap named (handed _ _ c.from_residual.ensures.1) ∙ refused_first (symbol_fault D n c.args.args.now c.args.sort) _ n n _ c.in_err-new.ensures

pub returns-then-not-may_promise : goal.returns-then-not-may_promise
returns-then-not-may_promise c =
    let D = seen c.args.self.now in
    let n = c.args.name.now in
    let p = c.args.rules in
    refuse (eqb p 0 || ltb most_rules (total D.promised + p)) WrongPromise (symbols_full D) n (not-false _ (sym c.if-not-may_promise.ensures))
    ∙ passed_first (symbol_fault D n c.args.args.now c.args.sort) _ n _ n c.in_ok-new.ensures

pub returns-in_err-symbol_left : goal.returns-in_err-symbol_left
returns-in_err-symbol_left c =
    let D = seen c.args.self.now in
    let n = c.args.name.now in
    let p = c.args.rules in
    ap named (handed _ _ c.from_residual-in_err-symbol_left.ensures.1)
    ∙ again (symbols_full D) (tt {0}) n _ c.in_err-symbol_left.ensures
    ∙ pass (eqb p 0 || ltb most_rules (total D.promised + p)) WrongPromise (symbols_full D) n (not-true _ (sym c.if-not-may_promise.ensures))
    ∙ passed_first (symbol_fault D n c.args.args.now c.args.sort) _ n _ n c.in_ok-new.ensures

pub returns : goal.returns
returns c =
    let D = seen c.args.self.now in
    let n = c.args.name.now in
    let p = c.args.rules in
    ap Ok (passed (symbol_fault D n c.args.args.now c.args.sort) n _ c.in_ok-new.ensures).1
    ∙ ap (λ (o : Option ContentFault). verdict o n) (sym (passed (symbols_full D) (tt {0}) _ c.in_ok-symbol_left.ensures).0)
    ∙ pass (eqb p 0 || ltb most_rules (total D.promised + p)) WrongPromise (symbols_full D) n (not-true _ (sym c.if-not-may_promise.ensures))
    ∙ passed_first (symbol_fault D n c.args.args.now c.args.sort) _ n _ n c.in_ok-new.ensures
