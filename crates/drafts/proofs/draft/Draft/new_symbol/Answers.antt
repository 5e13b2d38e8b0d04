use Rattle.std.proofs.Common.{Ok, Option, sym, ap, ◌∙◌}
use Rattle.drafts.specs.declared.fault.ContentFault.{ContentFault}
use Rattle.drafts.specs.Contents.{name_fault, sorts_fault}
use Rattle.drafts.specs.Stores.{seen, named, verdict}
use Rattle.drafts.proofs.Verdicts.{handed, refused_first, passed_first, passed, again}
use Rattle.drafts.proofs.draft.Draft.new_symbol.Goals as goal

pub returns-in_err-new : goal.returns-in_err-new
returns-in_err-new c =
    let D = seen c.args.self.now in
    let n = c.args.name.now in
    ap named (handed _ _ c.from_residual.ensures.1) ∙ refused_first (name_fault D n) (sorts_fault D c.args.args.now c.args.sort) n n _ c.in_err-new.ensures

pub returns-in_err-check_sorts : goal.returns-in_err-check_sorts
returns-in_err-check_sorts c =
    let D = seen c.args.self.now in
    let n = c.args.name.now in
    let o = sorts_fault D c.args.args.now c.args.sort in
    ap named (handed _ _ c.from_residual-in_err-check_sorts.ensures.1) ∙ again o tt n _ c.in_err-check_sorts.ensures ∙ passed_first (name_fault D n) o n _ n c.in_ok-new.ensures

pub returns : goal.returns
returns c =
    let D = seen c.args.self.now in
    let n = c.args.name.now in
    let o = sorts_fault D c.args.args.now c.args.sort in
    ap Ok (passed (name_fault D n) n _ c.in_ok-new.ensures).1
    ∙ ap (λ (q : Option ContentFault). verdict q n) (sym (passed o tt _ c.in_ok-check_sorts.ensures).0)
    ∙ passed_first (name_fault D n) o n _ n c.in_ok-new.ensures
