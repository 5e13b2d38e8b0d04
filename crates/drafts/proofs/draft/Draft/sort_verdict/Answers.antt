use Rattle.std.proofs.Common.{leb, length, None, Ok, ap, ◌∙◌, arith}
use Rattle.std.proofs.lemmas.Bool.{le-leb, lt-leb}
use Rattle.drafts.specs.declared.fault.ContentFault.TheVariants.{NoNumberLeft}
use Rattle.drafts.specs.Contents.{name_fault, sorts_full}
use Rattle.drafts.specs.Stores.{seen, named}
use Rattle.drafts.proofs.Verdicts.{handed, refused_first, passed_first, refuse, pass, passed}
use Rattle.drafts.proofs.draft.Draft.sort_verdict.Goals as goal

pub returns-in_err-new : goal.returns-in_err-new
returns-in_err-new c =
    let D = seen c.args.self.now in
    let n = c.args.name.now in
    ap named (handed _ _ c.from_residual.ensures.1) ∙ refused_first (name_fault D n) (sorts_full D) n n _ c.in_err-new.ensures

pub returns-then-sort_count-ge-MOST_SORTS : goal.returns-then-sort_count-ge-MOST_SORTS
returns-then-sort_count-ge-MOST_SORTS c =
    let D = seen c.args.self.now in
    let n = c.args.name.now in
    refuse (leb 16 (length D.signature.sorts)) NoNumberLeft None n (le-leb 16 (length D.signature.sorts) (let e = c.sort_count.ensures.value in omega (arith, c.if-sort_count-ge-MOST_SORTS.true)))
    ∙ passed_first (name_fault D n) (sorts_full D) n _ n c.in_ok-new.ensures

pub returns : goal.returns
returns c =
    let D = seen c.args.self.now in
    let n = c.args.name.now in
    ap Ok (passed (name_fault D n) n _ c.in_ok-new.ensures).1
    ∙ pass (leb 16 (length D.signature.sorts)) NoNumberLeft None n (lt-leb 16 (length D.signature.sorts) (let e = c.sort_count.ensures.value in omega (arith, c.if-sort_count-ge-MOST_SORTS.false)))
    ∙ passed_first (name_fault D n) (sorts_full D) n _ n c.in_ok-new.ensures
