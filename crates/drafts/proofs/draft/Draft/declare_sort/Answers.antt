use Rattle.std.proofs.Common.{length, Some, ap, ◌∙◌, rules}
use Rattle.std.specs.Prelude.{ok_or}
use Rattle.drafts.specs.declared.fault.ContentFault.TheVariants.{NoNumberLeft}
use Rattle.drafts.specs.Contents.{sort_fault, with_sort}
use Rattle.drafts.specs.Stores.{seen}
use Rattle.drafts.proofs.Verdicts.{handed, done, not_done, refused}
use Rattle.drafts.proofs.Declared.{add_new_sort}
use Rattle.drafts.proofs.draft.Draft.declare_sort.Goals as goal

pub returns-in_err-new : goal.returns-in_err-new
returns-in_err-new c =
    let a = c.args.self.now in
    let o = sort_fault (seen a) c.args.name.now in
    not_done a o _ (length (seen a).signature.sorts) _ _ (refused o c.args.name.now _ c.in_err-new.ensures) (handed _ _ c.from_residual.ensures.1)

pub invariant_of-self : goal.invariant_of-self
invariant_of-self c =
    let a = c.args.self.now in
    let s = add_new_sort a c.args.name.now _ _ _ c.in_ok-new.ensures c.add_sort.ensures in
    record { laid = a.laid; sound = s.sound; operations = s.operations }

pub returns : goal.returns
returns c =
    let a = c.args.self.now in
    let n = c.args.name.now in
    let s = add_new_sort a n _ _ _ c.in_ok-new.ensures c.add_sort.ensures in
    done a _ (sort_fault (seen a) n) (seen a) (with_sort (seen a) n) (length (seen a).signature.sorts) _ s.fine (let e = s.number in let o = c.ok_or.ensures.value in search (rules, ok_or)) s.after
