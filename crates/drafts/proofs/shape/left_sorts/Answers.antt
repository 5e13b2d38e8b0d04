use Rattle.std.proofs.Common.{ℕ, ◌+◌, List, length, get_or, drop, Option, sym, ap, ◌∙◌, arith}
use Rattle.terms.specs.Roots.{args_of}
use Rattle.words.specs.Faults.{due_after}
use Rattle.terms.specs.Views.{view}
use Rattle.drafts.specs.Rules.{left_sorts}
use Rattle.drafts.specs.Dues.{pending}
use Rattle.drafts.proofs.LeftSorts.{later_by, taken_some, taken_none, sorts_more, sorts_out, few_arguments}
use Rattle.drafts.proofs.shape.left_sorts.Goals as goal

pub returns-in_default : goal.returns-in_default
returns-in_default c =
    sym (sorts_out (view c.args.signature.now) c.args.left.now (pending c.loop-i.due) c.loop-i.i c.loop-i.known (taken_none _ _ c.in_default.ensures) c.loop-i-test.true) ∙ c.loop-i.invariant.0

pub loop-i-preserved : goal.loop-i-preserved
loop-i-preserved c =
    let S = view c.args.signature.now in
    let w = c.args.left.now in
    let i = c.loop-i.i in
    let ks = pending c.next.new.self in
    let e = ap length (taken_some _ _ _ c.in-Some.ensures) in
    let l = ap length c.expect.ensures in
    let f = few_arguments c.args.signature.now (get_or w i 0) ks in (
      ap (λ (ls : List ℕ). later_by (i + 1) (left_sorts S ls c.note.new.known (drop (i + 1) w))) c.expect.ensures
          ∙ ap (λ (vs : List (Option ℕ)). later_by (i + 1) (left_sorts S (due_after (args_of S (get_or w i 0)) ks) vs (drop (i + 1) w))) c.note.ensures
          ∙ sym (sorts_more S w (pending c.loop-i.due) ks i c.in-Some.next c.loop-i.known (taken_some _ _ _ c.in-Some.ensures) c.loop-i-test.true (sym c.if-not-takes_sort.ensures))
          ∙ c.loop-i.invariant.0,
      omega (arith, c.loop-i.invariant.1),
    )
