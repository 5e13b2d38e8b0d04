use Rattle.std.proofs.Common.{◌≡◌, ◌+◌, ◌*◌, ◌≤◌, [], ◌∷◌, length, drop}
use Rattle.terms.specs.Views.{view}
use Rattle.drafts.specs.Rules.{left_sorts, none_known}
use Rattle.drafts.specs.Dues.{pending}
use Rattle.drafts.proofs.LeftSorts.{later_by}
use Rattle.drafts.proofs.shape.left_sorts.Given as goal

abbrev pub invariant-loop-i : goal.invariant-loop-i
invariant-loop-i l =
    (later_by l.i (left_sorts (view l.signature) (pending l.due) l.known (drop l.i l.left)) ≡ left_sorts (view l.signature) (l.sort ∷ []) none_known l.left)
    × (length (pending l.due) ≤ 1 + 3 * l.i)
