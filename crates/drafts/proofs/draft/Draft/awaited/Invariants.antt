use Rattle.std.proofs.Common.{◌≡◌, drop}
use Rattle.std.specs.List.{slice_get}
use Rattle.drafts.specs.Drafts.{in_turn, awaited}
use Rattle.drafts.specs.Stores.{seen}
use Rattle.drafts.proofs.draft.Draft.awaited.Given as goal

abbrev pub invariant-loop-i : goal.invariant-loop-i
invariant-loop-i l = slice_get (in_turn l.i (drop l.i (seen l.self).promised)) l.before ≡ awaited (seen l.self)
