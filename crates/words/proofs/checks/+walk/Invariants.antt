use Rattle.std.proofs.Common.{◌≤◌, length}
use Rattle.terms.specs.Views.{view, given as given_sorts}
use Rattle.words.proofs.Sorts.{Walked}
use Rattle.words.proofs.checks.+walk.Given as goal

abbrev pub decreases-walk : goal.decreases-walk
decreases-walk l = length l.word.now

abbrev pub invariant-loop-sort : goal.invariant-loop-sort
invariant-loop-sort l = (l.at ≤ length l.word) × Walked (view l.signature) (given_sorts l.variables) l.due l.word l.sort-index l.at
