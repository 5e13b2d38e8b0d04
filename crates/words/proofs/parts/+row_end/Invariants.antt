use Rattle.std.proofs.Common.{◌≡◌, ◌-◌, ◌≤◌, length, drop}
use Rattle.terms.specs.Options.{ahead}
use Rattle.words.specs.Ends.{end_of}
use Rattle.terms.specs.Views.{view}
use Rattle.words.proofs.parts.+row_end.Given as goal

abbrev pub decreases-row_end : goal.decreases-row_end
decreases-row_end l = length l.word.now

abbrev pub invariant-loop : goal.invariant-loop
invariant-loop l = (l.at ≤ length l.word) × (end_of (view l.signature) l.count l.word ≡ ahead l.at (end_of (view l.signature) (l.count - l.counter) (drop l.at l.word)))
