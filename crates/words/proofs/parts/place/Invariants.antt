use Rattle.std.proofs.Common.{◌≡◌, ◌≤◌, length, drop}
use Rattle.terms.specs.Options.{ahead}
use Rattle.words.specs.Places.{place}
use Rattle.terms.specs.Views.{view}
use Rattle.words.proofs.parts.place.Given as goal

abbrev pub invariant-loop-number : goal.invariant-loop-number
invariant-loop-number l = (l.at ≤ length l.word) × (place (view l.signature) l.path l.word ≡ ahead l.at (place (view l.signature) (drop l.number-index l.path) (drop l.at l.word)))
