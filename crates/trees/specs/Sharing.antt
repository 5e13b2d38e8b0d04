-- What the code's shared positions are.
use Rattle.std.specs.Prelude.{◌≡◌, ℕ, Bool, List, Some, None, Option}
use Rattle.rewriting.specs.Rules.{Rule}
use Rattle.trees.specs.declared.shared.Shared.{Shared}
use Rattle.trees.specs.Views.{steps_of}
use Rattle.trees.specs.Rows.{heads_at}

-- the answer is the position, with the symbols that the rules which the mask leaves have there; none where there is no position
abbrev pub IsShared : List Rule → List Bool → Option (List ℕ) → Option Shared → Type 0
IsShared rs m None r = r ≡ None
IsShared rs m (Some p) r = (s : Shared) × (r ≡ Some s) × (steps_of s.path ≡ p) × (s.heads ≡ heads_at p m rs)
