-- Sorts that are still due, as the code holds them.
use Rattle.std.specs.Prelude.{◌≡◌, ℕ, List, [], ◌∷◌, drop, Some, None, Option}
use Rattle.drafts.specs.declared.due.Due.{Due}

-- the sorts due, the next one first
abbrev pub pending : Due → List ℕ
pending d = drop d.start d.sorts

-- the first of a list was taken, if there is one
abbrev pub TakesFirst : List ℕ → Option ℕ → List ℕ → Type 0
TakesFirst [] r ks = (r ≡ None) × (ks ≡ [])
TakesFirst (k ∷ js) r ks = (r ≡ Some k) × (ks ≡ js)
