-- Rows: lists of bounded length, and what makes them longer. Assumes nothing.
use Rattle.std.specs.Prelude.{◌≡◌, ℕ, ◌+◌, cond, List, ◌++◌, length, take, Some, None, Option, nat_le}
use Rattle.terms.specs.declared.row.Row.{Row}

-- the list that a row is
abbrev pub items : {X : Type 0} {N : ℕ} → Row X N → List X
items r = take r.count r.array

-- more was to go to the end of a row: the answer is the place of the first and the row is longer by that much, or there is no room and all is as it was
pub record Longer {X : Type 0} {N : ℕ} (more : List X) (old : Row X N) (answer : Option ℕ) (new : Row X N) : Type 0 where
  pub answered : answer ≡ cond (nat_le (length (items old) + length more) N) (Some (length (items old))) None
  pub becomes : items new ≡ cond (nat_le (length (items old) + length more) N) (items old ++ more) (items old)
  pub kept : answer ≡ None → new ≡ old
