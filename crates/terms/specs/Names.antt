-- Names of sorts and symbols. Assumes nothing.
use Rattle.std.specs.Prelude.{ℕ, Bool, false, cond, ◌&&◌, ◌||◌, List, [], ◌∷◌, length, Some, None, Option, nat_le}
use Rattle.std.specs.Str.{bytes_eq}
use Rattle.std.specs.List.{list_all, position}

-- a to z
abbrev pub is_small : ℕ → Bool
is_small b = nat_le 97 b && nat_le b 122

-- a to z or 0 to 9
abbrev pub may_follow : ℕ → Bool
may_follow b = is_small b || (nat_le 48 b && nat_le b 57)

-- a to z first, then a to z or 0 to 9
abbrev pub in_form : List ℕ → Bool
in_form [] = false
in_form (b ∷ bs) = is_small b && list_all may_follow bs

-- a name: 1 to 12 bytes in that form
abbrev pub well_formed : List ℕ → Bool
well_formed bs = nat_le (length bs) 12 && in_form bs

-- these bytes as a name
abbrev pub name_of : List ℕ → Option (List ℕ)
name_of bs = cond (well_formed bs) (Some bs) None

-- the place of the first name that is these bytes
abbrev pub find_name : List (List ℕ) → List ℕ → Option ℕ
find_name ns bs = position (λ n. bytes_eq n bs) ns
