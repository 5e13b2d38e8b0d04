-- Places in lists.
use Rattle.std.proofs.Common.{◌≡◌, ℕ, zero, suc, ◌<◌, ◌≤◌, List, [], ◌∷◌, ◌++◌, map, length, set, Some, None, refl, ap, arith, option_map}
use mathlib.Core.List.{Memᴰ}
use Rattle.std.specs.List.{slice_get}
use Rattle.terms.proofs.Letters.{zero_one}

-- a place is below the length exactly where something is
pub nth_below : {A : Type 0} (xs : List A) (n : ℕ) {x : A} → slice_get xs n ≡ Some x → n < length xs
nth_below [] n e = absurd (zero_one (cc))
nth_below (y ∷ xs) zero e = omega arith
nth_below (y ∷ xs) (suc n) e = let h = nth_below xs n e in omega arith

pub nth_there : {A : Type 0} (xs : List A) (n : ℕ) → n < length xs → (x : A) × (slice_get xs n ≡ Some x)
nth_there [] n h = absurd (omega arith)
nth_there (x ∷ xs) zero h = (x, refl)
nth_there (x ∷ xs) (suc n) h = nth_there xs n (omega arith)

pub nth_none : {A : Type 0} (xs : List A) (n : ℕ) → slice_get xs n ≡ None → length xs ≤ n
nth_none [] n e = omega arith
nth_none (x ∷ xs) zero e = absurd (zero_one (cc))
nth_none (x ∷ xs) (suc n) e = let h = nth_none xs n e in omega arith

pub nth_mem : {A : Type 0} (xs : List A) (i : ℕ) {x : A} → slice_get xs i ≡ Some x → Memᴰ x xs
nth_mem [] i e = absurd (zero_one (cc))
nth_mem (y ∷ xs) zero e = Memᴰ.head (cc)
nth_mem (y ∷ xs) (suc i) e = Memᴰ.tail (nth_mem xs i e)

-- of a list that goes on, is cut, mapped or written
pub nth_at : {A : Type 0} (xs ys : List A) (x : A) → slice_get (xs ++ (x ∷ ys)) (length xs) ≡ Some x
nth_at [] ys x = refl
nth_at (y ∷ xs) ys x = nth_at xs ys x

pub nth_map : {A B : Type 0} (f : A → B) (xs : List A) (i : ℕ) → slice_get (map f xs) i ≡ option_map f (slice_get xs i)
nth_map f [] i = refl
nth_map f (x ∷ xs) zero = refl
nth_map f (x ∷ xs) (suc i) = nth_map f xs i

pub nth_set_same : {A : Type 0} (xs : List A) (i : ℕ) (x : A) → i < length xs → slice_get (set xs i x) i ≡ Some x
nth_set_same [] i x h = absurd (omega arith)
nth_set_same (y ∷ xs) zero x h = refl
nth_set_same (y ∷ xs) (suc i) x h = nth_set_same xs i x (omega arith)

pub nth_set_other : {A : Type 0} (xs : List A) (i j : ℕ) (x : A) → (j ≡ i → ⊥) → slice_get (set xs i x) j ≡ slice_get xs j
nth_set_other [] i j x h = refl
nth_set_other (y ∷ xs) zero zero x h = absurd (h refl)
nth_set_other (y ∷ xs) zero (suc j) x h = refl
nth_set_other (y ∷ xs) (suc i) zero x h = refl
nth_set_other (y ∷ xs) (suc i) (suc j) x h = nth_set_other xs i j x (λ e. h (ap suc e))
