-- What chains and arrays that are made by a closure come to.
use Rattle.std.proofs.Common.{◌≡◌, ℕ, zero, suc, ◌+◌, ◌<◌, ◌≤◌, Bool, true, false, List, [], ◌∷◌, length, get_or, sym, refl, ap, ◌∙◌, subst, ◌⊎◌, inl, inr, arith}
use Rattle.std.proofs.lemmas.Bool.{cases_lt}
use denote.Param.Members.{Mut}
use Rattle.std.specs.Fn.{Called}
use Rattle.std.specs.Bool.{MatchBool}
use Rattle.std.specs.Array.{MapsFrom}
use Rattle.std.specs.List.{list_all, list_any, AllWithin, HoldsAt}
use Rattle.std.proofs.lemmas.List.Folds.{list_all_at, list_any_at}

-- all pass, or some pass, as the calls of a closure told
all_pass : {A : Type 0} (t : A → Bool) (xs : List A) → AllWithin (λ x. t x ≡ true) xs 0 (length xs) → list_all t xs ≡ true
all_pass t [] h = refl
all_pass t (x ∷ xs) h =
    let e : t x ≡ true = h 0 x (omega arith) (omega arith) in
    let q = all_pass t xs (λ k d l i. h (suc k) d (omega arith) (omega arith)) in
    cc

none_passes : {A : Type 0} (t : A → Bool) (xs : List A) → AllWithin (λ x. t x ≡ false) xs 0 (length xs) → list_any t xs ≡ false
none_passes t [] h = refl
none_passes t (x ∷ xs) h =
    let e : t x ≡ false = h 0 x (omega arith) (omega arith) in
    let q = none_passes t xs (λ k d l i. h (suc k) d (omega arith) (omega arith)) in
    cc

pub all_told : {A : Type 0} (t : A → Bool) (xs : List A) (r : Bool) → MatchBool r (AllWithin (λ x. t x ≡ true) xs 0 (length xs)) ((k : ℕ) × (k < length xs) × HoldsAt (λ x. t x ≡ false) xs k) → r ≡ list_all t xs
all_told t xs true h = sym (all_pass t xs h)
all_told t [] false h = absurd (omega (arith, h.1))
all_told t (x ∷ xs) false h = sym (list_all_at t (x ∷ xs) h.0 x h.1 (h.2 x))

pub any_told : {A : Type 0} (t : A → Bool) (xs : List A) (r : Bool) → MatchBool r ((k : ℕ) × (k < length xs) × HoldsAt (λ x. t x ≡ true) xs k) (AllWithin (λ x. t x ≡ false) xs 0 (length xs)) → r ≡ list_any t xs
any_told t [] true h = absurd (omega (arith, h.1))
any_told t (x ∷ xs) true h = sym (list_any_at t (x ∷ xs) h.0 x h.1 (h.2 x))
any_told t xs false h = sym (none_passes t xs h)

-- an array has at each place what the closure gives there
pub mapped_at : {F A B : Type 0} (g : Mut F (A × Unit {0}) B) (f : F) (t : A → B) (xs : List A) (ys : List B) → ((x : A) (y : B) (q : F) → Called g f (x, tt) y q → (q ≡ f) × (y ≡ t x)) → (n i : ℕ) (h : F) → h ≡ f
    → MapsFrom g h xs ys i n → (k : ℕ) → i ≤ k → k < i + n → (c : A) (d : B) → get_or ys k d ≡ t (get_or xs k c)
mapped_at g f t xs ys c zero i h e m k a b u d = absurd (omega arith)
mapped_at {F} g f t xs ys c (suc n) i h e m k a b u d = go (cases_lt i k) (λ l. mapped_at g f t xs ys c n (i + 1) m.0 one.0 m.6 k (omega arith) (omega arith) u d)
  where
    one : (m.0 ≡ f) × (m.2 ≡ t m.1)
    one = c m.1 m.2 m.0 (subst (λ (z : F). Called g z (m.1, tt) m.2 m.0) e m.5)

    go : (i < k) ⊎ (k ≤ i) → (i < k → get_or ys k d ≡ t (get_or xs k u)) → get_or ys k d ≡ t (get_or xs k u)
    go (inr l) later = let z : i ≡ k = omega arith in subst (λ (j : ℕ). get_or ys j d ≡ t (get_or xs j u)) z (m.4.1 d ∙ one.1 ∙ ap t (sym (m.3.1 u)))
    go (inl l) later = later l
