-- Loops over lists of numbers and names.
use Rattle.std.proofs.Common.{◌≡◌, ℕ, zero, suc, ◌+◌, ◌<◌, ◌≤◌, Bool, true, false, cond, ◌||◌, ltb, List, [], ◌∷◌, ◌++◌, length, get_or, Some, None, Option, sym, refl, ap, ap₂, ◌∙◌, subst, ◌⊎◌, inl, inr, take, arith}
use Rattle.std.proofs.Math.Bool.{or_assoc}
use denote.Param.Members.{Mut}
use Rattle.std.specs.Fn.{Called}
use Rattle.std.specs.Array.{IsFromFnResultFrom}
use Rattle.std.proofs.lemmas.Bool.{cases_lt, and_parts, and_from, ltb-true, lt-ltb}
use Rattle.std.proofs.lemmas.List.Recursion.{is_sum_by}
use Rattle.std.specs.List.{sum_by, count_by}
use Rattle.std.specs.Str.{bytes_eq}
use Rattle.terms.specs.Names.{find_name}
use Rattle.terms.specs.Options.{more}
use Rattle.terms.proofs.Names.{position_cons}
use Rattle.drafts.specs.Drafts.{total, functions_in}
use Rattle.drafts.specs.Contents.{is_found, all_below}

-- a name is found in a list with one more in front, and in two lists one after the other
pub found_cons : (m : List ℕ) (ms : List (List ℕ)) (n : List ℕ) → is_found (find_name (m ∷ ms) n) ≡ (bytes_eq m n || is_found (find_name ms n))
found_cons m ms n = ap is_found (position_cons (λ (k : List ℕ). bytes_eq k n) m ms) ∙ go (bytes_eq m n) (find_name ms n)
  where
    go : (b : Bool) (o : Option ℕ) → is_found (cond b (Some 0) (more o)) ≡ (b || is_found o)
    go true o = refl
    go false None = refl
    go false (Some i) = refl

pub found_append : (us bs : List (List ℕ)) (n : List ℕ) → is_found (find_name (us ++ bs) n) ≡ (is_found (find_name us n) || is_found (find_name bs n))
found_append [] bs n = refl
found_append (a ∷ us) bs n =
    found_cons a (us ++ bs) n ∙ ap (λ c. bytes_eq a n || c) (found_append us bs n)
    ∙ sym (or_assoc (bytes_eq a n) (is_found (find_name us n)) (is_found (find_name bs n)))
    ∙ ap (λ c. c || is_found (find_name bs n)) (sym (found_cons a us n))

pub below_at : (m : ℕ) (ks : List ℕ) (i : ℕ) → all_below m ks ≡ true → i < length ks → get_or ks i 0 < m
below_at m [] i h l = absurd (omega arith)
below_at m (k ∷ ks) zero h l = ltb-true k m (and_parts (ltb k m) (all_below m ks) h).0
below_at m (k ∷ ks) (suc i) h l = below_at m ks i (and_parts (ltb k m) (all_below m ks) h).1 (omega arith)

pub below_wider : (m k : ℕ) (ks : List ℕ) → m ≤ k → all_below m ks ≡ true → all_below k ks ≡ true
below_wider m k [] l h = refl
below_wider m k (j ∷ ks) l h =
    let p = and_parts (ltb j m) (all_below m ks) h in
    let q = ltb-true j m p.0 in
    and_from (ltb j k) (all_below k ks) (lt-ltb j k (omega arith)) (below_wider m k ks l p.1)

-- a sum of numbers, one more
pub total_push : (ps : List ℕ) (p : ℕ) → total (ps ++ (p ∷ [])) ≡ total ps + p
total_push [] p = omega arith
total_push (q ∷ ps) p = let h = total_push ps p in omega arith

-- sums and counts by words of Rattle's library
pub total_sum : (ps : List ℕ) → total ps ≡ sum_by (λ p. p) ps
total_sum = is_sum_by total (λ p. p) refl (λ p ps. refl)

pub functions_counted : (ps : List ℕ) → functions_in ps ≡ count_by (λ p. ltb 0 p) ps
functions_counted = is_sum_by functions_in (λ p. cond (ltb 0 p) 1 0) refl (λ p ps. refl)

-- an array has at each place what the closure gives there
pub made_at : {F B : Type 0} (g : Mut F (ℕ × Unit {0}) B) (f : F) (t : ℕ → B) (ys : List B) → ((i : ℕ) (y : B) (q : F) → Called g f (i, tt) y q → (q ≡ f) × (y ≡ t i)) → (n i : ℕ) (h : F) → h ≡ f
    → IsFromFnResultFrom g h ys i n → (k : ℕ) → i ≤ k → k < i + n → (d : B) → get_or ys k d ≡ t k
made_at g f t ys c zero i h e m k a b d = absurd (omega arith)
made_at {F} g f t ys c (suc n) i h e m k a b d = go (cases_lt i k) (λ l. made_at g f t ys c n (i + 1) m.0 one.0 m.4 k (omega arith) (omega arith) d)
  where
    one : (m.0 ≡ f) × (m.1 ≡ t i)
    one = c i m.1 m.0 (subst (λ (z : F). Called g z (i, tt) m.1 m.0) e m.3)

    go : (i < k) ⊎ (k ≤ i) → (i < k → get_or ys k d ≡ t k) → get_or ys k d ≡ t k
    go (inr l) later = let z : i ≡ k = omega arith in subst (λ (j : ℕ). get_or ys j d ≡ t j) z (m.2.1 d ∙ one.1)
    go (inl l) later = later l

-- the front of a list that has the elements of another
pub take_same : (xs ys : List ℕ) → length xs ≤ length ys → ((k : ℕ) → k < length xs → get_or ys k 0 ≡ get_or xs k 0) → take (length xs) ys ≡ xs
take_same [] ys l h = refl
take_same (x ∷ xs) [] l h = absurd (omega arith)
take_same (x ∷ xs) (y ∷ ys) l h = ap₂ (λ (u : ℕ) (us : List ℕ). u ∷ us) (h 0 (omega arith)) (take_same xs ys (omega arith) (λ k i. h (suc k) (omega arith)))
