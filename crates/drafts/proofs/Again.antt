-- The first variable that stood before, by places.
use Rattle.std.proofs.Common.{◌≡◌, ℕ, zero, suc, ◌+◌, ◌<◌, ◌≤◌, Bool, true, false, cond, List, [], ◌∷◌, ◌++◌, length, get_or, take, Some, None, Option, sym, refl, ap, ◌∙◌, append_assoc, append-nil, arith}
use Rattle.std.specs.Option.{MatchOption}
use Rattle.terms.specs.Options.{more}
use Rattle.drafts.specs.Rules.{is_again, first_again, first_twice}

none_from : (b : Bool) (o : Option ℕ) → b ≡ false → None ≡ o → None ≡ cond b (Some 0) (more o)
none_from b o e h = ap more h ∙ ap (λ (c : Bool). cond c (Some 0) (more o)) (sym e)

some_from : (b : Bool) (i : ℕ) (o : Option ℕ) → b ≡ false → Some i ≡ o → Some (suc i) ≡ cond b (Some 0) (more o)
some_from b i o e h = let n : suc i ≡ i + 1 = omega arith in ap Some n ∙ ap more h ∙ ap (λ (c : Bool). cond c (Some 0) (more o)) (sym e)

-- what is asked at a place, one letter on
further : (u : List ℕ) (x : ℕ) (w : List ℕ) (k : ℕ) (b : Bool) → is_again (u ++ take (suc k) (x ∷ w)) (get_or (x ∷ w) (suc k) 0) ≡ b → is_again ((u ++ (x ∷ [])) ++ take k w) (get_or w k 0) ≡ b
further u x w k b h = ap (λ (v : List ℕ). is_again v (get_or w k 0)) (append_assoc u (x ∷ []) (take k w)) ∙ h

here : (u : List ℕ) (x : ℕ) (b : Bool) → is_again (u ++ []) x ≡ b → is_again u x ≡ b
here u x b h = ap (λ (v : List ℕ). is_again v x) (sym (append-nil u)) ∙ h

none_again : (u w : List ℕ) → ((k : ℕ) → k < length w → is_again (u ++ take k w) (get_or w k 0) ≡ false) → None ≡ first_again u w
none_again u [] h = refl
none_again u (x ∷ w) h = none_from (is_again u x) (first_again (u ++ (x ∷ [])) w) (here u x false (h 0 (omega arith))) (none_again (u ++ (x ∷ [])) w (λ k l. further u x w k false (h (suc k) (omega arith))))

some_again : (u w : List ℕ) (i : ℕ) → i < length w → is_again (u ++ take i w) (get_or w i 0) ≡ true → ((k : ℕ) → k < i → is_again (u ++ take k w) (get_or w k 0) ≡ false) → Some i ≡ first_again u w
some_again u [] i l t h = absurd (omega arith)
some_again u (x ∷ w) zero l t h = ap (λ (c : Bool). cond c (Some 0) (more (first_again (u ++ (x ∷ [])) w))) (sym (here u x true t))
some_again u (x ∷ w) (suc i) l t h =
    some_from (is_again u x) i (first_again (u ++ (x ∷ [])) w) (here u x false (h 0 (omega arith)))
    (some_again (u ++ (x ∷ [])) w i (omega arith) (further u x w i true t) (λ k n. further u x w k false (h (suc k) (omega arith))))

pub again_found : (w : List ℕ) (r : Option ℕ) → MatchOption r ((k : ℕ) → 0 ≤ k → k < length w → is_again (take k w) (get_or w k 0) ≡ false) (λ i. (0 ≤ i) × (i < length w) × (is_again (take i w) (get_or w i 0) ≡ true) × ((k : ℕ) → 0 ≤ k → k < i → is_again (take k w) (get_or w k 0) ≡ false))
    → r ≡ first_twice w
again_found w None h = none_again [] w (λ k l. h k (omega arith) l)
again_found w (Some i) h = some_again [] w i h.1 h.2 (λ k l. h.3 k (omega arith) l)
