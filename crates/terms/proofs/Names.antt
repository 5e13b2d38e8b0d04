-- The bytes of names, and where a name stands.
use Rattle.std.proofs.Common.{◌≡◌, ℕ, suc, ◌+◌, ◌<◌, ◌≤◌, Bool, true, false, not, cond, ◌&&◌, ltb, List, [], ◌∷◌, map, length, get_or, Option, Some, None, refl, sym, ap, ◌∙◌, ap₂, arith}
use Rattle.std.specs.List.{between, list_all, position, position_or_len}
use Rattle.terms.specs.Options.{more}
use Rattle.std.proofs.lemmas.Slice.{first_rest}
use Rattle.std.proofs.lemmas.Bool.{le-leb, lt-ltb, le-ltb, ltb-true, ltb-false, cond-true, cond-false}
use Rattle.terms.specs.Names.{is_small, may_follow, in_form, well_formed}

-- the first byte and the rest
pub formed_is : (w : List ℕ) (b : Bool) → 0 < length w → length w ≤ 12 → is_small (get_or w 0 0) ≡ true → b ≡ list_all may_follow (between 1 (length w) w) → b ≡ well_formed w
formed_is w b some l e h =
    let x : ℕ = get_or w 0 0 in
    let r : List ℕ = between 1 (length w) w in
    let f : in_form w ≡ b = ap in_form (first_rest w 0 some) ∙ ap (λ t. t && list_all may_follow r) e ∙ sym h in
    sym (ap₂ (λ (s t : Bool). s && t) (le-leb (length w) 12 l) f)

-- where the first that passes stands, seen from one place earlier
pub position_cons : {X : Type 0} (p : X → Bool) (x : X) (xs : List X) → position p (x ∷ xs) ≡ cond (p x) (Some 0) (more (position p xs))
position_cons {X} p x xs = go (p x) (ltb n m) refl refl
  where
    n : ℕ
    n = position_or_len p xs

    m : ℕ
    m = length xs

    shape : Bool → Option ℕ
    shape b = cond (ltb (cond (not b) (1 + n) 0) (suc m)) (Some (cond (not b) (1 + n) 0)) None

    go : (b c : Bool) → p x ≡ b → ltb n m ≡ c → shape (p x) ≡ cond (p x) (Some 0) (more (cond (ltb n m) (Some n) None))
    go true c e f = ap shape e ∙ cond-true (ltb 0 (suc m)) _ _ (lt-ltb 0 (suc m) (omega arith)) ∙ sym (cond-true (p x) _ _ e)
    go false true e f =
        let h = ltb-true n m f in
        let q : Some (1 + n) ≡ Some (n + 1) = ap Some (omega arith) in
        ap shape e ∙ cond-true (ltb (1 + n) (suc m)) _ _ (lt-ltb (1 + n) (suc m) (omega arith)) ∙ q
        ∙ sym (cond-false (p x) _ _ e ∙ ap more (cond-true (ltb n m) _ _ f))
    go false false e f =
        let h = ltb-false n m f in
        ap shape e ∙ cond-false (ltb (1 + n) (suc m)) _ _ (le-ltb (1 + n) (suc m) (omega arith))
        ∙ sym (cond-false (p x) _ _ e ∙ ap more (cond-false (ltb n m) _ _ f))

-- a place found among what f says of things is found among the things
pub position_map : {X Y : Type 0} (f : X → Y) (p : Y → Bool) (xs : List X) → position (λ x. p (f x)) xs ≡ position p (map f xs)
position_map f p [] = refl
position_map f p (x ∷ xs) =
    position_cons (λ y. p (f y)) x xs ∙ ap (λ o. cond (p (f x)) (Some 0) (more o)) (position_map f p xs) ∙ sym (position_cons p (f x) (map f xs))
