-- Letters and their numbers undo each other.
use Rattle.std.proofs.Common.{◌≡◌, ℕ, ◌+◌, ◌-◌, ◌^◌, Bool, true, false, cond, ◌&&◌, ltb, leb, Some, None, refl, ap, ◌∙◌, subst, arith}
use Rattle.std.proofs.lemmas.Bool.{ltb-true, ltb-false, leb-true, lt-ltb, le-ltb, le-leb, and_parts, and_from, cond-true, cond-false}
use Rattle.terms.specs.declared.letter.Letter.{Letter}
use Rattle.terms.specs.declared.letter.Letter.TheVariants.{Cell, Symbol, Variable}
use Rattle.terms.specs.Letters.{letter_of, number_of, InRange}

pub zero_one : ◌≡◌ {A = ℕ} 0 1 → ⊥
zero_one e = omega arith

pub letter_back : (l : Letter) → InRange l → letter_of (number_of l) ≡ Some l
letter_back (Cell n) h = cond-true (ltb n (2 ^ 32)) _ _ (lt-ltb n (2 ^ 32) h)
letter_back (Symbol s) h =
    let x : ℕ = 2 ^ 32 + s in
    let m : x - 2 ^ 32 ≡ s = omega arith in
    cond-false (ltb x (2 ^ 32)) _ _ (le-ltb x (2 ^ 32) (omega arith)) ∙ cond-true (ltb x (2 ^ 32 + 96)) _ _ (lt-ltb x (2 ^ 32 + 96) (omega arith)) ∙ ap (λ k. Some (Symbol k)) m
letter_back (Variable v) h =
    let x : ℕ = 2 ^ 33 + v in
    let m : x - 2 ^ 33 ≡ v = omega arith in
    cond-false (ltb x (2 ^ 32)) _ _ (le-ltb x (2 ^ 32) (omega arith))
    ∙ cond-false (ltb x (2 ^ 32 + 96)) _ _ (le-ltb x (2 ^ 32 + 96) (omega arith))
    ∙ cond-true (leb (2 ^ 33) x && ltb x (2 ^ 33 + 8)) _ _ (and_from (leb (2 ^ 33) x) (ltb x (2 ^ 33 + 8)) (le-leb (2 ^ 33) x (omega arith)) (lt-ltb x (2 ^ 33 + 8) (omega arith)))
    ∙ ap (λ k. Some (Variable k)) m

abbrev Is : ℕ → Letter → Type 0
Is x l = (number_of l ≡ x) × InRange l

pub is_letter : (x : ℕ) (l : Letter) → letter_of x ≡ Some l → (number_of l ≡ x) × InRange l
is_letter x l h = go (ltb x (2 ^ 32)) (ltb x (2 ^ 32 + 96)) (leb (2 ^ 33) x && ltb x (2 ^ 33 + 8)) refl refl refl h
  where
    go : (a b c : Bool) → ltb x (2 ^ 32) ≡ a → ltb x (2 ^ 32 + 96) ≡ b → (leb (2 ^ 33) x && ltb x (2 ^ 33 + 8)) ≡ c
        → cond a (Some (Cell x)) (cond b (Some (Symbol (x - 2 ^ 32))) (cond c (Some (Variable (x - 2 ^ 33))) None)) ≡ Some l → Is x l
    go true b c p q r e = let i : Cell x ≡ l = cc in subst (Is x) i (refl, ltb-true x (2 ^ 32) p)
    go false true c p q r e =
        let i : Symbol (x - 2 ^ 32) ≡ l = cc in
        let lo = ltb-false x (2 ^ 32) p in
        let hi = ltb-true x (2 ^ 32 + 96) q in
        subst (Is x) i (omega arith, omega arith)
    go false false true p q r e =
        let i : Variable (x - 2 ^ 33) ≡ l = cc in
        let s = and_parts (leb (2 ^ 33) x) (ltb x (2 ^ 33 + 8)) r in
        let lo = leb-true (2 ^ 33) x s.0 in
        let hi = ltb-true x (2 ^ 33 + 8) s.1 in
        subst (Is x) i (omega arith, omega arith)
    go false false false p q r e = absurd (zero_one (cc))
