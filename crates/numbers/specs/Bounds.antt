-- Limits on a sound meaning are sound. Assumes nothing.
use Rattle.std.specs.Prelude.{◌≡◌, ℕ, ◌^◌, ◌<◌, true, cond, ◌&&◌, refl}
use Rattle.std.proofs.Common.{inl, inr, arith}
use Rattle.std.proofs.lemmas.Bool.{and_parts, and_from, cond_both, eqb-true, eq-eqb}
use Rattle.numbers.specs.Meaning.{Meaning, Lawful, Atmost, Sound}
use Rattle.numbers.specs.Limits.{within, held, between, are_ends, only, stored}

-- one cell of 32 bits alone is sound
pub only_sound : (l : ℕ) → l < 2 ^ 32 → Sound (only l)
only_sound l fits = record {
  cells = λ a h. let e = eqb-true a l h in omega arith;
  rest_lawful = eq-eqb l l refl;
  plus_lawful = λ a b h k. eq-eqb l l refl;
  minus_lawful = λ a b h k. eq-eqb l l refl;
  comparable = λ a b h k. let p = eqb-true a l h in let q = eqb-true b l k in inl (eq-eqb a b (omega arith));
  transitive = λ a b c h k i p q. let r = eqb-true a l h in let s = eqb-true c l i in eq-eqb a c (omega arith);
  antisymmetric = λ a b h k p q. eqb-true a b p;
}

module _ (m : Meaning) (s : Sound m) where
  -- each lawful cell is at most itself
  pub reflexive : (a : ℕ) → Lawful m a → Atmost m a a
  reflexive a h = elim (s.comparable a a h h) [ inl p ↦ p | inr p ↦ p ]

  module _ (l u : ℕ) (ends : are_ends m l u ≡ true) where
    -- the lower end is lawful
    lower_lawful : Lawful m l
    lower_lawful = (and_parts (m.lawful l) (m.lawful u) (and_parts (m.lawful l && m.lawful u) (m.atmost l u) ends).0).0

    -- and so the upper end
    upper_lawful : Lawful m u
    upper_lawful = (and_parts (m.lawful l) (m.lawful u) (and_parts (m.lawful l && m.lawful u) (m.atmost l u) ends).0).1

    -- the lower end is at most the upper one
    ordered : Atmost m l u
    ordered = (and_parts (m.lawful l && m.lawful u) (m.atmost l u) ends).1

    -- a lawful cell from the lower to the upper end is within
    is_within : (c : ℕ) → Lawful m c → Atmost m l c → Atmost m c u → within m l u c ≡ true
    is_within c h p q = and_from (m.lawful c && m.atmost l c) (m.atmost c u) (and_from (m.lawful c) (m.atmost l c) h p) q

    -- a cell that is within is lawful below
    lawful_below : (c : ℕ) → within m l u c ≡ true → Lawful m c
    lawful_below c h = (and_parts (m.lawful c) (m.atmost l c) (and_parts (m.lawful c && m.atmost l c) (m.atmost c u) h).0).0

    -- the lower end is within
    lower_within : within m l u l ≡ true
    lower_within = is_within l lower_lawful (reflexive l lower_lawful) ordered

    -- a lawful cell, once it is held, is within
    held_within : (c : ℕ) → Lawful m c → within m l u (held m l u c) ≡ true
    held_within c h =
        let Inside : ℕ → Type 0 = λ x. within m l u x ≡ true in
        cond_both (m.atmost l c) (cond (m.atmost c u) c u) l Inside
        (λ p. cond_both (m.atmost c u) c u Inside (is_within c h p) (λ _. is_within u upper_lawful ordered (reflexive u upper_lawful)))
        (λ _. lower_within)

    -- between two ends
    pub between_sound : Sound (between m l u)
    between_sound = record {
      cells = λ a h. s.cells a (lawful_below a h);
      rest_lawful = lower_within;
      plus_lawful = λ a b h k. held_within (m.plus a b) (s.plus_lawful a b (lawful_below a h) (lawful_below b k));
      minus_lawful = λ a b h k. held_within (m.minus a b) (s.minus_lawful a b (lawful_below a h) (lawful_below b k));
      comparable = λ a b h k. s.comparable a b (lawful_below a h) (lawful_below b k);
      transitive = λ a b c h k i. s.transitive a b c (lawful_below a h) (lawful_below b k) (lawful_below c i);
      antisymmetric = λ a b h k. s.antisymmetric a b (lawful_below a h) (lawful_below b k);
    }

  -- whatever two cells are stored
  pub stored_sound : (l u : ℕ) → l < 2 ^ 32 → Sound (stored m l u)
  stored_sound l u fits = cond_both (are_ends m l u) (between m l u) (only l) Sound (between_sound l u) (λ _. only_sound l fits)
