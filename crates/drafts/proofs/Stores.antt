-- What the code's draft holds is what its view says.
use Rattle.std.proofs.Common.{◌≡◌, ℕ, zero, suc, ◌+◌, ◌<◌, ◌≤◌, Bool, true, false, cond, eqb, List, [], ◌∷◌, length, Some, None, sym, refl, ◌∙◌, subst, ap, arith, option_map}
use Rattle.std.proofs.lemmas.Option.{slice_get-map}
use Rattle.std.specs.List.{slice_get}
use Rattle.std.proofs.lemmas.Bool.{and_parts, eqb-true}
use Rattle.terms.specs.Rows.{items}
use Rattle.terms.specs.Names.{well_formed, name_of}
use Rattle.terms.proofs.Letters.{zero_one}
use Rattle.drafts.specs.declared.draft.Draft.{Draft as Store}
use Rattle.drafts.specs.Drafts.{Sides}
use Rattle.drafts.specs.Contents.{some_rule}
use Rattle.drafts.specs.declared.span.Span.{Span}
use Rattle.drafts.specs.Views.{sides_of, in_a_row}
use Rattle.drafts.proofs.Pools.{row_ends}
use Rattle.drafts.specs.Stores.{seen}

-- whether a rule stands
pub some_long : (rs : List Sides) → 0 < length rs → some_rule rs ≡ true
some_long [] h = absurd (omega arith)
some_long (r ∷ rs) h = refl

pub none_long : (rs : List Sides) → length rs ≡ 0 → some_rule rs ≡ false
none_long [] h = refl
none_long (r ∷ rs) h = absurd (zero_one (omega arith))

-- bytes that are no name, and those of a name
pub ill_formed : (n : List ℕ) → None ≡ name_of n → well_formed n ≡ false
ill_formed n h = go (well_formed n) h
  where
    go : (b : Bool) → None ≡ cond b (Some n) None → b ≡ false
    go true e = absurd (zero_one (cc))
    go false e = refl

pub formed : (n m : List ℕ) → Some m ≡ name_of n → (well_formed n ≡ true) × (m ≡ n)
formed n m h = go (well_formed n) h
  where
    go : (b : Bool) → Some m ≡ cond b (Some n) None → (b ≡ true) × (m ≡ n)
    go true e = (refl, cc)
    go false e = absurd (zero_one (cc))

-- where the letters of a rule stand
module _ (m : ℕ) where
  in_row_at : (rs : List Span) (k j : ℕ) (s : Span) → in_a_row k rs m ≡ true → slice_get rs j ≡ Some s → s.start + (s.left + s.right) ≤ m
  in_row_at [] k j s h e = absurd (zero_one (cc))
  in_row_at (r ∷ rs) k zero s h e =
      let p = and_parts (eqb r.start k) (in_a_row (k + (r.left + r.right)) rs m) h in
      let i = eqb-true r.start k p.0 in
      let q = row_ends (k + (r.left + r.right)) m rs p.1 in
      let w : r ≡ s = cc in
      subst (λ (z : Span). z.start + (z.left + z.right) ≤ m) w (omega arith)
  in_row_at (r ∷ rs) k (suc j) s h e =
      let p = and_parts (eqb r.start k) (in_a_row (k + (r.left + r.right)) rs m) h in
      in_row_at rs (k + (r.left + r.right)) j s p.1 e

pub span_within : (d : Store) (i : ℕ) (s : Span) → Some s ≡ slice_get (items d.rules) i → s.start + (s.left + s.right) ≤ length (items d.letters)
span_within d i s h = in_row_at (length (items d.letters)) (items d.rules) 0 i s d.laid (sym h)

pub rule_at : (d : Store) (i : ℕ) (s : Span) → Some s ≡ slice_get (items d.rules) i → slice_get (seen d).rules i ≡ Some (sides_of (items d.letters) s)
rule_at d i s h = slice_get-map (sides_of (items d.letters)) (items d.rules) i ∙ ap (option_map (sides_of (items d.letters))) (sym h)
