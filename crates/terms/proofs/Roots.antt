-- Roots and the numbers of their letters undo each other.
use Rattle.std.proofs.Common.{◌≡◌, ℕ, zero, suc, ◌<◌, Bool, true, false, length, Some, None, Option, sym, refl, ap, ◌∙◌, subst, option_map}
use Rattle.std.specs.List.{slice_get}
use Rattle.terms.specs.declared.letter.Letter.{Letter}
use Rattle.terms.specs.declared.letter.Letter.TheVariants.{Cell, Symbol, Variable}
use Rattle.terms.specs.Terms.{cell, symbol}
use Rattle.terms.specs.Options.{onward}
use Rattle.terms.specs.Letters.{letter_of, number_of, InRange}
use Rattle.terms.specs.Signatures.{Declaration, Signature}
use Rattle.terms.specs.Roots.{Root, variable, head, call, fn_number, fn_of, letter, number, is_constructor, Stands, symbol_root, letter_root, root_of, args_in, root_args, args_of, arity}
use Rattle.terms.proofs.Letters.{zero_one, letter_back, is_letter}

pub number_fn : (s : ℕ) → fn_number (fn_of s) ≡ s
number_fn zero = refl
number_fn (suc zero) = refl
number_fn (suc (suc zero)) = refl
number_fn (suc (suc (suc n))) = refl

module _ (S : Signature) where
  pub in_range : (r : Root) → Stands S r → InRange (letter r)
  in_range (variable v) h = h
  in_range (head (cell n)) h = h
  in_range (head (symbol s)) h = h.3
  in_range (call f) h = h.0.3

  letter_root_back : (r : Root) → Stands S r → letter_root S (letter r) ≡ Some r
  letter_root_back (variable v) h = refl
  letter_root_back (head (cell n)) h = refl
  letter_root_back (head (symbol s)) h =
      ap (option_map (λ (d : Declaration). symbol_root s (is_constructor d.role))) h.1 ∙ ap (λ b. Some (symbol_root s b)) h.2
  letter_root_back (call f) h =
      ap (option_map (λ (d : Declaration). symbol_root (fn_number f) (is_constructor d.role))) h.0.1 ∙ ap (λ b. Some (symbol_root (fn_number f) b)) h.0.2 ∙ ap (λ g. Some (call g)) h.1

  pub root_back : (r : Root) → Stands S r → root_of S (number r) ≡ Some r
  root_back r h = ap (λ (o : Option Letter). onward o (letter_root S)) (letter_back (letter r) (in_range r h)) ∙ letter_root_back r h

  pub args_back : (r : Root) → Stands S r → args_of S (number r) ≡ Some (root_args S r)
  args_back r h = ap (option_map (root_args S)) (root_back r h)

  pub arity_back : (r : Root) → Stands S r → arity S (number r) ≡ Some (length (root_args S r))
  arity_back r h = ap (option_map length) (args_back r h)

  -- what a letter says of its root
  abbrev Is : Letter → Root → Type 0
  Is l r = (letter r ≡ l) × Stands S r

  root_letter : (l : Letter) (r : Root) → InRange l → letter_root S l ≡ Some r → (letter r ≡ l) × Stands S r
  root_letter (Cell n) r i h = let q : head (cell n) ≡ r = cc in subst (Is (Cell n)) q (refl, i)
  root_letter (Variable v) r i h = let q : variable v ≡ r = cc in subst (Is (Variable v)) q (refl, i)
  root_letter (Symbol s) r i h = go (slice_get S.symbols s) refl h
    where
      named : (d : Declaration) (b : Bool) → slice_get S.symbols s ≡ Some d → is_constructor d.role ≡ b → Is (Symbol s) (symbol_root s b)
      named d true e c = (refl, (d, e, c, i))
      named d false e c =
          let n = number_fn s in
          (ap Symbol n, ((d, ap (slice_get S.symbols) n ∙ e, c, subst (λ k. k < 96) (sym n) i), ap fn_of n))

      go : (o : Option Declaration) → slice_get S.symbols s ≡ o → option_map (λ (d : Declaration). symbol_root s (is_constructor d.role)) o ≡ Some r → Is (Symbol s) r
      go None e g = absurd (zero_one (cc))
      go (Some d) e g = let q : symbol_root s (is_constructor d.role) ≡ r = cc in subst (Is (Symbol s)) q (named d (is_constructor d.role) e refl)

  pub is_root : (x : ℕ) (r : Root) → root_of S x ≡ Some r → (number r ≡ x) × Stands S r
  is_root x r h = go (letter_of x) refl h
    where
      go : (o : Option Letter) → letter_of x ≡ o → onward o (letter_root S) ≡ Some r → (number r ≡ x) × Stands S r
      go None e g = absurd (zero_one (cc))
      go (Some l) e g =
          let a = is_letter x l e in
          let b = root_letter l r a.1 g in
          (ap number_of b.0 ∙ a.0, b.1)

  -- a letter that has a number of arguments has a root
  pub arity_root : (x k : ℕ) → arity S x ≡ Some k → (r : Root) × (root_of S x ≡ Some r) × (length (root_args S r) ≡ k)
  arity_root x k h = go (root_of S x) h
    where
      go : (o : Option Root) → option_map length (option_map (root_args S) o) ≡ Some k → (r : Root) × (o ≡ Some r) × (length (root_args S r) ≡ k)
      go None g = absurd (zero_one (cc))
      go (Some r) g = (r, refl, cc)

-- the sorts due after a symbol are those that it was declared with
pub args_of_symbol : (S : Signature) (x s : ℕ) (d : Declaration) → letter_of x ≡ Some (Symbol s) → slice_get S.symbols s ≡ Some d → args_of S x ≡ Some d.args
args_of_symbol S x s d e h =
    ap (λ (o : Option Letter). option_map (root_args S) (onward o (letter_root S))) e
    ∙ ap (λ (o : Option Declaration). option_map (root_args S) (option_map (λ (y : Declaration). symbol_root s (is_constructor y.role)) o)) h
    ∙ ap Some (go (is_constructor d.role))
  where
    go : (b : Bool) → root_args S (symbol_root s b) ≡ d.args
    go true = ap args_in h
    go false = ap args_in (ap (slice_get S.symbols) (number_fn s) ∙ h)
