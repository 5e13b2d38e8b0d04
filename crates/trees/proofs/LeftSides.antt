-- The left sides of a draft's rules: what their words have at a position.
use Rattle.std.proofs.Common.{◌≡◌, ℕ, zero, suc, ◌<◌, ◌≤◌, Bool, false, ◌&&◌, List, [], ◌∷◌, map, length, take, drop, Some, None, Option, sym, refl, ap, ◌∙◌, subst, option_map}
use mathlib.Core.List.{Memᴰ}
use Rattle.std.specs.List.{slice_get, list_all}
use Rattle.std.proofs.lemmas.List.{length-map}
use Rattle.std.proofs.lemmas.Option.{slice_get_past}
use Rattle.terms.specs.Terms.{Head, cell, symbol, Fn, plus, minus, atmost, own, Term, var, con, fun, Terms, nil, ◌▸◌}
use Rattle.terms.specs.Options.{onward, passes}
use Rattle.terms.specs.Letters.{letter_of}
use Rattle.terms.specs.Signatures.{Signature}
use Rattle.terms.specs.Roots.{Root, variable, head, call, letter, number, Stands}
use Rattle.terms.specs.Positions.{part, part_of}
use Rattle.terms.proofs.Letters.{zero_one, letter_back}
use Rattle.terms.proofs.Roots.{in_range, root_back}
use Rattle.words.specs.declared.part.Part.{Part}
use Rattle.words.specs.Words.{word, words, Fits, AllFit, read}
use Rattle.words.specs.Places.{part_at}
use Rattle.words.specs.Statements.{Cuts}
use Rattle.words.proofs.Rows.{reads_back}
use Rattle.words.proofs.Cuts.{cuts_part}
use Rattle.rewriting.specs.Rules.{Rule, left_side}
use Rattle.rewriting.specs.FixedTree.{constructor, constructor_at}
use Rattle.rewriting.specs.Growing.{is_variable, variable_at, all_variables}
use Rattle.drafts.specs.declared.draft.Draft.{Draft as Store}
use Rattle.drafts.specs.Drafts.{Sides}
use Rattle.drafts.specs.Statements.{written, Pattern, Patterns}
use Rattle.drafts.specs.Books.{rule_between, rule_of, rule_before, rules_read, book_of}
use Rattle.drafts.specs.Stores.{seen}
use Rattle.drafts.proofs.Sound.{book_rules}
use Rattle.trees.proofs.Places.{nth_map, nth_mem, nth_there}
use Rattle.trees.specs.declared.path.Path.{Path}
use Rattle.trees.specs.Views.{steps_of}
use Rattle.trees.specs.Rows.{letter_in, head_symbol, root_symbol, constructor_symbol, variable_letter, symbol_at}

-- what holds of a term and, through roots, of its arguments holds of its parts
module _ (P : Term → Type 0) (Ps : Terms → Type 0) (under-con : (c : Head) (ts : Terms) → P (con c ts) → Ps ts) (under-fun : (f : Fn) (ts : Terms) → P (fun f ts) → Ps ts)
    (first : (t : Term) (ts : Terms) → Ps (t ▸ ts) → P t) (others : (t : Term) (ts : Terms) → Ps (t ▸ ts) → Ps ts) where
  mutual
    part_has : (t : Term) (p : List ℕ) (u : Term) → P t → part t p ≡ Some u → P u
    part_has (var v) [] u h e = let q : var v ≡ u = cc in subst P q h
    part_has (var v) (i ∷ p) u h e = absurd (zero_one (cc))
    part_has (con c ts) [] u h e = let q : con c ts ≡ u = cc in subst P q h
    part_has (con c ts) (i ∷ p) u h e = part_of_has ts i p u (under-con c ts h) e
    part_has (fun f ts) [] u h e = let q : fun f ts ≡ u = cc in subst P q h
    part_has (fun f ts) (i ∷ p) u h e = part_of_has ts i p u (under-fun f ts h) e

    part_of_has : (ts : Terms) (i : ℕ) (p : List ℕ) (u : Term) → Ps ts → part_of ts i p ≡ Some u → P u
    part_of_has nil i p u h e = absurd (zero_one (cc))
    part_of_has (t ▸ ts) zero p u h e = absurd (zero_one (cc))
    part_of_has (t ▸ ts) (suc zero) p u h e = part_has t p u (first t ts h) e
    part_of_has (t ▸ ts) (suc (suc i)) p u h e = part_of_has ts (suc i) p u (others t ts h) e

-- the first letter of a part of a list
nth_front : {A : Type 0} (n : ℕ) (w : List A) (x : A) (v : List A) → take n w ≡ x ∷ v → slice_get w 0 ≡ Some x
nth_front zero w x v e = absurd (zero_one (cc))
nth_front (suc n) [] x v e = absurd (zero_one (cc))
nth_front (suc n) (y ∷ w) x v e = cc

nth_cut : {A : Type 0} (m n : ℕ) (w : List A) (x : A) (v : List A) → take n (drop m w) ≡ x ∷ v → slice_get w m ≡ Some x
nth_cut zero n w x v e = nth_front n w x v e
nth_cut (suc m) n [] x v e = nth_front n [] x v e
nth_cut (suc m) n (y ∷ w) x v e = nth_cut m n w x v e

-- what stands at a place of a list
mapped_mapped : {A B C : Type 0} (g : B → C) (f : A → B) (o : Option A) → option_map g (option_map f o) ≡ option_map (λ x. g (f x)) o
mapped_mapped g f None = refl
mapped_mapped g f (Some x) = refl

-- what a term begins with
abbrev root : Term → Root
root (var v) = variable v
root (con c ts) = head c
root (fun f ts) = call f

word_root : (t : Term) → (w : List ℕ) × (word t ≡ number (root t) ∷ w)
word_root (var v) = ([], refl)
word_root (con c ts) = (words ts, refl)
word_root (fun f ts) = (words ts, refl)

-- the left of two terms that are a rule
between_left : (t u : Term) (r : Rule) → rule_between t u ≡ Some r → t ≡ left_side r
between_left (var v) u r e = absurd (zero_one (cc))
between_left (con c ts) u r e = absurd (zero_one (cc))
between_left (fun plus ts) u r e = absurd (zero_one (cc))
between_left (fun minus ts) u r e = absurd (zero_one (cc))
between_left (fun atmost ts) u r e = absurd (zero_one (cc))
between_left (fun (own f) ts) u r e = let q : record { function = f; left = ts; right = u } ≡ r = cc in ap left_side q

module _ (S : Signature) where
  root_stands : (t : Term) → Fits S t → Stands S (root t)
  root_stands (var v) f = f
  root_stands (con c ts) f = f.0
  root_stands (fun g ts) f = f.0

  part_fits : (t : Term) (p : List ℕ) (u : Term) → Fits S t → part t p ≡ Some u → Fits S u
  part_fits = part_has (Fits S) (AllFit S) (λ c ts f. f.2) (λ g ts f. f.2) (λ t ts f. f.0) (λ t ts f. f.1)

  -- the letter that the word of a term has at a position is that of the part's root
  letter_part : (t : Term) (p : List ℕ) → Fits S t → letter_in S p (word t) ≡ option_map (λ u. number (root u)) (part t p)
  letter_part t p f = go (part t p) (cuts_part S p (word t) t f refl)
    where
      go : (o : Option Term) → Cuts t p (word t) o (part_at S p (word t)) → letter_in S p (word t) ≡ option_map (λ u. number (root u)) o
      go None e = ap (λ (r : Option Part). onward r (λ q. slice_get (word t) q.start)) e
      go (Some u) c =
          let q = c.0 in
          let w = word_root u in
          ap (λ (r : Option Part). onward r (λ k. slice_get (word t) k.start)) c.1 ∙ nth_cut q.start q.len (word t) (number (root u)) w.0 (c.2 ∙ w.1)

  -- the symbol of a root's number, and whether it is a variable's
  symbol_number : (u : Term) → Fits S u → constructor_symbol S (number (root u)) ≡ onward (constructor u) head_symbol
  symbol_number u f = ap (λ (o : Option Root). onward o root_symbol) (root_back S (root u) (root_stands u f)) ∙ go u
    where
      go : (t : Term) → root_symbol (root t) ≡ onward (constructor t) head_symbol
      go (var v) = refl
      go (con c ts) = refl
      go (fun g ts) = refl

  variable_number : (u : Term) → Fits S u → variable_letter (letter_of (number (root u))) ≡ is_variable u
  variable_number u f = ap variable_letter (letter_back (letter (root u)) (in_range S (root u) (root_stands u f))) ∙ go u
    where
      go : (t : Term) → variable_letter (Some (letter (root t))) ≡ is_variable t
      go (var v) = refl
      go (con (cell n) ts) = refl
      go (con (symbol s) ts) = refl
      go (fun g ts) = refl

  symbol_part : (t : Term) (p : List ℕ) → Fits S t → onward (letter_in S p (word t)) (constructor_symbol S) ≡ onward (onward (part t p) constructor) head_symbol
  symbol_part t p f = ap (λ (o : Option ℕ). onward o (constructor_symbol S)) (letter_part t p f) ∙ go (part t p) refl
    where
      go : (o : Option Term) → part t p ≡ o → onward (option_map (λ u. number (root u)) o) (constructor_symbol S) ≡ onward (onward o constructor) head_symbol
      go None e = refl
      go (Some u) e = symbol_number u (part_fits t p u f e)

  variable_part : (t : Term) (p : List ℕ) → Fits S t → passes (λ x. variable_letter (letter_of x)) (letter_in S p (word t)) ≡ passes is_variable (part t p)
  variable_part t p f = ap (passes (λ x. variable_letter (letter_of x))) (letter_part t p f) ∙ go (part t p) refl
    where
      go : (o : Option Term) → part t p ≡ o → passes (λ x. variable_letter (letter_of x)) (option_map (λ u. number (root u)) o) ≡ passes is_variable o
      go None e = refl
      go (Some u) e = variable_number u (part_fits t p u f e)

  -- a rule that words are has a left side that fits
  rule_fits : (q : Sides) (r : Rule) → rule_of S q ≡ Some r → Fits S (left_side r)
  rule_fits q r h = go (read S q.left) (read S q.right) refl h
    where
      go : (l m : Option Term) → read S q.left ≡ l → onward l (λ t. onward m (rule_between t)) ≡ Some r → Fits S (left_side r)
      go None m e g = absurd (zero_one (cc))
      go (Some t) None e g = absurd (zero_one (cc))
      go (Some t) (Some u) e g = subst (Fits S) (between_left t u r g) ((reads_back S q.left t).0 e).1

  rules_fit : (qs : List Sides) (r : Rule) → Memᴰ r (rules_read S qs) → Fits S (left_side r)
  rules_fit [] r m = elim m [ ]
  rules_fit (q ∷ qs) r m = go (rule_of S q) refl m (rules_fit qs r)
    where
      go : (o : Option Rule) → rule_of S q ≡ o → Memᴰ r (rule_before o (rules_read S qs)) → (Memᴰ r (rules_read S qs) → Fits S (left_side r)) → Fits S (left_side r)
      go None e n h = h n
      go (Some k) e (Memᴰ.head g) h = subst (λ (z : Rule). Fits S (left_side z)) (sym g) (rule_fits q k e)
      go (Some k) e (Memᴰ.tail n) h = h n

-- as many rules as sides, each the words of its rule
pub rule_count_is : (a : Store) → length (book_of (seen a)).rules ≡ length (seen a).rules
rule_count_is a = sym (length-map (book_of (seen a)).rules written) ∙ ap length (book_rules a).as_written

pub left_at : (a : Store) (i : ℕ) → option_map (λ (q : Sides). q.left) (slice_get (seen a).rules i) ≡ option_map (λ (r : Rule). word (left_side r)) (slice_get (book_of (seen a)).rules i)
left_at a i =
    ap (λ (qs : List Sides). option_map (λ (q : Sides). q.left) (slice_get qs i)) (sym (book_rules a).as_written)
    ∙ ap (option_map (λ (q : Sides). q.left)) (nth_map written (book_of (seen a)).rules i)
    ∙ mapped_mapped (λ (q : Sides). q.left) written (slice_get (book_of (seen a)).rules i)

-- what the code reads at a position of a rule's left side, if the rule and the part are there
module _ (a : Store) (p : List ℕ) (i : ℕ) where
  fits_at : (r : Rule) → slice_get (book_of (seen a)).rules i ≡ Some r → Fits (seen a).signature (left_side r)
  fits_at r e = rules_fit (seen a).signature (seen a).rules r (nth_mem (book_of (seen a)).rules i e)

  -- the letter there
  module _ (x : Option ℕ) (f : x ≡ onward (option_map (λ (q : Sides). q.left) (slice_get (seen a).rules i)) (letter_in (seen a).signature p)) where
    left_letter : x ≡ onward (option_map (λ (r : Rule). word (left_side r)) (slice_get (book_of (seen a)).rules i)) (letter_in (seen a).signature p)
    left_letter = f ∙ ap (λ (o : Option (List ℕ)). onward o (letter_in (seen a).signature p)) (left_at a i)

    pub left_symbol : onward x (constructor_symbol (seen a).signature) ≡ onward (slice_get (book_of (seen a)).rules i) (symbol_at p)
    left_symbol = ap (λ (o : Option ℕ). onward o (constructor_symbol (seen a).signature)) left_letter ∙ go (slice_get (book_of (seen a)).rules i) refl
      where
        go : (o : Option Rule) → slice_get (book_of (seen a)).rules i ≡ o
            → onward (onward (option_map (λ (r : Rule). word (left_side r)) o) (letter_in (seen a).signature p)) (constructor_symbol (seen a).signature) ≡ onward o (symbol_at p)
        go None h = refl
        go (Some r) h = symbol_part (seen a).signature (left_side r) p (fits_at r h)

    pub left_variable : passes (λ y. variable_letter (letter_of y)) x ≡ passes (variable_at p) (slice_get (book_of (seen a)).rules i)
    left_variable = ap (passes (λ y. variable_letter (letter_of y))) left_letter ∙ go (slice_get (book_of (seen a)).rules i) refl
      where
        go : (o : Option Rule) → slice_get (book_of (seen a)).rules i ≡ o
            → passes (λ y. variable_letter (letter_of y)) (onward (option_map (λ (r : Rule). word (left_side r)) o) (letter_in (seen a).signature p)) ≡ passes (variable_at p) o
        go None h = refl
        go (Some r) h = variable_part (seen a).signature (left_side r) p (fits_at r h)

-- no left side has a cell
under_constructor : (c : Head) (ts : Terms) → Pattern (con c ts) → Patterns ts
under_constructor (cell n) ts h = absurd h
under_constructor (symbol s) ts h = h

not_cell : (t : Term) (n : ℕ) → Pattern t → constructor t ≡ Some (cell n) → ⊥
not_cell (var v) n h e = zero_one (cc)
not_cell (con (cell m) ts) n h e = h
not_cell (con (symbol s) ts) n h e = zero_one (cc)
not_cell (fun f ts) n h e = h

pub draft_cells : (a : Store) (p : List ℕ) (r : Rule) → Memᴰ r (book_of (seen a)).rules → (n : ℕ) → constructor_at p r ≡ Some (cell n) → ⊥
draft_cells a [] r m n e = zero_one (cc)
draft_cells a (i ∷ p) r m n e = go (part_of r.left i p) refl e
  where
    go : (o : Option Term) → part_of r.left i p ≡ o → onward o constructor ≡ Some (cell n) → ⊥
    go None f g = zero_one (cc)
    go (Some t) f g = not_cell t n (part_of_has Pattern Patterns under_constructor (λ k ts h. absurd h) (λ u ts h. h.0) (λ u ts h. h.1) r.left i p t ((book_rules a).patterns r m) f) g

-- going through the open positions
pub variables_listed : (R : List Rule) (i : ℕ) → i < length R → (ps : List Path) → list_all (λ path. passes (variable_at (steps_of path)) (slice_get R i)) ps ≡ passes (all_variables (map steps_of ps)) (slice_get R i)
variables_listed R i h ps = let r = nth_there R i h in go r.0 (slice_get R i) r.1 ps
  where
    go : (r : Rule) (o : Option Rule) → o ≡ Some r → (qs : List Path) → list_all (λ path. passes (variable_at (steps_of path)) o) qs ≡ passes (all_variables (map steps_of qs)) o
    go r None e qs = absurd (zero_one (cc))
    go r (Some q) e [] = refl
    go r (Some q) e (x ∷ qs) = ap (λ (b : Bool). variable_at (steps_of x) q && b) (go r (Some q) e qs)

pub variables_past : (R : List Rule) (i : ℕ) (ps : List (List ℕ)) → length R ≤ i → false ≡ passes (all_variables ps) (slice_get R i)
variables_past R i ps h = ap (passes (all_variables ps)) (sym (slice_get_past R i h))
