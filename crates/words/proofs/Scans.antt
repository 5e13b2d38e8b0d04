-- A scan of a word's letters finds nothing exactly when its term has what the letters are tested for.
use Rattle.std.proofs.Common.{◌≡◌, ℕ, ◌+◌, Bool, true, false, cond, not, ◌&&◌, ◌↔◌, List, [], ◌∷◌, ◌++◌, Some, None, Option, sym, refl, ap, ◌∙◌}
use Rattle.std.specs.List.{list_all, position_from}
use Rattle.std.proofs.lemmas.List.Folds.{list_all-append}
use Rattle.std.proofs.lemmas.Iterator.Adapters.{position_from-zero}
use Rattle.std.proofs.lemmas.Bool.{both_ways, and_parts, and_from}
use Rattle.terms.specs.Terms.{Head, cell, symbol, Fn, Term, var, con, fun, Terms, nil, ◌▸◌, Closed, AllClosed, Value, Values}
use Rattle.terms.specs.Options.{passes, more}
use Rattle.terms.specs.Signatures.{Signature}
use Rattle.terms.specs.Roots.{Root, variable, head, call, letter, number, Stands}
use Rattle.words.specs.Words.{word, words, Fits, AllFit}
use Rattle.terms.specs.Sorting.{lawful_head, Lawful, AllLawful}
use Rattle.words.specs.Faults.{first_not, closed_root, is_closed, value_root, is_in_value, is_value, lawful_letter, is_lawful}
use Rattle.words.specs.Statements.{TellsValue}
use Rattle.terms.proofs.Letters.{zero_one, letter_back}
use Rattle.terms.proofs.Roots.{in_range, root_back}
use Rattle.terms.proofs.Options.{more_none}

module _ (p : ℕ → Bool) where
  -- the first letter, then the others
  from_next : (i : ℕ) (w : List ℕ) → position_from (λ x. not (p x)) (i + 1) w ≡ more (position_from (λ x. not (p x)) i w)
  from_next i [] = refl
  from_next i (x ∷ w) = go (p x) (from_next (i + 1) w)
    where
      go : (b : Bool) → position_from (λ y. not (p y)) (i + 1 + 1) w ≡ more (position_from (λ y. not (p y)) (i + 1) w)
          → cond (not b) (Some (i + 1)) (position_from (λ y. not (p y)) (i + 1 + 1) w) ≡ more (cond (not b) (Some i) (position_from (λ y. not (p y)) (i + 1) w))
      go true h = h
      go false h = refl

  pub first_step : (x : ℕ) (w : List ℕ) → first_not p (x ∷ w) ≡ cond (p x) (more (first_not p w)) (Some 0)
  first_step x w = position_from-zero (λ y. not (p y)) (x ∷ w) ∙ go (p x) (from_next 0 w ∙ ap more (sym (position_from-zero (λ y. not (p y)) w)))
    where
      go : (b : Bool) → position_from (λ y. not (p y)) (0 + 1) w ≡ more (first_not p w) → cond (not b) (Some 0) (position_from (λ y. not (p y)) (0 + 1) w) ≡ cond b (more (first_not p w)) (Some 0)
      go true h = h
      go false h = refl

  -- none is found where all pass
  none_all : (w : List ℕ) → (first_not p w ≡ None) ↔ (list_all p w ≡ true)
  none_all [] = ((λ h. refl), λ h. refl)
  none_all (x ∷ w) = let i = none_all w in let s = first_step x w in ((λ h. (go (p x) (first_not p w) i).0 (sym s ∙ h)), λ h. s ∙ (go (p x) (first_not p w) i).1 h)
    where
      go : (b : Bool) (o : Option ℕ) → ((o ≡ None) ↔ (list_all p w ≡ true)) → (cond b (more o) (Some 0) ≡ None) ↔ (b && list_all p w ≡ true)
      go true o i = ((λ h. i.0 (more_none o h)), λ h. ap more (i.1 h))
      go false o i = ((λ h. absurd (zero_one (cc))), λ h. absurd (both_ways false refl h))

  -- two words in a row
  all_append : (u v : List ℕ) → list_all p (u ++ v) ≡ true → (list_all p u ≡ true) × (list_all p v ≡ true)
  all_append u v h = and_parts (list_all p u) (list_all p v) (sym (list_all-append p u v) ∙ h)

  append_all : (u v : List ℕ) → list_all p u ≡ true → list_all p v ≡ true → list_all p (u ++ v) ≡ true
  append_all u v g h = list_all-append p u v ∙ and_from (list_all p u) (list_all p v) g h

-- C holds of a term, and D of terms in a row, exactly when the letters pass p
record Lettered (S : Signature) (p : ℕ → Bool) (C : Term → Type 0) (D : Terms → Type 0) : Type 0 where
  at_var : (v : ℕ) → Stands S (variable v) → (p (number (variable v)) ≡ true) ↔ C (var v)
  at_con : (c : Head) (ts : Terms) → Stands S (head c) → ((p (number (head c)) ≡ true) × D ts) ↔ C (con c ts)
  at_fun : (f : Fn) (ts : Terms) → Stands S (call f) → ((p (number (call f)) ≡ true) × D ts) ↔ C (fun f ts)
  at_nil : D nil
  at_more : (t : Term) (ts : Terms) → (C t × D ts) ↔ D (t ▸ ts)

module _ (S : Signature) (p : ℕ → Bool) (C : Term → Type 0) (D : Terms → Type 0) (l : Lettered S p C D) where
  mutual
    all_pass : (t : Term) → Fits S t → list_all p (word t) ≡ true → C t
    all_pass (var v) f h = (l.at_var v f).0 (and_parts (p (number (variable v))) true h).0
    all_pass (con c ts) f h = let a = and_parts (p (number (head c))) (list_all p (words ts)) h in (l.at_con c ts f.0).0 (a.0, all_pass_in ts f.2 a.1)
    all_pass (fun g ts) f h = let a = and_parts (p (number (call g))) (list_all p (words ts)) h in (l.at_fun g ts f.0).0 (a.0, all_pass_in ts f.2 a.1)

    all_pass_in : (ts : Terms) → AllFit S ts → list_all p (words ts) ≡ true → D ts
    all_pass_in nil f h = l.at_nil
    all_pass_in (t ▸ ts) f h = let a = all_append p (word t) (words ts) h in (l.at_more t ts).0 (all_pass t f.0 a.0, all_pass_in ts f.1 a.1)

  mutual
    none_fails : (t : Term) → Fits S t → C t → list_all p (word t) ≡ true
    none_fails (var v) f h = and_from (p (number (variable v))) true ((l.at_var v f).1 h) refl
    none_fails (con c ts) f h = let a = (l.at_con c ts f.0).1 h in and_from (p (number (head c))) (list_all p (words ts)) a.0 (none_fails_in ts f.2 a.1)
    none_fails (fun g ts) f h = let a = (l.at_fun g ts f.0).1 h in and_from (p (number (call g))) (list_all p (words ts)) a.0 (none_fails_in ts f.2 a.1)

    none_fails_in : (ts : Terms) → AllFit S ts → D ts → list_all p (words ts) ≡ true
    none_fails_in nil f h = refl
    none_fails_in (t ▸ ts) f h = let a = (l.at_more t ts).1 h in append_all p (word t) (words ts) (none_fails t f.0 a.0) (none_fails_in ts f.1 a.1)

  scanned : (t : Term) → Fits S t → (first_not p (word t) ≡ None) ↔ C t
  scanned t f = let n = none_all p (word t) in ((λ h. all_pass t f (n.0 h)), λ h. n.1 (none_fails t f h))

module _ (S : Signature) where
  closed_letters : Lettered S (is_closed S) Closed AllClosed
  closed_letters = record {
    at_var = λ v s. ((λ h. both_ways (is_closed S (number (variable v))) (ap (passes closed_root) (root_back S (variable v) s)) h), λ h. absurd h);
    at_con = λ c ts s. ((λ h. h.1), λ h. (ap (passes closed_root) (root_back S (head c) s), h));
    at_fun = λ f ts s. ((λ h. h.1), λ h. (ap (passes closed_root) (root_back S (call f) s), h));
    at_nil = tt;
    at_more = λ t ts. ((λ h. h), λ h. h);
  }

  pub closed_word : (t : Term) → Fits S t → (first_not (is_closed S) (word t) ≡ None) ↔ Closed t
  closed_word = scanned S (is_closed S) Closed AllClosed closed_letters

  value_letters : Lettered S (is_in_value S) Value Values
  value_letters = record {
    at_var = λ v s. ((λ h. both_ways (is_in_value S (number (variable v))) (ap (passes value_root) (root_back S (variable v) s)) h), λ h. absurd h);
    at_con = λ c ts s. ((λ h. h.1), λ h. (ap (passes value_root) (root_back S (head c) s), h));
    at_fun = λ f ts s. ((λ h. both_ways (is_in_value S (number (call f))) (ap (passes value_root) (root_back S (call f) s)) h.0), λ h. absurd h);
    at_nil = tt;
    at_more = λ t ts. ((λ h. h), λ h. h);
  }

  pub tells_value : (w : List ℕ) (r : Bool) → r ≡ is_value S w → TellsValue S w r
  tells_value w r v t f e =
      let a = all_pass S (is_in_value S) Value Values value_letters t f in
      let b = none_fails S (is_in_value S) Value Values value_letters t f in
      ((λ h. a (ap (list_all (is_in_value S)) e ∙ sym v ∙ h)), λ h. v ∙ ap (list_all (is_in_value S)) (sym e) ∙ b h)

module _ (S : Signature) (lawful : ℕ → Bool) where
  lawful_number : (r : Root) → Stands S r → is_lawful lawful (number r) ≡ lawful_letter lawful (Some (letter r))
  lawful_number r s = ap (lawful_letter lawful) (letter_back (letter r) (in_range S r s))

  at_head : (c : Head) → Stands S (head c) → (is_lawful lawful (number (head c)) ≡ true) ↔ lawful_head lawful c
  at_head (cell n) s = let e = lawful_number (head (cell n)) s in ((λ h. sym e ∙ h), λ h. e ∙ h)
  at_head (symbol n) s = ((λ h. tt), λ h. lawful_number (head (symbol n)) s)

  lawful_letters : Lettered S (is_lawful lawful) (Lawful lawful) (AllLawful lawful)
  lawful_letters = record {
    at_var = λ v s. ((λ h. tt), λ h. lawful_number (variable v) s);
    at_con = λ c ts s. ((λ h. ((at_head c s).0 h.0, h.1)), λ h. ((at_head c s).1 h.0, h.1));
    at_fun = λ f ts s. ((λ h. h.1), λ h. (lawful_number (call f) s, h));
    at_nil = tt;
    at_more = λ t ts. ((λ h. h), λ h. h);
  }

  pub lawful_word : (t : Term) → Fits S t → (first_not (is_lawful lawful) (word t) ≡ None) ↔ Lawful lawful t
  lawful_word = scanned S (is_lawful lawful) (Lawful lawful) (AllLawful lawful) lawful_letters
