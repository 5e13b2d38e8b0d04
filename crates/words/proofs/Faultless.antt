-- A word has no fault exactly when it is the word of a closed term of some sort.
use Rattle.std.proofs.Common.{◌≡◌, ℕ, suc, ◌≤◌, Bool, true, false, cond, ◌||◌, eqb, ltb, List, [], ◌∷◌, ◌++◌, length, Some, None, Option, sym, refl, ap, ◌∙◌, subst, ap₂, append-nil, arith, option_map}
use Rattle.std.specs.Option.{option_or}
use Rattle.std.proofs.lemmas.List.{length-append, nil_from_length}
use Rattle.std.proofs.lemmas.Bool.{ltb-false, le-ltb, ne_eqb, or_parts, or_from, cond-false}
use Rattle.words.specs.declared.fault.WordFault.{WordFault}
use Rattle.words.specs.declared.fault.WordFault.TheVariants.{Length, Letter, Whole, Sort, Cell}
use Rattle.terms.specs.Terms.{Term, var, con, fun, Terms, nil, ◌▸◌, count, Closed, AllClosed}
use Rattle.terms.specs.Options.{more}
use Rattle.terms.specs.Signatures.{Signature}
use Rattle.terms.specs.Roots.{Root, head, call, number, Stands, root_args, args_of}
use Rattle.words.specs.Words.{word, words, Fits, AllFit}
use Rattle.words.specs.Ends.{part_end}
use Rattle.terms.specs.Sorting.{Sorted, AllSorted, closed, head_sort, fn_sort}
use Rattle.words.specs.Faults.{first_not, is_closed, past_end, not_whole, due_after, walk, wrong_place, wrong_argument, is_lawful, word_fault, lawful_fault}
use Rattle.words.specs.Statements.{TellsWhole, ClosedWord, LawfulClosedWord, NoFaultAt}
use Rattle.terms.proofs.Letters.{zero_one}
use Rattle.terms.proofs.Roots.{args_back}
use Rattle.terms.proofs.Options.{more_none}
use Rattle.words.proofs.Ends.{part_ends, length_in_front}
use Rattle.words.proofs.Scans.{closed_word, lawful_word}
use Rattle.words.proofs.Sorts.{sorted_words, words_walk}

-- no fault, in parts
size_none : (b : Bool) (o : Option WordFault) → cond b (Some Length) o ≡ None → (b ≡ false) × (o ≡ None)
size_none true o h = absurd (zero_one (cc))
size_none false o h = (refl, h)

pub or_none : {A : Type 0} (o p : Option A) → option_or o p ≡ None → (o ≡ None) × (p ≡ None)
or_none (Some a) p h = absurd (zero_one (cc))
or_none None p h = (refl, h)

map_none : (F : ℕ → WordFault) (o : Option ℕ) → option_map F o ≡ None → o ≡ None
map_none F (Some i) h = absurd (zero_one (cc))
map_none F None h = refl

past_none : (l : ℕ) (o : Option ℕ) → past_end l o ≡ None → (n : ℕ) × (o ≡ Some n) × (l ≤ n)
past_none l None h = absurd (zero_one (cc))
past_none l (Some n) h = (n, refl, go (ltb n l) refl h)
  where
    go : (b : Bool) → ltb n l ≡ b → cond b (Some n) None ≡ None → l ≤ n
    go true e g = absurd (zero_one (cc))
    go false e g = ltb-false n l e

module _ (S : Signature) where
  whole : (w : List ℕ) → not_whole S w ≡ None → (t : Term) × (word t ≡ w) × Fits S t
  whole w h =
      let a = past_none (length w) (part_end S w) h in
      let b = ((length_in_front S w).0 a.0).0 a.1 in
      let l = ap length b.3 ∙ length-append (word b.0) b.1 in
      let z : length b.1 ≡ 0 = (let m = b.4 in let n = a.2 in omega arith) in
      (b.0, sym (append-nil (word b.0)) ∙ ap (λ (v : List ℕ). word b.0 ++ v) (sym (nil_from_length b.1 z)) ∙ sym b.3, b.2)

  no_end : (t : Term) → Fits S t → not_whole S (word t) ≡ None
  no_end t f =
      let n : ℕ = length (word t) in
      let e : part_end S (word t) ≡ Some n = ap (part_end S) (sym (append-nil (word t))) ∙ part_ends S t [] f in
      ap (past_end n) e ∙ cond-false (ltb n n) _ _ (le-ltb n n (omega arith))

  pub tells_whole : (w : List ℕ) → TellsWhole S w (not_whole S w)
  tells_whole w = (whole w, λ h. ap (not_whole S) (sym h.1) ∙ no_end h.0 h.2)

  pub whole_of : (w : List ℕ) (r : Option ℕ) → r ≡ not_whole S w → TellsWhole S w r
  whole_of w r e = let a = tells_whole w in ((λ h. a.0 (sym e ∙ h)), λ h. e ∙ a.1 h)

  -- the arguments of a root have the sorts due exactly when the walk finds no wrong one
  sorted_arguments : (r : Root) (ts : Terms) → Stands S r → count ts ≡ length (root_args S r) → AllFit S ts
      → more (wrong_place (walk S closed (due_after (args_of S (number r)) []) (words ts))) ≡ None → AllSorted S closed ts (root_args S r)
  sorted_arguments r ts s n f h =
      (sorted_words S closed ts (root_args S r) [] [] f n
      (ap (λ (v : List ℕ). wrong_place (walk S closed (root_args S r ++ []) v)) (append-nil (words ts))
      ∙ ap (λ (o : Option (List ℕ)). wrong_place (walk S closed (due_after o []) (words ts))) (sym (args_back S r s))
      ∙ more_none (wrong_place (walk S closed (due_after (args_of S (number r)) []) (words ts))) h)).0

  no_wrong_argument : (r : Root) (ts : Terms) → Stands S r → AllFit S ts → AllSorted S closed ts (root_args S r)
      → more (wrong_place (walk S closed (due_after (args_of S (number r)) []) (words ts))) ≡ None
  no_wrong_argument r ts s f h =
      ap (λ (o : Option (List ℕ)). more (wrong_place (walk S closed (due_after o []) (words ts)))) (args_back S r s)
      ∙ ap (λ (v : List ℕ). more (wrong_place (walk S closed (root_args S r ++ []) v))) (sym (append-nil (words ts)))
      ∙ ap (λ r. more (wrong_place r)) (words_walk S closed ts (root_args S r) [] [] f h)

  sorted : (t : Term) → Fits S t → Closed t → wrong_argument S (word t) ≡ None → (k : ℕ) × Sorted S closed t k
  sorted (var v) f c q = absurd c
  sorted (con c ts) f i q = (head_sort S c, (f.0, refl, sorted_arguments (head c) ts f.0 f.1 f.2 q))
  sorted (fun g ts) f i q = (fn_sort S g, (f.0, refl, sorted_arguments (call g) ts f.0 f.1 f.2 q))

  count_sorted : (ts : Terms) (ls : List ℕ) → AllSorted S closed ts ls → count ts ≡ length ls
  count_sorted nil [] h = refl
  count_sorted nil (l ∷ ls) h = absurd h
  count_sorted (t ▸ ts) [] h = absurd h
  count_sorted (t ▸ ts) (l ∷ ls) h = ap suc (count_sorted ts ls h.1)

  mutual
    pub sorted_fits : (t : Term) (k : ℕ) → Sorted S closed t k → Fits S t × Closed t
    sorted_fits (var v) k h = absurd (zero_one (cc))
    sorted_fits (con c ts) k h = let a = all_fit ts (root_args S (head c)) h.2 in ((h.0, count_sorted ts (root_args S (head c)) h.2, a.0), a.1)
    sorted_fits (fun f ts) k h = let a = all_fit ts (root_args S (call f)) h.2 in ((h.0, count_sorted ts (root_args S (call f)) h.2, a.0), a.1)

    all_fit : (ts : Terms) (ls : List ℕ) → AllSorted S closed ts ls → AllFit S ts × AllClosed ts
    all_fit nil ls h = (tt, tt)
    all_fit (t ▸ ts) [] h = absurd h
    all_fit (t ▸ ts) (l ∷ ls) h =
        let a = sorted_fits t l h.0 in
        let b = all_fit ts ls h.1 in
        ((a.0, b.0), (a.1, b.1))

  right_arguments : (t : Term) (k : ℕ) → Fits S t → Sorted S closed t k → wrong_argument S (word t) ≡ None
  right_arguments (var v) k f h = absurd (zero_one (cc))
  right_arguments (con c ts) k f h = no_wrong_argument (head c) ts h.0 f.2 h.2
  right_arguments (fun g ts) k f h = no_wrong_argument (call g) ts h.0 f.2 h.2

  some_letter : (t : Term) → (length (word t) ≡ 0) → ⊥
  some_letter (var v) e = zero_one (omega arith)
  some_letter (con c ts) e = zero_one (omega arith)
  some_letter (fun f ts) e = zero_one (omega arith)

  taken : (n : ℕ) (w : List ℕ) → word_fault S n w ≡ None → ClosedWord S n w
  taken n w h =
      let b = size_none (eqb (length w) 0 || ltb n (length w)) _ h in
      let c = or_none (option_map Letter (first_not (is_closed S) w)) _ b.1 in
      let d = or_none (option_map Whole (not_whole S w)) _ c.1 in
      let s = or_parts (eqb (length w) 0) (ltb n (length w)) b.0 in
      let t = whole w (map_none Whole (not_whole S w) d.0) in
      let o = (closed_word S t.0 t.2).0 (ap (first_not (is_closed S)) t.1 ∙ map_none Letter (first_not (is_closed S) w) c.0) in
      let k = sorted t.0 t.2 o (ap (wrong_argument S) t.1 ∙ map_none Sort (wrong_argument S w) d.1) in
      (t.0, k.0, t.1, ltb-false n (length w) s.1, o, k.1)

  no_fault : (n : ℕ) (t : Term) (k : ℕ) → length (word t) ≤ n → Sorted S closed t k → word_fault S n (word t) ≡ None
  no_fault n t k l h =
      let a = sorted_fits t k h in
      let size = or_from (eqb (length (word t)) 0) (ltb n (length (word t))) (ne_eqb (length (word t)) 0 (some_letter t)) (le-ltb n (length (word t)) l) in
      cond-false (eqb (length (word t)) 0 || ltb n (length (word t))) _ _ size
      ∙ ap₂ (λ (o : Option ℕ) (p : Option WordFault). option_or (option_map Letter o) p) ((closed_word S t a.0).1 a.1)
      (ap₂ (λ (o : Option ℕ) (p : Option WordFault). option_or (option_map Whole o) p) (no_end t a.0) (ap (option_map Sort) (right_arguments t k a.0 h)))

  pub takes : (n : ℕ) (w : List ℕ) → NoFaultAt (ClosedWord S n w) (word_fault S n w)
  takes n w = (
    taken n w,
    λ g. subst (λ (v : List ℕ). word_fault S n v ≡ None) g.2 (no_fault n g.0 g.1 (subst (λ (v : List ℕ). length v ≤ n) (sym g.2) g.3) g.5),
  )

  pub takes_lawful : (lawful : ℕ → Bool) (n : ℕ) (w : List ℕ) → NoFaultAt (LawfulClosedWord S lawful n w) (lawful_fault S lawful n w)
  takes_lawful lawful n w = (there, back)
    where
      there : lawful_fault S lawful n w ≡ None → LawfulClosedWord S lawful n w
      there h =
          let a = or_none (word_fault S n w) (option_map Cell (first_not (is_lawful lawful) w)) h in
          let f = map_none Cell (first_not (is_lawful lawful) w) a.1 in
          let g = taken n w a.0 in
          let i = (sorted_fits g.0 g.1 g.5).0 in
          (g.0, g.1, g.2, g.3, g.4, g.5, (lawful_word S lawful g.0 i).0 (ap (first_not (is_lawful lawful)) g.2 ∙ f))

      back : LawfulClosedWord S lawful n w → lawful_fault S lawful n w ≡ None
      back g =
          let i = (sorted_fits g.0 g.1 g.5).0 in
          ap₂ (λ (o p : Option WordFault). option_or o p) ((takes n w).1 (g.0, g.1, g.2, g.3, g.4, g.5))
          (ap (option_map Cell) (ap (first_not (is_lawful lawful)) (sym g.2) ∙ (lawful_word S lawful g.0 i).1 g.6))

  pub closed_of : (n : ℕ) (w : List ℕ) (r : Option WordFault) → r ≡ word_fault S n w → NoFaultAt (ClosedWord S n w) r
  closed_of n w r e = let a = takes n w in ((λ h. a.0 (sym e ∙ h)), λ h. e ∙ a.1 h)

  pub lawful_of : (lawful : ℕ → Bool) (n : ℕ) (w : List ℕ) (r : Option WordFault) → r ≡ lawful_fault S lawful n w → NoFaultAt (LawfulClosedWord S lawful n w) r
  lawful_of lawful n w r e = let a = takes_lawful lawful n w in ((λ h. a.0 (sym e ∙ h)), λ h. e ∙ a.1 h)
