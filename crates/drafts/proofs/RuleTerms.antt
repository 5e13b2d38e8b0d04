-- The two words of a rule without fault, as terms.
use Rattle.std.proofs.Common.{◌≡◌, ℕ, zero, suc, ◌+◌, ◌^◌, ◌<◌, Bool, true, false, cond, ◌&&◌, ◌||◌, eqb, ◌⊎◌, List, [], ◌∷◌, ◌++◌, map, length, set, Some, None, Ok, Err, Option, Result, sym, refl, ap, ◌∙◌, subst, ap₂, inl, inr, append_assoc, append-nil, arith, option_map}
use mathlib.Core.List.{Memᴰ}
use Rattle.std.specs.List.{slice_get}
use Rattle.std.proofs.lemmas.List.{length-set, map-append}
use Rattle.std.proofs.Math.Bool.{or_assoc}
use Rattle.std.proofs.lemmas.Bool.{and_from, or_parts, or_from, eqb-true, eqb-false, eq-eqb, ne_eqb, both_ways, cond-false}
use Rattle.terms.specs.declared.letter.Letter.{Letter}
use Rattle.terms.specs.declared.letter.Letter.TheVariants.{Cell, Symbol, Variable}
use Rattle.terms.specs.declared.signature.Role.{Role}
use Rattle.terms.specs.declared.signature.Role.TheVariants.{Constructor, Function, Operation}
use Rattle.terms.specs.Terms.{Head, cell, symbol, Fn, Term, var, con, fun, Terms, nil, ◌▸◌, count}
use Rattle.terms.specs.Options.{onward, passes, more}
use Rattle.terms.specs.Letters.{letter_of}
use Rattle.terms.specs.Signatures.{Declaration, Signature}
use Rattle.terms.specs.Roots.{Root, variable, head, call, letter, number, is_constructor, Stands, letter_role, root_args, args_of}
use Rattle.terms.specs.Sorting.{Sorted, AllSorted, closed, head_sort, fn_sort, root_sort}
use Rattle.terms.specs.Views.{given}
use Rattle.terms.proofs.Letters.{zero_one, letter_back, is_letter}
use Rattle.terms.proofs.Options.{more_none}
use Rattle.terms.proofs.Roots.{in_range, root_back, args_back}
use Rattle.words.specs.Words.{word, words, Fits, AllFit}
use Rattle.words.specs.Faults.{suits, due_after}
use Rattle.rewriting.specs.Substitutions.{Occurrence, moved, in_first, in_later, occurrences, all_occurrences, variables}
use Rattle.rewriting.specs.Rules.{Different}
use Rattle.terms.proofs.Names.{position_cons}
use Rattle.drafts.specs.Rules.{is_cell, cell_letter, is_variable, variable_letter, calls, is_function, stands_in, first_that, is_again, first_again, takes_sort, noted, none_known, one_on, left_sorts}
use Rattle.drafts.proofs.LeftSorts.{no_letter}
use Rattle.drafts.specs.Statements.{Pattern, Patterns}

-- the letter of a variable
abbrev pub letter_for : ℕ → ℕ
letter_for v = 2 ^ 33 + v

-- nothing is found, in parts
none_cons : (b : Bool) (o : Option ℕ) → cond b (Some 0) (more o) ≡ None → (b ≡ false) × (o ≡ None)
none_cons true o h = absurd (zero_one (cc))
none_cons false o h = (refl, more_none o h)

pub that_cons : (p : ℕ → Bool) (x : ℕ) (w : List ℕ) → first_that p (x ∷ w) ≡ None → (p x ≡ false) × (first_that p w ≡ None)
that_cons p x w h = none_cons (p x) (first_that p w) (sym (position_cons p x w) ∙ h)

that_append : (p : ℕ → Bool) (u w : List ℕ) → first_that p (u ++ w) ≡ None → (first_that p u ≡ None) × (first_that p w ≡ None)
that_append p [] w h = (refl, h)
that_append p (x ∷ u) w h =
    let a = that_cons p x (u ++ w) h in
    let b = that_append p u w a.1 in
    (position_cons p x u ∙ cond-false (p x) _ _ a.0 ∙ ap more b.0, b.1)

again_cons : (u : List ℕ) (x : ℕ) (w : List ℕ) → first_again u (x ∷ w) ≡ None → (is_again u x ≡ false) × (first_again (u ++ (x ∷ [])) w ≡ None)
again_cons u x w h = none_cons (is_again u x) (first_again (u ++ (x ∷ [])) w) h

-- where a letter stands
stands_append : (x : ℕ) (u w : List ℕ) → stands_in x (u ++ w) ≡ (stands_in x u || stands_in x w)
stands_append x [] w = refl
stands_append x (y ∷ u) w = ap (λ b. eqb x y || b) (stands_append x u w) ∙ sym (or_assoc (eqb x y) (stands_in x u) (stands_in x w))

pub or_left : (a b : Bool) → a ≡ true → (a || b) ≡ true
or_left true b h = refl
or_left false b h = absurd (both_ways false refl h)

pub or_right : (a b : Bool) → b ≡ true → (a || b) ≡ true
or_right true b h = refl
or_right false b h = h

or_either : (a b : Bool) → (a || b) ≡ true → (a ≡ true) ⊎ (b ≡ true)
or_either true b h = inl refl
or_either false b h = inr h

last_stands : (x : ℕ) (u : List ℕ) → stands_in x (u ++ (x ∷ [])) ≡ true
last_stands x u = stands_append x u (x ∷ []) ∙ or_right (stands_in x u) (eqb x x || false) (or_left (eqb x x) false (eq-eqb x x refl))

-- letters of roots
module _ (S : Signature) where
  letter_is : (r : Root) → Stands S r → letter_of (number r) ≡ Some (letter r)
  letter_is r h = letter_back (letter r) (in_range S r h)

  pub var_is : (v : ℕ) → v < 8 → is_variable (letter_for v) ≡ true
  var_is v h = ap variable_letter (letter_is (variable v) h)

  con_not : (c : Head) → Stands S (head c) → is_variable (number (head c)) ≡ false
  con_not (cell n) h = ap variable_letter (letter_is (head (cell n)) h)
  con_not (symbol s) h = ap variable_letter (letter_is (head (symbol s)) h)

  fun_not : (f : Fn) → Stands S (call f) → is_variable (number (call f)) ≡ false
  fun_not f h = ap variable_letter (letter_is (call f) h)

  cell_is : (n : ℕ) → Stands S (head (cell n)) → is_cell (number (head (cell n))) ≡ true
  cell_is n h = ap cell_letter (letter_is (head (cell n)) h)

  fun_is : (f : Fn) → Stands S (call f) → is_function S (number (call f)) ≡ true
  fun_is f h =
      ap (λ (o : Option Letter). calls (onward o (letter_role S))) (letter_is (call f) h)
      ∙ ap (λ (o : Option Declaration). calls (option_map (λ (d : Declaration). d.role) o)) h.0.1
      ∙ go h.0.0.role h.0.2
    where
      go : (o : Role) → is_constructor o ≡ false → calls (Some o) ≡ true
      go Constructor e = absurd (both_ways true e refl)
      go Function e = refl
      go Operation e = refl

  -- no cell and no function leaves constructors and variables
  mutual
    pub pattern_of : (t : Term) → Fits S t → first_that is_cell (word t) ≡ None → first_that (is_function S) (word t) ≡ None → Pattern t
    pattern_of (var v) f c g = tt
    pattern_of (con (cell n) ts) f c g = both_ways (is_cell (number (head (cell n)))) (that_cons is_cell (number (head (cell n))) (words ts) c).0 (cell_is n f.0)
    pattern_of (con (symbol s) ts) f c g = patterns_of ts f.2 (that_cons is_cell (number (head (symbol s))) (words ts) c).1 (that_cons (is_function S) (number (head (symbol s))) (words ts) g).1
    pattern_of (fun h ts) f c g = both_ways (is_function S (number (call h))) (that_cons (is_function S) (number (call h)) (words ts) g).0 (fun_is h f.0)

    pub patterns_of : (ts : Terms) → AllFit S ts → first_that is_cell (words ts) ≡ None → first_that (is_function S) (words ts) ≡ None → Patterns ts
    patterns_of nil f c g = tt
    patterns_of (t ▸ ts) f c g =
        let a = that_append is_cell (word t) (words ts) c in
        let b = that_append (is_function S) (word t) (words ts) g in
        (pattern_of t f.0 a.0 b.0, patterns_of ts f.1 a.1 b.1)

-- the variables of a term, without their positions
abbrev names_of : List Occurrence → List ℕ
names_of os = map (λ (o : Occurrence). o.name) os

names_moved : (g : List ℕ → List ℕ) (os : List Occurrence) → names_of (map (moved g) os) ≡ names_of os
names_moved g [] = refl
names_moved g (o ∷ os) = ap (λ (ns : List ℕ). o.name ∷ ns) (names_moved g os)

abbrev all_variables : Terms → List ℕ
all_variables ts = names_of (all_occurrences ts)

variables_more : (t : Term) (ts : Terms) → all_variables (t ▸ ts) ≡ variables t ++ all_variables ts
variables_more t ts =
    map-append (λ (o : Occurrence). o.name) (map (moved in_first) (occurrences t)) (map (moved in_later) (all_occurrences ts))
    ∙ ap₂ (λ (a b : List ℕ). a ++ b) (names_moved in_first (occurrences t)) (names_moved in_later (all_occurrences ts))

-- membership
mem_append : (v : ℕ) (xs ys : List ℕ) → Memᴰ v (xs ++ ys) → Memᴰ v xs ⊎ Memᴰ v ys
mem_append v [] ys m = inr m
mem_append v (x ∷ xs) ys (Memᴰ.head e) = inl (Memᴰ.head e)
mem_append v (x ∷ xs) ys (Memᴰ.tail m) = elim (mem_append v xs ys m) [ inl n ↦ inl (Memᴰ.tail n) | inr n ↦ inr n ]

mem_left : (v : ℕ) (xs ys : List ℕ) → Memᴰ v xs → Memᴰ v (xs ++ ys)
mem_left v [] ys m = elim m [ ]
mem_left v (x ∷ xs) ys (Memᴰ.head e) = Memᴰ.head e
mem_left v (x ∷ xs) ys (Memᴰ.tail m) = Memᴰ.tail (mem_left v xs ys m)

mem_right : (v : ℕ) (xs ys : List ℕ) → Memᴰ v ys → Memᴰ v (xs ++ ys)
mem_right v [] ys m = m
mem_right v (x ∷ xs) ys m = Memᴰ.tail (mem_right v xs ys m)

different_append : (xs ys : List ℕ) → Different xs → Different ys → ((v : ℕ) → Memᴰ v xs → Memᴰ v ys → ⊥) → Different (xs ++ ys)
different_append [] ys d e h = e
different_append (x ∷ xs) ys d e h =
    ((λ m. elim (mem_append x xs ys m) [ inl n ↦ d.0 n | inr n ↦ h x (Memᴰ.head refl) n ]), different_append xs ys d.1 e (λ v m n. h v (Memᴰ.tail m) n))

past : (x y : ℕ) (w : List ℕ) → eqb x y ≡ false → (eqb x y || stands_in x w) ≡ true → stands_in x w ≡ true
past x y w e m = ap (λ b. b || stands_in x w) (sym e) ∙ m

-- a variable of a term is a letter of its word, and the other way round
module _ (S : Signature) where
  mutual
    pub mem_word : (t : Term) (v : ℕ) → Memᴰ v (variables t) → stands_in (letter_for v) (word t) ≡ true
    mem_word (var x) v (Memᴰ.head e) = or_left (eqb (letter_for v) (letter_for x)) false (eq-eqb (letter_for v) (letter_for x) (ap letter_for e))
    mem_word (var x) v (Memᴰ.tail m) = elim m [ ]
    mem_word (con c ts) v m = or_right (eqb (letter_for v) (number (head c))) (stands_in (letter_for v) (words ts)) (mem_words ts v m)
    mem_word (fun f ts) v m = or_right (eqb (letter_for v) (number (call f))) (stands_in (letter_for v) (words ts)) (mem_words ts v m)

    mem_words : (ts : Terms) (v : ℕ) → Memᴰ v (all_variables ts) → stands_in (letter_for v) (words ts) ≡ true
    mem_words nil v m = elim m [ ]
    mem_words (t ▸ ts) v m =
        stands_append (letter_for v) (word t) (words ts)
        ∙ (elim (mem_append v (variables t) (all_variables ts) (subst (Memᴰ v) (variables_more t ts) m)) [
          | inl n ↦ or_left (stands_in (letter_for v) (word t)) (stands_in (letter_for v) (words ts)) (mem_word t v n)
          | inr n ↦ or_right (stands_in (letter_for v) (word t)) (stands_in (letter_for v) (words ts)) (mem_words ts v n)
        ])

  -- a letter that is no variable is not a variable's
  other_letter : (v x : ℕ) → v < 8 → is_variable x ≡ false → eqb (letter_for v) x ≡ false
  other_letter v x h n = ne_eqb (letter_for v) x (λ e. both_ways (is_variable x) n (ap is_variable (sym e) ∙ var_is S v h))

  mutual
    pub word_mem : (t : Term) (v : ℕ) → Fits S t → v < 8 → stands_in (letter_for v) (word t) ≡ true → Memᴰ v (variables t)
    word_mem (var x) v f h m = elim (or_either (eqb (letter_for v) (letter_for x)) false m) [
      | inl e ↦ Memᴰ.head (let q = eqb-true (letter_for v) (letter_for x) e in let z : v ≡ x = omega arith in z)
      | inr e ↦ absurd (both_ways false refl e)
    ]
    word_mem (con c ts) v f h m = words_mem ts v f.2 h (past (letter_for v) (number (head c)) (words ts) (other_letter v (number (head c)) h (con_not S c f.0)) m)
    word_mem (fun g ts) v f h m = words_mem ts v f.2 h (past (letter_for v) (number (call g)) (words ts) (other_letter v (number (call g)) h (fun_not S g f.0)) m)

    words_mem : (ts : Terms) (v : ℕ) → AllFit S ts → v < 8 → stands_in (letter_for v) (words ts) ≡ true → Memᴰ v (all_variables ts)
    words_mem nil v f h m = absurd (both_ways false refl m)
    words_mem (t ▸ ts) v f h m =
        subst (Memᴰ v) (sym (variables_more t ts))
        (elim (or_either (stands_in (letter_for v) (word t)) (stands_in (letter_for v) (words ts)) (sym (stands_append (letter_for v) (word t) (words ts)) ∙ m)) [
          | inl e ↦ mem_left v (variables t) (all_variables ts) (word_mem t v f.0 h e)
          | inr e ↦ mem_right v (variables t) (all_variables ts) (words_mem ts v f.1 h e)
        ])

-- a variable that stood before does not come again
again_absent : (u w : List ℕ) (x : ℕ) → is_variable x ≡ true → first_again u w ≡ None → stands_in x u ≡ true → stands_in x w ≡ false
again_absent u [] x v h s = refl
again_absent u (y ∷ w) x v h s =
    let a = again_cons u y w h in
    let later : stands_in x (u ++ (y ∷ [])) ≡ true = stands_append x u (y ∷ []) ∙ or_left (stands_in x u) (stands_in x (y ∷ [])) s in
    or_from (eqb x y) (stands_in x w)
    (ne_eqb x y (λ e. both_ways (is_again u y) a.0 (and_from (is_variable y) (stands_in y u) (ap is_variable (sym e) ∙ v) (ap (λ z. stands_in z u) (sym e) ∙ s))))
    (again_absent (u ++ (y ∷ [])) w x v a.1 later)

-- what first-again says of a word of a term before another word
module _ (S : Signature) where
  -- the variables of the term are different, none stood before, and the rest has no repetition after it
  record Once (u w : List ℕ) (vs : List ℕ) (x : List ℕ) : Type 0 where
    apart : Different vs
    new : (v : ℕ) → Memᴰ v vs → stands_in (letter_for v) u ≡ false
    onward_from : first_again (u ++ x) w ≡ None

  -- past a letter that is no variable
  skip : (u w : List ℕ) (x : ℕ) → first_again u (x ∷ w) ≡ None → first_again (u ++ (x ∷ [])) w ≡ None
  skip u w x h = (again_cons u x w h).1

  not_earlier : (u : List ℕ) (x v : ℕ) → stands_in (letter_for v) (u ++ (x ∷ [])) ≡ false → stands_in (letter_for v) u ≡ false
  not_earlier u x v h = (or_parts (stands_in (letter_for v) u) (stands_in (letter_for v) (x ∷ [])) (sym (stands_append (letter_for v) u (x ∷ [])) ∙ h)).0

  after_letter : (u w : List ℕ) (x : ℕ) (vs y : List ℕ) → Once (u ++ (x ∷ [])) w vs y → Once u w vs (x ∷ y)
  after_letter u w x vs y o = record { apart = o.apart; new = λ v m. not_earlier u x v (o.new v m); onward_from = ap (λ (z : List ℕ). first_again z w) (sym (append_assoc u (x ∷ []) y)) ∙ o.onward_from }

  join : (t : Term) (ts : Terms) (u w : List ℕ) → Once u (words ts ++ w) (variables t) (word t) → Once (u ++ word t) w (all_variables ts) (words ts) → Once u w (all_variables (t ▸ ts)) (words (t ▸ ts))
  join t ts u w a b = record {
    apart = subst Different (sym (variables_more t ts)) (different_append (variables t) (all_variables ts) a.apart b.apart
        (λ v m n. both_ways (stands_in (letter_for v) (u ++ word t)) (b.new v n) (stands_append (letter_for v) u (word t) ∙ or_right (stands_in (letter_for v) u) (stands_in (letter_for v) (word t)) (mem_word S t v m))));
    new = λ v m. elim (mem_append v (variables t) (all_variables ts) (subst (Memᴰ v) (variables_more t ts) m)) [
      | inl n ↦ a.new v n
      | inr n ↦ (or_parts (stands_in (letter_for v) u) (stands_in (letter_for v) (word t)) (sym (stands_append (letter_for v) u (word t)) ∙ b.new v n)).0
    ];
    onward_from = ap (λ (z : List ℕ). first_again z w) (sym (append_assoc u (word t) (words ts))) ∙ b.onward_from;
  }

  mutual
    once : (t : Term) (u w : List ℕ) → Fits S t → first_again u (word t ++ w) ≡ None → Once u w (variables t) (word t)
    once (var v) u w f h =
        let a = again_cons u (letter_for v) w h in
        record {
          apart = ((λ m. elim m [ ]), tt);
          new = single (stood_not (is_variable (letter_for v)) (stands_in (letter_for v) u) a.0 (var_is S v f));
          onward_from = a.1;
        }
      where
        stood_not : (b c : Bool) → (b && c) ≡ false → b ≡ true → c ≡ false
        stood_not true c e g = e
        stood_not false c e g = absurd (both_ways false refl g)

        single : stands_in (letter_for v) u ≡ false → (z : ℕ) → Memᴰ z (v ∷ []) → stands_in (letter_for z) u ≡ false
        single n z (Memᴰ.head e) = ap (λ k. stands_in (letter_for k) u) e ∙ n
        single n z (Memᴰ.tail m) = elim m [ ]
    once (con c ts) u w f h = after_letter u w (number (head c)) (variables (con c ts)) (words ts) (all_once ts (u ++ (number (head c) ∷ [])) w f.2 (skip u (words ts ++ w) (number (head c)) h))
    once (fun g ts) u w f h = after_letter u w (number (call g)) (variables (fun g ts)) (words ts) (all_once ts (u ++ (number (call g) ∷ [])) w f.2 (skip u (words ts ++ w) (number (call g)) h))

    all_once : (ts : Terms) (u w : List ℕ) → AllFit S ts → first_again u (words ts ++ w) ≡ None → Once u w (all_variables ts) (words ts)
    all_once nil u w f h = record { apart = tt; new = λ v m. elim m [ ]; onward_from = ap (λ (z : List ℕ). first_again z w) (append-nil u) ∙ h }
    all_once (t ▸ ts) u w f h =
        let a = once t u (words ts ++ w) f.0 (ap (first_again u) (sym (append_assoc (word t) (words ts) w)) ∙ h) in
        let b = all_once ts (u ++ word t) w f.1 a.onward_from in
        join t ts u w a b

  pub linear_word : (t : Term) → Fits S t → first_again [] (word t) ≡ None → Different (variables t)
  linear_word t f h = (once t [] [] f (ap (first_again []) (append-nil (word t)) ∙ h)).apart

-- the sorts of variables
nth_set_same : (vs : List (Option ℕ)) (v : ℕ) (o : Option ℕ) → v < length vs → slice_get (set vs v o) v ≡ Some o
nth_set_same [] v o h = absurd (omega arith)
nth_set_same (x ∷ vs) zero o h = refl
nth_set_same (x ∷ vs) (suc v) o h = nth_set_same vs v o (omega arith)

nth_set_other : (vs : List (Option ℕ)) (y v : ℕ) (o : Option ℕ) → (y ≡ v → ⊥) → slice_get (set vs y o) v ≡ slice_get vs v
nth_set_other [] y v o h = refl
nth_set_other (x ∷ vs) zero zero o h = absurd (h refl)
nth_set_other (x ∷ vs) zero (suc v) o h = refl
nth_set_other (x ∷ vs) (suc y) zero o h = refl
nth_set_other (x ∷ vs) (suc y) (suc v) o h = nth_set_other vs y v o (λ e. h (ap suc e))

noted_other : (x v k : ℕ) (vs : List (Option ℕ)) → (letter_for v ≡ x → ⊥) → slice_get (noted (letter_of x) k vs) v ≡ slice_get vs v
noted_other x v k vs h = go (letter_of x) refl
  where
    go : (o : Option Letter) → letter_of x ≡ o → slice_get (noted o k vs) v ≡ slice_get vs v
    go None e = refl
    go (Some (Cell n)) e = refl
    go (Some (Symbol s)) e = refl
    go (Some (Variable y)) e = nth_set_other vs y v (Some k) (λ q. h (ap letter_for (sym q) ∙ (is_letter x (Variable y) e).0))

step_parts : (b : Bool) (r : Result (List (Option ℕ)) ℕ) (es : List (Option ℕ)) → cond b (one_on r) (Err 0) ≡ Ok es → (b ≡ true) × (r ≡ Ok es)
step_parts true (Ok vs) es h = (refl, h)
step_parts true (Err i) es h = absurd (zero_one (cc))
step_parts false r es h = absurd (zero_one (cc))

module _ (S : Signature) where
  left_step : (x k : ℕ) (ks w : List ℕ) (vs es : List (Option ℕ)) → left_sorts S (k ∷ ks) vs (x ∷ w) ≡ Ok es
      → (takes_sort S x k ≡ true) × (left_sorts S (due_after (args_of S x) ks) (noted (letter_of x) k vs) w ≡ Ok es)
  left_step x k ks w vs es h = step_parts (takes_sort S x k) (left_sorts S (due_after (args_of S x) ks) (noted (letter_of x) k vs) w) es h

  kept_sort : (w ks : List ℕ) (vs es : List (Option ℕ)) (v : ℕ) → left_sorts S ks vs w ≡ Ok es → stands_in (letter_for v) w ≡ false → slice_get es v ≡ slice_get vs v
  kept_sort [] ks vs es v h n = let e : es ≡ vs = (let q = no_letter S ks vs in cc) in ap (λ (us : List (Option ℕ)). slice_get us v) e
  kept_sort (x ∷ w) [] vs es v h n = let e : es ≡ vs = cc in ap (λ (us : List (Option ℕ)). slice_get us v) e
  kept_sort (x ∷ w) (k ∷ ks) vs es v h n =
      let p = or_parts (eqb (letter_for v) x) (stands_in (letter_for v) w) n in
      let a = left_step x k ks w vs es h in
      kept_sort w (due_after (args_of S x) ks) (noted (letter_of x) k vs) es v a.1 p.1 ∙ noted_other x v k vs (eqb-false (letter_for v) x p.0)

  -- a letter that is no variable has the sort due to it
  suits_due : (r : Root) (j k : ℕ) → Stands S r → is_variable (number r) ≡ false → root_sort S closed r ≡ Some j → takes_sort S (number r) k ≡ true → k ≡ j
  suits_due r j k h n q t =
      let a : suits S closed (number r) k ≡ true = ap (λ b. b || suits S closed (number r) k) (sym n) ∙ t in
      let b : eqb j k ≡ true = sym (ap (passes (λ i. eqb i k)) (ap (λ (o : Option Root). onward o (root_sort S closed)) (root_back S r h) ∙ q)) ∙ a in
      sym (eqb-true j k b)

  noted_none : (r : Root) (k : ℕ) (vs : List (Option ℕ)) → Stands S r → is_variable (number r) ≡ false → noted (letter_of (number r)) k vs ≡ vs
  noted_none r k vs h n = go (letter_of (number r)) n
    where
      go : (o : Option Letter) → variable_letter o ≡ false → noted o k vs ≡ vs
      go None e = refl
      go (Some (Cell m)) e = refl
      go (Some (Symbol s)) e = refl
      go (Some (Variable v)) e = absurd (both_ways true e refl)

  -- what the walk along a left side says of terms in it
  record SortedSo (P : Type 0) (ks w : List ℕ) (es : List (Option ℕ)) : Type 0 where
    sorted : P
    known : List (Option ℕ)
    eight : length known ≡ 8
    goes : left_sorts S ks known w ≡ Ok es

  -- at a root over arguments
  root_step : (r : Root) (j k : ℕ) (ks w : List ℕ) (vs es : List (Option ℕ)) → Stands S r → is_variable (number r) ≡ false → root_sort S closed r ≡ Some j → left_sorts S (k ∷ ks) vs (number r ∷ w) ≡ Ok es
      → (k ≡ j) × (left_sorts S (root_args S r ++ ks) vs w ≡ Ok es)
  root_step r j k ks w vs es h n q g =
      let a = left_step (number r) k ks w vs es g in (
        suits_due r j k h n q a.0,
        ap (λ (o : Option (List ℕ)). left_sorts S (due_after o ks) vs w) (sym (args_back S r h))
            ∙ ap (λ (us : List (Option ℕ)). left_sorts S (due_after (args_of S (number r)) ks) us w) (sym (noted_none r k vs h n))
            ∙ a.1,
      )

  mutual
    sorted_left : (t : Term) (k : ℕ) (ks u w : List ℕ) (vs es : List (Option ℕ)) → Fits S t → length vs ≡ 8 → first_again u (word t ++ w) ≡ None → left_sorts S (k ∷ ks) vs (word t ++ w) ≡ Ok es
        → SortedSo (Sorted S (given es) t k) ks w es
    sorted_left (var v) k ks u w vs es f l n g =
        let x : ℕ = letter_for v in
        let a = left_step x k ks w vs es g in
        let is : letter_of x ≡ Some (Variable v) = letter_is S (variable v) f in
        let us : List (Option ℕ) = set vs v (Some k) in
        let go : left_sorts S ks us w ≡ Ok es =
        ap (λ (o : Option (List ℕ)). left_sorts S (due_after o ks) us w) (sym (args_back S (variable v) f))
        ∙ ap (λ (o : Option Letter). left_sorts S (due_after (args_of S x) ks) (noted o k vs) w) (sym is)
        ∙ a.1 in
        let absent = again_absent (u ++ (x ∷ [])) w x (var_is S v f) (again_cons u x w n).1 (last_stands x u) in
        let at : slice_get es v ≡ Some (Some k) = kept_sort w ks us es v go absent ∙ nth_set_same vs v (Some k) (let h : v < 8 = f in omega arith) in
        record { sorted = ap (λ (o : Option (Option ℕ)). onward o (λ q. q)) at; known = us; eight = length-set vs v (Some k) ∙ l; goes = go }
    sorted_left (con c ts) k ks u w vs es f l n g =
        let a = root_step (head c) (head_sort S c) k ks (words ts ++ w) vs es f.0 (con_not S c f.0) refl g in
        let b = sorted_lefts ts (root_args S (head c)) ks (u ++ (number (head c) ∷ [])) w vs es f.2 f.1 l (again_cons u (number (head c)) (words ts ++ w) n).1 a.1 in
        record { sorted = (f.0, a.0, b.sorted); known = b.known; eight = b.eight; goes = b.goes }
    sorted_left (fun h ts) k ks u w vs es f l n g =
        let a = root_step (call h) (fn_sort S h) k ks (words ts ++ w) vs es f.0 (fun_not S h f.0) refl g in
        let b = sorted_lefts ts (root_args S (call h)) ks (u ++ (number (call h) ∷ [])) w vs es f.2 f.1 l (again_cons u (number (call h)) (words ts ++ w) n).1 a.1 in
        record { sorted = (f.0, a.0, b.sorted); known = b.known; eight = b.eight; goes = b.goes }

    sorted_lefts : (ts : Terms) (ls ks u w : List ℕ) (vs es : List (Option ℕ)) → AllFit S ts → count ts ≡ length ls → length vs ≡ 8 → first_again u (words ts ++ w) ≡ None
        → left_sorts S (ls ++ ks) vs (words ts ++ w) ≡ Ok es → SortedSo (AllSorted S (given es) ts ls) ks w es
    sorted_lefts nil [] ks u w vs es f c l n g = record { sorted = tt; known = vs; eight = l; goes = g }
    sorted_lefts nil (j ∷ ls) ks u w vs es f c l n g = absurd (zero_one (omega arith))
    sorted_lefts (t ▸ ts) [] ks u w vs es f c l n g = absurd (zero_one (omega arith))
    sorted_lefts (t ▸ ts) (j ∷ ls) ks u w vs es f c l n g =
        let e : word t ++ (words ts ++ w) ≡ (word t ++ words ts) ++ w = sym (append_assoc (word t) (words ts) w) in
        let m = ap (first_again u) e ∙ n in
        let a = sorted_left t j (ls ++ ks) u (words ts ++ w) vs es f.0 l m (ap (left_sorts S (j ∷ (ls ++ ks)) vs) e ∙ g) in
        let b = sorted_lefts ts ls ks (u ++ word t) w a.known es f.1 (omega arith) a.eight (once S t u (words ts ++ w) f.0 m).onward_from a.goes in
        record { sorted = (a.sorted, b.sorted); known = b.known; eight = b.eight; goes = b.goes }

  pub left_sorted : (t : Term) (k : ℕ) (es : List (Option ℕ)) → Fits S t → first_again [] (word t) ≡ None → left_sorts S (k ∷ []) none_known (word t) ≡ Ok es → Sorted S (given es) t k
  left_sorted t k es f n g =
      (sorted_left t k [] [] [] none_known es f refl (ap (first_again []) (append-nil (word t)) ∙ n) (ap (left_sorts S (k ∷ []) none_known) (append-nil (word t)) ∙ g)).sorted

-- a letter that stands in a word is not one that the word has none of
pub that_at : (p : ℕ → Bool) (x : ℕ) (w : List ℕ) → first_that p w ≡ None → stands_in x w ≡ true → p x ≡ false
that_at p x [] h s = absurd (both_ways false refl s)
that_at p x (y ∷ w) h s =
    let a = that_cons p y w h in
    elim (or_either (eqb x y) (stands_in x w) s) [
      | inl e ↦ ap p (eqb-true x y e) ∙ a.0
      | inr e ↦ that_at p x w a.1 e
    ]

-- the variables of a term are below 8
mutual
  pub var_below : (S : Signature) (t : Term) (v : ℕ) → Fits S t → Memᴰ v (variables t) → v < 8
  var_below S (var x) v f (Memᴰ.head e) = subst (λ k. k < 8) (sym e) f
  var_below S (var x) v f (Memᴰ.tail m) = elim m [ ]
  var_below S (con c ts) v f m = vars_below S ts v f.2 m
  var_below S (fun g ts) v f m = vars_below S ts v f.2 m

  vars_below : (S : Signature) (ts : Terms) (v : ℕ) → AllFit S ts → Memᴰ v (all_variables ts) → v < 8
  vars_below S nil v f m = elim m [ ]
  vars_below S (t ▸ ts) v f m = elim (mem_append v (variables t) (all_variables ts) (subst (Memᴰ v) (variables_more t ts) m)) [
    | inl n ↦ var_below S t v f.0 n
    | inr n ↦ vars_below S ts v f.1 n
  ]
