-- The walk along a word with the sorts that are due: the steps of its loop, and what it says of a term.
use Rattle.std.proofs.Common.{◌≡◌, ℕ, suc, ◌+◌, ◌<◌, Bool, true, false, cond, eqb, ◌↔◌, List, [], ◌∷◌, ◌++◌, length, get_or, drop, Some, None, Ok, Err, Option, Result, sym, refl, ap, ◌∙◌, append_assoc, append-nil, add-zero, add_assoc, zero-add, add-one, arith, option_map}
use Rattle.std.specs.Prelude.{ok_or}
use Rattle.std.proofs.lemmas.List.{drop_more, drop-drop, length-append}
use Rattle.std.proofs.lemmas.Bool.{cond-true, cond-false, both_ways, eqb-true, eq-eqb}
use Rattle.terms.specs.Terms.{Term, var, con, fun, Terms, nil, ◌▸◌, count}
use Rattle.terms.specs.Options.{passes, onward}
use Rattle.terms.specs.Signatures.{Signature}
use Rattle.terms.specs.Roots.{Root, variable, head, call, number, Stands, root_of, root_args, args_of}
use Rattle.words.specs.Words.{word, words, Fits, AllFit}
use Rattle.terms.specs.Sorting.{Environment, Sorted, AllSorted, root_sort, sort_of}
use Rattle.words.specs.Faults.{suits, later, due_after, walk, wrong_place}
use Rattle.words.specs.Statements.{FindsSort}
use Rattle.terms.proofs.Letters.{zero_one}
use Rattle.terms.proofs.Roots.{root_back, args_back}

-- what is missing is refused
pub refused_none : {A F : Type 0} (o : Option A) (f e : F) → Err e ≡ ok_or o f → (o ≡ None) × (e ≡ f)
refused_none None f e h = (refl, cc)
refused_none (Some a) f e h = absurd (zero_one (cc))

-- n letters on
abbrev pub past : ℕ → Result ℕ ℕ → Result ℕ ℕ
past n (Ok m) = Ok (n + m)
past n (Err i) = Err (n + i)

-- first one walk, then another from where it ended
abbrev follow : Result ℕ ℕ → (ℕ → Result ℕ ℕ) → Result ℕ ℕ
follow (Ok n) f = past n (f n)
follow (Err i) f = Err i

past_zero : (r : Result ℕ ℕ) → past 0 r ≡ r
past_zero (Ok n) = ap Ok (zero-add n)
past_zero (Err n) = ap Err (zero-add n)

past_past : (m n : ℕ) (r : Result ℕ ℕ) → past m (past n r) ≡ past (m + n) r
past_past m n (Ok k) = ap Ok (sym (add_assoc m n k))
past_past m n (Err k) = ap Err (sym (add_assoc m n k))

later_past : (n : ℕ) (r : Result ℕ ℕ) → later (past n r) ≡ past (n + 1) r
later_past n (Ok k) = ap Ok (omega arith)
later_past n (Err k) = ap Err (omega arith)

due_append : (o : Option (List ℕ)) (ks ls : List ℕ) → due_after o (ks ++ ls) ≡ due_after o ks ++ ls
due_append None ks ls = refl
due_append (Some js) ks ls = sym (append_assoc js ks ls)

module _ (S : Signature) (e : Environment) where
  later_follow : (ls : List ℕ) (x : ℕ) (w : List ℕ) (r : Result ℕ ℕ) → later (follow r (λ n. walk S e ls (drop n w))) ≡ follow (later r) (λ n. walk S e ls (drop n (x ∷ w)))
  later_follow ls x w (Ok n) = later_past n (walk S e ls (drop n w)) ∙ ap (λ k. past (n + 1) (walk S e ls (drop k (x ∷ w)))) (sym (add-one n))
  later_follow ls x w (Err i) = refl

  -- the sorts that are due, in two parts
  walk_split : (w ks ls : List ℕ) → walk S e (ks ++ ls) w ≡ follow (walk S e ks w) (λ n. walk S e ls (drop n w))
  walk_split [] [] ls = sym (past_zero (walk S e ls []))
  walk_split (x ∷ w) [] ls = sym (past_zero (walk S e ls (x ∷ w)))
  walk_split [] (k ∷ ks) ls = refl
  walk_split (x ∷ w) (k ∷ ks) ls = go (suits S e x k)
      (ap later (ap (λ (l : List ℕ). walk S e l w) (due_append (args_of S x) ks ls) ∙ walk_split w (due_after (args_of S x) ks) ls) ∙ later_follow ls x w (walk S e (due_after (args_of S x) ks) w))
    where
      go : (b : Bool) → later (walk S e (due_after (args_of S x) (ks ++ ls)) w) ≡ follow (later (walk S e (due_after (args_of S x) ks) w)) (λ n. walk S e ls (drop n (x ∷ w)))
          → cond b (later (walk S e (due_after (args_of S x) (ks ++ ls)) w)) (Err 0) ≡ follow (cond b (later (walk S e (due_after (args_of S x) ks) w)) (Err 0)) (λ n. walk S e ls (drop n (x ∷ w)))
      go true h = h
      go false h = refl

  -- at a letter
  walk_suits : (x k : ℕ) (js ks w : List ℕ) → suits S e x k ≡ true → args_of S x ≡ Some js → walk S e (k ∷ ks) (x ∷ w) ≡ later (walk S e (js ++ ks) w)
  walk_suits x k js ks w h a = cond-true (suits S e x k) _ _ h ∙ ap (λ (o : Option (List ℕ)). later (walk S e (due_after o ks) w)) a

  walk_wrong : (x k : ℕ) (ks w : List ℕ) → suits S e x k ≡ false → walk S e (k ∷ ks) (x ∷ w) ≡ Err 0
  walk_wrong x k ks w h = cond-false (suits S e x k) _ _ h

  -- a letter that has a sort has arguments
  no_arguments : (x k : ℕ) → args_of S x ≡ None → suits S e x k ≡ false
  no_arguments x k h = go (root_of S x) h
    where
      go : (o : Option Root) → option_map (root_args S) o ≡ None → passes (λ j. eqb j k) (onward o (root_sort S e)) ≡ false
      go None g = refl
      go (Some r) g = absurd (zero_one (cc))

  -- the steps of the loop along the sorts that are due: i of them are passed, and the walk is at letters on
  abbrev pub Walked : List ℕ → List ℕ → ℕ → ℕ → Type 0
  Walked ks w i at = walk S e ks w ≡ past at (walk S e (drop i ks) (drop at w))

  next_sort : (ks w : List ℕ) (i at : ℕ) → Walked ks w i at → i < length ks → walk S e ks w ≡ past at (walk S e (get_or ks i 0 ∷ drop (i + 1) ks) (drop at w))
  next_sort ks w i at h l = h ∙ ap (λ (js : List ℕ). past at (walk S e js (drop at w))) (drop_more ks i 0 l)

  pub walked_wrong : (ks w : List ℕ) (i at x : ℕ) (v : List ℕ) → Walked ks w i at → i < length ks → drop at w ≡ x ∷ v → suits S e x (get_or ks i 0) ≡ false → walk S e ks w ≡ Err at
  walked_wrong ks w i at x v h l d q =
      next_sort ks w i at h l
      ∙ ap (λ (u : List ℕ). past at (walk S e (get_or ks i 0 ∷ drop (i + 1) ks) u)) d
      ∙ ap (past at) (walk_wrong x (get_or ks i 0) (drop (i + 1) ks) v q)
      ∙ ap Err (add-zero at)

  pub walked_unknown : (ks w : List ℕ) (i at x : ℕ) (v : List ℕ) → Walked ks w i at → i < length ks → drop at w ≡ x ∷ v → args_of S x ≡ None → walk S e ks w ≡ Err at
  walked_unknown ks w i at x v h l d q = walked_wrong ks w i at x v h l d (no_arguments x (get_or ks i 0) q)

  pub over_letter : (ks w : List ℕ) (i at x : ℕ) (v js : List ℕ) (r : Result ℕ ℕ) → Walked ks w i at → i < length ks → drop at w ≡ x ∷ v → suits S e x (get_or ks i 0) ≡ true → args_of S x ≡ Some js
      → r ≡ walk S e js v → walk S e ks w ≡ past at (later (follow r (λ n. walk S e (drop (i + 1) ks) (drop n v))))
  over_letter ks w i at x v js r h l d q a g =
      next_sort ks w i at h l
      ∙ ap (λ (u : List ℕ). past at (walk S e (get_or ks i 0 ∷ drop (i + 1) ks) u)) d
      ∙ ap (past at) (walk_suits x (get_or ks i 0) js (drop (i + 1) ks) v q a
      ∙ ap later (walk_split v js (drop (i + 1) ks) ∙ ap (λ (z : Result ℕ ℕ). follow z (λ n. walk S e (drop (i + 1) ks) (drop n v))) (sym g)))

  pub walked_more : (ks w : List ℕ) (i at x : ℕ) (v js : List ℕ) (n : ℕ) → Walked ks w i at → i < length ks → drop at w ≡ x ∷ v → suits S e x (get_or ks i 0) ≡ true → args_of S x ≡ Some js
      → Ok n ≡ walk S e js v → Walked ks w (i + 1) (at + (n + 1))
  walked_more ks w i at x v js n h l d q a g =
      over_letter ks w i at x v js (Ok n) h l d q a g
      ∙ ap (past at) (later_past n (walk S e (drop (i + 1) ks) (drop n v)))
      ∙ past_past at (n + 1) (walk S e (drop (i + 1) ks) (drop n v))
      ∙ ap (λ (u : List ℕ). past (at + (n + 1)) (walk S e (drop (i + 1) ks) u)) (ap (λ j. drop j (x ∷ v)) (sym (add-one n)) ∙ ap (drop (n + 1)) (sym d) ∙ drop-drop (n + 1) at w)

  -- what a letter that suits a sort says of its root
  is_sort : (o : Option ℕ) (k : ℕ) → (passes (λ j. eqb j k) o ≡ true) ↔ (o ≡ Some k)
  is_sort None k = ((λ h. absurd (both_ways false refl h)), λ h. absurd (zero_one (cc)))
  is_sort (Some j) k = ((λ h. ap Some (eqb-true j k h)), λ h. eq-eqb j k (cc))

  suits_root : (r : Root) (k : ℕ) → Stands S r → (suits S e (number r) k ≡ true) ↔ (root_sort S e r ≡ Some k)
  suits_root r k h =
      let o : sort_of S e (number r) ≡ root_sort S e r = ap (λ (p : Option Root). onward p (root_sort S e)) (root_back S r h) in
      let i = is_sort (sort_of S e (number r)) k in
      ((λ q. sym o ∙ i.0 q), λ q. i.1 (o ∙ q))

  fine_parts : (b : Bool) (r : Result ℕ ℕ) → wrong_place (cond b (later r) (Err 0)) ≡ None → (b ≡ true) × (wrong_place r ≡ None)
  fine_parts true (Ok n) h = (refl, refl)
  fine_parts true (Err i) h = absurd (zero_one (cc))
  fine_parts false r h = absurd (zero_one (cc))

  -- a walk that finds no fault at a root: its own sort, and the walk along its arguments
  at_root : (r : Root) (k : ℕ) (ks w : List ℕ) → Stands S r → wrong_place (walk S e (k ∷ ks) (number r ∷ w)) ≡ None → (root_sort S e r ≡ Some k) × (wrong_place (walk S e (root_args S r ++ ks) w) ≡ None)
  at_root r k ks w h q =
      let a = fine_parts (suits S e (number r) k) (walk S e (due_after (args_of S (number r)) ks) w) q in
      ((suits_root r k h).0 a.0, ap (λ (o : Option (List ℕ)). wrong_place (walk S e (due_after o ks) w)) (sym (args_back S r h)) ∙ a.1)

  mutual
    sorted_word : (t : Term) (k : ℕ) (ks w : List ℕ) → Fits S t → wrong_place (walk S e (k ∷ ks) (word t ++ w)) ≡ None → Sorted S e t k × (wrong_place (walk S e ks w) ≡ None)
    sorted_word (var v) k ks w f q = at_root (variable v) k ks w f q
    sorted_word (con c ts) k ks w f q =
        let a = at_root (head c) k ks (words ts ++ w) f.0 q in
        let b = sorted_words ts (root_args S (head c)) ks w f.2 f.1 a.1 in
        ((f.0, (let i = a.0 in cc), b.0), b.1)
    sorted_word (fun g ts) k ks w f q =
        let a = at_root (call g) k ks (words ts ++ w) f.0 q in
        let b = sorted_words ts (root_args S (call g)) ks w f.2 f.1 a.1 in
        ((f.0, (let i = a.0 in cc), b.0), b.1)

    pub sorted_words : (ts : Terms) (ls ks w : List ℕ) → AllFit S ts → count ts ≡ length ls → wrong_place (walk S e (ls ++ ks) (words ts ++ w)) ≡ None
        → AllSorted S e ts ls × (wrong_place (walk S e ks w) ≡ None)
    sorted_words nil [] ks w f c q = (tt, q)
    sorted_words nil (l ∷ ls) ks w f c q = absurd (zero_one (omega arith))
    sorted_words (t ▸ ts) [] ks w f c q = absurd (zero_one (omega arith))
    sorted_words (t ▸ ts) (l ∷ ls) ks w f c q =
        let a = sorted_word t l (ls ++ ks) (words ts ++ w) f.0 (ap (λ (v : List ℕ). wrong_place (walk S e (l ∷ (ls ++ ks)) v)) (sym (append_assoc (word t) (words ts) w)) ∙ q) in
        let b = sorted_words ts ls ks w f.1 (omega arith) a.1 in
        ((a.0, b.0), b.1)

  -- and back
  root_walk : (r : Root) (k : ℕ) (ks w v : List ℕ) (n : ℕ) → Stands S r → root_sort S e r ≡ Some k → walk S e (root_args S r ++ ks) w ≡ past n (walk S e ks v) → walk S e (k ∷ ks) (number r ∷ w) ≡ past (suc n) (walk S e ks v)
  root_walk r k ks w v n h q g =
      walk_suits (number r) k (root_args S r) ks w ((suits_root r k h).1 q) (args_back S r h) ∙ ap later g ∙ later_past n (walk S e ks v) ∙ ap (λ j. past j (walk S e ks v)) (add-one n)

  mutual
    word_walk : (t : Term) (k : ℕ) (ks w : List ℕ) → Fits S t → Sorted S e t k → walk S e (k ∷ ks) (word t ++ w) ≡ past (length (word t)) (walk S e ks w)
    word_walk (var v) k ks w f h = root_walk (variable v) k ks w w 0 f h (sym (past_zero (walk S e ks w)))
    word_walk (con c ts) k ks w f h = root_walk (head c) k ks (words ts ++ w) w (length (words ts)) h.0 (ap Some (sym h.1)) (words_walk ts (root_args S (head c)) ks w f.2 h.2)
    word_walk (fun g ts) k ks w f h = root_walk (call g) k ks (words ts ++ w) w (length (words ts)) h.0 (ap Some (sym h.1)) (words_walk ts (root_args S (call g)) ks w f.2 h.2)

    pub words_walk : (ts : Terms) (ls ks w : List ℕ) → AllFit S ts → AllSorted S e ts ls → walk S e (ls ++ ks) (words ts ++ w) ≡ past (length (words ts)) (walk S e ks w)
    words_walk nil [] ks w f h = sym (past_zero (walk S e ks w))
    words_walk nil (l ∷ ls) ks w f h = absurd h
    words_walk (t ▸ ts) [] ks w f h = absurd h
    words_walk (t ▸ ts) (l ∷ ls) ks w f h =
        ap (walk S e (l ∷ (ls ++ ks))) (append_assoc (word t) (words ts) w)
        ∙ word_walk t l (ls ++ ks) (words ts ++ w) f.0 h.0
        ∙ ap (past (length (word t))) (words_walk ts ls ks w f.1 h.1)
        ∙ past_past (length (word t)) (length (words ts)) (walk S e ks w)
        ∙ ap (λ n. past n (walk S e ks w)) (sym (length-append (word t) (words ts)))

  pub finds_sort : (k : ℕ) (w : List ℕ) → FindsSort S e k w (walk S e (k ∷ []) w)
  finds_sort k w t f i = (
    (λ q. (sorted_word t k [] [] f (ap (λ (v : List ℕ). wrong_place (walk S e (k ∷ []) v)) (append-nil (word t) ∙ i) ∙ ap wrong_place q)).0),
    λ h. ap (walk S e (k ∷ [])) (sym i ∙ sym (append-nil (word t))) ∙ word_walk t k [] [] f h ∙ ap Ok (add-zero (length (word t)) ∙ ap length i),
  )

  pub sort_of_walk : (k : ℕ) (w : List ℕ) (r : Result ℕ ℕ) → r ≡ walk S e (k ∷ []) w → FindsSort S e k w r
  sort_of_walk k w r v t f i = let a = finds_sort k w t f i in ((λ h. a.0 (sym v ∙ h)), λ h. v ∙ a.1 h)
