-- Where a part ends: by the finding itself, by counting, and on the word of a term.
use Rattle.std.proofs.Common.{◌≡◌, ℕ, zero, suc, ◌+◌, ◌-◌, ◌<◌, ◌≤◌, List, [], ◌∷◌, ◌++◌, length, get_or, take, drop, Some, None, Option, sym, refl, ap, ◌∙◌, subst, append_assoc, append-nil, add-zero, add_assoc, suc-add, zero-add, add-one, one-add, arith}
use Rattle.std.specs.List.{between}
use Rattle.std.proofs.lemmas.Slice.{first_rest}
use Rattle.std.proofs.lemmas.List.{drop-drop, take_rest, length-append}
use Rattle.terms.specs.Terms.{Term, var, con, fun, Terms, nil, ◌▸◌, count}
use Rattle.terms.specs.Options.{onward, more, ahead, and_then}
use Rattle.terms.specs.Signatures.{Signature}
use Rattle.terms.specs.Roots.{Root, variable, head, call, make, number, Stands, root_args, arity}
use Rattle.words.specs.Words.{word, words, Fits, AllFit, front, rest}
use Rattle.words.specs.Ends.{Ends, first, EndsInRow, no_more, next, end_of, part_end, Begins}
use Rattle.words.specs.Statements.{Found, LengthInFront}
use Rattle.terms.proofs.Letters.{zero_one}
use Rattle.terms.proofs.Roots.{arity_back, arity_root}
use Rattle.terms.proofs.Options.{ahead_zero, ahead_ahead, more_ahead, more_some, onward_some}
use Rattle.words.proofs.Rows.{count_rest, over_first}

-- the letters from a place on, the first of them and the rest
abbrev pub from : List ℕ → ℕ → List ℕ
from w at = take (length w - at) (drop at w)

pub front_letter : (w : List ℕ) (at : ℕ) → 0 < length (from w at) → drop at w ≡ get_or (from w at) 0 0 ∷ between 1 (length (from w at)) (from w at)
front_letter w at h = sym (take_rest w at) ∙ first_rest (from w at) 0 h

module _ (S : Signature) where
  more_then : (m x : ℕ) (w : List ℕ) (o : Option ℕ) → more (and_then o (λ n. end_of S m (drop n w))) ≡ and_then (more o) (λ n. end_of S m (drop n (x ∷ w)))
  more_then m x w None = refl
  more_then m x w (Some n) = more_ahead n (end_of S m (drop n w)) ∙ ap (λ k. ahead (n + 1) (end_of S m (drop k (x ∷ w)))) (sym (add-one n))

  -- k + m parts in a row are k, and then m
  pub split : (k m : ℕ) (w : List ℕ) → end_of S (k + m) w ≡ and_then (end_of S k w) (λ n. end_of S m (drop n w))
  split zero m w = ap (λ n. end_of S n w) (zero-add m) ∙ sym (ahead_zero (end_of S m w))
  split (suc k) m [] = ap (λ n. end_of S n []) (suc-add k m)
  split (suc k) m (x ∷ w) = ap (λ n. end_of S n (x ∷ w)) (suc-add k m) ∙ go (arity S x) (λ a. split (a + k) m w)
    where
      go : (o : Option ℕ) → ((a : ℕ) → end_of S (a + k + m) w ≡ and_then (end_of S (a + k) w) (λ n. end_of S m (drop n w)))
          → more (onward o (λ a. end_of S (a + (k + m)) w)) ≡ and_then (more (onward o (λ a. end_of S (a + k) w))) (λ n. end_of S m (drop n (x ∷ w)))
      go None ih = refl
      go (Some a) ih = ap (λ n. more (end_of S n w)) (sym (add_assoc a k m)) ∙ ap more (ih a) ∙ more_then m x w (end_of S (a + k) w)

  -- a row of parts from a place on: the next is n long, is none, or there is no next
  next_part : (k at : ℕ) (w : List ℕ) (o : Option ℕ) → 0 < k → o ≡ part_end S (drop at w)
      → ahead at (end_of S k (drop at w)) ≡ ahead at (and_then o (λ n. end_of S (k - 1) (drop n (drop at w))))
  next_part k at w o h e =
      let q : k ≡ 1 + (k - 1) = omega arith in
      ap (λ j. ahead at (end_of S j (drop at w))) q ∙ ap (ahead at) (split 1 (k - 1) (drop at w) ∙ ap (λ (p : Option ℕ). and_then p (λ n. end_of S (k - 1) (drop n (drop at w)))) (sym e))

  pub passed : (k at n : ℕ) (w : List ℕ) → 0 < k → Some n ≡ part_end S (drop at w) → ahead at (end_of S k (drop at w)) ≡ ahead (at + n) (end_of S (k - 1) (drop (at + n) w))
  passed k at n w h e =
      next_part k at w (Some n) h e ∙ ahead_ahead at n (end_of S (k - 1) (drop n (drop at w))) ∙ ap (λ (v : List ℕ). ahead (at + n) (end_of S (k - 1) v)) (drop-drop n at w)

  pub stopped : (k at : ℕ) (w : List ℕ) → 0 < k → None ≡ part_end S (drop at w) → ahead at (end_of S k (drop at w)) ≡ None
  stopped k at w h e = next_part k at w None h e

  -- the part that a letter begins
  pub part_end_letter : (x k : ℕ) (w : List ℕ) → arity S x ≡ Some k → part_end S (x ∷ w) ≡ more (end_of S k w)
  part_end_letter x k w h = ap (λ (o : Option ℕ). more (onward o (λ n. end_of S (n + 0) w))) h ∙ ap (λ n. more (end_of S n w)) (add-zero k)

  pub part_of_letter : (at : ℕ) (w v : List ℕ) {x k : ℕ} {o : Option ℕ} → drop at w ≡ x ∷ v → Some k ≡ arity S x → o ≡ end_of S k v → more o ≡ part_end S (drop at w)
  part_of_letter at w v {x} {k} {o} d a e = ap more e ∙ sym (part_end_letter x k v (sym a)) ∙ ap (part_end S) (sym d)

  -- the finding is counted right
  mutual
    found : {w : List ℕ} {n : ℕ} → Ends S w n → part_end S w ≡ Some n
    found (first {x = x} {k = k} {w = w} a h) = part_end_letter x k w a ∙ ap more (row_found h)

    row_found : {k : ℕ} {w : List ℕ} {n : ℕ} → EndsInRow S k w n → end_of S k w ≡ Some n
    row_found no_more = refl
    row_found (next {k = k} {m = m} {w = w} h r) =
        ap (λ j. end_of S j w) (sym (one-add k)) ∙ split 1 k w
        ∙ ap (λ (o : Option ℕ). and_then o (λ j. end_of S k (drop j w))) (found h)
        ∙ ap (ahead m) (row_found r)

  -- and what is counted is found
  split_row : (a k j : ℕ) {w : List ℕ} {n : ℕ} → j ≡ a + k → EndsInRow S j w n
      → (m : ℕ) × (p : ℕ) × EndsInRow S a w m × EndsInRow S k (drop m w) p × (n ≡ m + p)
  split_row zero k j {w} {n} e h = (0, n, no_more, subst (λ i. EndsInRow S i w n) (e ∙ zero-add k) h, sym (zero-add n))
  split_row (suc a) k j e no_more = absurd (zero_one (omega arith))
  split_row (suc a) k j e (next {k = i} {m = m} {w = w} h r) =
      let s = split_row a k i (omega arith) r in
      (m + s.0, s.1, next h s.2, subst (λ (l : List ℕ). EndsInRow S k l s.1) (drop-drop s.0 m w) s.3, ap (λ i. m + i) s.4 ∙ sym (add_assoc m s.0 s.1))

  row_of : (k : ℕ) (w : List ℕ) (n : ℕ) → end_of S k w ≡ Some n → EndsInRow S k w n
  row_of zero [] n h = subst (EndsInRow S 0 []) (cc) no_more
  row_of zero (x ∷ w) n h = subst (EndsInRow S 0 (x ∷ w)) (cc) no_more
  row_of (suc k) [] n h = absurd (zero_one (cc))
  row_of (suc k) (x ∷ w) n h =
      let s = more_some (onward (arity S x) (λ a. end_of S (a + k) w)) n h in
      let o = onward_some (arity S x) (λ a. end_of S (a + k) w) s.0 s.1 in
      let r = split_row o.0 k (o.0 + k) refl (row_of (o.0 + k) w s.0 o.2) in
      let d : drop r.0 w ≡ drop (r.0 + 1) (x ∷ w) = ap (λ i. drop i (x ∷ w)) (sym (add-one r.0)) in
      let e : (r.0 + 1) + r.1 ≡ n = (let a = s.2 in let b = r.4 in omega arith) in
      subst (EndsInRow S (suc k) (x ∷ w)) e (next (first o.1 r.2) (subst (λ (l : List ℕ). EndsInRow S k l r.1) d r.3))

  none_row : (j : ℕ) {w : List ℕ} {n : ℕ} → j ≡ 0 → EndsInRow S j w n → n ≡ 0
  none_row j e no_more = refl
  none_row j e (next h r) = absurd (zero_one (omega arith))

  sole_row : (j : ℕ) {w : List ℕ} {n : ℕ} → j ≡ 1 → EndsInRow S j w n → Ends S w n
  sole_row j e no_more = absurd (zero_one (omega arith))
  sole_row j e (next {k = k} {m = m} {n = n} {w = w} h r) =
      let z = none_row k (omega arith) r in
      subst (Ends S w) (sym (ap (λ i. m + i) z ∙ add-zero m)) h

  pub found_by_finding : (w : List ℕ) → Found S w (part_end S w)
  found_by_finding w n = ((λ h. sole_row 1 refl (row_of 1 w n h)), found)

  -- on the word of a term
  end_root : (r : Root) (n k : ℕ) (w : List ℕ) (o : Option ℕ) (l : ℕ) → Stands S r → n ≡ length (root_args S r) → end_of S (n + k) w ≡ ahead l o
      → end_of S (suc k) (number r ∷ w) ≡ ahead (suc l) o
  end_root r n k w o l h e g =
      ap (λ (a : Option ℕ). more (onward a (λ j. end_of S (j + k) w))) (arity_back S r h ∙ ap Some (sym e)) ∙ ap more g ∙ more_ahead l o ∙ ap (λ i. ahead i o) (add-one l)

  mutual
    pub end_word : (t : Term) (k : ℕ) (w : List ℕ) → Fits S t → end_of S (suc k) (word t ++ w) ≡ ahead (length (word t)) (end_of S k w)
    end_word (var v) k w h =
        end_root (variable v) 0 k w (end_of S k w) 0 h refl (ap (λ i. end_of S i w) (zero-add k) ∙ sym (ahead_zero (end_of S k w)))
    end_word (con c ts) k w h = end_root (head c) (count ts) k (words ts ++ w) (end_of S k w) (length (words ts)) h.0 h.1 (end_words ts k w h.2)
    end_word (fun f ts) k w h = end_root (call f) (count ts) k (words ts ++ w) (end_of S k w) (length (words ts)) h.0 h.1 (end_words ts k w h.2)

    end_words : (ts : Terms) (k : ℕ) (w : List ℕ) → AllFit S ts → end_of S (count ts + k) (words ts ++ w) ≡ ahead (length (words ts)) (end_of S k w)
    end_words nil k w h = ap (λ i. end_of S i w) (zero-add k) ∙ sym (ahead_zero (end_of S k w))
    end_words (t ▸ ts) k w h =
        let o : Option ℕ = end_of S k w in
        ap (λ i. end_of S i ((word t ++ words ts) ++ w)) (suc-add (count ts) k)
        ∙ ap (end_of S (suc (count ts + k))) (append_assoc (word t) (words ts) w)
        ∙ end_word t (count ts + k) (words ts ++ w) h.0
        ∙ ap (ahead (length (word t))) (end_words ts k w h.1)
        ∙ ahead_ahead (length (word t)) (length (words ts)) o
        ∙ ap (λ i. ahead i o) (sym (length-append (word t) (words ts)))

  pub part_ends : (t : Term) (w : List ℕ) → Fits S t → part_end S (word t ++ w) ≡ Some (length (word t))
  part_ends t w h = end_word t 0 w h ∙ ap Some (add-zero (length (word t)))

  -- what is counted is terms in a row
  pub record Row (k : ℕ) (w : List ℕ) (n : ℕ) : Type 0 where
    pub row : Terms
    pub after : List ℕ
    pub fits : AllFit S row
    pub counted : count row ≡ k
    pub is_front : w ≡ words row ++ after
    pub long : length (words row) ≡ n

  terms_in_row : (k : ℕ) (w : List ℕ) (n : ℕ) → end_of S k w ≡ Some n → Row k w n
  terms_in_row zero [] n h = record { row = nil; after = []; fits = tt; counted = refl; is_front = refl; long = cc }
  terms_in_row zero (x ∷ w) n h = record { row = nil; after = x ∷ w; fits = tt; counted = refl; is_front = refl; long = cc }
  terms_in_row (suc k) [] n h = absurd (zero_one (cc))
  terms_in_row (suc k) (x ∷ w) n h =
      let s = more_some (onward (arity S x) (λ a. end_of S (a + k) w)) n h in
      let o = onward_some (arity S x) (λ a. end_of S (a + k) w) s.0 s.1 in
      let r = arity_root S x o.0 o.1 in
      let i = terms_in_row (o.0 + k) w s.0 o.2 in
      let m : ℕ = length (root_args S r.0) in
      let le : m ≤ count i.row = (let a = r.2 in let b = i.counted in omega arith) in
      let c = count_rest m i.row le in
      let g = over_first S x r.0 i.row r.1 le i.fits in
      record {
        row = make r.0 (front m i.row) ▸ rest m i.row;
        after = i.after;
        fits = g.1;
        counted = (let a = r.2 in let b = i.counted in omega arith);
        is_front = ap (λ (v : List ℕ). x ∷ v) i.is_front ∙ ap (λ (v : List ℕ). v ++ i.after) (sym g.0);
        long = ap length g.0 ∙ (let a = i.long in let b = s.2 in omega arith);
      }

  begins : (w : List ℕ) (n : ℕ) → part_end S w ≡ Some n → Begins S w n
  begins w n h = let r = terms_in_row 1 w n h in sole_term r.row r.after r.fits r.counted r.is_front r.long
    where
      sole_term : (ts : Terms) (v : List ℕ) → AllFit S ts → count ts ≡ 1 → w ≡ words ts ++ v → length (words ts) ≡ n → Begins S w n
      sole_term nil v f c e l = absurd (zero_one c)
      sole_term (t ▸ nil) v f c e l =
          let z : word t ++ [] ≡ word t = append-nil (word t) in
          (t, v, f.0, e ∙ ap (λ (u : List ℕ). u ++ v) z, ap length (sym z) ∙ l)
      sole_term (t ▸ u ▸ ts) v f c e l = absurd (zero_one (omega arith))

  ends : (w : List ℕ) (n : ℕ) → Begins S w n → part_end S w ≡ Some n
  ends w n b = ap (part_end S) b.3 ∙ part_ends b.0 b.1 b.2 ∙ ap Some b.4

  pub length_in_front : (w : List ℕ) → LengthInFront S w (part_end S w)
  length_in_front w = ((λ n. (begins w n, ends w n)), ((λ h n b. zero_one (let e = ends w n b in cc)), λ none. go (part_end S w) (λ n h. none n (begins w n h))))
    where
      go : (o : Option ℕ) → ((n : ℕ) → o ≡ Some n → ⊥) → o ≡ None
      go None none = refl
      go (Some n) none = absurd (none n refl)

  -- what the end of a part says, of an answer that is it
  pub found_of : (w : List ℕ) (r : Option ℕ) → r ≡ part_end S w → Found S w r
  found_of w r e = subst (Found S w) (sym e) (found_by_finding w)

  pub front_of : (w : List ℕ) (r : Option ℕ) → r ≡ part_end S w → LengthInFront S w r
  front_of w r e = subst (LengthInFront S w) (sym e) (length_in_front w)
