-- `read` and `word` undo each other.
use Rattle.std.proofs.Common.{◌≡◌, ℕ, zero, suc, ◌+◌, ◌≤◌, Bool, true, false, cond, leb, List, [], ◌∷◌, ◌++◌, length, Some, None, Option, sym, refl, ap, ◌∙◌, subst, ap₂, append_assoc, append-nil, arith}
use Rattle.std.proofs.lemmas.Bool.{leb-true, le-leb, cond-true}
use Rattle.terms.specs.Terms.{Term, var, con, fun, Terms, nil, ◌▸◌, count}
use Rattle.terms.specs.Options.{onward}
use Rattle.terms.specs.Signatures.{Signature}
use Rattle.terms.specs.Roots.{Root, variable, head, call, make, number, Stands, root_args, root_of}
use Rattle.words.specs.Words.{word, words, Fits, AllFit, front, rest, push, read_row, sole, read}
use Rattle.words.specs.Statements.{ReadsBack}
use Rattle.terms.proofs.Letters.{zero_one}
use Rattle.terms.proofs.Roots.{root_back, is_root}

abbrev pub app : Terms → Terms → Terms
app nil us = us
app (t ▸ ts) us = t ▸ app ts us

count_app : (ts us : Terms) → count ts ≤ count (app ts us)
count_app nil us = omega arith
count_app (t ▸ ts) us = let h = count_app ts us in omega arith

front_app : (ts us : Terms) → front (count ts) (app ts us) ≡ ts
front_app nil us = refl
front_app (t ▸ ts) us = ap (λ (x : Terms). t ▸ x) (front_app ts us)

rest_app : (ts us : Terms) → rest (count ts) (app ts us) ≡ us
rest_app nil us = refl
rest_app (t ▸ ts) us = rest_app ts us

pub count_front : (n : ℕ) (us : Terms) → n ≤ count us → count (front n us) ≡ n
count_front zero us h = refl
count_front (suc n) nil h = absurd (omega arith)
count_front (suc n) (u ▸ us) h = ap suc (count_front n us (omega arith))

pub count_rest : (n : ℕ) (us : Terms) → n ≤ count us → n + count (rest n us) ≡ count us
count_rest zero us h = omega arith
count_rest (suc n) nil h = absurd (omega arith)
count_rest (suc n) (u ▸ us) h = let e = count_rest n us (omega arith) in omega arith

pub words_split : (n : ℕ) (us : Terms) → words (front n us) ++ words (rest n us) ≡ words us
words_split zero us = refl
words_split (suc n) nil = refl
words_split (suc n) (u ▸ us) = append_assoc (word u) (words (front n us)) (words (rest n us)) ∙ ap (λ (w : List ℕ). word u ++ w) (words_split n us)

module _ (S : Signature) where
  push_is : (r : Root) (us : Terms) → length (root_args S r) ≤ count us
      → push S r us ≡ Some (make r (front (length (root_args S r)) us) ▸ rest (length (root_args S r)) us)
  push_is r us l = cond-true (leb (length (root_args S r)) (count us)) _ _ (le-leb (length (root_args S r)) (count us) l)

  push_app : (r : Root) (ts us : Terms) → length (root_args S r) ≡ count ts → push S r (app ts us) ≡ Some (make r ts ▸ us)
  push_app r ts us n =
      push_is r (app ts us) (subst (λ k. k ≤ count (app ts us)) (sym n) (count_app ts us))
      ∙ ap (λ k. Some (make r (front k (app ts us)) ▸ rest k (app ts us))) n
      ∙ ap₂ (λ (a b : Terms). Some (make r a ▸ b)) (front_app ts us) (rest_app ts us)

  -- what a letter does with the terms after it
  abbrev step : ℕ → Terms → Option Terms
  step x us = onward (root_of S x) (λ r. push S r us)

  root_row : (r : Root) (ts : Terms) → Stands S r → count ts ≡ length (root_args S r) → (o : Option Terms)
      → onward (onward o (λ us. Some (app ts us))) (step (number r)) ≡ onward o (λ us. Some (make r ts ▸ us))
  root_row r ts h n None = refl
  root_row r ts h n (Some us) = ap (λ (p : Option Root). onward p (λ q. push S q (app ts us))) (root_back S r h) ∙ push_app r ts us (sym n)

  -- the terms in a row of the word of a term before another word
  mutual
    row_word : (t : Term) (w : List ℕ) → Fits S t → read_row S (word t ++ w) ≡ onward (read_row S w) (λ us. Some (t ▸ us))
    row_word (var v) w h = none_first (read_row S w) ∙ root_row (variable v) nil h refl (read_row S w)
      where
        none_first : (o : Option Terms) → onward o (step (number (variable v))) ≡ onward (onward o (λ us. Some (app nil us))) (step (number (variable v)))
        none_first None = refl
        none_first (Some us) = refl
    row_word (con c ts) w h = ap (λ (o : Option Terms). onward o (step (number (head c)))) (row_words ts w h.2) ∙ root_row (head c) ts h.0 h.1 (read_row S w)
    row_word (fun f ts) w h = ap (λ (o : Option Terms). onward o (step (number (call f)))) (row_words ts w h.2) ∙ root_row (call f) ts h.0 h.1 (read_row S w)

    row_words : (ts : Terms) (w : List ℕ) → AllFit S ts → read_row S (words ts ++ w) ≡ onward (read_row S w) (λ us. Some (app ts us))
    row_words nil w h = same (read_row S w)
      where
        same : (o : Option Terms) → o ≡ onward o (λ us. Some us)
        same None = refl
        same (Some us) = refl
    row_words (t ▸ ts) w h =
        ap (read_row S) (append_assoc (word t) (words ts) w)
        ∙ row_word t (words ts ++ w) h.0
        ∙ ap (λ (o : Option Terms). onward o (λ us. Some (t ▸ us))) (row_words ts w h.1)
        ∙ twice (read_row S w)
      where
        twice : (o : Option Terms) → onward (onward o (λ us. Some (app ts us))) (λ us. Some (t ▸ us)) ≡ onward o (λ us. Some (t ▸ app ts us))
        twice None = refl
        twice (Some us) = refl

  read_word : (t : Term) → Fits S t → read S (word t) ≡ Some t
  read_word t h = ap (λ (w : List ℕ). read S w) (sym (append-nil (word t))) ∙ ap (λ (o : Option Terms). onward o sole) (row_word t [] h)

  fit_front : (n : ℕ) (us : Terms) → AllFit S us → AllFit S (front n us)
  fit_front zero us h = tt
  fit_front (suc n) nil h = tt
  fit_front (suc n) (u ▸ us) h = (h.0, fit_front n us h.1)

  fit_rest : (n : ℕ) (us : Terms) → AllFit S us → AllFit S (rest n us)
  fit_rest zero us h = h
  fit_rest (suc n) nil h = tt
  fit_rest (suc n) (u ▸ us) h = fit_rest n us h.1

  -- a root over as many terms as it takes
  make_word : (r : Root) (ts : Terms) → Stands S r → count ts ≡ length (root_args S r) → AllFit S ts → (word (make r ts) ≡ number r ∷ words ts) × Fits S (make r ts)
  make_word (variable v) nil h n f = (refl, h)
  make_word (variable v) (t ▸ ts) h n f = absurd (zero_one (omega arith))
  make_word (head c) ts h n f = (refl, (h, n, f))
  make_word (call g) ts h n f = (refl, (h, n, f))

  -- a letter over the first of the terms after it
  pub over_first : (x : ℕ) (r : Root) (us : Terms) → root_of S x ≡ Some r → length (root_args S r) ≤ count us → AllFit S us
      → (words (make r (front (length (root_args S r)) us) ▸ rest (length (root_args S r)) us) ≡ x ∷ words us)
      × AllFit S (make r (front (length (root_args S r)) us) ▸ rest (length (root_args S r)) us)
  over_first x r us e l f =
      let n : ℕ = length (root_args S r) in
      let i = is_root S x r e in
      let m = make_word r (front n us) i.1 (count_front n us l) (fit_front n us f) in
      (ap (λ (w : List ℕ). w ++ words (rest n us)) m.0 ∙ ap₂ (λ (y : ℕ) (w : List ℕ). y ∷ w) i.0 (words_split n us), (m.1, fit_rest n us f))

  pushed : (x : ℕ) (us ts : Terms) (o : Option Root) → root_of S x ≡ o → onward o (λ r. push S r us) ≡ Some ts → AllFit S us → (words ts ≡ x ∷ words us) × AllFit S ts
  pushed x us ts None e h f = absurd (zero_one (cc))
  pushed x us ts (Some r) e h f = go (leb (length (root_args S r)) (count us)) refl h
    where
      go : (b : Bool) → leb (length (root_args S r)) (count us) ≡ b
          → cond b (Some (make r (front (length (root_args S r)) us) ▸ rest (length (root_args S r)) us)) None ≡ Some ts → (words ts ≡ x ∷ words us) × AllFit S ts
      go false l g = absurd (zero_one (cc))
      go true l g =
          let n : ℕ = length (root_args S r) in
          let q : make r (front n us) ▸ rest n us ≡ ts = cc in
          subst (λ (vs : Terms). (words vs ≡ x ∷ words us) × AllFit S vs) q (over_first x r us e (leb-true n (count us) l) f)

  words_row : (w : List ℕ) (ts : Terms) → read_row S w ≡ Some ts → (words ts ≡ w) × AllFit S ts
  words_row [] ts h =
      let q : nil ≡ ts = cc in
      subst (λ (vs : Terms). (words vs ≡ []) × AllFit S vs) q (refl, tt)
  words_row (x ∷ w) ts h = go (read_row S w) (words_row w) h
    where
      go : (o : Option Terms) → ((us : Terms) → o ≡ Some us → (words us ≡ w) × AllFit S us) → onward o (step x) ≡ Some ts → (words ts ≡ x ∷ w) × AllFit S ts
      go None ih e = absurd (zero_one (cc))
      go (Some us) ih e =
          let i = ih us refl in
          let p = pushed x us ts (root_of S x) refl e i.1 in
          (p.0 ∙ ap (λ (v : List ℕ). x ∷ v) i.0, p.1)

  word_read : (w : List ℕ) (t : Term) → read S w ≡ Some t → (word t ≡ w) × Fits S t
  word_read w t h = go (read_row S w) refl h
    where
      go : (o : Option Terms) → read_row S w ≡ o → onward o sole ≡ Some t → (word t ≡ w) × Fits S t
      go None e g = absurd (zero_one (cc))
      go (Some nil) e g = absurd (zero_one (cc))
      go (Some (u ▸ nil)) e g =
          let q : u ≡ t = cc in
          let i = words_row w (u ▸ nil) e in
          subst (λ (v : Term). (word v ≡ w) × Fits S v) q (sym (append-nil (word u)) ∙ i.0, i.1.0)
      go (Some (u ▸ v ▸ ts)) e g = absurd (zero_one (cc))

pub reads_back : (S : Signature) (w : List ℕ) → ReadsBack S w
reads_back S w t = (word_read S w t, λ h. ap (read S) (sym h.0) ∙ read_word S t h.1)
