-- Parts of terms are parts of words.
use Rattle.std.proofs.Common.{◌≡◌, ℕ, zero, suc, ◌+◌, ◌<◌, ◌≤◌, cond, ltb, List, [], ◌∷◌, ◌++◌, length, take, drop, Some, None, Option, sym, refl, ap, ◌∙◌, subst, ap₂, ⊎_elim, append_assoc, append-nil, add-one, arith, option_map}
use Rattle.std.proofs.lemmas.List.{drop-drop, drop_at, take_at, length-append}
use Rattle.std.proofs.lemmas.Bool.{cond-true, cond-false, lt-ltb, le-ltb, cases_lt}
use Rattle.words.specs.declared.part.Part.{Part}
use Rattle.terms.specs.Terms.{Term, var, con, fun, Terms, nil, ◌▸◌, count}
use Rattle.terms.specs.Options.{onward, more, ahead, and_then}
use Rattle.terms.specs.Signatures.{Signature}
use Rattle.terms.specs.Roots.{Root, variable, head, call, number, Stands, root_args}
use Rattle.words.specs.Words.{word, words, Fits, AllFit}
use Rattle.words.specs.Ends.{end_of, part_end}
use Rattle.terms.specs.Positions.{part, part_of, graft, graft_in}
use Rattle.words.specs.Places.{place, part_at}
use Rattle.words.specs.Statements.{Cuts, CutsPart}
use Rattle.terms.proofs.Letters.{zero_one}
use Rattle.terms.proofs.Roots.{arity_back}
use Rattle.terms.proofs.Options.{ahead_zero, ahead_ahead, more_ahead}
use Rattle.words.proofs.Ends.{end_word, part_ends}

-- one letter further on
more_then : (F : List ℕ → Option ℕ) (x : ℕ) (w : List ℕ) (o : Option ℕ) → and_then (more o) (λ n. F (drop n (x ∷ w))) ≡ more (and_then o (λ n. F (drop n w)))
more_then F x w None = refl
more_then F x w (Some n) = ap (λ k. ahead (n + 1) (F (drop k (x ∷ w)))) (add-one n) ∙ sym (more_ahead n (F (drop n w)))

-- a word further on
ahead_then : (F : List ℕ → Option ℕ) (u w : List ℕ) (o : Option ℕ) → and_then (ahead (length u) o) (λ n. F (drop n (u ++ w))) ≡ ahead (length u) (and_then o (λ n. F (drop n w)))
ahead_then F u w None = refl
ahead_then F u w (Some n) =
    ap (λ (v : List ℕ). ahead (length u + n) (F v)) (sym (drop-drop n (length u) (u ++ w)) ∙ ap (drop n) (drop_at u w (length u) refl))
    ∙ sym (ahead_ahead (length u) n (F (drop n w)))

-- the part u of t stands in the word between two words that stay when another term is put in its place
record Cut (S : Signature) (t : Term) (p : List ℕ) (u : Term) : Type 0 where
  before : List ℕ
  after : List ℕ
  is_cut : word t ≡ before ++ (word u ++ after)
  is_grafted : (s : Term) → word (graft t p s) ≡ before ++ (word s ++ after)
  is_placed : (w : List ℕ) → place S p (word t ++ w) ≡ Some (length before)
  fits : Fits S u

-- the same among arguments
record CutIn (S : Signature) (ts : Terms) (j : ℕ) (p : List ℕ) (u : Term) : Type 0 where
  before : List ℕ
  after : List ℕ
  is_cut : words ts ≡ before ++ (word u ++ after)
  is_grafted : (s : Term) → words (graft_in ts (suc j) p s) ≡ before ++ (word s ++ after)
  is_placed : (w : List ℕ) → and_then (end_of S j (words ts ++ w)) (λ n. place S p (drop n (words ts ++ w))) ≡ Some (length before)
  fits : Fits S u
  within : j < count ts

module _ (S : Signature) where
  -- the argument j + 1 of a root over terms in a row
  argument : (r : Root) (ts : Terms) (j : ℕ) (p w : List ℕ) → Stands S r → count ts ≡ length (root_args S r) → j < count ts
      → place S (suc j ∷ p) (number r ∷ (words ts ++ w)) ≡ more (and_then (end_of S j (words ts ++ w)) (λ n. place S p (drop n (words ts ++ w))))
  argument r ts j p w h e l =
      let x : ℕ = number r in
      let W : List ℕ = words ts ++ w in
      ap (λ (a : Option ℕ). and_then (onward a (λ n. cond (ltb j n) (more (end_of S j W)) None)) (λ n. place S p (drop n (x ∷ W)))) (arity_back S r h ∙ ap Some (sym e))
      ∙ ap (λ (o : Option ℕ). and_then o (λ n. place S p (drop n (x ∷ W)))) (cond-true (ltb j (count ts)) _ _ (lt-ltb j (count ts) l))
      ∙ more_then (place S p) x W (end_of S j W)

  no_argument : (r : Root) (ts : Terms) (j : ℕ) (p w : List ℕ) → Stands S r → count ts ≡ length (root_args S r) → count ts ≤ j → place S (suc j ∷ p) (number r ∷ w) ≡ None
  no_argument r ts j p w h e l =
      ap (λ (a : Option ℕ). and_then (onward a (λ n. cond (ltb j n) (more (end_of S j w)) None)) (λ n. place S p (drop n (number r ∷ w)))) (arity_back S r h ∙ ap Some (sym e))
      ∙ ap (λ (o : Option ℕ). and_then o (λ n. place S p (drop n (number r ∷ w)))) (cond-false (ltb j (count ts)) _ _ (le-ltb j (count ts) l))

  here : (t : Term) → Fits S t → (u : Term) → Some t ≡ Some u → (graft t [] ≡ λ s. s) → Cut S t [] u
  here t f u e g =
      let q : t ≡ u = cc in
      subst (Cut S t []) q (record { before = []; after = []; is_cut = sym (append-nil (word t)); is_grafted = λ s. ap (λ (k : Term → Term). word (k s)) g ∙ sym (append-nil (word s)); is_placed = λ w. refl; fits = f })

  -- below a root: what both kinds of root share
  module _ (r : Root) (ts : Terms) (h : Stands S r) (e : count ts ≡ length (root_args S r)) (p : List ℕ) where
    below : (t : Term) (j : ℕ) (u : Term) → word t ≡ number r ∷ words ts → ((s : Term) → word (graft t (suc j ∷ p) s) ≡ number r ∷ words (graft_in ts (suc j) p s)) → CutIn S ts j p u → Cut S t (suc j ∷ p) u
    below t j u is g c =
        record {
          before = number r ∷ c.before;
          after = c.after;
          is_cut = is ∙ ap (λ (v : List ℕ). number r ∷ v) c.is_cut;
          is_grafted = λ s. g s ∙ ap (λ (v : List ℕ). number r ∷ v) (c.is_grafted s);
          is_placed = λ w. ap (λ (v : List ℕ). place S (suc j ∷ p) (v ++ w)) is ∙ argument r ts j p w h e c.within ∙ ap more (c.is_placed w) ∙ ap Some (add-one (length c.before));
          fits = c.fits;
        }

    none_below : (t : Term) (i : ℕ) → word t ≡ number r ∷ words ts
        → ((j : ℕ) → i ≡ suc j → j < count ts → (w : List ℕ) → and_then (end_of S j (words ts ++ w)) (λ n. place S p (drop n (words ts ++ w))) ≡ None)
        → (w : List ℕ) → place S (i ∷ p) (word t ++ w) ≡ None
    none_below t zero is n w = ap (λ (v : List ℕ). place S (0 ∷ p) (v ++ w)) is
    none_below t (suc j) is n w =
        ap (λ (v : List ℕ). place S (suc j ∷ p) (v ++ w)) is
        ∙ ⊎_elim (λ l. argument r ts j p w h e l ∙ ap more (n j refl l w)) (λ l. no_argument r ts j p (words ts ++ w) h e l) (cases_lt j (count ts))

  no_zero : (ts : Terms) (p : List ℕ) (u : Term) → part_of ts 0 p ≡ Some u → ⊥
  no_zero nil p u e = zero_one (cc)
  no_zero (t ▸ ts) p u e = zero_one (cc)

  past_one : (t : Term) (ts : Terms) (j : ℕ) (p w : List ℕ) → Fits S t
      → and_then (end_of S (suc j) ((word t ++ words ts) ++ w)) (λ n. place S p (drop n ((word t ++ words ts) ++ w)))
      ≡ ahead (length (word t)) (and_then (end_of S j (words ts ++ w)) (λ n. place S p (drop n (words ts ++ w))))
  past_one t ts j p w f =
      ap (λ (v : List ℕ). and_then (end_of S (suc j) v) (λ n. place S p (drop n v))) (append_assoc (word t) (words ts) w)
      ∙ ap (λ (o : Option ℕ). and_then o (λ n. place S p (drop n (word t ++ (words ts ++ w))))) (end_word S t j (words ts ++ w) f)
      ∙ ahead_then (place S p) (word t) (words ts ++ w) (end_of S j (words ts ++ w))

  mutual
    cut : (t : Term) (p : List ℕ) (u : Term) → Fits S t → part t p ≡ Some u → Cut S t p u
    cut (var v) [] u f e = here (var v) f u e refl
    cut (var v) (i ∷ p) u f e = absurd (zero_one (cc))
    cut (con c ts) [] u f e = here (con c ts) f u e refl
    cut (con c ts) (zero ∷ p) u f e = absurd (no_zero ts p u e)
    cut (con c ts) (suc j ∷ p) u f e = below (head c) ts f.0 f.1 p (con c ts) j u refl (λ s. refl) (cut_in ts j p u f.2 e)
    cut (fun g ts) [] u f e = here (fun g ts) f u e refl
    cut (fun g ts) (zero ∷ p) u f e = absurd (no_zero ts p u e)
    cut (fun g ts) (suc j ∷ p) u f e = below (call g) ts f.0 f.1 p (fun g ts) j u refl (λ s. refl) (cut_in ts j p u f.2 e)

    cut_in : (ts : Terms) (j : ℕ) (p : List ℕ) (u : Term) → AllFit S ts → part_of ts (suc j) p ≡ Some u → CutIn S ts j p u
    cut_in nil j p u f e = absurd (zero_one (cc))
    cut_in (t ▸ ts) zero p u f e =
        let c = cut t p u f.0 e in
        let on = λ (v : List ℕ). append_assoc c.before (v ++ c.after) (words ts) ∙ ap (λ (q : List ℕ). c.before ++ q) (append_assoc v c.after (words ts)) in
        record {
          before = c.before;
          after = c.after ++ words ts;
          is_cut = ap (λ (v : List ℕ). v ++ words ts) c.is_cut ∙ on (word u);
          is_grafted = λ s. ap (λ (v : List ℕ). v ++ words ts) (c.is_grafted s) ∙ on (word s);
          is_placed = λ w. ahead_zero (place S p ((word t ++ words ts) ++ w)) ∙ ap (place S p) (append_assoc (word t) (words ts) w) ∙ c.is_placed (words ts ++ w);
          fits = c.fits;
          within = omega arith;
        }
    cut_in (t ▸ ts) (suc j) p u f e =
        let c = cut_in ts j p u f.1 e in
        let l = c.within in
        record {
          before = word t ++ c.before;
          after = c.after;
          is_cut = ap (λ (v : List ℕ). word t ++ v) c.is_cut ∙ sym (append_assoc (word t) c.before (word u ++ c.after));
          is_grafted = λ s. ap (λ (v : List ℕ). word t ++ v) (c.is_grafted s) ∙ sym (append_assoc (word t) c.before (word s ++ c.after));
          is_placed = λ w. past_one t ts j p w f.0 ∙ ap (ahead (length (word t))) (c.is_placed w) ∙ ap Some (sym (length-append (word t) c.before));
          fits = c.fits;
          within = omega arith;
        }

  mutual
    no_cut : (t : Term) (p : List ℕ) → Fits S t → part t p ≡ None → (w : List ℕ) → place S p (word t ++ w) ≡ None
    no_cut (var v) [] f e w = absurd (zero_one (cc))
    no_cut (var v) (i ∷ p) f e w = none_below (variable v) nil f refl p (var v) i refl (λ j q l. absurd (omega arith)) w
    no_cut (con c ts) [] f e w = absurd (zero_one (cc))
    no_cut (con c ts) (i ∷ p) f e w = none_below (head c) ts f.0 f.1 p (con c ts) i refl (λ j q l. no_cut_in ts j p f.2 (ap (λ k. part_of ts k p) (sym q) ∙ e) l) w
    no_cut (fun g ts) [] f e w = absurd (zero_one (cc))
    no_cut (fun g ts) (i ∷ p) f e w = none_below (call g) ts f.0 f.1 p (fun g ts) i refl (λ j q l. no_cut_in ts j p f.2 (ap (λ k. part_of ts k p) (sym q) ∙ e) l) w

    no_cut_in : (ts : Terms) (j : ℕ) (p : List ℕ) → AllFit S ts → part_of ts (suc j) p ≡ None → j < count ts → (w : List ℕ)
        → and_then (end_of S j (words ts ++ w)) (λ n. place S p (drop n (words ts ++ w))) ≡ None
    no_cut_in nil j p f e l w = absurd (omega arith)
    no_cut_in (t ▸ ts) zero p f e l w = ahead_zero (place S p ((word t ++ words ts) ++ w)) ∙ ap (place S p) (append_assoc (word t) (words ts) w) ∙ no_cut t p f.0 e (words ts ++ w)
    no_cut_in (t ▸ ts) (suc j) p f e l w = past_one t ts j p w f.0 ∙ ap (ahead (length (word t))) (no_cut_in ts j p f.1 e (omega arith) w)

  -- by place and length
  pub part_from : (p w : List ℕ) (n : ℕ) (r : Option ℕ) → place S p w ≡ Some n → part_end S (drop n w) ≡ r → part_at S p w ≡ option_map (λ l. record { start = n; len = l }) r
  part_from p w n r a e =
      ap (λ (q : Option ℕ). onward q (λ m. option_map (λ l. record { start = m; len = l }) (part_end S (drop m w)))) a ∙ ap (option_map (λ l. record { start = n; len = l })) e

  pub no_part_from : (p w : List ℕ) → place S p w ≡ None → part_at S p w ≡ None
  no_part_from p w a = ap (λ (q : Option ℕ). onward q (λ m. option_map (λ l. record { start = m; len = l }) (part_end S (drop m w)))) a

  cuts : (t : Term) (p : List ℕ) (o : Option Term) → Fits S t → part t p ≡ o → Cuts t p (word t) o (part_at S p (word t))
  cuts t p None f e = no_part_from p (word t) (ap (place S p) (sym (append-nil (word t))) ∙ no_cut t p f e [])
  cuts t p (Some u) f e =
      let c = cut t p u f e in
      let b : List ℕ = c.before in
      let a : List ℕ = c.after in
      let n : ℕ = length b in
      let m : ℕ = length (word u) in
      let pl : place S p (word t) ≡ Some n = ap (place S p) (sym (append-nil (word t))) ∙ c.is_placed [] in
      let d : drop n (word t) ≡ word u ++ a = ap (drop n) c.is_cut ∙ drop_at b (word u ++ a) n refl in
      let tk : take n (word t) ≡ b = ap (take n) c.is_cut ∙ take_at b (word u ++ a) n refl in
      let dr : drop (n + m) (word t) ≡ a = sym (drop-drop m n (word t)) ∙ ap (drop m) d ∙ drop_at (word u) a m refl in (
        record { start = n; len = m },
        part_from p (word t) n (Some m) pl (ap (part_end S) d ∙ part_ends S u a c.fits),
        ap (take m) d ∙ take_at (word u) a m refl,
        λ s. ap₂ (λ (x y : List ℕ). x ++ (word s ++ y)) tk dr ∙ sym (c.is_grafted s),
      )

  pub cuts_part : (p w : List ℕ) → CutsPart S p w (part_at S p w)
  cuts_part p w t f e = subst (λ (v : List ℕ). Cuts t p v (part t p) (part_at S p v)) e (cuts t p (part t p) f refl)

  pub cuts_of : (p w : List ℕ) (r : Option Part) → r ≡ part_at S p w → CutsPart S p w r
  cuts_of p w r e = subst (CutsPart S p w) (sym e) (cuts_part p w)
