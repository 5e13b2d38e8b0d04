-- Loops over the symbols that rules have at a position, and over the symbols of a signature.
use Rattle.std.proofs.Common.{◌≡◌, ℕ, zero, suc, ◌+◌, ◌<◌, Bool, true, false, cond, not, ◌&&◌, ◌||◌, eqb, List, [], ◌∷◌, ◌++◌, map, length, get_or, drop, Some, None, Option, sym, refl, ap, ◌∙◌, inl, inr, add-one, ap₂, arith, option_map}
use mathlib.Core.Bool.{or_assoc}
use Rattle.std.specs.List.{slice_get, list_any, list_all, range_with_len}
use Rattle.std.specs.Option.{option_eq}
use Rattle.std.proofs.lemmas.Bool.{eqb-true, or_cases, or_parts}
use Rattle.std.proofs.lemmas.Bool.Decides.{same_from_decides, Decides-eqb, Decides-like}
use Rattle.terms.specs.declared.signature.Role.{Role}
use Rattle.terms.specs.declared.signature.Role.TheVariants.{Constructor}
use Rattle.terms.specs.Terms.{Head, symbol}
use Rattle.terms.specs.Options.{passes}
use Rattle.terms.specs.Signatures.{Declaration, Signature}
use Rattle.terms.specs.Roots.{is_constructor}
use Rattle.terms.specs.Sorting.{head_sort, sort_in}
use Rattle.terms.proofs.Letters.{zero_one}
use Rattle.rewriting.specs.FixedTree.{same_head}
use Rattle.rewriting.specs.Completeness.{is_among, makes, is_met as meets, all_met, covers}
use Rattle.trees.specs.Rows.{is_head, is_met, put, new_heads, there}

-- the code's comparison with a symbol is the test of a place
pub compares : (h : Option ℕ) (s : ℕ) (r : Bool) → r ≡ option_eq eqb h (Some s) → r ≡ is_head s h
compares None s r e = e
compares (Some x) s r e = e ∙ same_from_decides (eqb x s) (eqb s x) (Decides-eqb x s) (Decides-like (eqb s x) sym sym (Decides-eqb s x))

-- a list that has at each place what a function gives there is the map of another
pub mapped : {A B : Type 0} (f : A → B) (xs : List A) (ys : List B) (d : A) → length ys ≡ length xs → ((k : ℕ) → k < length xs → get_or ys k (f d) ≡ f (get_or xs k d)) → ys ≡ map f xs
mapped f [] [] d l h = refl
mapped f [] (y ∷ ys) d l h = absurd (omega arith)
mapped f (x ∷ xs) [] d l h = absurd (omega arith)
mapped f (x ∷ xs) (y ∷ ys) d l h =
    let e : y ≡ f x = h 0 (omega arith) in
    let q = mapped f xs ys d (omega arith) (λ k i. h (suc k) (omega arith)) in
    cc

-- the test of Rattle's library that a symbol is among places
pub contains_met : (s : ℕ) (hs : List (Option ℕ)) → list_any (λ h. option_eq eqb h (Some s)) hs ≡ is_met s hs
contains_met s [] = refl
contains_met s (h ∷ hs) = let e = compares h s (option_eq eqb h (Some s)) refl in let q = contains_met s hs in cc

-- whether the symbol of some place is of a sort
pub any_makes : (S : Signature) (k : ℕ) (hs : List (Option ℕ)) → list_any (λ h. passes (λ s. eqb (head_sort S (symbol s)) k) h) hs ≡ makes S k (there hs)
any_makes S k [] = refl
any_makes S k (None ∷ hs) = any_makes S k hs
any_makes S k (Some s ∷ hs) = ap (λ b. eqb (head_sort S (symbol s)) k || b) (any_makes S k hs)

-- the symbols of a signature, by their numbers
nil_cons : {A : Type 0} (x : A) (xs : List A) → [] ≡ x ∷ xs → ⊥
nil_cons x xs e = cc

pub covers_listed : (S : Signature) (cs : List Head) → list_all (λ i. passes (meets S cs i) (slice_get S.symbols i)) (range_with_len 0 (length S.symbols)) ≡ covers S cs
covers_listed S cs = go 0 S.symbols refl
  where
    next : (d : Declaration) (ds : List Declaration) (j : ℕ) (xs : List Declaration) → drop j xs ≡ d ∷ ds → (slice_get xs j ≡ Some d) × (drop (j + 1) xs ≡ ds)
    next d ds zero [] f = absurd (nil_cons d ds f)
    next d ds (suc j) [] f = absurd (nil_cons d ds f)
    next d ds zero (x ∷ xs) f = let e : x ≡ d = cc in let g : xs ≡ ds = cc in (ap Some e, g)
    next d ds (suc j) (x ∷ xs) f = let n = next d ds j xs f in let e : suc j + 1 ≡ suc (j + 1) = omega arith in (n.0, ap (λ (k : ℕ). drop k (x ∷ xs)) e ∙ n.1)

    go : (s : ℕ) (ds : List Declaration) → drop s S.symbols ≡ ds → list_all (λ i. passes (meets S cs i) (slice_get S.symbols i)) (range_with_len s (length ds)) ≡ all_met S cs s ds
    go s [] e = refl
    go s (d ∷ ds) e =
        let n = next d ds s S.symbols e in
        let q = go (s + 1) ds n.1 in
        ap₂ (λ (o : Option Declaration) (b : Bool). passes (meets S cs s) o && b) n.0 (q ∙ ap (λ (j : ℕ). all_met S cs j ds) (add-one s))

-- the constructors of some places
pub among_there : (s : ℕ) (hs : List (Option ℕ)) → is_among (symbol s) (there hs) ≡ is_met s hs
among_there s [] = refl
among_there s (None ∷ hs) = among_there s hs
among_there s (Some z ∷ hs) = ap (λ b. eqb s z || b) (among_there s hs)

-- a constructor of a sort that is made is covered where it is met
pub covered_met : (S : Signature) (cs : List Head) (s : ℕ) (o : Option Declaration) → option_map (λ d. d.role) o ≡ Some Constructor → makes S (sort_in o) cs ≡ true → passes (meets S cs s) o ≡ is_among (symbol s) cs
covered_met S cs s None h m = absurd (zero_one (cc))
covered_met S cs s (Some d) h m =
    let q : d.role ≡ Constructor = cc in
    ap (λ (r : Role). not (is_constructor r && makes S d.sort cs) || is_among (symbol s) cs) q ∙ ap (λ (b : Bool). not b || is_among (symbol s) cs) m

-- a test passes at one of the constructors of some places as it does at one of the new symbols
module _ (q : Head → Bool) where
  abbrev some_of : List Head → Bool
  some_of [] = false
  some_of (d ∷ ds) = q d || some_of ds

  there_push : (hs : List (Option ℕ)) (h : Option ℕ) → some_of (there (hs ++ (h ∷ []))) ≡ (some_of (there hs) || passes (λ s. q (symbol s)) h)
  there_push [] None = refl
  there_push [] (Some s) = or_none (q (symbol s))
    where
      or_none : (b : Bool) → (b || false) ≡ b
      or_none true = refl
      or_none false = refl
  there_push (None ∷ hs) h = there_push hs h
  there_push (Some z ∷ hs) h = ap (λ b. q (symbol z) || b) (there_push hs h) ∙ sym (or_assoc (q (symbol z)) (some_of (there hs)) (passes (λ s. q (symbol s)) h))

  met_fails : (s : ℕ) (hs : List (Option ℕ)) → is_met s hs ≡ true → some_of (there hs) ≡ false → q (symbol s) ≡ false
  met_fails s [] m e = absurd (zero_one (cc))
  met_fails s (None ∷ hs) m e = met_fails s hs m e
  met_fails s (Some z ∷ hs) m e =
      let p = or_parts (q (symbol z)) (some_of (there hs)) e in
      elim (or_cases (eqb s z) (is_met s hs) m) [ inl h ↦ ap (λ (n : ℕ). q (symbol n)) (eqb-true s z h) ∙ p.0 | inr h ↦ met_fails s hs h p.1 ]

  -- the first of the places is one of the earlier ones for what follows
  some_later : (before : List (Option ℕ)) (h : Option ℕ) (t n : Bool) → (some_of (there (before ++ (h ∷ []))) || t) ≡ (some_of (there (before ++ (h ∷ []))) || n)
      → (some_of (there before) || (passes (λ s. q (symbol s)) h || t)) ≡ (some_of (there before) || (passes (λ s. q (symbol s)) h || n))
  some_later before h t n e =
      let b = some_of (there before) in
      let u = passes (λ s. q (symbol s)) h in
      let p = there_push before h in
      sym (or_assoc b u t) ∙ ap (λ x. x || t) (sym p) ∙ e ∙ ap (λ x. x || n) p ∙ or_assoc b u n

  some_new : (before hs : List (Option ℕ)) → (some_of (there before) || some_of (there hs)) ≡ (some_of (there before) || some_of (map symbol (new_heads before hs)))
  some_new before [] = refl
  some_new before (None ∷ hs) = some_later before None (some_of (there hs)) _ (some_new (before ++ (None ∷ [])) hs)
  some_new before (Some s ∷ hs) = go (is_met s before) refl (some_later before (Some s) (some_of (there hs)) _ (some_new (before ++ (Some s ∷ [])) hs))
    where
      already : (b u n : Bool) → (b ≡ false → u ≡ false) → (b || (u || n)) ≡ (b || n)
      already true u n h = refl
      already false u n h = ap (λ x. x || n) (h refl)

      go : (m : Bool) → is_met s before ≡ m → {x : Bool} → x ≡ (some_of (there before) || (q (symbol s) || some_of (map symbol (new_heads (before ++ (Some s ∷ [])) hs))))
          → x ≡ (some_of (there before) || some_of (map symbol (put (cond m None (Some s)) (new_heads (before ++ (Some s ∷ [])) hs))))
      go true e i = i ∙ already (some_of (there before)) (q (symbol s)) _ (met_fails s before e)
      go false e i = i

among_some : (c : Head) (ds : List Head) → is_among c ds ≡ some_of (same_head c) ds
among_some c [] = refl
among_some c (d ∷ ds) = ap (λ b. same_head c d || b) (among_some c ds)

-- a symbol that some places have is one of the new ones
pub among_new : (s : ℕ) (hs : List (Option ℕ)) → is_among (symbol s) (there hs) ≡ is_among (symbol s) (map symbol (new_heads [] hs))
among_new s hs = let ns = map symbol (new_heads [] hs) in among_some (symbol s) (there hs) ∙ some_new (same_head (symbol s)) [] hs ∙ sym (among_some (symbol s) ns)

-- constructors of which the same are there cover the same
module _ (S : Signature) where
  makes_some : (k : ℕ) (ds : List Head) → makes S k ds ≡ some_of (λ d. eqb (head_sort S d) k) ds
  makes_some k [] = refl
  makes_some k (d ∷ ds) = ap (λ b. eqb (head_sort S d) k || b) (makes_some k ds)

  same_met : (cs es : List Head) → ((k : ℕ) → makes S k cs ≡ makes S k es) → ((s : ℕ) → is_among (symbol s) cs ≡ is_among (symbol s) es) → (s : ℕ) (ds : List Declaration) → all_met S cs s ds ≡ all_met S es s ds
  same_met cs es m a s [] = refl
  same_met cs es m a s (d ∷ ds) = let p = m d.sort in let r = a s in let t = same_met cs es m a (suc s) ds in cc

  pub covers_same : (hs : List (Option ℕ)) → covers S (there hs) ≡ covers S (map symbol (new_heads [] hs))
  covers_same hs =
      let ns = map symbol (new_heads [] hs) in
      same_met (there hs) ns
      (λ k. makes_some k (there hs) ∙ some_new (λ d. eqb (head_sort S d) k) [] hs ∙ sym (makes_some k ns))
      (λ s. among_new s hs)
      0
      S.symbols
