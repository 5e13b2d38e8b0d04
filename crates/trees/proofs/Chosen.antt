-- The rules that a mask leaves, and the rules of a draft by their places.
use Rattle.std.proofs.Common.{◌≡◌, ℕ, zero, suc, ◌+◌, ◌-◌, ◌^◌, ◌<◌, ◌≤◌, Bool, true, false, cond, not, ◌||◌, eqb, List, [], ◌∷◌, ◌++◌, map, length, get_or, drop, Some, None, Option, sym, refl, ap, ◌∙◌, add-one, arith, option_map, filter}
use mathlib.Core.List.{Memᴰ}
use Rattle.std.specs.List.{slice_get}
use Rattle.std.specs.Option.{MatchOption}
use Rattle.std.proofs.lemmas.List.{drop_all}
use Rattle.std.proofs.lemmas.Bool.Decides.{same_from_decides, Decides-eqb, Decides-like}
use Rattle.terms.specs.Terms.{Head, cell, symbol}
use Rattle.terms.specs.Options.{onward, passes}
use Rattle.terms.proofs.Letters.{zero_one}
use Rattle.words.specs.Words.{word}
use Rattle.rewriting.specs.Rules.{Rule, left_side}
use Rattle.rewriting.specs.FixedTree.{same_head, constructor_at, has_at, without, joined, constructors_at}
use Rattle.rewriting.proofs.Lists.{kept_all}
use Rattle.drafts.specs.declared.draft.Draft.{Draft as Store}
use Rattle.drafts.specs.Rules.{starts_with}
use Rattle.drafts.specs.Books.{book_of}
use Rattle.drafts.specs.Stores.{seen}
use Rattle.drafts.proofs.Kept.{eqb_swap}
use Rattle.trees.proofs.Places.{nth_there}
use Rattle.trees.proofs.LeftSides.{left_at}
use Rattle.trees.specs.Rows.{head_symbol, chosen, heads_at, is_head, is_met, put, new_heads, IsNext}

-- one step of a choice, and its end
chosen_step : (i : ℕ) (m : List Bool) (R : List Rule) (b d : Bool) (r : Rule) → i < length m → slice_get R i ≡ Some r → b ≡ get_or m i d
    → chosen (drop i m) (drop i R) ≡ cond b (r ∷ chosen (drop (suc i) m) (drop (suc i) R)) (chosen (drop (suc i) m) (drop (suc i) R))
chosen_step i [] R b d r h e f = absurd (omega arith)
chosen_step i (x ∷ m) [] b d r h e f = absurd (zero_one (cc))
chosen_step zero (x ∷ m) (q ∷ R) b d r h e f = let g : q ≡ r = cc in cc
chosen_step (suc i) (x ∷ m) (q ∷ R) b d r h e f = chosen_step i m R b d r (omega arith) e f

pub chosen_more : (i : ℕ) (m : List Bool) (R : List Rule) (b d : Bool) (r : Rule) → i < length m → slice_get R i ≡ Some r → b ≡ get_or m i d
    → chosen (drop i m) (drop i R) ≡ cond b (r ∷ chosen (drop (i + 1) m) (drop (i + 1) R)) (chosen (drop (i + 1) m) (drop (i + 1) R))
chosen_more i m R b d r h e f = chosen_step i m R b d r h e f ∙ ap (λ (j : ℕ). cond b (r ∷ chosen (drop j m) (drop j R)) (chosen (drop j m) (drop j R))) (sym (add-one i))

chosen_nil : (m : List Bool) → chosen m [] ≡ []
chosen_nil [] = refl
chosen_nil (b ∷ m) = refl

pub chosen_end : (i : ℕ) (m : List Bool) (R : List Rule) → length R ≤ i → chosen (drop i m) (drop i R) ≡ []
chosen_end i m R h = ap (chosen (drop i m)) (drop_all i R h) ∙ chosen_nil (drop i m)

-- rules that a mask leaves out are passed over
chosen_skip : (n i : ℕ) (m : List Bool) (R : List Rule) → i + n ≤ length R → length R ≤ length m → ((k : ℕ) → i ≤ k → k < i + n → get_or m k false ≡ false) → chosen (drop i m) (drop i R) ≡ chosen (drop (i + n) m) (drop (i + n) R)
chosen_skip zero i m R h l out = let e : i ≡ i + 0 = omega arith in ap (λ (j : ℕ). chosen (drop j m) (drop j R)) e
chosen_skip (suc n) i m R h l out =
    let r = nth_there R i (omega arith) in
    let e : (i + 1) + n ≡ i + suc n = omega arith in
    chosen_more i m R false false r.0 (omega arith) r.1 (sym (out i (omega arith) (omega arith)))
    ∙ chosen_skip n (i + 1) m R (omega arith) l (λ k a b. out k (omega arith) (omega arith))
    ∙ ap (λ (j : ℕ). chosen (drop j m) (drop j R)) e

-- the first place from i on that the mask leaves, as a search told
pub next_found : (m : List Bool) (R : List Rule) (i n : ℕ) (r : Option ℕ) → length R ≤ length m → n ≡ length R → i ≤ n
    → MatchOption r ((k : ℕ) → i ≤ k → k < n → get_or m k false ≡ false) (λ j. (i ≤ j) × (j < n) × (get_or m j false ≡ true) × ((k : ℕ) → i ≤ k → k < j → get_or m k false ≡ false)) → IsNext m R i r
next_found m R i n None l e f h =
    let s : i + (n - i) ≡ n = omega arith in
    chosen_skip (n - i) i m R (omega arith) l (λ k a b. h k a (omega arith)) ∙ chosen_end (i + (n - i)) m R (omega arith)
next_found m R i n (Some j) l e f h =
    let a = h.0 in
    let b = h.1 in
    let s : i + (j - i) ≡ j = omega arith in
    let r = nth_there R j (omega arith) in
    (r.0, r.1, chosen_skip (j - i) i m R (omega arith) l (λ k x y. h.3 k x (omega arith)) ∙ ap (λ (k : ℕ). chosen (drop k m) (drop k R)) s ∙ chosen_more j m R true false r.0 (omega arith) r.1 (sym h.2))

-- a mask that has a test's answer at the place of each rule
pub chosen_places : (t : Rule → Bool) (m : List Bool) (R : List Rule) → length R ≤ length m → ((k : ℕ) → k < length R → get_or m k false ≡ passes t (slice_get R k)) → chosen m R ≡ filter t R
chosen_places t m [] l h = chosen_nil m
chosen_places t [] (r ∷ R) l h = absurd (omega arith)
chosen_places t (b ∷ m) (r ∷ R) l h =
    let e : b ≡ t r = h 0 (omega arith) in
    let q = chosen_places t m R (omega arith) (λ k i. h (suc k) (omega arith)) in
    cc

-- a rule is one of a function where its left side starts with the function's letter
same_letter : (f g : ℕ) → eqb (2 ^ 32 + f) (2 ^ 32 + g) ≡ eqb f g
same_letter f g = same_from_decides (eqb (2 ^ 32 + f) (2 ^ 32 + g)) (eqb f g) (Decides-eqb (2 ^ 32 + f) (2 ^ 32 + g)) (Decides-like (eqb f g) (ap (λ (n : ℕ). 2 ^ 32 + n)) (λ e. omega arith) (Decides-eqb f g))

starts_rule : (f : ℕ) (o : Option Rule) → passes (starts_with f) (option_map (λ r. word (left_side r)) o) ≡ passes (λ q. eqb q.function f) o
starts_rule f None = refl
starts_rule f (Some r) = same_letter r.function f

pub starts_at : (a : Store) (i f : ℕ) (o : Option (List ℕ)) → o ≡ option_map (λ q. q.left) (slice_get (seen a).rules i) → passes (starts_with f) o ≡ passes (λ q. eqb q.function f) (slice_get (book_of (seen a)).rules i)
starts_at a i f o e = ap (passes (starts_with f)) (e ∙ left_at a i) ∙ starts_rule f (slice_get (book_of (seen a)).rules i)

-- no rule has a cell at a position
abbrev pub CellsNone : List ℕ → List Rule → Type 0
CellsNone p R = (r : Rule) → Memᴰ r R → (n : ℕ) → constructor_at p r ≡ Some (cell n) → ⊥

-- the rules that have a symbol at a position
has_symbol : (s : ℕ) (o : Option Head) → passes (eqb s) (onward o head_symbol) ≡ passes (same_head (symbol s)) o
has_symbol s None = refl
has_symbol s (Some (cell n)) = refl
has_symbol s (Some (symbol z)) = refl

pub chosen_kept : (p : List ℕ) (s : ℕ) (m : List Bool) (R : List Rule) → chosen (map (is_head s) (heads_at p m R)) R ≡ filter (has_at p (symbol s)) (chosen m R)
chosen_kept p s [] R = refl
chosen_kept p s (b ∷ m) [] = refl
chosen_kept p s (false ∷ m) (r ∷ R) = chosen_kept p s m R
chosen_kept p s (true ∷ m) (r ∷ R) = let e = has_symbol s (constructor_at p r) in let q = chosen_kept p s m R in cc

-- the constructors that earlier places do not have
abbrev unmet : List (Option ℕ) → Head → Bool
unmet before (cell n) = true
unmet before (symbol s) = not (is_met s before)

met_push : (s : ℕ) (hs : List (Option ℕ)) (h : Option ℕ) → is_met s (hs ++ (h ∷ [])) ≡ (is_head s h || is_met s hs)
met_push s [] h = refl
met_push s (x ∷ hs) h = ap (λ b. is_head s x || b) (met_push s hs h) ∙ or_swap (is_head s x) (is_head s h) (is_met s hs)
  where
    or_swap : (x y z : Bool) → (x || (y || z)) ≡ (y || (x || z))
    or_swap true true z = refl
    or_swap true false z = refl
    or_swap false true z = refl
    or_swap false false z = refl

kept_same : {A : Type 0} (t u : A → Bool) → ((x : A) → t x ≡ u x) → (xs : List A) → filter t xs ≡ filter u xs
kept_same t u h [] = refl
kept_same t u h (x ∷ xs) = let e = h x in let q = kept_same t u h xs in cc

kept_without : (t : Head → Bool) (c : Head) (ds : List Head) → filter t (without c ds) ≡ filter (λ d. cond (same_head c d) false (t d)) ds
kept_without t c [] = refl
kept_without t c (d ∷ ds) = go (same_head c d) (kept_without t c ds)
  where
    go : (b : Bool) → filter t (without c ds) ≡ filter (λ d. cond (same_head c d) false (t d)) ds
        → filter t (cond (not b) (d ∷ without c ds) (without c ds)) ≡ cond (cond b false (t d)) (d ∷ filter (λ d. cond (same_head c d) false (t d)) ds) (filter (λ d. cond (same_head c d) false (t d)) ds)
    go true e = e
    go false e = cc

unmet_none : (before : List (Option ℕ)) (c : Head) → unmet before c ≡ unmet (before ++ (None ∷ [])) c
unmet_none before (cell n) = refl
unmet_none before (symbol s) = ap not (sym (met_push s before None))

unmet_some : (before : List (Option ℕ)) (s : ℕ) (c : Head) → cond (same_head (symbol s) c) false (unmet before c) ≡ unmet (before ++ (Some s ∷ [])) c
unmet_some before s (cell n) = refl
unmet_some before s (symbol z) = go (eqb s z) (is_met z before) ∙ ap (λ b. not (b || is_met z before)) (eqb_swap s z) ∙ ap not (sym (met_push z before (Some s)))
  where
    go : (x y : Bool) → cond x false (not y) ≡ not (x || y)
    go true y = refl
    go false y = refl

-- what is left of some constructors is what is new at some places
abbrev New : List (Option ℕ) → List Head → List (Option ℕ) → Type 0
New before cs hs = filter (unmet before) cs ≡ map symbol (new_heads before hs)

new_none : (before : List (Option ℕ)) (cs : List Head) (hs : List (Option ℕ)) → New (before ++ (None ∷ [])) cs hs → New before cs (None ∷ hs)
new_none before cs hs e = kept_same (unmet before) (unmet (before ++ (None ∷ []))) (unmet_none before) cs ∙ e

new_some : (before : List (Option ℕ)) (s : ℕ) (cs : List Head) (hs : List (Option ℕ)) → New (before ++ (Some s ∷ [])) cs hs → New before (symbol s ∷ without (symbol s) cs) (Some s ∷ hs)
new_some before s cs hs e =
    go (is_met s before) (new_heads (before ++ (Some s ∷ [])) hs) (kept_without (unmet before) (symbol s) cs ∙ kept_same _ (unmet (before ++ (Some s ∷ []))) (unmet_some before s) cs ∙ e)
  where
    go : (b : Bool) {ds : List Head} (ss : List ℕ) → ds ≡ map symbol ss → cond (not b) (symbol s ∷ ds) ds ≡ map symbol (put (cond b None (Some s)) ss)
    go true ss q = q
    go false ss q = ap (λ (es : List Head). symbol s ∷ es) q

new_at : (before : List (Option ℕ)) (o : Option Head) (cs : List Head) (hs : List (Option ℕ)) → ((n : ℕ) → o ≡ Some (cell n) → ⊥) → ((h : Option ℕ) → New (before ++ (h ∷ [])) cs hs) → New before (joined o cs) (onward o head_symbol ∷ hs)
new_at before None cs hs h e = new_none before cs hs (e None)
new_at before (Some (cell n)) cs hs h e = absurd (h n refl)
new_at before (Some (symbol s)) cs hs h e = new_some before s cs hs (e (Some s))

constructors_unmet : (p : List ℕ) (before : List (Option ℕ)) (m : List Bool) (R : List Rule) → CellsNone p R → New before (constructors_at p (chosen m R)) (heads_at p m R)
constructors_unmet p before [] R h = refl
constructors_unmet p before (b ∷ m) [] h =
    new_none before [] (heads_at p m []) (ap (λ (R : List Rule). filter (unmet (before ++ (None ∷ []))) (constructors_at p R)) (sym (chosen_nil m)) ∙ constructors_unmet p (before ++ (None ∷ [])) m [] h)
constructors_unmet p before (false ∷ m) (r ∷ R) h = new_none before (constructors_at p (chosen m R)) (heads_at p m R) (constructors_unmet p (before ++ (None ∷ [])) m R (λ q i. h q (Memᴰ.tail i)))
constructors_unmet p before (true ∷ m) (r ∷ R) h =
    new_at before (constructor_at p r) (constructors_at p (chosen m R)) (heads_at p m R) (h r (Memᴰ.head refl)) (λ x. constructors_unmet p (before ++ (x ∷ [])) m R (λ q i. h q (Memᴰ.tail i)))

unmet_all : (c : Head) → unmet [] c ≡ true
unmet_all (cell n) = refl
unmet_all (symbol s) = refl

pub constructors_new : (p : List ℕ) (m : List Bool) (R : List Rule) → CellsNone p R → constructors_at p (chosen m R) ≡ map symbol (new_heads [] (heads_at p m R))
constructors_new p m R h = sym (kept_all (unmet []) (constructors_at p (chosen m R)) (λ c i. unmet_all c)) ∙ constructors_unmet p [] m R h
