-- Positions that the rules which remain share.
use Rattle.std.proofs.Common.{◌≡◌, ℕ, zero, suc, ◌+◌, ◌<◌, ◌≤◌, Bool, true, false, cond, ◌&&◌, ◌≢◌, ◌⊎◌, List, [], ◌∷◌, map, length, get_or, drop, set, replicate, Some, None, Option, sym, refl, ap, ◌∙◌, subst, inl, inr, arith, is_some}
use denote.Ref.{Bor}
use denote.Param.Members.{Mut, Called}
use Rattle.std.specs.Bool.{⊤, IsTrue}
use Rattle.std.specs.Iterator.Runs.{Run, ItemsMapTo, AllItemsGive, IsFirstToGive, CallKeepsClosure}
use Rattle.std.specs.List.{slice_get, AllWithin, HoldsAt}
use Rattle.std.specs.Option.{MatchOption, IsSomeAnd, option_map}
use Rattle.std.proofs.lemmas.List.{ext_get_or, get_or-set_same, get_or-set_other, length-set}
use Rattle.std.proofs.lemmas.Bool.{cases_lt}
use Rattle.terms.specs.Terms.{Head, cell, symbol}
use Rattle.terms.specs.Options.{onward}
use Rattle.terms.proofs.Letters.{zero_one}
use Rattle.rewriting.specs.Rules.{Rule}
use Rattle.rewriting.specs.FixedTree.{constructor_at, all_have, first_shared}
use Rattle.trees.specs.declared.path.Path.{Path}
use Rattle.trees.specs.declared.shared.Shared.{Shared}
use Rattle.trees.specs.Views.{steps_of}
use Rattle.trees.specs.Rows.{chosen, head_symbol, symbol_at, heads_at}
use Rattle.trees.specs.Sharing.{IsShared}
use Rattle.trees.proofs.Places.{nth_there, nth_mem}
use Rattle.trees.proofs.Chosen.{CellsNone, chosen_more, chosen_end}

-- a list of symbols is as long as its mask
length_heads : (p : List ℕ) (m : List Bool) (R : List Rule) → length (heads_at p m R) ≡ length m
length_heads p [] R = refl
length_heads p (b ∷ m) [] = ap suc (length_heads p m [])
length_heads p (b ∷ m) (r ∷ R) = ap suc (length_heads p m R)

-- the symbol of a place
head_here : (p : List ℕ) (m : List Bool) (R : List Rule) (i : ℕ) (b d : Bool) {r : Rule} → i < length m → slice_get R i ≡ Some r → b ≡ get_or m i d → get_or (heads_at p m R) i None ≡ cond b (symbol_at p r) None
head_here p [] R i b d l e h = absurd (omega arith)
head_here p (c ∷ m) [] i b d l e h = absurd (zero_one (cc))
head_here p (c ∷ m) (q ∷ R) zero b d {r} l e h = let i : q ≡ r = cc in ap (λ (x : Bool). cond x (symbol_at p q) None) (sym h) ∙ ap (λ (x : Rule). cond b (symbol_at p x) None) i
head_here p (c ∷ m) (q ∷ R) (suc i) b d l e h = head_here p m R i b d (omega arith) e h

head_past : (p : List ℕ) (m : List Bool) (R : List Rule) (i : ℕ) → length R ≤ i → get_or (heads_at p m R) i None ≡ None
head_past p [] R i l = refl
head_past p (c ∷ m) [] zero l = refl
head_past p (c ∷ m) [] (suc i) l = head_past p m [] i (omega arith)
head_past p (c ∷ m) (q ∷ R) zero l = absurd (omega arith)
head_past p (c ∷ m) (q ∷ R) (suc i) l = head_past p m R i (omega arith)

-- a symbol is there where a constructor is
constructor_symbol : (o : Option Head) {s : ℕ} → onward o head_symbol ≡ Some s → is_some o ≡ true
constructor_symbol None e = absurd (zero_one (cc))
constructor_symbol (Some c) e = refl

no_constructor : (o : Option Head) → ((n : ℕ) → o ≡ Some (cell n) → ⊥) → onward o head_symbol ≡ None → is_some o ≡ false
no_constructor None h e = refl
no_constructor (Some (cell n)) h e = absurd (h n refl)
no_constructor (Some (symbol s)) h e = absurd (zero_one (cc))

pub getD_replicate_same : {A : Type 0} (n k : ℕ) {x : A} → get_or (replicate n x) k x ≡ x
getD_replicate_same zero k = refl
getD_replicate_same (suc n) zero = refl
getD_replicate_same (suc n) (suc k) = getD_replicate_same n k

-- The symbols up to the place i, while every rule that remains has one.
module _ (p : List ℕ) (m : List Bool) (R : List Rule) (cells : CellsNone p R) where
  pub record SharedTo (i : ℕ) (hs : List (Option ℕ)) : Type 0 where
    pub long : length hs ≡ length m
    pub before : (k : ℕ) → k < i → get_or hs k None ≡ get_or (heads_at p m R) k None
    pub behind : (k : ℕ) → i ≤ k → get_or hs k None ≡ None
    pub all : all_have p (chosen (drop i m) (drop i R)) ≡ all_have p (chosen m R)

  module _ (i : ℕ) (hs : List (Option ℕ)) (b d : Bool) (h : SharedTo i hs) (l : i < length m) (k : i < length R) (e : b ≡ get_or m i d) where
    here : (r : Rule) × (slice_get R i ≡ Some r)
    here = nth_there R i k

    one : get_or (heads_at p m R) i None ≡ cond b (symbol_at p here.0) None
    one = head_here p m R i b d l here.1 e

    left : chosen (drop i m) (drop i R) ≡ cond b (here.0 ∷ chosen (drop (i + 1) m) (drop (i + 1) R)) (chosen (drop (i + 1) m) (drop (i + 1) R))
    left = chosen_more i m R b d here.0 l here.1 e

    -- a rule that does not remain
    pub shared_skip : b ≡ false → SharedTo (i + 1) hs
    shared_skip q = record {
      long = h.long;
      before = λ j n. go j n (cases_lt j i);
      behind = λ j n. h.behind j (omega arith);
      all = sym (ap (all_have p) (left ∙ ap (λ (x : Bool). cond x (here.0 ∷ chosen (drop (i + 1) m) (drop (i + 1) R)) (chosen (drop (i + 1) m) (drop (i + 1) R))) q)) ∙ h.all;
    }
      where
        go : (j : ℕ) → j < i + 1 → (j < i) ⊎ (i ≤ j) → get_or hs j None ≡ get_or (heads_at p m R) j None
        go j n (inl x) = h.before j x
        go j n (inr x) =
            let z : i ≡ j = omega arith in
            h.behind j x ∙ sym (ap (λ (y : Bool). cond y (symbol_at p here.0) None) q) ∙ sym one ∙ ap (λ (y : ℕ). get_or (heads_at p m R) y None) z

    -- a rule that remains and has a symbol
    pub shared_more : (s : ℕ) → b ≡ true → Some s ≡ onward (slice_get R i) (symbol_at p) → SharedTo (i + 1) (set hs i (Some s))
    shared_more s q g = record {
      long = length-set hs i (Some s) ∙ h.long;
      before = λ j n. go j n (cases_lt j i);
      behind = λ j n. let z : j ≢ i = omega arith in get_or-set_other hs i j (Some s) None z ∙ h.behind j (omega arith);
      all = ap (λ (x : Bool). x && all_have p (chosen (drop (i + 1) m) (drop (i + 1) R))) (sym (constructor_symbol (constructor_at p here.0) (sym has)))
          ∙ sym (ap (all_have p) (left ∙ ap (λ (x : Bool). cond x (here.0 ∷ chosen (drop (i + 1) m) (drop (i + 1) R)) (chosen (drop (i + 1) m) (drop (i + 1) R))) q)) ∙ h.all;
    }
      where
        has : Some s ≡ symbol_at p here.0
        has = g ∙ ap (λ (o : Option Rule). onward o (symbol_at p)) here.1

        go : (j : ℕ) → j < i + 1 → (j < i) ⊎ (i ≤ j) → get_or (set hs i (Some s)) j None ≡ get_or (heads_at p m R) j None
        go j n (inl x) = let z : j ≢ i = omega arith in get_or-set_other hs i j (Some s) None z ∙ h.before j x
        go j n (inr x) =
            let z : i ≡ j = omega arith in
            let w = h.long in
            subst (λ (y : ℕ). get_or (set hs i (Some s)) y None ≡ get_or (heads_at p m R) y None) z
            (get_or-set_same hs i (Some s) None (omega arith) ∙ has ∙ sym (ap (λ (y : Bool). cond y (symbol_at p here.0) None) q) ∙ sym one)

    -- a rule that remains and has none
    pub shared_stop : b ≡ true → None ≡ onward (slice_get R i) (symbol_at p) → all_have p (chosen m R) ≡ false
    shared_stop q g =
        let has = g ∙ ap (λ (o : Option Rule). onward o (symbol_at p)) here.1 in
        let none = no_constructor (constructor_at p here.0) (λ n c. cells here.0 (nth_mem R i here.1) n c) (sym has) in
        sym h.all ∙ ap (all_have p) (left ∙ ap (λ (x : Bool). cond x (here.0 ∷ chosen (drop (i + 1) m) (drop (i + 1) R)) (chosen (drop (i + 1) m) (drop (i + 1) R))) q)
        ∙ ap (λ (x : Bool). x && all_have p (chosen (drop (i + 1) m) (drop (i + 1) R))) none

  -- at first, and past the last rule
  pub shared_none_yet : (hs : List (Option ℕ)) → length hs ≡ length m → ((k : ℕ) → get_or hs k None ≡ None) → SharedTo 0 hs
  shared_none_yet hs l h = record { long = l; before = λ k n. absurd (omega arith); behind = λ k n. h k; all = refl }

  pub shared_all : (i : ℕ) (hs : List (Option ℕ)) → length R ≤ i → SharedTo i hs → Some hs ≡ cond (all_have p (chosen m R)) (Some (heads_at p m R)) None
  shared_all i hs l h =
      let same : hs ≡ heads_at p m R = ext_get_or None hs (heads_at p m R) (h.long ∙ sym (length_heads p m R)) (λ k n. go k (cases_lt k i)) in
      let yes : all_have p (chosen m R) ≡ true = sym h.all ∙ ap (all_have p) (chosen_end i m R l) in
      ap Some same ∙ sym (ap (λ (b : Bool). cond b (Some (heads_at p m R)) None) yes)
    where
      go : (k : ℕ) → (k < i) ⊎ (i ≤ k) → get_or hs k None ≡ get_or (heads_at p m R) k None
      go k (inl x) = h.before k x
      go k (inr x) = h.behind k x ∙ sym (head_past p m R k (omega arith))

-- what is true of the item at a place is true of the element there
read : {A B : Type 0} (v : A → B) (P : B → Type 0) (o : Option A) {y : B} → option_map v o ≡ Some y → MatchOption o ⊤ (λ x. P (v x)) → P y
read v P None e h = absurd (zero_one (cc))
read v P (Some x) {y} e h = let w : v x ≡ y = cc in subst P w h

below : {A : Type 0} (o : Option A) {P Q : A → Type 0} → ((x : A) → P x → Q x) → IsSomeAnd o P → MatchOption o ⊤ Q
below None f h = absurd h
below (Some x) f h = f x h

within : {A : Type 0} (o : Option A) {P Q : A → Type 0} → ((x : A) → P x → Q x) → MatchOption o ⊤ P → MatchOption o ⊤ Q
within None f h = h
within (Some x) f h = f x h

-- what the code's search finds among some positions
module _ (m : List Bool) (R : List Rule) where
  abbrev answer : Bool → Path → Option Shared
  answer b d = option_map (λ (hs : List (Option ℕ)). record { path = d; heads = hs }) (cond b (Some (heads_at (steps_of d) m R)) None)

  abbrev shared_at : Path → Option Shared
  shared_at d = answer (all_have (steps_of d) (chosen m R)) d

  shared_later : (b : Bool) (d : Path) (o : Option (List ℕ)) (r : Option Shared) → answer b d ≡ None → IsShared R m o r → IsShared R m (cond b (Some (steps_of d)) o) r
  shared_later true d o r e h = absurd (zero_one (cc))
  shared_later false d o r e h = h

  shared_here : (b : Bool) (d : Path) (o : Option (List ℕ)) (y : Shared) → answer b d ≡ Some y → IsShared R m (cond b (Some (steps_of d)) o) (Some y)
  shared_here true d o y e = (record { path = d; heads = heads_at (steps_of d) m R }, sym e, refl, refl)
  shared_here false d o y e = absurd (zero_one (cc))

  shared_nowhere : (ds : List Path) → AllWithin (λ d. shared_at d ≡ None) ds 0 (length ds) → IsShared R m (first_shared (map steps_of ds) (chosen m R)) None
  shared_nowhere [] e = refl
  shared_nowhere (d ∷ ds) e =
      shared_later (all_have (steps_of d) (chosen m R)) d (first_shared (map steps_of ds) (chosen m R)) None (e 0 d (omega arith) (omega arith))
      (shared_nowhere ds (λ k x a b. e (suc k) x (omega arith) (omega arith)))

  shared_first : (ds : List Path) (i : ℕ) (y : Shared) → i < length ds → HoldsAt (λ d. shared_at d ≡ Some y) ds i → AllWithin (λ d. shared_at d ≡ None) ds 0 i
      → IsShared R m (first_shared (map steps_of ds) (chosen m R)) (Some y)
  shared_first [] i y l h e = absurd (omega arith)
  shared_first (d ∷ ds) zero y l h e = shared_here (all_have (steps_of d) (chosen m R)) d (first_shared (map steps_of ds) (chosen m R)) y (h d)
  shared_first (d ∷ ds) (suc i) y l h e =
      shared_later (all_have (steps_of d) (chosen m R)) d (first_shared (map steps_of ds) (chosen m R)) (Some y) (e 0 d (omega arith) (omega arith))
      (shared_first ds i y (omega arith) h (λ k x a b. e (suc k) x (omega arith) (omega arith)))

  module _ {S F : Type 0} {steps : S → Option (Bor Path) → S → Type 0} (g : Mut F (Bor Path × Unit {0}) (Option Shared)) (f : F) (ds : List Path) (p : Run steps) (items : ItemsMapTo p (λ y. y.now) ds)
      (told : (x : Bor Path) (r : Option Shared) (q : F) → Called g f (x, tt) r q → r ≡ shared_at x.now) (kept : CallKeepsClosure g f) where
    pub shared_found : (r : Option Shared) → MatchOption r (IsTrue p.whole × AllItemsGive p g f None) (λ y. (i : ℕ) × (i < p.len) × (p.len ≡ i + 1) × IsFirstToGive p g f (Some y) None i)
        → IsShared R m (first_shared (map steps_of ds) (chosen m R)) r
    shared_found None h =
        let l = items.1 h.0 in
        shared_nowhere ds (λ k d a b. read (λ y. y.now) (λ d. shared_at d ≡ None) (p.at k) (items.2 k d (omega (arith, l))) (within (p.at k) (λ x c. sym (told x None f c)) (h.1 kept k)))
    shared_found (Some y) h =
        let l = items.0 in
        let w = h.3 kept in
        shared_first ds h.0 y (omega (arith, l, h.1))
        (λ d. read (λ y. y.now) (λ d. shared_at d ≡ Some y) (p.at h.0) (items.2 h.0 d h.1) (below (p.at h.0) (λ x c. sym (told x (Some y) f c)) w.0))
        (λ k d a b. read (λ y. y.now) (λ d. shared_at d ≡ None) (p.at k) (items.2 k d (omega (arith, h.1))) (below (p.at k) (λ x c. sym (told x None f c)) (w.1 k b)))
