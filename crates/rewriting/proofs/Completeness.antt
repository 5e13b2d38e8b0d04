-- Whether the fixed tree is complete can be told from its children's constructors.
use Rattle.std.proofs.Common.{◌≡◌, ℕ, zero, suc, ◌+◌, ◌≤◌, Bool, true, false, not, ◌&&◌, ◌||◌, eqb, ◌↔◌, List, [], ◌∷◌, length, Some, Option, sym, refl, ap, ◌∙◌, subst, arith, eqb-true, eq-eqb, inl, inr}
use mathlib.Core.List.Memᴰ
use mathlib.Core.List.{Memᴰ}
use Rattle.std.specs.List.{slice_get}
use Rattle.std.proofs.lemmas.Bool.{and_from, and_parts}
use Rattle.std.proofs.lemmas.Option.{slice_get_within}
use Rattle.terms.specs.Terms.{Head, cell, symbol, Term}
use Rattle.terms.specs.Signatures.{Declaration, Signature}
use Rattle.terms.specs.Roots.{is_constructor, head, Stands}
use Rattle.terms.specs.Sorting.{sort_in, head_sort}
use Rattle.rewriting.specs.Rules.{Rule, rules_of, Proper}
use Rattle.rewriting.specs.Trees.{Node, at_rule, branch, Nodes, no_child, child, heads, SomeChild, ConstructorOf, call_of, refined, Tree, Children, Complete, AllComplete}
use Rattle.rewriting.specs.FixedTree.{same_head, constructor_at, has_at, constructors_at, children, build, enough}
use Rattle.rewriting.specs.Completeness.{is_among, makes, is_met, all_met, covers, is_complete, are_complete}
use Rattle.rewriting.specs.Promises.{TellsComplete}
use Rattle.rewriting.proofs.Basics.{same_head_same, same_head_true}
use Rattle.rewriting.proofs.Lists.{kept_mem, any_mem, mem_any}
use Rattle.rewriting.proofs.Building.{occurs, subtree, children_is, build_is}
use Rattle.rewriting.proofs.Exactness.{fixed_tree_exact}

-- the constructors that have a child are symbols, all the way down
abbrev IsSymbol : Head → Type 0
IsSymbol (cell n) = ⊥
IsSymbol (symbol s) = Unit {0}

abbrev mutual
  SymbolsOnly : Node → Type 0
  SymbolsOnly (at_rule r) = Unit {0}
  SymbolsOnly (branch p ns) = AllSymbols ns

  AllSymbols : Nodes → Type 0
  AllSymbols no_child = Unit {0}
  AllSymbols (child c n ns) = IsSymbol c × SymbolsOnly n × AllSymbols ns

-- what is built for left sides without cells has only symbols
abbrev NoCells : List Rule → Type 0
NoCells rs = (r : Rule) → Memᴰ r rs → (p : List ℕ) (n : ℕ) → constructor_at p r ≡ Some (cell n) → ⊥

no_cell : (c : Head) → ((n : ℕ) → c ≡ cell n → ⊥) → IsSymbol c
no_cell (cell n) h = h n refl
no_cell (symbol s) h = tt

children_symbols : (tree : Head → Option Node) (cs : List Head) (ns : Nodes) → children tree cs ≡ Some ns
    → ((c : Head) → Memᴰ c cs → (t : Node) → tree c ≡ Some t → IsSymbol c × SymbolsOnly t) → AllSymbols ns
children_symbols tree [] ns e h = let q : no_child ≡ ns = cc in subst AllSymbols q tt
children_symbols tree (c ∷ cs) ns e h =
    let x = children_is tree c cs e in
    let z = h c (Memᴰ.head refl) x.0 x.2 in
    subst AllSymbols x.4 (z.0, z.1, children_symbols tree cs x.1 x.3 (λ b m. h b (Memᴰ.tail m)))

build_symbols : (S : Signature) (n : ℕ) (π : Term) (rs : List Rule) (t : Node) → NoCells rs → build S n π rs ≡ Some t → SymbolsOnly t
build_symbols S zero π rs t f e = absurd (cc)
build_symbols S (suc n) π rs t f e =
    elim (build_is S n π rs e) [
      | inl x ↦ rw x.3 tt
      | inr x ↦
          let p = x.0 in
          rw x.4 (children_symbols (subtree S n π rs p) (constructors_at p rs) x.1 x.3
          (λ c m s b.
          let u = occurs p rs m in (
            no_cell c (λ k d. f u.0 u.1 p k (u.2 ∙ ap Some d)),
            build_symbols S n (refined S π p c) _ s (λ r l. f r (kept_mem (has_at p c) rs l).0) b,
          )))
    ]

-- the test for a member
among_mem : (c : Head) (ds : List Head) → is_among c ds ≡ true → Memᴰ c ds
among_mem c ds e = let x = any_mem (same_head c) ds e in Memᴰ.cast (same_head_true c x.0 x.2) x.1

mem_among : {c : Head} {ds : List Head} → Memᴰ c ds → is_among c ds ≡ true
mem_among {c} m = mem_any (same_head c) m (same_head_same c)

-- the test for a consequence
implied : (a b c : Bool) → (not (a && b) || c) ≡ true → a ≡ true → b ≡ true → c ≡ true
implied true true c h d e = h
implied true false c h d e = absurd (cc)
implied false b c h d e = absurd (cc)

implies : (a b c : Bool) → (a ≡ true → b ≡ true → c ≡ true) → (not (a && b) || c) ≡ true
implies true true c h = h refl refl
implies true false c h = refl
implies false b c h = refl

module _ (S : Signature) where
  -- the test for a constructor of the sort k
  makes_mem : (k : ℕ) (cs : List Head) → makes S k cs ≡ true → (c : Head) × Memᴰ c cs × (head_sort S c ≡ k)
  makes_mem k cs e = let x = any_mem (λ c. eqb (head_sort S c) k) cs e in (x.0, x.1, eqb-true (head_sort S x.0) k x.2)

  mem_makes : (k : ℕ) {c : Head} {cs : List Head} → Memᴰ c cs → head_sort S c ≡ k → makes S k cs ≡ true
  mem_makes k {c} m e = mem_any (λ d. eqb (head_sort S d) k) m (eq-eqb (head_sort S c) k e)

  -- the test of each declaration, at its place
  met_at : (cs : List Head) (s : ℕ) (ds : List Declaration) → all_met S cs s ds ≡ true → (i j : ℕ) {d : Declaration} → slice_get ds i ≡ Some d → j ≡ s + i → is_met S cs j d ≡ true
  met_at cs s [] h i j e q = absurd (cc)
  met_at cs s (x ∷ ds) h zero j {d} e q =
      let a : j ≡ s = omega arith in
      let b : d ≡ x = cc in
      rw (a, b) (and_parts (is_met S cs s x) (all_met S cs (suc s) ds) h).0
  met_at cs s (x ∷ ds) h (suc i) j e q = met_at cs (suc s) ds (and_parts (is_met S cs s x) (all_met S cs (suc s) ds) h).1 i j e (omega arith)

  all_met_from : (cs : List Head) (s : ℕ) (ds : List Declaration) → ((i j : ℕ) (d : Declaration) → slice_get ds i ≡ Some d → j ≡ s + i → is_met S cs j d ≡ true) → all_met S cs s ds ≡ true
  all_met_from cs s [] h = refl
  all_met_from cs s (x ∷ ds) h =
      and_from (is_met S cs s x) (all_met S cs (suc s) ds) (h 0 s x refl (omega arith)) (all_met_from cs (suc s) ds (λ i j d e q. h (suc i) j d e (omega arith)))

  -- the constructors of the sort k are all among some
  abbrev Full : List Head → ℕ → Type 0
  Full cs k = (c : Head) → ConstructorOf S c k → Memᴰ c cs

  -- some constructors are symbols of the sort k
  abbrev SymbolsOf : List Head → ℕ → Type 0
  SymbolsOf cs k = (c : Head) → Memᴰ c cs → IsSymbol c × ConstructorOf S c k

  -- a symbol makes no numbers
  no_number : Proper S → (c : Head) → IsSymbol c → Stands S (head c) → head_sort S c ≡ 0 → ⊥
  no_number P (cell n) i h e = i
  no_number P (symbol s) i h e = P.cells_alone s h e

  -- of symbols of one sort the test tells whether they are all of it
  covers_full : Proper S → (cs : List Head) (k : ℕ) {b : Head} → Memᴰ b cs → SymbolsOf cs k → covers S cs ≡ true → Full cs k
  covers_full P cs k {b} m f e (cell n) o = let x = f b m in absurd (no_number P b x.0 x.1.0 (sym x.1.1 ∙ o.1))
  covers_full P cs k {b} m f e (symbol s) o =
      let d = o.0 in
      let q : head_sort S b ≡ d.0.sort = sym (f b m).1.1 ∙ o.1 ∙ ap sort_in d.1 in
      among_mem (symbol s) cs (implied (is_constructor d.0.role) (makes S d.0.sort cs) (is_among (symbol s) cs)
      (met_at cs 0 S.symbols e s s d.1 (omega arith)) d.2 (mem_makes d.0.sort m q))

  full_covers : length S.symbols ≤ 96 → (cs : List Head) (k : ℕ) → SymbolsOf cs k → Full cs k → covers S cs ≡ true
  full_covers few cs k f g = all_met_from cs 0 S.symbols (λ i j d e q. implies (is_constructor d.role) (makes S d.sort cs) (is_among (symbol j) cs) (met i j d e q))
    where
      met : (i j : ℕ) (d : Declaration) → slice_get S.symbols i ≡ Some d → j ≡ 0 + i → is_constructor d.role ≡ true → makes S d.sort cs ≡ true → is_among (symbol j) cs ≡ true
      met i j d e q r h =
          let x = makes_mem d.sort cs h in
          let a : slice_get S.symbols j ≡ Some d = (let b : j ≡ i = omega arith in rw b e) in
          let l = slice_get_within S.symbols j d a in
          mem_among (g (symbol j) ((d, a, r, omega arith), (f x.0 x.1).1.1 ∙ x.2 ∙ sym (ap sort_in a)))

  -- the constructors of a branch in a tree
  some_head : (ns : Nodes) → SomeChild ns → (c : Head) × Memᴰ c (heads ns)
  some_head no_child h = absurd h
  some_head (child c n ns) h = (c, Memᴰ.head refl)

  symbol_heads : (ns : Nodes) (p : List ℕ) (k : ℕ) (π : Term) → Children S ns p k π → AllSymbols ns → SymbolsOf (heads ns) k
  symbol_heads no_child p k π t y c m = absurd (Memᴰ.not-nil m)
  symbol_heads (child d n ns) p k π t y c (Memᴰ.head e) = rw e (y.0, t.0)
  symbol_heads (child d n ns) p k π t y c (Memᴰ.tail m) = symbol_heads ns p k π t.2 y.2 c m

  -- of a tree with symbols only the test tells whether it is complete
  module _ (P : Proper S) (few : length S.symbols ≤ 96) where
    mutual
      tells : (n : Node) (π : Term) → Tree S n π → SymbolsOnly n → (is_complete S n ≡ true) ↔ Complete S n π
      tells (at_rule r) π t y = ((λ e. tt), (λ g. refl))
      tells (branch p ns) π t y =
          let f = symbol_heads ns p t.0 π t.4 y in
          let a = all_tell ns p t.0 π t.4 y in (
            (λ e.
                let x = and_parts (covers S (heads ns)) (are_complete S ns) e in (
                  (λ c k v o.
                      let i : k ≡ t.0 = (let q = v.1 in let z = t.1.1 in cc) in
                      covers_full P (heads ns) t.0 (some_head ns t.2).1 f x.0 c (subst (ConstructorOf S c) i o)),
                  a.0 x.1,
                )),
            (λ g. and_from (covers S (heads ns)) (are_complete S ns) (full_covers few (heads ns) t.0 f (λ c o. g.0 c t.0 t.1 o)) (a.1 g.1)),
          )

      all_tell : (ns : Nodes) (p : List ℕ) (k : ℕ) (π : Term) → Children S ns p k π → AllSymbols ns → (are_complete S ns ≡ true) ↔ AllComplete S ns p π
      all_tell no_child p k π t y = ((λ e. tt), (λ g. refl))
      all_tell (child c n ns) p k π t y =
          let a = tells n (refined S π p c) t.1 y.1 in
          let b = all_tell ns p k π t.2 y.2 in (
            (λ e. let x = and_parts (is_complete S n) (are_complete S ns) e in (a.0 x.0, b.0 x.1)),
            (λ g. and_from (is_complete S n) (are_complete S ns) (a.1 g.0) (b.1 g.1)),
          )

pub tells_complete : TellsComplete
tells_complete B f P few ok free n e =
    let S = B.signature in
    tells S P few n (call_of S f) ((fixed_tree_exact B f ok.right ok.some.0 ok.some.1).is_tree n e).0 (build_symbols S (enough (rules_of B f)) (call_of S f) (rules_of B f) n free e)
