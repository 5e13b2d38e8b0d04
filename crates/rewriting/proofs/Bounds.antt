-- The bounds of the builder and of φ cut nothing off.
use Rattle.std.proofs.Common.{◌≡◌, ℕ, zero, suc, ◌≤◌, List, [], ◌∷◌, length, Some, None, Option, refl, ap, subst, arith, option_map, filter, inl, inr}
use mathlib.Core.List.{Memᴰ}
use Rattle.std.specs.Option.{option_or}
use Rattle.std.proofs.lemmas.Bool.{cond_both}
use Rattle.numbers.specs.Meaning.{Meaning}
use Rattle.terms.specs.Terms.{Head, cell, Fn, plus, minus, atmost, own, Term, var, con, fun, Terms}
use Rattle.terms.specs.Options.{onward}
use Rattle.terms.specs.Signatures.{Signature}
use Rattle.terms.specs.Roots.{fn_args}
use Rattle.terms.specs.Sorting.{fn_sort}
use Rattle.terms.specs.Positions.{part, part_of}
use Rattle.rewriting.specs.Substitutions.{variable_positions}
use Rattle.rewriting.specs.Rules.{Rule, left_side, Book, rules_of}
use Rattle.rewriting.specs.Steps.{sum, difference, comparison}
use Rattle.rewriting.specs.Trees.{Node, at_rule, branch, Nodes, no_child, child, variables_from, refined, call_of}
use Rattle.rewriting.specs.FixedTree.{same_head, has_at, first_shared, constructors_at, children, sole_variant, build, size, enough, fixed_tree}
use Rattle.rewriting.specs.Promises.{Ruled, BoundsSuffice}
use Rattle.rewriting.specs.Strategy.{Found, stuck, contract, inside, look, walk, walk_child, at_cells, operate, walk_if, Move, from_above, move_at, follow, depth, find, move_in}
use Rattle.rewriting.proofs.Shapes.{fit_size, sizes_fresh}
use Rattle.rewriting.proofs.Moves.{depths_part}
use Rattle.rewriting.proofs.Blanks.{bare}
use Rattle.rewriting.proofs.Building.{position_named, first_is, subtree, Bounded, Pattern, pattern_child, pattern_bounded, children_is, build_is}
use Rattle.rewriting.proofs.Exactness.{bounded, unnamed, mem_enough, call_pattern}

-- every branch is below the root of the call
abbrev mutual
  Inside : Node → Type 0
  Inside (at_rule r) = Unit {0}
  Inside (branch p ns) = ((i : ℕ) × (q : List ℕ) × (p ≡ i ∷ q)) × AllInside ns

  AllInside : Nodes → Type 0
  AllInside no_child = Unit {0}
  AllInside (child c n ns) = Inside n × AllInside ns

children_inside : (tree : Head → Option Node) (cs : List Head) (ns : Nodes) → children tree cs ≡ Some ns → ((c : Head) (t : Node) → tree c ≡ Some t → Inside t) → AllInside ns
children_inside tree [] ns e h = let q : no_child ≡ ns = cc in subst AllInside q tt
children_inside tree (c ∷ cs) ns e h =
    let x = children_is tree c cs e in
    subst AllInside x.4 (h c x.0 x.2, children_inside tree cs x.1 x.3 h)

module _ (S : Signature) where
  build_inside : (n : ℕ) (g : Fn) (ps : Terms) (rs : List Rule) (t : Node) → build S n (fun g ps) rs ≡ Some t → Inside t
  build_inside zero g ps rs t e = absurd (cc)
  build_inside (suc n) g ps rs t e =
      elim (build_is S n (fun g ps) rs e) [
        | inl x ↦ rw x.3 tt
        | inr x ↦
            let v = position_named (fun g ps) (first_is (variable_positions (fun g ps)) rs x.2).0 in
            rw x.4 (below x.0 x.1 v.0 v.1 x.3 (λ us qs s. build_inside n g us qs s))
      ]
    where
      below : (p : List ℕ) (ns : Nodes) (z : ℕ) → part (fun g ps) p ≡ Some (var z) → children (subtree S n (fun g ps) rs p) (constructors_at p rs) ≡ Some ns
          → ((us : Terms) (qs : List Rule) (s : Node) → build S n (fun g us) qs ≡ Some s → Inside s) → Inside (branch p ns)
      below [] ns z v d ih = absurd (cc)
      below (i ∷ p) ns z v d ih = ((i, p, refl), children_inside (subtree S n (fun g ps) rs (i ∷ p)) (constructors_at (i ∷ p) rs) ns d (λ c s b. ih _ (filter (has_at (i ∷ p) c) rs) s b))

-- what a tree finds inside is below the root
abbrev Deeper : List ℕ → Type 0
Deeper p = (i : ℕ) × (q : List ℕ) × (p ≡ i ∷ q)

look_inside : (o : Option Term) (p : List ℕ) (on : Head → Found) {q : List ℕ} → Deeper p → ((c : Head) → on c ≡ inside q → Deeper q) → look o p on ≡ inside q → Deeper q
look_inside None p on d h e = absurd (cc)
look_inside (Some (var x)) p on d h e = absurd (cc)
look_inside (Some (con c ts)) p on d h e = h c e
look_inside (Some (fun f ts)) p on d h e = let i : p ≡ _ = cc in subst Deeper i d

mutual
  walk_inside : (n : Node) (t : Term) {q : List ℕ} → Inside n → walk n t ≡ inside q → Deeper q
  walk_inside (at_rule r) t h e = absurd (cc)
  walk_inside (branch p ns) t h e = look_inside (part t p) p (λ c. walk_child ns c t) h.0 (λ c d. walk_child_inside ns c t h.1 d) e

  walk_child_inside : (ns : Nodes) (c : Head) (t : Term) {q : List ℕ} → AllInside ns → walk_child ns c t ≡ inside q → Deeper q
  walk_child_inside no_child c t h e = absurd (cc)
  walk_child_inside (child d n ns) c t {q} h e =
      cond_both (same_head c d) (walk n t) (walk_child ns c t) (λ (F : Found). F ≡ inside q → Deeper q) (λ i x. walk_inside n t h.0 x) (λ i x. walk_child_inside ns c t h.1 x) e

cells_inside : (g : ℕ → ℕ → Term) (c d : Head) {q : List ℕ} → at_cells g c d ≡ inside q → Deeper q
cells_inside g (cell m) (cell n) e = absurd (cc)
cells_inside g c d e = absurd (cc)

operate_inside : (g : ℕ → ℕ → Term) (t : Term) {q : List ℕ} → operate g t ≡ inside q → Deeper q
operate_inside g t e =
    look_inside (part t (1 ∷ [])) (1 ∷ []) (λ c. look (part t (2 ∷ [])) (2 ∷ []) (λ d. at_cells g c d)) (1, [], refl)
    (λ c d. look_inside (part t (2 ∷ [])) (2 ∷ []) (λ b. at_cells g c b) (2, [], refl) (λ b h. cells_inside g c b h) d) e

module _ (M : Meaning) (B : Book) where
  if_inside : (f : ℕ) (o : Option Node) (t : Term) {q : List ℕ} → fixed_tree B f ≡ o → walk_if o t ≡ inside q → Deeper q
  if_inside f None t d e = absurd (cc)
  if_inside f (Some n) t d e = walk_inside n t (build_inside B.signature (enough (rules_of B f)) (own f) (variables_from 0 (length (fn_args B.signature (own f)))) (rules_of B f) n d) e

  find_inside : (f : Fn) (ts : Terms) {q : List ℕ} → find M B (fun f ts) ≡ inside q → Deeper q
  find_inside plus ts e = operate_inside (sum M) (fun plus ts) e
  find_inside minus ts e = operate_inside (difference M) (fun minus ts) e
  find_inside atmost ts e = operate_inside (comparison M) (fun atmost ts) e
  find_inside (own f) ts e = if_inside f (fixed_tree B f) (fun (own f) ts) refl e

  -- a call that is gone into is less deep
  same_inside : (t : Term) (p : List ℕ) (g h : Term → Option Move) → ((s : Term) → part t p ≡ Some s → g s ≡ h s) → move_at t p g ≡ move_at t p h
  same_inside t p g h e = go (part t p) refl
    where
      go : (o : Option Term) → part t p ≡ o → onward o (λ s. option_map (from_above t p) (g s)) ≡ onward o (λ s. option_map (from_above t p) (h s))
      go None q = refl
      go (Some s) q = ap (option_map (from_above t p)) (e s q)

  pub same_move : (n m : ℕ) (t : Term) → depth t ≤ n → depth t ≤ m → move_in M B n t ≡ move_in M B m t
  same_move zero (suc m) (fun f ts) l k = absurd (omega arith)
  same_move (suc n) zero (fun f ts) l k = absurd (omega arith)
  same_move (suc n) (suc m) (fun f ts) l k = go (find M B (fun f ts)) refl (same_move n m)
    where
      go : (F : Found) → find M B (fun f ts) ≡ F → ((s : Term) → depth s ≤ n → depth s ≤ m → move_in M B n s ≡ move_in M B m s)
          → follow (fun f ts) F (move_in M B n) ≡ follow (fun f ts) F (move_in M B m)
      go stuck e ih = refl
      go (contract c u) e ih = refl
      go (inside p) e ih =
          let d = find_inside f ts e in
          same_inside (fun f ts) p (move_in M B n) (move_in M B m)
          (λ s h.
          let i : part_of ts d.0 d.1 ≡ Some s = subst (λ (q : List ℕ). part (fun f ts) q ≡ Some s) d.2 h in
          let b = depths_part ts d.0 d.1 i in
          ih s (omega arith) (omega arith))
  same_move n m t l k = refl

-- the builder
pub children_same : (tree other : Head → Option Node) (cs : List Head) → ((c : Head) → Memᴰ c cs → tree c ≡ other c) → children tree cs ≡ children other cs
children_same tree other [] h = refl
children_same tree other (c ∷ cs) h = rw (h c (Memᴰ.head refl), children_same tree other cs (λ d m. h d (Memᴰ.tail m))) refl

module _ (S : Signature) where
  same_build : (n m : ℕ) (π : Term) (k : ℕ) (rs : List Rule) → Pattern S k π rs → Bounded S n (bare S π) rs → Bounded S m (bare S π) rs → build S n π rs ≡ build S m π rs
  same_build zero m π k rs g b d = let x = b g.remaining.0 g.remaining.1 in let y = fit_size (g.fitting g.remaining.0 g.remaining.1).0 in absurd (omega arith)
  same_build (suc n) zero π k rs g b d = let x = d g.remaining.0 g.remaining.1 in let y = fit_size (g.fitting g.remaining.0 g.remaining.1).0 in absurd (omega arith)
  same_build (suc n) (suc m) π k rs g b d = ap (option_or (sole_variant π rs)) (go (first_shared (variable_positions π) rs) refl (λ ρ qs. same_build n m ρ k qs))
    where
      go : (o : Option (List ℕ)) → first_shared (variable_positions π) rs ≡ o
          → ((ρ : Term) (qs : List Rule) → Pattern S k ρ qs → Bounded S n (bare S ρ) qs → Bounded S m (bare S ρ) qs → build S n ρ qs ≡ build S m ρ qs)
          → onward o (λ p. option_map (branch p) (children (subtree S n π rs p) (constructors_at p rs))) ≡ onward o (λ p. option_map (branch p) (children (subtree S m π rs p) (constructors_at p rs)))
      go None e ih = refl
      go (Some p) e ih =
          ap (option_map (branch p)) (children_same (subtree S n π rs p) (subtree S m π rs p) (constructors_at p rs)
          (λ c y. ih (refined S π p c) (filter (has_at p c) rs) (pattern_child S p c g e y) (pattern_bounded S n p c g e b) (pattern_bounded S m p c g e d)))

-- a left side's symbols are enough for the builder
pub symbols_enough : (B : Book) (f : ℕ) → Ruled B f → (n : ℕ) → ((r : Rule) → Memᴰ r (rules_of B f) → size (left_side r) ≤ n) → build B.signature n (call_of B.signature f) (rules_of B f) ≡ fixed_tree B f
symbols_enough B f h n l =
    let S = B.signature in
    let z = sizes_fresh (fn_args S (own f)) in
    same_build S n (enough (rules_of B f)) (call_of S f) (fn_sort S (own f)) (rules_of B f) (call_pattern B f h.right h.some.0 h.some.1)
    (unnamed B f h.right (λ ρ. Bounded S n ρ (rules_of B f)) (λ q x. let y = l q x in omega arith))
    (unnamed B f h.right (λ ρ. Bounded S (enough (rules_of B f)) ρ (rules_of B f)) (bounded B f h.right))

pub bounds_suffice : BoundsSuffice
bounds_suffice = record {
  builds_same = λ B f ok r m n l. symbols_enough B f (record { right = ok; some = (r, m) }) n (λ q x. let h = mem_enough x in omega arith);
  moves_same = λ M B t n l. same_move M B n (depth t) t l (omega arith);
}
