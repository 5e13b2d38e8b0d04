-- What stands in an array of nodes where trees are laid out.
use Rattle.std.proofs.Common.{◌≡◌, ℕ, ◌+◌, ◌<◌, ◌≤◌, List, [], ◌∷◌, ◌++◌, map, length, Some, None, Option, sym, refl, ap, ◌∙◌, subst, inl, inr, append_assoc, append-nil, arith, option_map}
use Rattle.std.specs.List.{slice_get}
use Rattle.std.proofs.lemmas.List.{length-append}
use Rattle.std.proofs.lemmas.Bool.{cases_lt}
use Rattle.terms.specs.Terms.{Head, symbol}
use Rattle.terms.proofs.Letters.{zero_one}
use Rattle.rewriting.specs.Rules.{Rule}
use Rattle.rewriting.specs.Trees.{Node as Tree, at_rule, branch, Nodes as Children, no_child, child}
use Rattle.trees.specs.declared.path.Path.{Path}
use Rattle.trees.specs.declared.node.Node.{Node}
use Rattle.trees.specs.declared.node.Kind.{Kind}
use Rattle.trees.specs.declared.node.Kind.TheVariants.{Rule as RuleNode, Branch}
use Rattle.trees.specs.Views.{steps_of}
use Rattle.trees.specs.Nodes.{Before, first_child, Is, is_rule, is_branch, Linked, no_link, link, Reaches, reach_here, reach_below, reach_next}
use Rattle.trees.specs.Layout.{SeenKind, applies, branches, SeenNode, seen_kind, seen_node, laid_tree, laid_children}
use Rattle.trees.specs.Standing.{size, sizes}
use Rattle.trees.proofs.Places.{nth_at, nth_map}

-- the link to the first child of what is seen
abbrev link_of : SeenKind → Option ℕ
link_of (applies o) = None
link_of (branches p o) = o

-- what was written comes after what stood
mutual
  pub written_after : (vs : List SeenNode) (t : Tree) → (more : List SeenNode) × ((laid_tree vs t).0 ≡ vs ++ more)
  written_after vs (at_rule r) = ([], sym (append-nil vs))
  written_after vs (branch p ts) = children_after vs ts

  children_after : (vs : List SeenNode) (ts : Children) → (more : List SeenNode) × ((laid_children vs ts).0 ≡ vs ++ more)
  children_after vs no_child = ([], sym (append-nil vs))
  children_after vs (child c t ts) =
      let w = laid_children vs ts in
      let a = children_after vs ts in
      let b = written_after w.0 t in
      let v : SeenNode = record { under = c; kind = (laid_tree w.0 t).1; next = w.1 } in
      (a.0 ++ (b.0 ++ (v ∷ [])), ap (λ (xs : List SeenNode). xs ++ (v ∷ [])) (b.1 ∙ ap (λ (xs : List SeenNode). xs ++ b.0) a.1) ∙ append_assoc (vs ++ a.0) b.0 (v ∷ []) ∙ append_assoc vs a.0 (b.0 ++ (v ∷ [])))

-- a link that is before a place is before a later one
before_later : (o : Option ℕ) {i j : ℕ} → Before o i → i ≤ j → Before o j
before_later None h l = tt
before_later (Some k) h l = omega arith

-- links go to what was written
mutual
  written_before : (vs : List SeenNode) (t : Tree) → Before (link_of (laid_tree vs t).1) (length (laid_tree vs t).0)
  written_before vs (at_rule r) = tt
  written_before vs (branch p ts) = children_before vs ts

  children_before : (vs : List SeenNode) (ts : Children) → Before (laid_children vs ts).1 (length (laid_children vs ts).0)
  children_before vs no_child = tt
  children_before vs (child c t ts) =
      let z = laid_tree (laid_children vs ts).0 t in
      let v : SeenNode = record { under = c; kind = z.1; next = (laid_children vs ts).1 } in
      let one = length-append z.0 (v ∷ []) in omega arith

-- as many nodes are written as there are, the root apart
mutual
  pub written_counted : (vs : List SeenNode) (t : Tree) → length (laid_tree vs t).0 + 1 ≡ length vs + size t
  written_counted vs (at_rule r) = refl
  written_counted vs (branch p ts) = let h = children_counted vs ts in omega arith

  children_counted : (vs : List SeenNode) (ts : Children) → length (laid_children vs ts).0 ≡ length vs + sizes ts
  children_counted vs no_child = omega arith
  children_counted vs (child c t ts) =
      let w = laid_children vs ts in
      let z = laid_tree w.0 t in
      let v : SeenNode = record { under = c; kind = z.1; next = w.1 } in
      let one = length-append z.0 (v ∷ []) in
      let h = children_counted vs ts in
      let g = written_counted w.0 t in omega arith

module _ (rs : List Rule) where
  -- a node that is seen as a rule or a branch is one
  seen_rule : (k : Kind) (r : Rule) → seen_kind rs k ≡ applies (Some r) → (i : ℕ) × (k ≡ RuleNode i) × (slice_get rs i ≡ Some r)
  seen_rule (RuleNode i) r e = (i, refl, cc)
  seen_rule (Branch q o) r e = absurd (zero_one (cc))

  seen_branch : (k : Kind) (p : List ℕ) (o : Option ℕ) → seen_kind rs k ≡ branches p o → (q : Path) × (k ≡ Branch q o) × (steps_of q ≡ p)
  seen_branch (RuleNode i) p o e = absurd (zero_one (cc))
  seen_branch (Branch q first) p o e = (q, cc, cc)

  seen_link : (k : Kind) → first_child k ≡ link_of (seen_kind rs k)
  seen_link (RuleNode i) = refl
  seen_link (Branch q o) = refl

  -- the first child of a root is before it
  pub root_before : (vs : List SeenNode) (t : Tree) (k : Kind) → seen_kind rs k ≡ (laid_tree vs t).1 → Before (first_child k) (length (laid_tree vs t).0)
  root_before vs t k e = subst (λ (o : Option ℕ). Before o (length (laid_tree vs t).0)) (sym (seen_link k ∙ ap link_of e)) (written_before vs t)

  module _ (ns : List Node) where
    abbrev seen_all : List SeenNode
    seen_all = map (seen_node rs) ns

    -- the node at a place is seen so
    pub record At (i : ℕ) (v : SeenNode) : Type 0 where
      pub node : Node
      pub there : slice_get ns i ≡ Some node
      pub seen : seen_node rs node ≡ v

    pub seen_at : (xs ys : List SeenNode) (v : SeenNode) → seen_all ≡ xs ++ (v ∷ ys) → At (length xs) v
    seen_at xs ys v e = go (slice_get ns (length xs)) refl (sym (nth_map (seen_node rs) ns (length xs)) ∙ ap (λ (vs : List SeenNode). slice_get vs (length xs)) e ∙ nth_at xs ys v)
      where
        go : (o : Option Node) → slice_get ns (length xs) ≡ o → option_map (seen_node rs) o ≡ Some v → At (length xs) v
        go None f h = absurd (zero_one (cc))
        go (Some n) f h = record { node = n; there = f; seen = cc }

    -- a tree that is written stands there
    mutual
      pub written_is : (vs rest : List SeenNode) (t : Tree) (k : Kind) → seen_all ≡ (laid_tree vs t).0 ++ rest → seen_kind rs k ≡ (laid_tree vs t).1 → Is rs ns k t
      written_is vs rest (at_rule r) k e f = let z = seen_rule k r f in subst (λ (x : Kind). Is rs ns x (at_rule r)) (sym z.1) (is_rule z.2)
      written_is vs rest (branch p ts) k e f =
          let z = seen_branch k p (laid_children vs ts).1 f in
          let h : Is rs ns (Branch z.0 (laid_children vs ts).1) (branch (steps_of z.0) ts) = is_branch (children_linked vs rest ts e) in
          subst (λ (x : Kind). Is rs ns x (branch p ts)) (sym z.1) (subst (λ (x : List ℕ). Is rs ns (Branch z.0 (laid_children vs ts).1) (branch x ts)) z.2 h)

      pub children_linked : (vs rest : List SeenNode) (ts : Children) → seen_all ≡ (laid_children vs ts).0 ++ rest → Linked rs ns (laid_children vs ts).1 ts
      children_linked vs rest no_child e = no_link
      children_linked vs rest (child c t ts) e =
          let w = laid_children vs ts in
          let z = laid_tree w.0 t in
          let v : SeenNode = record { under = c; kind = z.1; next = w.1 } in
          let m = written_after w.0 t in
          let f : seen_all ≡ z.0 ++ (v ∷ rest) = e ∙ append_assoc z.0 (v ∷ []) rest in
          let g : seen_all ≡ w.0 ++ (m.0 ++ (v ∷ rest)) = f ∙ ap (λ (xs : List SeenNode). xs ++ (v ∷ rest)) m.1 ∙ append_assoc w.0 m.0 (v ∷ rest) in
          let a = seen_at z.0 rest v f in
          let under : symbol a.node.symbol ≡ c = ap (λ (x : SeenNode). x.under) a.seen in
          let kind : seen_kind rs a.node.kind ≡ z.1 = ap (λ (x : SeenNode). x.kind) a.seen in
          let next : a.node.next ≡ w.1 = ap (λ (x : SeenNode). x.next) a.seen in
          let down = root_before w.0 t a.node.kind kind in
          let more = length-append w.0 m.0 in
          let on : Before a.node.next (length z.0) = subst (λ (o : Option ℕ). Before o (length z.0)) (sym next) (before_later w.1 (children_before vs ts) (let n = ap length m.1 in omega arith)) in
          let l : Linked rs ns (Some (length z.0)) (child (symbol a.node.symbol) t ts) =
          link a.there down on (written_is w.0 (v ∷ rest) t a.node.kind f kind) (subst (λ (o : Option ℕ). Linked rs ns o ts) (sym next) (children_linked vs (m.0 ++ (v ∷ rest)) ts g)) in
          subst (λ (x : Head). Linked rs ns (Some (length z.0)) (child x t ts)) under l

    -- from a root, or from its first child, links lead to all that was written
    mutual
      pub written_reached : (vs rest : List SeenNode) (t : Tree) (k : Kind) → seen_all ≡ (laid_tree vs t).0 ++ rest → seen_kind rs k ≡ (laid_tree vs t).1 → (j : ℕ) → length vs ≤ j → j < length (laid_tree vs t).0 → Reaches ns j (first_child k)
      written_reached vs rest (at_rule r) k e f j l m = absurd (omega arith)
      written_reached vs rest (branch p ts) k e f j l m = subst (Reaches ns j) (sym (seen_link k ∙ ap link_of f)) (children_reached vs rest ts e j l m)

      children_reached : (vs rest : List SeenNode) (ts : Children) → seen_all ≡ (laid_children vs ts).0 ++ rest → (j : ℕ) → length vs ≤ j → j < length (laid_children vs ts).0 → Reaches ns j (laid_children vs ts).1
      children_reached vs rest no_child e j l m = absurd (omega arith)
      children_reached vs rest (child c t ts) e j l m =
          let w = laid_children vs ts in
          let z = laid_tree w.0 t in
          let v : SeenNode = record { under = c; kind = z.1; next = w.1 } in
          let n = written_after w.0 t in
          let f : seen_all ≡ z.0 ++ (v ∷ rest) = e ∙ append_assoc z.0 (v ∷ []) rest in
          let g : seen_all ≡ w.0 ++ (n.0 ++ (v ∷ rest)) = f ∙ ap (λ (xs : List SeenNode). xs ++ (v ∷ rest)) n.1 ∙ append_assoc w.0 n.0 (v ∷ rest) in
          let a = seen_at z.0 rest v f in
          let kind : seen_kind rs a.node.kind ≡ z.1 = ap (λ (x : SeenNode). x.kind) a.seen in
          let next : a.node.next ≡ w.1 = ap (λ (x : SeenNode). x.next) a.seen in
          let down = root_before w.0 t a.node.kind kind in
          let more = length-append w.0 n.0 in
          let on : Before a.node.next (length z.0) = subst (λ (o : Option ℕ). Before o (length z.0)) (sym next) (before_later w.1 (children_before vs ts) (let q = ap length n.1 in omega arith)) in
          let one = length-append z.0 (v ∷ []) in
          elim (cases_lt j (length w.0)) [
            | inl p ↦ reach_next a.there on (subst (Reaches ns j) (sym next) (children_reached vs (n.0 ++ (v ∷ rest)) ts g j l p))
            | inr p ↦ elim (cases_lt j (length z.0)) [
              | inl q ↦ reach_below a.there down (written_reached w.0 (v ∷ rest) t a.node.kind f kind j p q)
              | inr q ↦ let y : j ≡ length z.0 = omega arith in subst (λ (x : ℕ). Reaches ns j (Some x)) y reach_here
            ]
          ]
