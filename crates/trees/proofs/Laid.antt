-- What follows of the trees of a book where they are laid out.
use Rattle.std.proofs.Common.{◌≡◌, ℕ, zero, suc, ◌+◌, ◌<◌, ◌≤◌, List, [], ◌∷◌, ◌++◌, length, replicate, Some, None, Option, sym, refl, ap, ◌∙◌, subst, inl, inr, append_assoc, append-nil, arith}
use Rattle.std.specs.List.{slice_get}
use Rattle.std.proofs.lemmas.List.{length-append, length-map, length-set, length-replicate}
use Rattle.std.proofs.lemmas.Bool.{cases_lt}
use Rattle.terms.specs.declared.signature.Role.{Role}
use Rattle.terms.specs.declared.signature.Role.TheVariants.{Constructor, Function, Operation}
use Rattle.terms.specs.Terms.{symbol}
use Rattle.terms.specs.Options.{onward}
use Rattle.terms.specs.Signatures.{Declaration}
use Rattle.terms.proofs.Letters.{zero_one}
use Rattle.rewriting.specs.Rules.{Book}
use Rattle.rewriting.specs.Trees.{Node as Tree}
use Rattle.rewriting.specs.FixedTree.{fixed_tree}
use Rattle.words.proofs.Faultless.{or_none}
use Rattle.trees.specs.declared.node.Node.{Node}
use Rattle.trees.specs.declared.trees.Trees.{Trees}
use Rattle.trees.specs.Nodes.{Before, first_child, Is, Reaches}
use Rattle.trees.specs.Layout.{SeenNode, laid_tree, Layout, with_tree, with_symbol, laid_from, laid_out}
use Rattle.trees.specs.Checks.{judged, symbol_fault, first_fault}
use Rattle.trees.specs.Standing.{nodes_in, roots_in, layout_of, LaidOut, IsFunction, Rooted, NoRoot, OnTree, AllOnTrees, NodesOnly, fixed_size, size_as, sizes_from}
use Rattle.trees.proofs.Places.{nth_set_same, nth_set_other}
use Rattle.trees.proofs.Layouts.{written_after, written_counted, seen_at, written_is, written_reached, root_before}

-- a tree more: nodes come after, and the roots of other symbols stay
tree_after : (f : ℕ) (w : Layout) (o : Option Tree) → (more : List SeenNode) × ((with_tree f w o).nodes ≡ w.nodes ++ more)
tree_after f w None = ([], sym (append-nil w.nodes))
tree_after f w (Some t) =
    let z = laid_tree w.nodes t in
    let a = written_after w.nodes t in
    let v : List SeenNode = record { under = symbol f; kind = z.1; next = None } ∷ [] in
    (a.0 ++ v, ap (λ (xs : List SeenNode). xs ++ v) a.1 ∙ append_assoc w.nodes a.0 v)

tree_other : (f : ℕ) (w : Layout) (o : Option Tree) (g : ℕ) → (g ≡ f → ⊥) → slice_get (with_tree f w o).roots g ≡ slice_get w.roots g
tree_other f w None g n = refl
tree_other f w (Some t) g n = nth_set_other w.roots f g (Some (length (laid_tree w.nodes t).0)) n

tree_long : (f : ℕ) (w : Layout) (o : Option Tree) → length (with_tree f w o).roots ≡ length w.roots
tree_long f w None = refl
tree_long f w (Some t) = length-set w.roots f (Some (length (laid_tree w.nodes t).0))

tree_counted : (f : ℕ) (w : Layout) (o : Option Tree) → length (with_tree f w o).nodes ≡ length w.nodes + fixed_size o
tree_counted f w None = omega arith
tree_counted f w (Some t) =
    let z = laid_tree w.nodes t in
    let v : SeenNode = record { under = symbol f; kind = z.1; next = None } in
    let one = length-append z.0 (v ∷ []) in
    let h = written_counted w.nodes t in omega arith

module _ (B : Book) where
  -- the same of a symbol
  symbol_after : (s : ℕ) (r : Role) (w : Layout) → (more : List SeenNode) × ((with_symbol B s r w).nodes ≡ w.nodes ++ more)
  symbol_after s Constructor w = ([], sym (append-nil w.nodes))
  symbol_after s Function w = tree_after s w (fixed_tree B s)
  symbol_after s Operation w = ([], sym (append-nil w.nodes))

  symbol_other : (s : ℕ) (r : Role) (w : Layout) (g : ℕ) → (g ≡ s → r ≡ Function → ⊥) → slice_get (with_symbol B s r w).roots g ≡ slice_get w.roots g
  symbol_other s Constructor w g n = refl
  symbol_other s Function w g n = tree_other s w (fixed_tree B s) g (λ e. n e refl)
  symbol_other s Operation w g n = refl

  symbol_long : (s : ℕ) (r : Role) (w : Layout) → length (with_symbol B s r w).roots ≡ length w.roots
  symbol_long s Constructor w = refl
  symbol_long s Function w = tree_long s w (fixed_tree B s)
  symbol_long s Operation w = refl

  symbol_counted : (s : ℕ) (r : Role) (w : Layout) → length (with_symbol B s r w).nodes ≡ length w.nodes + size_as B s r
  symbol_counted s Constructor w = omega arith
  symbol_counted s Function w = tree_counted s w (fixed_tree B s)
  symbol_counted s Operation w = omega arith

  -- of all symbols from s on
  laid_after : (s : ℕ) (ds : List Declaration) (w : Layout) → (more : List SeenNode) × ((laid_from B s ds w).nodes ≡ w.nodes ++ more)
  laid_after s [] w = ([], sym (append-nil w.nodes))
  laid_after s (d ∷ ds) w =
      let a = symbol_after s d.role w in
      let b = laid_after (suc s) ds (with_symbol B s d.role w) in
      (a.0 ++ b.0, b.1 ∙ ap (λ (xs : List SeenNode). xs ++ b.0) a.1 ∙ append_assoc w.nodes a.0 b.0)

  laid_other : (s : ℕ) (ds : List Declaration) (w : Layout) (g : ℕ) → ((k : ℕ) (d : Declaration) → s + k ≡ g → slice_get ds k ≡ Some d → d.role ≡ Function → ⊥)
      → slice_get (laid_from B s ds w).roots g ≡ slice_get w.roots g
  laid_other s [] w g n = refl
  laid_other s (d ∷ ds) w g n =
      laid_other (suc s) ds (with_symbol B s d.role w) g (λ k e i. n (suc k) e (omega (arith, i)))
      ∙ symbol_other s d.role w g (λ e. n 0 d (omega (arith, e)) refl)

  laid_counted : (s : ℕ) (ds : List Declaration) (w : Layout) → length (laid_from B s ds w).nodes ≡ length w.nodes + sizes_from B s ds
  laid_counted s [] w = omega arith
  laid_counted s (d ∷ ds) w = let a = symbol_counted s d.role w in let b = laid_counted (suc s) ds (with_symbol B s d.role w) in omega arith

  -- each function has a fixed tree
  abbrev pub Fixed : ℕ → List Declaration → Type 0
  Fixed s ds = (k : ℕ) (d : Declaration) → slice_get ds k ≡ Some d → d.role ≡ Function → (x : Tree) × (fixed_tree B (s + k) ≡ Some x)

  pub later : (s : ℕ) (d : Declaration) (ds : List Declaration) → Fixed s (d ∷ ds) → Fixed (suc s) ds
  later s d ds h k c e f = let z = h (suc k) c e f in let i : s + suc k ≡ suc s + k = omega arith in (z.0, ap (fixed_tree B) (sym i) ∙ z.1)

  with_first : (s : ℕ) (d : Declaration) (w : Layout) (x : Tree) → d.role ≡ Function → fixed_tree B (s + 0) ≡ Some x → with_symbol B s d.role w ≡ with_tree s w (Some x)
  with_first s d w x e f = let i : s + 0 ≡ s = omega arith in ap (λ (r : Role). with_symbol B s r w) e ∙ ap (with_tree s w) (ap (fixed_tree B) (sym i) ∙ f)

  -- so it is where no function is at fault
  pub fixed_trees : (s : ℕ) (ds : List Declaration) → first_fault B s ds ≡ None → Fixed s ds
  fixed_trees s [] e k d f r = absurd (zero_one (cc))
  fixed_trees s (c ∷ ds) e zero d f r = judge (fixed_tree B (s + 0)) refl
    where
      none : symbol_fault B s c.role ≡ None
      none = (or_none (symbol_fault B s c.role) (first_fault B (suc s) ds) e).0

      told : judged B.signature s (fixed_tree B (s + 0)) ≡ None
      told = let i : s + 0 ≡ s = omega arith in let y : c.role ≡ Function = (let z : d.role ≡ c.role = cc in sym z ∙ r) in
          ap (λ (x : ℕ). judged B.signature s (fixed_tree B x)) i ∙ sym (ap (symbol_fault B s) y) ∙ none

      judge : (o : Option Tree) → fixed_tree B (s + 0) ≡ o → (x : Tree) × (fixed_tree B (s + 0) ≡ Some x)
      judge None g = let h : judged B.signature s None ≡ None = ap (judged B.signature s) (sym g) ∙ told in absurd (zero_one (cc))
      judge (Some x) g = (x, g)
  fixed_trees s (c ∷ ds) e (suc k) d f r =
      let i : suc s + k ≡ s + suc k = omega arith in
      let z = fixed_trees (suc s) ds (or_none (symbol_fault B s c.role) (first_fault B (suc s) ds) e).1 k d f r in
      (z.0, ap (fixed_tree B) (sym i) ∙ z.1)

  module _ (t : Trees) where
    -- as many nodes stand as are seen
    nodes_seen : (w : Layout) → layout_of B t ≡ w → length (nodes_in t) ≡ length w.nodes
    nodes_seen w e = sym (length-map (nodes_in t) _) ∙ ap (λ (x : Layout). length x.nodes) e

    -- the root of a tree that was written, with all that is below it
    record Placed (f : ℕ) (w : Layout) (x : Tree) : Type 0 where
      place : ℕ
      root : Node
      there : slice_get (roots_in t) f ≡ Some (Some place)
      stands : slice_get (nodes_in t) place ≡ Some root
      under : root.symbol ≡ f
      earlier : Before (first_child root.kind) place
      is : Is B.rules (nodes_in t) root.kind x
      last : length (with_tree f w (Some x)).nodes ≡ place + 1
      reached : (j : ℕ) → length w.nodes ≤ j → j < place → Reaches (nodes_in t) j (first_child root.kind)

    placed : (f : ℕ) (ds : List Declaration) (w : Layout) (x : Tree) → layout_of B t ≡ laid_from B (suc f) ds (with_tree f w (Some x)) → f < length w.roots → Placed f w x
    placed f ds w x e l =
        let z = laid_tree w.nodes x in
        let v : SeenNode = record { under = symbol f; kind = z.1; next = None } in
        let a = laid_after (suc f) ds (with_tree f w (Some x)) in
        let all = ap (λ (y : Layout). y.nodes) e ∙ a.1 ∙ append_assoc z.0 (v ∷ []) a.0 in
        let r = seen_at B.rules (nodes_in t) z.0 a.0 v all in
        let kind = ap (λ (y : SeenNode). y.kind) r.seen in
        record {
          place = length z.0;
          root = r.node;
          there = ap (λ (y : Layout). slice_get y.roots f) e ∙ laid_other (suc f) ds (with_tree f w (Some x)) f (λ k d i. absurd (omega (arith, i))) ∙ nth_set_same w.roots f (Some (length z.0)) l;
          stands = r.there;
          under = (let h = ap (λ (y : SeenNode). y.under) r.seen in cc);
          earlier = root_before B.rules w.nodes x r.node.kind kind;
          is = written_is B.rules (nodes_in t) w.nodes (v ∷ a.0) x r.node.kind all kind;
          last = length-append z.0 (v ∷ []);
          reached = written_reached B.rules (nodes_in t) w.nodes (v ∷ a.0) x r.node.kind all kind;
        }

    -- a function's root is that of its fixed tree
    laid_rooted : (s : ℕ) (ds : List Declaration) (w : Layout) → layout_of B t ≡ laid_from B s ds w → s + length ds ≤ length w.roots → Fixed s ds
        → (k : ℕ) (d : Declaration) → slice_get ds k ≡ Some d → d.role ≡ Function → Rooted B t (s + k)
    laid_rooted s [] w e l h k d f r = absurd (zero_one (cc))
    laid_rooted s (c ∷ ds) w e l h zero d f r =
        let x = h 0 d f r in
        let y : d.role ≡ c.role = cc in
        let p = placed s ds w x.0 (e ∙ ap (laid_from B (suc s) ds) (with_first s c w x.0 (sym y ∙ r) x.1)) (omega arith) in
        let i : s + 0 ≡ s = omega arith in
        record {
          place = p.place;
          root = p.root;
          tree = x.0;
          there = ap (slice_get (roots_in t)) i ∙ p.there;
          stands = p.stands;
          under = p.under ∙ sym i;
          earlier = p.earlier;
          fixed = x.1;
          is = p.is;
        }
    laid_rooted s (c ∷ ds) w e l h (suc k) d f r =
        let n = symbol_long s c.role w in
        let i : suc s + k ≡ s + suc k = omega arith in
        subst (Rooted B t) i (laid_rooted (suc s) ds (with_symbol B s c.role w) e (omega arith) (later s c ds h) k d f r)

    -- each node is on a tree
    laid_on : (s : ℕ) (ds : List Declaration) (w : Layout) → layout_of B t ≡ laid_from B s ds w → s + length ds ≤ length w.roots → Fixed s ds → (j : ℕ) → length w.nodes ≤ j → j < length (nodes_in t) → OnTree t j
    laid_on s [] w e l h j m n = let q = nodes_seen w e in absurd (omega arith)
    laid_on s (c ∷ ds) w e l h j m n = go c.role refl (λ q. let z = symbol_long s c.role w in laid_on (suc s) ds (with_symbol B s c.role w) e (omega arith) (later s c ds h) j q n)
      where
        go : (r : Role) → c.role ≡ r → (length (with_symbol B s c.role w).nodes ≤ j → OnTree t j) → OnTree t j
        go Constructor f rest = rest (let i = ap (λ (r : Role). length (with_symbol B s r w).nodes) f in omega arith)
        go Operation f rest = rest (let i = ap (λ (r : Role). length (with_symbol B s r w).nodes) f in omega arith)
        go Function f rest =
            let x = h 0 c refl f in
            let y = with_first s c w x.0 f x.1 in
            let p = placed s ds w x.0 (e ∙ ap (laid_from B (suc s) ds) y) (omega arith) in
            let i = ap (λ (v : Layout). length v.nodes) y in
            let k = p.last in
            elim (cases_lt j (p.place + 1)) [
              | inl q ↦ record { owner = s; place = p.place; root = p.root; there = p.there; stands = p.stands; earlier = p.earlier; held = elim (cases_lt j p.place) [ inl u ↦ inr (p.reached j m u) | inr u ↦ inl (omega arith) ] }
              | inr q ↦ rest (omega arith)
            ]

-- where nothing is laid out, no symbol has a root
all_none : (n k : ℕ) (o : Option ℕ) → o ≡ None → onward (slice_get (replicate n o) k) (λ (x : Option ℕ). x) ≡ None
all_none zero k o e = refl
all_none (suc n) zero o e = e
all_none (suc n) (suc k) o e = all_none n k o e

-- The trees of a book are laid out, of at most 96 symbols, of which each function has a fixed tree.
module _ (B : Book) (t : Trees) (laid : LaidOut B t) where
  abbrev start : Layout
  start = record { nodes = []; roots = replicate 96 None }

  module _ (few : length B.signature.symbols ≤ 96) (trees : Fixed B 0 B.signature.symbols) where
    short : 0 + length B.signature.symbols ≤ length start.roots
    short = let none : Option ℕ = None in let l = length-replicate 96 none in omega arith

    pub all_rooted : (f : ℕ) → IsFunction B.signature f → Rooted B t f
    all_rooted f h = let i : 0 + f ≡ f = omega arith in subst (Rooted B t) i (laid_rooted B t 0 B.signature.symbols start laid short trees f h.0 h.1 h.2)

    pub all_on_trees : AllOnTrees t
    all_on_trees j l = laid_on B t 0 B.signature.symbols start laid short trees j (omega arith) l

  pub others_rootless : (s : ℕ) → (IsFunction B.signature s → ⊥) → NoRoot t s
  others_rootless s n =
      ap (λ (o : Option (Option ℕ)). onward o (λ x. x))
      (ap (λ (w : Layout). slice_get w.roots s) laid
      ∙ laid_other B 0 B.signature.symbols start s (λ k d e f r. n (d, subst (λ (x : ℕ). slice_get B.signature.symbols x ≡ Some d) (let i : k ≡ s = omega (arith, e) in i) f, r)))
      ∙ all_none 96 s None refl

  pub nodes_only : NodesOnly B t
  nodes_only = let a = nodes_seen B t (laid_out B) laid in let b = laid_counted B 0 B.signature.symbols start in omega arith
