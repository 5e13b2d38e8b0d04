-- How the trees of a book lie in an array of nodes. Assumes nothing.
use Rattle.std.specs.Prelude.{ℕ, suc, List, [], ◌∷◌, ◌++◌, length, replicate, set, Some, None, Option}
use Rattle.std.specs.List.{slice_get}
use Rattle.terms.specs.declared.signature.Role.{Role}
use Rattle.terms.specs.declared.signature.Role.TheVariants.{Constructor, Function, Operation}
use Rattle.terms.specs.Terms.{Head, symbol}
use Rattle.terms.specs.Signatures.{Declaration}
use Rattle.rewriting.specs.Rules.{Rule, Book}
use Rattle.rewriting.specs.Trees.{Node as Tree, at_rule, branch, Nodes as Children, no_child, child}
use Rattle.rewriting.specs.FixedTree.{fixed_tree}
use Rattle.trees.specs.declared.node.Node.{Node}
use Rattle.trees.specs.declared.node.Kind.{Kind}
use Rattle.trees.specs.declared.node.Kind.TheVariants.{Rule as RuleNode, Branch}
use Rattle.trees.specs.Views.{steps_of}

-- what a node is seen to be: a rule, none where its number is no rule's; or a branch at a position, with the place of its first child
pub data SeenKind : Type 0 where
  applies : Option Rule → SeenKind
  branches : List ℕ → Option ℕ → SeenKind

-- a node as it is seen: what it stands under, what it is, and the place of the next child of its parent
pub record SeenNode : Type 0 where
  pub under : Head
  pub kind : SeenKind
  pub next : Option ℕ

-- what a node is, where its number counts rules of this list
abbrev pub seen_kind : List Rule → Kind → SeenKind
seen_kind rs (RuleNode k) = applies (slice_get rs k)
seen_kind rs (Branch p first) = branches (steps_of p) first

-- and the whole node
abbrev pub seen_node : List Rule → Node → SeenNode
seen_node rs n = record { under = symbol n.symbol; kind = seen_kind rs n.kind; next = n.next }

-- A tree is written after the nodes that stand, all but its root, which is told: a branch's children from the last to the first, each after what is below it.
abbrev mutual
  pub laid_tree : List SeenNode → Tree → List SeenNode × SeenKind
  laid_tree ns (at_rule r) = (ns, applies (Some r))
  laid_tree ns (branch p ts) = let w = laid_children ns ts in (w.0, branches p w.1)

  -- and the place of the first child
  pub laid_children : List SeenNode → Children → List SeenNode × Option ℕ
  laid_children ns no_child = (ns, None)
  laid_children ns (child c t ts) =
      let w = laid_children ns ts in
      let z = laid_tree w.0 t in
      (z.0 ++ (record { under = c; kind = z.1; next = w.1 } ∷ []), Some (length z.0))

-- nodes, and for each symbol the place of its root
pub record Layout : Type 0 where
  pub nodes : List SeenNode
  pub roots : List (Option ℕ)

-- the tree of the function f is written, and then its root
abbrev pub with_tree : ℕ → Layout → Option Tree → Layout
with_tree f w None = w
with_tree f w (Some t) = let z = laid_tree w.nodes t in record { nodes = z.0 ++ (record { under = symbol f; kind = z.1; next = None } ∷ []); roots = set w.roots f (Some (length z.0)) }

-- of a symbol in a role; one that is no function has no tree
abbrev pub with_symbol : Book → ℕ → Role → Layout → Layout
with_symbol B s Constructor w = w
with_symbol B s Function w = with_tree s w (fixed_tree B s)
with_symbol B s Operation w = w

-- of the symbol s, if it is declared
abbrev pub with_declared : Book → ℕ → Option Declaration → Layout → Layout
with_declared B s None w = w
with_declared B s (Some d) w = with_symbol B s d.role w

-- the trees of all symbols from s on, one after the other
abbrev pub laid_from : Book → ℕ → List Declaration → Layout → Layout
laid_from B s [] w = w
laid_from B s (d ∷ ds) w = laid_from B (suc s) ds (with_symbol B s d.role w)

-- the trees of a book
abbrev pub laid_out : Book → Layout
laid_out B = laid_from B 0 B.signature.symbols (record { nodes = []; roots = replicate 96 None })
