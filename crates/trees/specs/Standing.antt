-- What the trees of a draft are.
use Rattle.std.specs.Prelude.{◌≡◌, ℕ, suc, ◌+◌, ◌<◌, ◌≤◌, ◌⊎◌, List, [], ◌∷◌, length, Some, None, Ok, Err, Option, Result, nat_le, filter}
use Rattle.std.specs.List.{slice_get}
use Rattle.terms.specs.declared.signature.Role.{Role}
use Rattle.terms.specs.declared.signature.Role.TheVariants.{Constructor, Function, Operation}
use Rattle.terms.specs.Terms.{own}
use Rattle.terms.specs.Options.{onward}
use Rattle.terms.specs.Signatures.{Declaration, Signature}
use Rattle.terms.specs.Roots.{call, Stands}
use Rattle.rewriting.specs.Rules.{Rule, Book}
use Rattle.rewriting.specs.Trees.{Node as Tree, at_rule, branch, Nodes as Children, no_child, child}
use Rattle.rewriting.specs.FixedTree.{fixed_tree}
use Rattle.drafts.specs.Drafts.{longest_side}
use Rattle.trees.specs.declared.node.Node.{Node}
use Rattle.trees.specs.declared.trees.Trees.{Trees}
use Rattle.trees.specs.Nodes.{Before, first_child, Is, Reaches}
use Rattle.trees.specs.Growth.{nodes_of, stored, cost}
use Rattle.trees.specs.Layout.{Layout, with_declared, laid_out}

-- the nodes
abbrev pub nodes_in : Trees → List Node
nodes_in t = nodes_of t.store

-- for each symbol the place of its root
abbrev pub roots_in : Trees → List (Option ℕ)
roots_in t = t.roots

-- both, the nodes as they are seen under the rules of a book
abbrev pub layout_of : Book → Trees → Layout
layout_of B t = record { nodes = stored B.rules t.store; roots = roots_in t }

-- nodes and roots are the layout of the book's trees, and nothing else
abbrev pub LaidOut : Book → Trees → Type 0
LaidOut B t = layout_of B t ≡ laid_out B

-- the symbol f is declared as a function
abbrev pub IsFunction : Signature → ℕ → Type 0
IsFunction S f = (d : Declaration) × (slice_get S.symbols f ≡ Some d) × (d.role ≡ Function)

-- the refusal in an answer
abbrev pub refusal : {A F : Type 0} → Result A F → Option F
refusal (Ok a) = None
refusal (Err f) = Some f

-- the tree of f: at its root's place a node stands under f that is the fixed tree
pub record Rooted (B : Book) (t : Trees) (f : ℕ) : Type 0 where
  pub place : ℕ
  pub root : Node
  pub tree : Tree
  pub there : slice_get (roots_in t) f ≡ Some (Some place)
  pub stands : slice_get (nodes_in t) place ≡ Some root
  pub under : root.symbol ≡ f
  pub earlier : Before (first_child root.kind) place
  pub fixed : fixed_tree B f ≡ Some tree
  pub is : Is B.rules (nodes_in t) root.kind tree

-- so for every declared function
abbrev pub AllRooted : Book → Trees → Type 0
AllRooted B t = (f : ℕ) → Stands B.signature (call (own f)) → Rooted B t f

-- a symbol has no root
abbrev pub NoRoot : Trees → ℕ → Type 0
NoRoot t s = onward (slice_get (roots_in t) s) (λ o. o) ≡ None

-- so for every symbol that is no declared function
abbrev pub OthersRootless : Book → Trees → Type 0
OthersRootless B t = (s : ℕ) → (Stands B.signature (call (own s)) → ⊥) → NoRoot t s

-- the node at a place is on a tree: at the root of some symbol or below
pub record OnTree (t : Trees) (j : ℕ) : Type 0 where
  pub owner : ℕ
  pub place : ℕ
  pub root : Node
  pub there : slice_get (roots_in t) owner ≡ Some (Some place)
  pub stands : slice_get (nodes_in t) place ≡ Some root
  pub earlier : Before (first_child root.kind) place
  pub held : (place ≡ j) ⊎ Reaches (nodes_in t) j (first_child root.kind)

-- so for every node
abbrev pub AllOnTrees : Trees → Type 0
AllOnTrees t = (j : ℕ) → j < length (nodes_in t) → OnTree t j

-- how many nodes a tree has, its root among them
abbrev mutual
  pub size : Tree → ℕ
  size (at_rule r) = 1
  size (branch p ts) = suc (sizes ts)

  -- and children with all below them
  pub sizes : Children → ℕ
  sizes no_child = 0
  sizes (child c t ts) = size t + sizes ts

-- of the tree of a function
abbrev pub fixed_size : Option Tree → ℕ
fixed_size None = 0
fixed_size (Some t) = size t

-- of a symbol in a role; one that is no function has none
abbrev pub size_as : Book → ℕ → Role → ℕ
size_as B s Constructor = 0
size_as B s Function = fixed_size (fixed_tree B s)
size_as B s Operation = 0

-- of all symbols from s on together
abbrev pub sizes_from : Book → ℕ → List Declaration → ℕ
sizes_from B s [] = 0
sizes_from B s (d ∷ ds) = size_as B s d.role + sizes_from B (suc s) ds

-- of the whole book
abbrev pub trees_size : Book → ℕ
trees_size B = sizes_from B 0 B.signature.symbols

-- as many nodes stand as the fixed trees of the declared functions have together
abbrev pub NodesOnly : Book → Trees → Type 0
NodesOnly B t = length (nodes_in t) ≡ trees_size B

-- no two rules are the same
abbrev pub RulesDiffer : Book → Type 0
RulesDiffer B = (j k : ℕ) (r : Rule) → slice_get B.rules j ≡ Some r → slice_get B.rules k ≡ Some r → j ≡ k

-- how many nodes the trees of the symbols from s on take at most
abbrev pub owed : Book → ℕ → ℕ
owed B s = cost longest_side (filter (λ r. nat_le s r.function) B.rules)

-- the tree of the symbol s was added, if it is a function, and room is left for those after it
pub record TreeAdded (B : Book) (s : ℕ) (a b : Trees) : Type 0 where
  pub laid : layout_of B b ≡ with_declared B s (slice_get B.signature.symbols s) (layout_of B a)
  pub within : length (nodes_in b) + owed B (suc s) ≤ length (nodes_in a) + owed B s
