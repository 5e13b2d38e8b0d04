-- What nodes in an array are. Assumes nothing.
use Rattle.std.specs.Prelude.{◌≡◌, ℕ, zero, suc, ◌<◌, cond, List, length, is_some, Some, None, Option, ◌==◌}
use Rattle.std.specs.List.{slice_get}
use Rattle.terms.specs.Terms.{symbol}
use Rattle.terms.specs.Options.{onward}
use Rattle.rewriting.specs.Rules.{Rule}
use Rattle.rewriting.specs.FixedTree.{same_head}
use Rattle.rewriting.specs.Trees.{Node as Tree, at_rule, branch, Nodes as Children, no_child, child}
use Rattle.trees.specs.declared.path.Path.{Path}
use Rattle.trees.specs.declared.node.Node.{Node}
use Rattle.trees.specs.declared.node.Kind.{Kind}
use Rattle.trees.specs.declared.node.Kind.TheVariants.{Rule as RuleNode, Branch}
use Rattle.trees.specs.Views.{steps_of}
use Rattle.trees.specs.Rows.{is_met}

-- a link goes to a place before i
abbrev pub Before : Option ℕ → ℕ → Type 0
Before None i = Unit {0}
Before (Some j) i = j < i

-- the link to the first child
abbrev pub first_child : Kind → Option ℕ
first_child (RuleNode k) = None
first_child (Branch p first) = first

-- A node is a tree's root: a rule by its number, or a branch whose children are linked; each child is the node at its link, under its constructor. Links go to earlier places.
mutual
  pub data Is (rs : List Rule) (ns : List Node) : Kind → Tree → Type 0 where
    is_rule : {k : ℕ} {r : Rule} → slice_get rs k ≡ Some r → Is rs ns (RuleNode k) (at_rule r)
    is_branch : {p : Path} {first : Option ℕ} {ts : Children} → Linked rs ns first ts → Is rs ns (Branch p first) (branch (steps_of p) ts)

  pub data Linked (rs : List Rule) (ns : List Node) : Option ℕ → Children → Type 0 where
    no_link : Linked rs ns None no_child
    link : {i : ℕ} {n : Node} {t : Tree} {ts : Children} → slice_get ns i ≡ Some n → Before (first_child n.kind) i → Before n.next i → Is rs ns n.kind t → Linked rs ns n.next ts
        → Linked rs ns (Some i) (child (symbol n.symbol) t ts)

-- links reach the place j, along children and below them
pub data Reaches (ns : List Node) (j : ℕ) : Option ℕ → Type 0 where
  reach_here : Reaches ns j (Some j)
  reach_below : {i : ℕ} {n : Node} → slice_get ns i ≡ Some n → Before (first_child n.kind) i → Reaches ns j (first_child n.kind) → Reaches ns j (Some i)
  reach_next : {i : ℕ} {n : Node} → slice_get ns i ≡ Some n → Before n.next i → Reaches ns j n.next → Reaches ns j (Some i)

-- the child for a constructor's symbol
abbrev pub child_for : ℕ → Children → Option Tree
child_for s no_child = None
child_for s (child c t ts) = cond (same_head (symbol s) c) (Some t) (child_for s ts)

-- the place of the node for a symbol, along links from a node on; so many links at most
abbrev pub seek : ℕ → List Node → Option ℕ → ℕ → Option ℕ
seek zero ns o s = None
seek (suc k) ns None s = None
seek (suc k) ns (Some i) s = onward (slice_get ns i) (λ n. cond (s == n.symbol) (Some i) (seek k ns n.next s))

-- from a node on, links lead to the symbols of some places, and to no other
abbrev pub Leads : List Node → Option ℕ → List (Option ℕ) → Type 0
Leads ns o hs = (s : ℕ) → is_some (seek (length ns) ns o s) ≡ is_met s hs

-- the answer is the place of a node that is this tree, under the symbol s; and none where there is no tree
abbrev pub IsChild : List Rule → List Node → ℕ → Option Tree → Option ℕ → Type 0
IsChild rs ns s None r = r ≡ None
IsChild rs ns s (Some t) r = (i : ℕ) × (n : Node) × (r ≡ Some i) × (slice_get ns i ≡ Some n) × (n.symbol ≡ s) × Is rs ns n.kind t

-- so for each branch that the node at a place is
abbrev pub FindsChild : List Node → ℕ → ℕ → Option ℕ → Type 0
FindsChild ns at s r = (rs : List Rule) (n : Node) (p : List ℕ) (ts : Children) → slice_get ns at ≡ Some n → Is rs ns n.kind (branch p ts) → IsChild rs ns s (child_for s ts) r
