-- What growing a tree does with the array of nodes.
use Rattle.std.specs.Prelude.{◌≡◌, ℕ, ◌+◌, ◌≤◌, List, map, length, Some, None, Option}
use Rattle.terms.specs.Rows.{items}
use Rattle.terms.specs.Signatures.{Signature}
use Rattle.rewriting.specs.Rules.{Rule, Book}
use Rattle.rewriting.specs.Trees.{Node as Tree}
use Rattle.rewriting.specs.Growing.{Reached, paid}
use Rattle.rewriting.specs.Completeness.{is_complete}
use Rattle.rewriting.specs.Promises.{Ruled}
use Rattle.drafts.specs.Drafts.{longest_side}
use Rattle.trees.specs.declared.node.Node.{Node}
use Rattle.trees.specs.declared.grown.Grown.{Grown}
use Rattle.trees.specs.declared.store.Store.{Store}
use Rattle.trees.specs.Layout.{SeenNode, seen_kind, seen_node, laid_tree}

-- the nodes that stand
abbrev pub nodes_of : Store → List Node
nodes_of a = items a.nodes

-- the nodes that stand, as they are seen under these rules
abbrev pub stored : List Rule → Store → List SeenNode
stored rs a = map (seen_node rs) (nodes_of a)

-- where there is a tree it was written after the nodes that stood; the answer is its root, and whether it is complete; and none where there is no tree
abbrev pub IsGrown : Signature → List Rule → Store → Store → Option Tree → Option Grown → Type 0
IsGrown S rs a b None g = g ≡ None
IsGrown S rs a b (Some t) g = (k : Grown) × (g ≡ Some k) × ((stored rs b, seen_kind rs k.kind) ≡ laid_tree (stored rs a) t) × (k.complete ≡ is_complete S t)

-- the tree of some function that has a rule is grown at these open positions, with these rules left
abbrev pub AtStage : Book → ℕ → List (List ℕ) → List Rule → Type 0
AtStage B n ps rs = (f : ℕ) × Ruled B f × Reached B f longest_side n ps rs

-- how many nodes that takes at most: each is paid for by a symbol of a left side
abbrev pub cost : ℕ → List Rule → ℕ
cost n rs = paid longest_side n rs

-- so many nodes were added at most, the root that is still to come among them
abbrev pub WithinCost : Store → Store → ℕ → Type 0
WithinCost a b most = length (nodes_of b) + 1 ≤ length (nodes_of a) + most
