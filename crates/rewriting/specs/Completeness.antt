-- Whether a tree is complete, computed. Assumes nothing.
use Rattle.std.specs.Prelude.{ℕ, suc, Bool, true, not, ◌&&◌, ◌||◌, List, [], ◌∷◌, ◌==◌}
use Rattle.std.specs.List.{list_any}
use Rattle.terms.specs.Terms.{Head, symbol}
use Rattle.terms.specs.Signatures.{Declaration, Signature}
use Rattle.terms.specs.Roots.{is_constructor}
use Rattle.terms.specs.Sorting.{head_sort}
use Rattle.rewriting.specs.Trees.{Node, at_rule, branch, Nodes, no_child, child, heads}
use Rattle.rewriting.specs.FixedTree.{same_head}

-- whether a constructor is one of some
abbrev pub is_among : Head → List Head → Bool
is_among c ds = list_any (same_head c) ds

module _ (S : Signature) where
  -- whether one of some constructors is of the sort k
  abbrev pub makes : ℕ → List Head → Bool
  makes k ds = list_any (λ d. head_sort S d == k) ds

  -- whether the symbol s, so declared, is one of some constructors, if it is a constructor of the sort of one of them
  abbrev pub is_met : List Head → ℕ → Declaration → Bool
  is_met cs s d = not (is_constructor d.role && makes d.sort cs) || is_among (symbol s) cs

  -- so for each symbol, from s on
  abbrev pub all_met : List Head → ℕ → List Declaration → Bool
  all_met cs s [] = true
  all_met cs s (d ∷ ds) = is_met cs s d && all_met cs (suc s) ds

  -- whether some constructors are all of their sort
  abbrev pub covers : List Head → Bool
  covers cs = all_met cs 0 S.symbols

  -- whether every branch has a child for each constructor of its children's sort
  abbrev mutual
    pub is_complete : Node → Bool
    is_complete (at_rule r) = true
    is_complete (branch p ns) = covers (heads ns) && are_complete ns

    pub are_complete : Nodes → Bool
    are_complete no_child = true
    are_complete (child c n ns) = is_complete n && are_complete ns
