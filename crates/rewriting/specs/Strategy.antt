-- The strategy φ. Assumes nothing.
use Rattle.std.specs.Prelude.{ℕ, zero, suc, max, cond, List, [], ◌∷◌, ◌++◌, Some, None, Option, option_map}
use Rattle.std.specs.Option.{option_or}
use Rattle.numbers.specs.Meaning.{Meaning}
use Rattle.terms.specs.Terms.{Head, cell, plus, minus, atmost, own, Term, var, con, fun, Terms, nil, ◌▸◌}
use Rattle.terms.specs.Options.{onward}
use Rattle.terms.specs.Positions.{part, graft}
use Rattle.rewriting.specs.Substitutions.{instance, matching, in_first, in_later}
use Rattle.rewriting.specs.Rules.{left_side, Book}
use Rattle.rewriting.specs.Steps.{Cause, by_rule, by_kind, sum, difference, comparison}
use Rattle.rewriting.specs.Trees.{Node, at_rule, branch, Nodes, no_child, child}
use Rattle.rewriting.specs.FixedTree.{same_head, fixed_tree}

-- What a call's tree finds: no way on; a cause that contracts the call, and the contractum; or a function call inside, at a position.
pub data Found : Type 0 where
  stuck : Found
  contract : Cause → Term → Found
  inside : List ℕ → Found

-- by the part at a position: a constructor leads on, into a function call the strategy goes
abbrev pub look : Option Term → List ℕ → (Head → Found) → Found
look None p on = stuck
look (Some (var x)) p on = stuck
look (Some (con c ts)) p on = on c
look (Some (fun f ts)) p on = inside p

-- along a tree: at a rule node the call contracts; at a branch the constructor at the position leads to its child, and a missing child leaves φ undefined
abbrev mutual
  pub walk : Node → Term → Found
  walk (at_rule r) t = contract (by_rule r) (instance (matching (left_side r) t) r.right)
  walk (branch p ns) t = look (part t p) p (λ c. walk_child ns c t)

  pub walk_child : Nodes → Head → Term → Found
  walk_child no_child c t = stuck
  walk_child (child d n ns) c t = cond (same_head c d) (walk n t) (walk_child ns c t)

-- two cells contract, by the number kind
abbrev pub at_cells : (ℕ → ℕ → Term) → Head → Head → Found
at_cells g (cell m) (cell n) = contract by_kind (g m n)
at_cells g c d = stuck

-- plus, minus and atmost look at argument 1, then at argument 2, and contract when both are cells
abbrev pub operate : (ℕ → ℕ → Term) → Term → Found
operate g t = look (part t (1 ∷ [])) (1 ∷ []) (λ c. look (part t (2 ∷ [])) (2 ∷ []) (λ d. at_cells g c d))

-- a function whose tree is not there goes no way on
abbrev pub walk_if : Option Node → Term → Found
walk_if None t = stuck
walk_if (Some n) t = walk n t

-- a step of φ: its position, what contracts there, and the next term
pub record Move : Type 0 where
  pub position : List ℕ
  pub cause : Cause
  pub next : Term

-- the same move, seen from the term that has this one at the position p
abbrev pub from_above : Term → List ℕ → Move → Move
from_above t p m = record { position = p ++ m.position; cause = m.cause; next = graft t p m.next }

-- a move in the part at p
abbrev pub move_at : Term → List ℕ → (Term → Option Move) → Option Move
move_at t p go = onward (part t p) (λ s. option_map (from_above t p) (go s))

-- by what the tree of a call finds: the call contracts, or the move is made in the call inside
abbrev pub follow : Term → Found → (Term → Option Move) → Option Move
follow t stuck go = None
follow t (contract c u) go = Some (record { position = []; cause = c; next = u })
follow t (inside p) go = move_at t p go

-- how deep a term is
abbrev mutual
  pub depth : Term → ℕ
  depth (var x) = 0
  depth (con c ts) = suc (depths ts)
  depth (fun f ts) = suc (depths ts)

  pub depths : Terms → ℕ
  depths nil = 0
  depths (t ▸ ts) = max (depth t) (depths ts)

-- the position of the leftmost outermost function call
abbrev mutual
  pub outermost : Term → Option (List ℕ)
  outermost (var x) = None
  outermost (con c ts) = first_outermost ts
  outermost (fun f ts) = Some []

  pub first_outermost : Terms → Option (List ℕ)
  first_outermost nil = None
  first_outermost (t ▸ ts) = option_or (option_map in_first (outermost t)) (option_map in_later (first_outermost ts))

module _ (M : Meaning) (B : Book) where
  -- what a term finds at its root: only a call finds a way on
  abbrev pub find : Term → Found
  find (var x) = stuck
  find (con c ts) = stuck
  find (fun plus ts) = operate (sum M) (fun plus ts)
  find (fun minus ts) = operate (difference M) (fun minus ts)
  find (fun atmost ts) = operate (comparison M) (fun atmost ts)
  find (fun (own f) ts) = walk_if (fixed_tree B f) (fun (own f) ts)

  -- φ at a call; the number bounds how far inside it may go, and the call's depth is enough
  abbrev pub move_in : ℕ → Term → Option Move
  move_in zero t = None
  move_in (suc n) t = follow t (find t) (move_in n)

  -- φ: at the leftmost outermost call
  abbrev pub φ : Term → Option Move
  φ t = onward (outermost t) (λ p. move_at t p (λ s. move_in (depth s) s))

  -- the term after n steps of φ
  abbrev pub after : ℕ → Term → Option Term
  after zero t = Some t
  after (suc n) t = onward (φ t) (λ m. after n m.next)
