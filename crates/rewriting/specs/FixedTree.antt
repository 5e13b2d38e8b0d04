-- The fixed tree of a function, computed. Assumes nothing.
use Rattle.std.specs.Prelude.{ℕ, zero, suc, ◌+◌, Bool, true, false, cond, ◌&&◌, List, [], ◌∷◌, Some, None, Option, ◌==◌, option_map, not, filter, find, is_some, sum_by}
use Rattle.std.specs.Option.{option_or}
use Rattle.std.specs.List.{list_all}
use Rattle.terms.specs.Terms.{Head, cell, symbol, Fn, plus, minus, atmost, own, Term, var, con, fun, Terms, nil, ◌▸◌}
use Rattle.terms.specs.Options.{onward, passes}
use Rattle.terms.specs.Signatures.{Signature}
use Rattle.terms.specs.Positions.{part}
use Rattle.rewriting.specs.Substitutions.{variable_positions}
use Rattle.rewriting.specs.Rules.{Rule, left_side, Book, rules_of}
use Rattle.rewriting.specs.Trees.{Node, at_rule, branch, Nodes, no_child, child, call_of, refined}

-- whether two constructors are the same
abbrev pub same_head : Head → Head → Bool
same_head (cell m) (cell n) = m == n
same_head (symbol s) (symbol z) = s == z
same_head c d = false

-- whether two functions are the same
abbrev pub same_fn : Fn → Fn → Bool
same_fn plus plus = true
same_fn minus minus = true
same_fn atmost atmost = true
same_fn (own f) (own g) = f == g
same_fn f g = false

-- whether two terms are equal but for the names of variables: where no variable stands twice, whether they are variants
abbrev mutual
  pub alike : Term → Term → Bool
  alike (var x) (var y) = true
  alike (con c ts) (con d us) = same_head c d && all_alike ts us
  alike (fun f ts) (fun g us) = same_fn f g && all_alike ts us
  alike t u = false

  pub all_alike : Terms → Terms → Bool
  all_alike nil nil = true
  all_alike (t ▸ ts) (u ▸ us) = alike t u && all_alike ts us
  all_alike ts us = false

-- the constructor that a term begins with
abbrev pub constructor : Term → Option Head
constructor (var x) = None
constructor (con c ts) = Some c
constructor (fun f ts) = None

-- the constructor that a rule's left side has at a position
abbrev pub constructor_at : List ℕ → Rule → Option Head
constructor_at p r = onward (part (left_side r) p) constructor

-- whether it has the constructor c there
abbrev pub has_at : List ℕ → Head → Rule → Bool
has_at p c r = passes (same_head c) (constructor_at p r)

-- whether every left side has a constructor at the position
abbrev pub all_have : List ℕ → List Rule → Bool
all_have p rs = list_all (λ r. is_some (constructor_at p r)) rs

-- the first of some positions where every left side has a constructor
abbrev pub first_shared : List (List ℕ) → List Rule → Option (List ℕ)
first_shared ps rs = find (λ p. all_have p rs) ps

-- the constructors but c
abbrev pub without : Head → List Head → List Head
without c ds = filter (λ d. not (same_head c d)) ds

-- one more in front, and not again
abbrev pub joined : Option Head → List Head → List Head
joined None cs = cs
joined (Some c) cs = c ∷ without c cs

-- the constructors that the left sides have at a position, in order of first occurrence
abbrev pub constructors_at : List ℕ → List Rule → List Head
constructors_at p [] = []
constructors_at p (r ∷ rs) = joined (constructor_at p r) (constructors_at p rs)

-- a child for each of some constructors
abbrev pub children : (Head → Option Node) → List Head → Option Nodes
children tree [] = Some no_child
children tree (c ∷ cs) = onward (tree c) (λ n. option_map (child c n) (children tree cs))

-- the one rule that remains, if its left side is a variant of the pattern
abbrev pub sole_variant : Term → List Rule → Option Node
sole_variant π [] = None
sole_variant π (r ∷ []) = cond (alike (left_side r) π) (Some (at_rule r)) None
sole_variant π (r ∷ q ∷ rs) = None

-- The tree with the pattern π for the rules that remain: the one rule whose left side is a variant of π; else a branch at the first variable of π,
-- in word order, where every left side has a constructor, with a child for each constructor that occurs there. The number bounds the branches in a row.
module _ (S : Signature) where
  abbrev pub build : ℕ → Term → List Rule → Option Node
  build zero π rs = None
  build (suc n) π rs =
      option_or (sole_variant π rs) (onward (first_shared (variable_positions π) rs)
      (λ p. option_map (branch p) (children (λ c. build n (refined S π p c) (filter (has_at p c) rs)) (constructors_at p rs))))

-- the symbols of a term, variables apart
abbrev mutual
  pub size : Term → ℕ
  size (var x) = 0
  size (con c ts) = suc (sizes ts)
  size (fun f ts) = suc (sizes ts)

  pub sizes : Terms → ℕ
  sizes nil = 0
  sizes (t ▸ ts) = size t + sizes ts

-- a bound: each branch puts one more symbol of some left side into the pattern
abbrev pub enough : List Rule → ℕ
enough rs = sum_by (λ (r : Rule). size (left_side r)) rs

-- the fixed tree of the function f
abbrev pub fixed_tree : Book → ℕ → Option Node
fixed_tree B f = build B.signature (enough (rules_of B f)) (call_of B.signature f) (rules_of B f)
