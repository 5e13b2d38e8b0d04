-- The fixed tree once more, by open positions: those at which the pattern has a variable. No pattern is held. Assumes nothing.
use Rattle.std.specs.Prelude.{◌≡◌, ℕ, zero, suc, ◌+◌, ◌-◌, ◌<◌, ◌≤◌, Bool, true, false, cond, List, [], ◌∷◌, ◌++◌, length, Some, None, Option, option_map, filter, flat_map}
use mathlib.Core.List.{Memᴰ}
use Rattle.std.specs.Str.{bytes_eq}
use Rattle.std.specs.Option.{option_or}
use Rattle.std.specs.List.{list_all}
use Rattle.terms.specs.Terms.{Head, own, Term, var, con, fun}
use Rattle.terms.specs.Options.{onward, passes}
use Rattle.terms.specs.Signatures.{Signature}
use Rattle.terms.specs.Roots.{head_args, fn_args}
use Rattle.terms.specs.Positions.{part}
use Rattle.rewriting.specs.Rules.{Rule, left_side, Book, rules_of}
use Rattle.rewriting.specs.Trees.{Node, at_rule, branch}
use Rattle.rewriting.specs.FixedTree.{has_at, first_shared, constructors_at, children, size}

-- whether a term is a variable
abbrev pub is_variable : Term → Bool
is_variable (var x) = true
is_variable (con c ts) = false
is_variable (fun f ts) = false

-- whether a rule's left side has a variable at a position
abbrev pub variable_at : List ℕ → Rule → Bool
variable_at p r = passes is_variable (part (left_side r) p)

-- at each of some positions
abbrev pub all_variables : List (List ℕ) → Rule → Bool
all_variables ps r = list_all (λ p. variable_at p r) ps

-- the one rule that remains, if it has a variable at each open position
abbrev pub sole_open : List (List ℕ) → List Rule → Option Rule
sole_open ps [] = None
sole_open ps (r ∷ []) = cond (all_variables ps r) (Some r) None
sole_open ps (r ∷ q ∷ rs) = None

-- the positions of m arguments below p, from the argument i on
-- Counted with suc, as positions are taken apart; the range of Rattle's library counts with + 1.
abbrev pub below : List ℕ → ℕ → ℕ → List (List ℕ)
below p i zero = []
below p i (suc m) = (p ++ (i ∷ [])) ∷ below p (suc i) m

-- an open position, or m arguments below it if it is p
abbrev pub opened_at : List ℕ → ℕ → List ℕ → List (List ℕ)
opened_at p m q = cond (bytes_eq q p) (below p 1 m) (q ∷ [])

-- the open positions with m arguments below p in place of p
abbrev pub opened : List (List ℕ) → List ℕ → ℕ → List (List ℕ)
opened qs p m = flat_map (opened_at p m) qs

module _ (S : Signature) where
  -- the open positions after a branch at p, under the constructor c
  abbrev pub opened_under : List (List ℕ) → List ℕ → Head → List (List ℕ)
  opened_under ps p c = opened ps p (length (head_args S c))

  -- the tree for the open positions and the rules that remain; the number bounds the branches in a row
  abbrev pub grow : ℕ → List (List ℕ) → List Rule → Option Node
  grow zero ps rs = None
  grow (suc n) ps rs =
      option_or (option_map at_rule (sole_open ps rs)) (onward (first_shared ps rs)
      (λ p. option_map (branch p) (children (λ c. grow n (opened_under ps p c) (filter (has_at p c) rs)) (constructors_at p rs))))

  -- the open positions of f(x1, .., xn)
  abbrev pub open_call : ℕ → List (List ℕ)
  open_call f = below [] 1 (length (fn_args S (own f)))

-- The open positions and the rules that remain, wherever the tree of f is grown; the first number is where the bound began, the second what is left of it.
pub data Reached (B : Book) (f most : ℕ) : ℕ → List (List ℕ) → List Rule → Type 0 where
  at_call : Reached B f most most (open_call B.signature f) (rules_of B f)
  in_branch : {n : ℕ} {ps : List (List ℕ)} {rs : List Rule} {p : List ℕ} {c : Head} → Reached B f most (suc n) ps rs → first_shared ps rs ≡ Some p → Memᴰ c (constructors_at p rs)
      → Reached B f most n (opened_under B.signature ps p c) (filter (has_at p c) rs)

-- how many nodes the rules that remain pay for: one for each symbol of a left side that is not yet in the pattern, and one more
-- Summed from the first rule on, so that it computes where the rules are taken apart; sum_by of Rattle's library adds up from the left.
abbrev pub paid : ℕ → ℕ → List Rule → ℕ
paid most n [] = 0
paid most n (r ∷ rs) = (size (left_side r) + n - most) + paid most n rs

-- and under each of some constructors; a recursion as in paid, for the same reason
abbrev pub paid_under : ℕ → ℕ → List ℕ → List Rule → List Head → ℕ
paid_under most n p rs [] = 0
paid_under most n p rs (c ∷ cs) = paid most n (filter (has_at p c) rs) + paid_under most n p rs cs

-- what holds wherever the tree is grown: a rule remains; the open positions and their lengths stay below the bound; each rule pays for a node,
-- and what is paid suffices for a branch and for all of its children
pub record Within (most n : ℕ) (ps : List (List ℕ)) (rs : List Rule) : Type 0 where
  pub remains : (r : Rule) × Memᴰ r rs
  pub few : length ps < n
  pub near : (p : List ℕ) → Memᴰ p ps → length p + n ≤ suc most
  pub pays : 1 ≤ paid most n rs
  pub pays_children : (m : ℕ) → n ≡ suc m → (p : List ℕ) → first_shared ps rs ≡ Some p → suc (paid_under most m p rs (constructors_at p rs)) ≤ paid most n rs
