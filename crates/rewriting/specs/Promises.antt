-- What is proved of books, steps and φ. Assumes nothing.
use Rattle.std.specs.Prelude.{◌≡◌, ℕ, ◌+◌, ◌≤◌, Bool, true, ◌⊎◌, ◌↔◌, List, length, Some, None, ◌≢◌}
use mathlib.Core.List.{Memᴰ}
use Rattle.numbers.specs.Meaning.{Meaning, Sound}
use Rattle.terms.specs.Terms.{cell, own, Term, Closed, Value}
use Rattle.terms.specs.Signatures.{Signature}
use Rattle.terms.specs.Roots.{call, Stands}
use Rattle.terms.specs.Sorting.{Environment, Sorted, closed, Lawful}
use Rattle.rewriting.specs.Substitutions.{variables}
use Rattle.rewriting.specs.Rules.{Rule, left_side, Book, rules_of, Linear, SortCorrect, SortCorrectRules, LeftLinear, LawfulRules, Proper}
use Rattle.rewriting.specs.Steps.{StepAt, Step, Steps}
use Rattle.rewriting.specs.Trees.{Node, call_of, TreeFor, CompleteFor}
use Rattle.rewriting.specs.FixedTree.{constructor_at, size, build, enough, fixed_tree}
use Rattle.rewriting.specs.Growing.{grow, open_call, Reached, Within}
use Rattle.rewriting.specs.Completeness.{is_complete}
use Rattle.rewriting.specs.Strategy.{Move, depth, move_in, φ, after}

-- each function that has a rule has a definitional tree, complete or not
abbrev pub HasTrees : Book → Type 0
HasTrees B = (r : Rule) → Memᴰ r B.rules → (n : Node) × TreeFor B r.function n

-- each declared function has a complete definitional tree
abbrev pub HasCompleteTrees : Book → Type 0
HasCompleteTrees B = (f : ℕ) → Stands B.signature (call (own f)) → (n : Node) × TreeFor B f n × CompleteFor B f n

-- a closed term of the sort k with lawful cells
abbrev pub Ground : Signature → (ℕ → Bool) → Term → ℕ → Type 0
Ground S lawful t k = Closed t × Sorted S closed t k × Lawful lawful t

-- φ's move is a step at the position that it tells, by the cause that it tells.
abbrev pub MovesAreSteps : Type 0
MovesAreSteps = (M : Meaning) (B : Book) → Proper B.signature → SortCorrectRules B → LeftLinear B
    → (e : Environment) (t : Term) (k : ℕ) → Sorted B.signature e t k → (m : Move) → φ M B t ≡ Some m → StepAt M B m.position m.cause t m.next

-- φ normalises: a value that any steps lead to, φ reaches.
abbrev pub Normalises : Type 0
Normalises = (M : Meaning) (B : Book) → SortCorrectRules B → HasTrees B
    → (t v : Term) → Steps M B t v → Value v → (n : ℕ) × (after M B n t ≡ Some v)

-- Two values that any steps lead to from one term are equal.
abbrev pub OneValue : Type 0
OneValue = (M : Meaning) (B : Book) → SortCorrectRules B → HasTrees B
    → (t v w : Term) → Steps M B t v → Steps M B t w → Value v → Value w → v ≡ w

-- A step keeps a closed term closed, of its sort, and its cells lawful.
abbrev pub StepsKeepSorts : Type 0
StepsKeepSorts = (M : Meaning) (B : Book) → Sound M → Proper B.signature → SortCorrectRules B → LawfulRules M.lawful B
    → (t u : Term) (k : ℕ) → Ground B.signature M.lawful t k → Step M B t u → Ground B.signature M.lawful u k

-- With complete trees a closed sort-correct term is a value or φ has a move; and φ has none at a value.
abbrev pub Progress : Type 0
Progress = (M : Meaning) (B : Book) → Proper B.signature → SortCorrectRules B → HasCompleteTrees B
    → (t : Term) (k : ℕ) → Sorted B.signature closed t k → (Value t ⊎ ((m : Move) × (φ M B t ≡ Some m))) × (Value t → φ M B t ≡ None)

-- The fixed tree is exact for f: it is a tree; some tree is there exactly when it is built; a complete one exactly when it is complete.
pub record Exact (B : Book) (f : ℕ) : Type 0 where
  pub is_tree : (n : Node) → fixed_tree B f ≡ Some n → TreeFor B f n
  pub some_tree : ((n : Node) × TreeFor B f n) ↔ ((n : Node) × (fixed_tree B f ≡ Some n))
  pub some_complete : ((n : Node) × TreeFor B f n × CompleteFor B f n) ↔ ((n : Node) × (fixed_tree B f ≡ Some n) × CompleteFor B f n)

-- It is so for every function with at least one rule whose rules are sort-correct and left-linear.
abbrev pub FixedTreeExact : Type 0
FixedTreeExact = (B : Book) (f : ℕ) → ((r : Rule) → Memᴰ r (rules_of B f) → SortCorrect B.signature r × Linear (left_side r))
    → (r : Rule) → Memᴰ r (rules_of B f) → Exact B f

-- The bounds cut nothing off: with larger ones the builder builds the same, and φ moves the same.
pub record BoundsSuffice : Type 0 where
  pub builds_same : (B : Book) (f : ℕ) → ((r : Rule) → Memᴰ r (rules_of B f) → SortCorrect B.signature r × Linear (left_side r))
      → (r : Rule) → Memᴰ r (rules_of B f) → (n : ℕ) → enough (rules_of B f) ≤ n → build B.signature n (call_of B.signature f) (rules_of B f) ≡ fixed_tree B f
  pub moves_same : (M : Meaning) (B : Book) (t : Term) (n : ℕ) → depth t ≤ n → move_in M B n t ≡ move_in M B (depth t) t

-- the rules of f are sort-correct and left-linear, and there is one
pub record Ruled (B : Book) (f : ℕ) : Type 0 where
  pub right : (r : Rule) → Memᴰ r (rules_of B f) → SortCorrect B.signature r × Linear (left_side r)
  pub some : (r : Rule) × Memᴰ r (rules_of B f)

-- no left side of f has more than this many letters: symbols and variables
abbrev pub NoLonger : Book → ℕ → ℕ → Type 0
NoLonger B f most = (r : Rule) → Memᴰ r (rules_of B f) → size (left_side r) + length (variables (left_side r)) ≤ most

-- Grown by open positions, the fixed tree comes out, and no bound is passed on the way.
pub record GrowsFixedTree : Type 0 where
  pub same : (B : Book) (f most : ℕ) → Ruled B f → NoLonger B f most → grow B.signature most (open_call B.signature f) (rules_of B f) ≡ fixed_tree B f
  pub within : (B : Book) (f most : ℕ) → Ruled B f → NoLonger B f most → (n : ℕ) (ps : List (List ℕ)) (rs : List Rule) → Reached B f most n ps rs → Within most n ps rs

-- no left side of f has a number cell
abbrev pub CellFree : Book → ℕ → Type 0
CellFree B f = (r : Rule) → Memᴰ r (rules_of B f) → (p : List ℕ) (n : ℕ) → constructor_at p r ≢ Some (cell n)

-- The computed test tells whether the fixed tree is complete.
abbrev pub TellsComplete : Type 0
TellsComplete = (B : Book) (f : ℕ) → Proper B.signature → length B.signature.symbols ≤ 96 → Ruled B f → CellFree B f
    → (n : Node) → fixed_tree B f ≡ Some n → (is_complete B.signature n ≡ true) ↔ CompleteFor B f n
