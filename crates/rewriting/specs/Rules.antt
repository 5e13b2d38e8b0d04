-- Rules and books. Assumes nothing.
use Rattle.std.specs.Prelude.{◌≡◌, ℕ, Bool, List, [], ◌∷◌, Some, ◌≢◌, nat_eq, filter}
use mathlib.Core.List.{Memᴰ}
use Rattle.std.specs.List.{slice_get}
use Rattle.terms.specs.Terms.{symbol, own, Term, var, fun, Terms}
use Rattle.terms.specs.Signatures.{Declaration, Signature, built_in}
use Rattle.terms.specs.Roots.{head, Stands}
use Rattle.terms.specs.Sorting.{Environment, Sorted, head_sort, fn_sort, Lawful}
use Rattle.terms.specs.Positions.{part}
use Rattle.rewriting.specs.Substitutions.{variables}

-- A rule f(p1, .., pn) → r: the function's number, the terms p1 to pn, the term r.
pub record Rule : Type 0 where
  pub function : ℕ
  pub left : Terms
  pub right : Term

-- the left side as a term
abbrev pub left_side : Rule → Term
left_side r = fun (own r.function) r.left

-- A book: a signature, and rules for its functions.
pub record Book : Type 0 where
  pub signature : Signature
  pub rules : List Rule

-- the rules of the function f
abbrev pub rules_of : Book → ℕ → List Rule
rules_of B f = filter (λ r. nat_eq r.function f) B.rules

-- no two of a list are equal
abbrev pub Different : {A : Type 0} → List A → Type 0
Different [] = Unit {0}
Different (x ∷ xs) = (Memᴰ x xs → ⊥) × Different xs

-- no variable stands at two positions
abbrev pub Linear : Term → Type 0
Linear t = (x : ℕ) (p q : List ℕ) → part t p ≡ Some (var x) → part t q ≡ Some (var x) → p ≡ q

-- Sort-correct: some sorts of the variables give both sides the function's sort, and no variable is on the right alone.
pub record SortCorrect (S : Signature) (r : Rule) : Type 0 where
  pub sorts : Environment
  pub left_sorted : Sorted S sorts (left_side r) (fn_sort S (own r.function))
  pub right_sorted : Sorted S sorts r.right (fn_sort S (own r.function))
  pub none_new : (x : ℕ) → Memᴰ x (variables r.right) → Memᴰ x (variables (left_side r))

-- every rule of a book is sort-correct
abbrev pub SortCorrectRules : Book → Type 0
SortCorrectRules B = (r : Rule) → Memᴰ r B.rules → SortCorrect B.signature r

-- every left side is linear
abbrev pub LeftLinear : Book → Type 0
LeftLinear B = (r : Rule) → Memᴰ r B.rules → Linear (left_side r)

-- the cells of every right side are lawful
abbrev pub LawfulRules : (ℕ → Bool) → Book → Type 0
LawfulRules lawful B = (r : Rule) → Memᴰ r B.rules → Lawful lawful r.right

-- A signature for numbers: the built-in symbols stand first, and no constructor but the cells makes numbers.
pub record Proper (S : Signature) : Type 0 where
  pub built_in_first : (s : ℕ) (d : Declaration) → slice_get built_in.symbols s ≡ Some d → slice_get S.symbols s ≡ Some d
  pub cells_alone : (s : ℕ) → Stands S (head (symbol s)) → head_sort S (symbol s) ≢ 0
