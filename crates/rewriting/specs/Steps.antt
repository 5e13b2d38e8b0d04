-- The step relation. Assumes nothing.
use Rattle.std.specs.Prelude.{◌≡◌, ℕ, Bool, cond, List, Some}
use mathlib.Core.List.{Memᴰ}
use Rattle.numbers.specs.Meaning.{Meaning, plus_answer, minus_answer, atmost_answer}
use Rattle.terms.specs.Terms.{cell, symbol, Fn, plus, minus, atmost, Term, con, fun, nil, ◌▸◌}
use Rattle.terms.specs.Positions.{part, graft}
use Rattle.rewriting.specs.Substitutions.{Substitution, instance}
use Rattle.rewriting.specs.Rules.{Rule, left_side, Book}

infixr 20 ◌then◌
-- what contracts a redex: a rule, or the number kind
pub data Cause : Type 0 where
  by_rule : Rule → Cause
  by_kind : Cause

-- a number as a term
abbrev pub number : ℕ → Term
number n = con (cell n) nil

-- true is the symbol 3, false the symbol 4
abbrev pub truth : Bool → Term
truth b = con (symbol (cond b 3 4)) nil

-- what the number kind makes of plus at two cells
abbrev pub sum : Meaning → ℕ → ℕ → Term
sum M m n = number (plus_answer M m n)

-- of minus
abbrev pub difference : Meaning → ℕ → ℕ → Term
difference M m n = number (minus_answer M m n)

-- of atmost
abbrev pub comparison : Meaning → ℕ → ℕ → Term
comparison M m n = truth (atmost_answer M m n)

-- an operation at two numbers
abbrev pub at_numbers : Fn → ℕ → ℕ → Term
at_numbers f m n = fun f (number m ▸ number n ▸ nil)

-- A redex and its contractum: an instance of a rule's left side and that of its right side, or an operation at two numbers and the kind's answer.
pub data Contracts (M : Meaning) (B : Book) : Cause → Term → Term → Type 0 where
  a_rule : {t u : Term} (r : Rule) (σ : Substitution) → Memᴰ r B.rules → t ≡ instance σ (left_side r) → u ≡ instance σ r.right → Contracts M B (by_rule r) t u
  a_sum : {t u : Term} (m n : ℕ) → t ≡ at_numbers plus m n → u ≡ sum M m n → Contracts M B by_kind t u
  a_difference : {t u : Term} (m n : ℕ) → t ≡ at_numbers minus m n → u ≡ difference M m n → Contracts M B by_kind t u
  a_comparison : {t u : Term} (m n : ℕ) → t ≡ at_numbers atmost m n → u ≡ comparison M m n → Contracts M B by_kind t u

-- A step at a position, by a cause: the part there is a redex, and the contractum takes its place.
pub record StepAt (M : Meaning) (B : Book) (p : List ℕ) (c : Cause) (t u : Term) : Type 0 where
  pub redex : Term
  pub contractum : Term
  pub there : part t p ≡ Some redex
  pub contracts : Contracts M B c redex contractum
  pub gives : u ≡ graft t p contractum

-- a step at some position, by some cause
abbrev pub Step : Meaning → Book → Term → Term → Type 0
Step M B t u = (p : List ℕ) × (c : Cause) × StepAt M B p c t u

-- steps in a row, any number of them
pub data Steps (M : Meaning) (B : Book) : Term → Term → Type 0 where
  stay : {t : Term} → Steps M B t t
  ◌then◌ : {t u v : Term} → Step M B t u → Steps M B u v → Steps M B t v
