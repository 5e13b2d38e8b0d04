-- Variables, substitutions and instances. Assumes nothing.
use Rattle.std.specs.Prelude.{ℕ, suc, List, [], ◌∷◌, ◌++◌, map, Option, ◌==◌, Bool, find, option_map}
use Rattle.std.specs.Option.{unwrap_or}
use Rattle.terms.specs.Terms.{Term, var, con, fun, Terms, nil, ◌▸◌}
use Rattle.terms.specs.Options.{onward}
use Rattle.terms.specs.Positions.{part}

-- A substitution gives each variable a term.
abbrev pub Substitution : Type 0
Substitution = ℕ → Term

-- the instance of a term under a substitution
abbrev mutual
  pub instance : Substitution → Term → Term
  instance σ (var x) = σ x
  instance σ (con c ts) = con c (instances σ ts)
  instance σ (fun f ts) = fun f (instances σ ts)

  pub instances : Substitution → Terms → Terms
  instances σ nil = nil
  instances σ (t ▸ ts) = instance σ t ▸ instances σ ts

-- a variable that stands in a term, and its position there
pub record Occurrence : Type 0 where
  pub name : ℕ
  pub position : List ℕ

-- a position in the first argument, seen from the term
abbrev pub in_first : List ℕ → List ℕ
in_first p = 1 ∷ p

-- a position in the arguments after the first, seen from the term
abbrev pub in_later : List ℕ → List ℕ
in_later [] = []
in_later (i ∷ p) = suc i ∷ p

-- the same occurrence at another position
abbrev pub moved : (List ℕ → List ℕ) → Occurrence → Occurrence
moved g o = record { name = o.name; position = g o.position }

-- the variables of a term with their positions, in word order
abbrev mutual
  pub occurrences : Term → List Occurrence
  occurrences (var x) = record { name = x; position = [] } ∷ []
  occurrences (con c ts) = all_occurrences ts
  occurrences (fun f ts) = all_occurrences ts

  pub all_occurrences : Terms → List Occurrence
  all_occurrences nil = []
  all_occurrences (t ▸ ts) = map (moved in_first) (occurrences t) ++ map (moved in_later) (all_occurrences ts)

-- their names alone
abbrev pub variables : Term → List ℕ
variables t = map (λ (o : Occurrence). o.name) (occurrences t)

-- their positions alone
abbrev pub variable_positions : Term → List (List ℕ)
variable_positions t = map (λ (o : Occurrence). o.position) (occurrences t)

-- whether an occurrence is one of the variable x
abbrev pub is_of : ℕ → Occurrence → Bool
is_of x o = x == o.name

-- the first position of the variable x
abbrev pub position_of : ℕ → List Occurrence → Option (List ℕ)
position_of x os = option_map (λ (o : Occurrence). o.position) (find (is_of x) os)

-- the substitution that takes l to t, where t is an instance of l: each variable of l goes to what stands at its position in t
abbrev pub matching : Term → Term → Substitution
matching l t x = unwrap_or (onward (position_of x (occurrences l)) (part t)) (var x)
