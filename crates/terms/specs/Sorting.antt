-- Sorts and lawful cells. Assumes nothing.
use Rattle.std.specs.Prelude.{◌≡◌, ℕ, Bool, true, List, [], ◌∷◌, Some, None, Option}
use Rattle.std.specs.List.{slice_get}
use Rattle.terms.specs.Terms.{Head, cell, symbol, Fn, Term, var, con, fun, Terms, nil, ◌▸◌}
use Rattle.terms.specs.Options.{onward}
use Rattle.terms.specs.Signatures.{Declaration, Signature}
use Rattle.terms.specs.Roots.{Root, variable, head, call, fn_number, Stands, root_of, head_args, fn_args}

-- the sorts that variables have; in a closed term none has one
abbrev pub Environment : Type 0
Environment = ℕ → Option ℕ

-- no variable has a sort
abbrev pub closed : Environment
closed v = None

-- the sort in a declaration; what is undeclared counts as number
abbrev pub sort_in : Option Declaration → ℕ
sort_in None = 0
sort_in (Some d) = d.sort

-- a constructor's sort; a cell's is number
abbrev pub head_sort : Signature → Head → ℕ
head_sort S (cell n) = 0
head_sort S (symbol s) = sort_in (slice_get S.symbols s)

-- a function's sort
abbrev pub fn_sort : Signature → Fn → ℕ
fn_sort S f = sort_in (slice_get S.symbols (fn_number f))

-- The term has the sort k: each argument has the sort due there.
module _ (S : Signature) (e : Environment) where
  abbrev mutual
    pub Sorted : Term → ℕ → Type 0
    Sorted (var v) k = e v ≡ Some k
    Sorted (con c ts) k = Stands S (head c) × (k ≡ head_sort S c) × AllSorted ts (head_args S c)
    Sorted (fun f ts) k = Stands S (call f) × (k ≡ fn_sort S f) × AllSorted ts (fn_args S f)

    pub AllSorted : Terms → List ℕ → Type 0
    AllSorted nil [] = Unit {0}
    AllSorted nil (k ∷ ks) = ⊥
    AllSorted (t ▸ ts) [] = ⊥
    AllSorted (t ▸ ts) (k ∷ ks) = Sorted t k × AllSorted ts ks

-- the sort of a letter, by that of its root
abbrev pub root_sort : Signature → Environment → Root → Option ℕ
root_sort S e (variable v) = e v
root_sort S e (head c) = Some (head_sort S c)
root_sort S e (call f) = Some (fn_sort S f)

-- the sort of a number, by its root
abbrev pub sort_of : Signature → Environment → ℕ → Option ℕ
sort_of S e x = onward (root_of S x) (root_sort S e)

-- a constructor that is a cell is lawful; a symbol is not asked
abbrev pub lawful_head : (ℕ → Bool) → Head → Type 0
lawful_head lawful (cell n) = lawful n ≡ true
lawful_head lawful (symbol s) = Unit {0}

-- each cell of a term is lawful
abbrev mutual
  pub Lawful : (ℕ → Bool) → Term → Type 0
  Lawful lawful (var v) = Unit {0}
  Lawful lawful (con c ts) = lawful_head lawful c × AllLawful lawful ts
  Lawful lawful (fun f ts) = AllLawful lawful ts

  -- and so for terms in a row
  pub AllLawful : (ℕ → Bool) → Terms → Type 0
  AllLawful lawful nil = Unit {0}
  AllLawful lawful (t ▸ ts) = Lawful lawful t × AllLawful lawful ts
