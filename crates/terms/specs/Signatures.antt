-- Signatures: sorts and symbols, and what adds one. Assumes nothing.
use Rattle.std.specs.Prelude.{ℕ, cond, ◌&&◌, List, [], ◌∷◌, ◌++◌, map, length, Some, None, codes, Option, nat_le, nat_lt}
use Rattle.terms.specs.declared.signature.Role.{Role}
use Rattle.terms.specs.declared.signature.Role.TheVariants.{Constructor, Operation}
use Rattle.terms.specs.Names.{find_name}

-- a symbol's name, its role, the sorts of its arguments and its sort
pub record Declaration : Type 0 where
  pub name : List ℕ
  pub role : Role
  pub args : List ℕ
  pub sort : ℕ

-- the names of the sorts, and the symbols; the number of a sort or symbol is its place
pub record Signature : Type 0 where
  pub sorts : List (List ℕ)
  pub symbols : List Declaration

-- the sorts number and truth; the operations plus, minus and atmost, the constructors true and false
abbrev pub built_in : Signature
built_in = record {
  sorts = codes "number" ∷ codes "truth" ∷ [];
  symbols =
      record { name = codes "plus"; role = Operation; args = 0 ∷ 0 ∷ []; sort = 0 }
      ∷ record { name = codes "minus"; role = Operation; args = 0 ∷ 0 ∷ []; sort = 0 }
      ∷ record { name = codes "atmost"; role = Operation; args = 0 ∷ 0 ∷ []; sort = 1 }
      ∷ record { name = codes "true"; role = Constructor; args = []; sort = 1 }
      ∷ record { name = codes "false"; role = Constructor; args = []; sort = 1 }
      ∷ [];
}

-- no sorts and no symbols
abbrev pub nothing : Signature
nothing = record { sorts = []; symbols = [] }

-- what a call answers, and the signature after it
pub record Change : Type 0 where
  pub answer : Option ℕ
  pub after : Signature

-- one sort more, under the next number; none is left past 15
abbrev pub add_sort : List ℕ → Signature → Change
add_sort n S =
    cond (nat_lt (length S.sorts) 16)
    (record { answer = Some (length S.sorts); after = record { sorts = S.sorts ++ (n ∷ []); symbols = S.symbols } })
    (record { answer = None; after = S })

-- one symbol more, under the next number; none is left past 95, and a symbol has at most four arguments
abbrev pub add_symbol : Declaration → Signature → Change
add_symbol d S =
    cond (nat_lt (length S.symbols) 96 && nat_le (length d.args) 4)
    (record { answer = Some (length S.symbols); after = record { sorts = S.sorts; symbols = S.symbols ++ (d ∷ []) } })
    (record { answer = None; after = S })

-- the first sort, and the first symbol, of a name
abbrev pub sort_named : Signature → List ℕ → Option ℕ
sort_named S bs = find_name S.sorts bs

-- the first symbol of a name
abbrev pub symbol_named : Signature → List ℕ → Option ℕ
symbol_named S bs = find_name (map (λ d. d.name) S.symbols) bs
