-- What the code's signature holds is what its view says.
use Rattle.std.proofs.Common.{◌≡◌, ℕ, ◌<◌, ◌≤◌, ltb, List, [], ◌∷◌, ◌++◌, length, Some, arith}
use Rattle.std.proofs.lemmas.List.{length-take-le, length-map}
use Rattle.std.proofs.lemmas.Bool.{cond-true, lt-ltb}
use Rattle.terms.specs.declared.signature.Signature.{Signature as Table}
use Rattle.terms.specs.declared.row.Row.{Row}
use Rattle.terms.specs.Rows.{items}
use Rattle.terms.specs.Signatures.{Signature, add_sort}
use Rattle.terms.specs.Views.{bytes_of, declaration, view}

-- a row's list is as long as its count says, and no longer than it may be
module _ {X : Type 0} {N : ℕ} (r : Row X N) where
  pub length_items : length (items r) ≡ r.count
  length_items = length-take-le r.count r.array (let a = r.long in let b = r.fits in omega arith)

  pub items_fit : length (items r) ≤ N
  items_fit = let e = length_items in let b = r.fits in omega arith

-- how many sorts and symbols there can be
pub sorts_fit : (g : Table) → length (view g).sorts ≤ 16
sorts_fit g = let e = length-map (items g.sorts) bytes_of in let h = items_fit g.sorts in omega arith

pub symbols_fit : (g : Table) → length (view g).symbols ≤ 96
symbols_fit g = let e = length-map (items g.symbols) declaration in let h = items_fit g.symbols in omega arith

-- what adding comes to
pub sort_added : (n : List ℕ) (S : Signature) → length S.sorts < 16
    → add_sort n S ≡ record { answer = Some (length S.sorts); after = record { sorts = S.sorts ++ (n ∷ []); symbols = S.symbols } }
sort_added n S h = cond-true (ltb (length S.sorts) 16) _ _ (lt-ltb (length S.sorts) 16 h)
