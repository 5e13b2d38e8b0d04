-- What the code's names and signatures are.
use Rattle.std.specs.Prelude.{◌≡◌, ℕ, List, map, None, Option}
use Rattle.std.specs.List.{slice_get}
use Rattle.terms.specs.declared.name.Name.{Name}
use Rattle.terms.specs.declared.signature.Entry.{Entry}
use Rattle.terms.specs.declared.signature.Signature.{Signature as Table}
use Rattle.terms.specs.declared.signature.Role.{Role}
use Rattle.terms.specs.Signatures.{Declaration, Signature, Change}
use Rattle.terms.specs.Options.{onward}
use Rattle.terms.specs.Rows.{items}
use Rattle.terms.specs.Sorting.{Environment}

-- the bytes of a name
abbrev pub bytes_of : Name → List ℕ
bytes_of n = items n.bytes

-- a symbol as it was declared
abbrev pub declaration : Entry → Declaration
declaration y = record { name = bytes_of y.name; role = y.role; args = items y.args; sort = y.sort }

-- a signature: the names of its sorts, and its symbols as they were declared
abbrev pub view : Table → Signature
view g = record { sorts = map bytes_of (items g.sorts); symbols = map declaration (items g.symbols) }

-- the sorts of variables that are given as a list
abbrev pub given : List (Option ℕ) → Environment
given vs v = onward (slice_get vs v) (λ o. o)

-- a symbol that is to be declared
abbrev pub declaring : Role → Name → List ℕ → ℕ → Declaration
declaring o n ks k = record { name = bytes_of n; role = o; args = ks; sort = k }

-- a call answered and changed a signature as it should, and left it as it was where it refused
pub record Changed (c : Change) (r : Option ℕ) (a b : Table) : Type 0 where
  pub answered : r ≡ c.answer
  pub becomes : view b ≡ c.after
  pub kept : r ≡ None → b ≡ a
