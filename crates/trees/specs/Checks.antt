-- Whether a draft is a book. Assumes nothing.
use Rattle.std.specs.Prelude.{ℕ, suc, Bool, true, false, cond, List, [], ◌∷◌, Some, None, Option, option_map}
use Rattle.std.specs.List.{slice_get}
use Rattle.std.specs.Option.{option_or}
use Rattle.terms.specs.declared.signature.Role.{Role}
use Rattle.terms.specs.declared.signature.Role.TheVariants.{Constructor, Function, Operation}
use Rattle.terms.specs.Options.{onward}
use Rattle.terms.specs.Signatures.{Declaration, Signature}
use Rattle.rewriting.specs.Rules.{Book}
use Rattle.rewriting.specs.Trees.{Node}
use Rattle.rewriting.specs.FixedTree.{fixed_tree}
use Rattle.rewriting.specs.Completeness.{is_complete}
use Rattle.drafts.specs.Drafts.{Draft, awaited}
use Rattle.drafts.specs.Books.{book_of}
use Rattle.trees.specs.declared.fault.CheckFault.{CheckFault}
use Rattle.trees.specs.declared.fault.CheckFault.TheVariants.{RulesMissing, NoTree, Incomplete}

-- whether a role is that of a declared function
abbrev pub function_role : Option Role → Bool
function_role None = false
function_role (Some Constructor) = false
function_role (Some Function) = true
function_role (Some Operation) = false

-- 23 or 24: by the fixed tree of the function f
abbrev pub judged : Signature → ℕ → Option Node → Option CheckFault
judged S f None = Some (NoTree f)
judged S f (Some t) = cond (is_complete S t) None (Some (Incomplete f))

-- of a function; other symbols have no fault
abbrev pub symbol_fault : Book → ℕ → Role → Option CheckFault
symbol_fault B s Constructor = None
symbol_fault B s Function = judged B.signature s (fixed_tree B s)
symbol_fault B s Operation = None

-- of the symbol s, if it is declared
abbrev pub fault_at : Book → ℕ → Option CheckFault
fault_at B s = onward (slice_get B.signature.symbols s) (λ d. symbol_fault B s d.role)

-- the first fault of the symbols from s on
abbrev pub first_fault : Book → ℕ → List Declaration → Option CheckFault
first_fault B s [] = None
first_fault B s (d ∷ ds) = option_or (symbol_fault B s d.role) (first_fault B (suc s) ds)

-- 22 where a rule is awaited, and then the first function at fault
abbrev pub check_fault : Draft → Option CheckFault
check_fault D = option_or (option_map RulesMissing (awaited D)) (first_fault (book_of D) 0 D.signature.symbols)
