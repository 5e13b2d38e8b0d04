-- Declaring sorts, constructors and functions: the refusals in their order, and what is added. Assumes nothing.
use Rattle.std.specs.Prelude.{ℕ, ◌+◌, Bool, true, false, cond, not, ◌||◌, List, [], ◌∷◌, ◌++◌, map, length, Some, None, Ok, Err, codes, Option, Result, ◌==◌, nat_le, nat_lt}
use Rattle.std.specs.Str.{bytes_eq}
use Rattle.std.specs.List.{list_all}
use Rattle.std.specs.Option.{option_or}
use Rattle.terms.specs.declared.signature.Role.TheVariants.{Constructor, Function}
use Rattle.terms.specs.Names.{well_formed, find_name}
use Rattle.terms.specs.Signatures.{Declaration, Signature}
use Rattle.drafts.specs.declared.fault.ContentFault.{ContentFault}
use Rattle.drafts.specs.declared.fault.ContentFault.TheVariants.{RuleStands, MalformedName, NameTaken, UndeclaredSort, TooManyArguments, BuiltInSort, WrongPromise, NoNumberLeft}
use Rattle.drafts.specs.Drafts.{Sides, Draft, total, most_rules}

-- what a call answers, and the draft after it
pub record Outcome (F : Type 0) : Type 0 where
  pub answer : Result ℕ F
  pub after : Draft

-- a refusal, with the draft as it was, or else the number n and the draft with what is added
abbrev pub outcome : {F : Type 0} → Option F → Draft → ℕ → Draft → Outcome F
outcome (Some f) D n E = record { answer = Err f; after = D }
outcome None D n E = record { answer = Ok n; after = E }

-- the names of all sorts and symbols: one stock
abbrev pub names : Signature → List (List ℕ)
names S = S.sorts ++ map (λ d. d.name) S.symbols

-- whether a name is sort, con or fun
abbrev pub begins_content : List ℕ → Bool
begins_content n = (bytes_eq n (codes "sort") || bytes_eq n (codes "con")) || bytes_eq n (codes "fun")

-- whether it is rules or end
abbrev pub begins_part : List ℕ → Bool
begins_part n = bytes_eq n (codes "rules") || bytes_eq n (codes "end")

-- whether it is one of these words, which name no sort or symbol and yet are taken
abbrev pub is_keyword : List ℕ → Bool
is_keyword n = begins_content n || begins_part n

-- whether something was found
abbrev pub is_found : Option ℕ → Bool
is_found None = false
is_found (Some i) = true

-- whether a name is taken: a sort or a symbol has it, or it is such a word
abbrev pub is_taken : Signature → List ℕ → Bool
is_taken S n = is_found (find_name (names S) n) || is_keyword n

-- whether a rule stands
abbrev pub some_rule : List Sides → Bool
some_rule [] = false
some_rule (r ∷ rs) = true

-- whether all sorts are declared, m being their number
abbrev pub all_below : ℕ → List ℕ → Bool
all_below m ks = list_all (λ k. nat_lt k m) ks

-- 1, 2 and 3
abbrev pub name_fault : Draft → List ℕ → Option ContentFault
name_fault D n =
    cond (some_rule D.rules) (Some RuleStands)
    (cond (not (well_formed n)) (Some MalformedName)
    (cond (is_taken D.signature n) (Some NameTaken) None))

-- 4 and 5: the sorts of the arguments ks and the symbol's sort k
abbrev pub sorts_fault : Draft → List ℕ → ℕ → Option ContentFault
sorts_fault D ks k =
    cond (not (all_below (length D.signature.sorts) (k ∷ ks))) (Some UndeclaredSort)
    (cond (nat_lt 4 (length ks)) (Some TooManyArguments) None)

-- 8 for a sort
abbrev pub sorts_full : Draft → Option ContentFault
sorts_full D = cond (nat_le 16 (length D.signature.sorts)) (Some NoNumberLeft) None

-- and so for a symbol
abbrev pub symbols_full : Draft → Option ContentFault
symbols_full D = cond (nat_le 96 (length D.signature.symbols)) (Some NoNumberLeft) None

-- the refusals of a sort
abbrev pub sort_fault : Draft → List ℕ → Option ContentFault
sort_fault D n = option_or (name_fault D n) (sorts_full D)

-- of a symbol of either kind, but for 6 to 8
abbrev pub symbol_fault : Draft → List ℕ → List ℕ → ℕ → Option ContentFault
symbol_fault D n ks k = option_or (name_fault D n) (sorts_fault D ks k)

-- of a constructor: 6 where it is one of number or truth
abbrev pub constructor_fault : Draft → List ℕ → List ℕ → ℕ → Option ContentFault
constructor_fault D n ks k = option_or (symbol_fault D n ks k) (cond (nat_lt k 2) (Some BuiltInSort) (symbols_full D))

-- of a function: 7 where it promises no rule, or all functions and it more rules than there may be
abbrev pub function_fault : Draft → List ℕ → List ℕ → ℕ → ℕ → Option ContentFault
function_fault D n ks k p =
    option_or (symbol_fault D n ks k) (cond (p == 0 || nat_lt most_rules (total D.promised + p)) (Some WrongPromise) (symbols_full D))

-- one sort more
abbrev pub with_sort : Draft → List ℕ → Draft
with_sort D n = record { signature = record { sorts = D.signature.sorts ++ (n ∷ []); symbols = D.signature.symbols }; promised = D.promised; rules = D.rules }

-- one symbol more, with the rules that it promises
abbrev pub with_symbol : Draft → Declaration → ℕ → Draft
with_symbol D d p =
    record { signature = record { sorts = D.signature.sorts; symbols = D.signature.symbols ++ (d ∷ []) }; promised = D.promised ++ (p ∷ []); rules = D.rules }

-- Declaring a sort.
abbrev pub declare_sort : Draft → List ℕ → Outcome ContentFault
declare_sort D n = outcome (sort_fault D n) D (length D.signature.sorts) (with_sort D n)

-- Declaring a constructor.
abbrev pub declare_constructor : Draft → List ℕ → List ℕ → ℕ → Outcome ContentFault
declare_constructor D n ks k =
    outcome (constructor_fault D n ks k) D (length D.signature.symbols) (with_symbol D (record { name = n; role = Constructor; args = ks; sort = k }) 0)

-- Declaring a function that promises p rules.
abbrev pub declare_function : Draft → List ℕ → List ℕ → ℕ → ℕ → Outcome ContentFault
declare_function D n ks k p =
    outcome (function_fault D n ks k p) D (length D.signature.symbols) (with_symbol D (record { name = n; role = Function; args = ks; sort = k }) p)
