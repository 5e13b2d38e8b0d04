-- What every draft keeps, as a test. Assumes nothing.
use Rattle.std.specs.Prelude.{◌≡◌, ℕ, ◌<◌, ◌≤◌, Bool, true, false, not, ◌&&◌, ◌||◌, List, [], ◌∷◌, length, drop, Some, None, Option, ◌==◌, nat_le, nat_lt}
use Rattle.std.specs.Str.{bytes_eq}
use Rattle.terms.specs.declared.signature.Role.{Role}
use Rattle.terms.specs.declared.signature.Role.TheVariants.{Constructor, Function, Operation}
use Rattle.terms.specs.Names.{find_name}
use Rattle.terms.specs.Signatures.{Declaration, Signature, built_in}
use Rattle.terms.specs.Roots.{is_constructor}
use Rattle.drafts.specs.declared.fault.RuleFault.{RuleFault}
use Rattle.drafts.specs.Drafts.{Sides, Draft, in_turn, total, most_rules}
use Rattle.drafts.specs.Contents.{names, is_found, all_below, with_symbol}
use Rattle.drafts.specs.Rules.{rule_fault}

-- no name stands twice
abbrev pub distinct : List (List ℕ) → Bool
distinct [] = true
distinct (n ∷ ns) = not (is_found (find_name ns n)) && distinct ns

-- the sorts of every symbol are among the first m
abbrev pub sorts_below : ℕ → List Declaration → Bool
sorts_below m [] = true
sorts_below m (d ∷ ds) = all_below m (d.sort ∷ d.args) && sorts_below m ds

-- no constructor makes numbers
abbrev pub no_number_made : List Declaration → Bool
no_number_made [] = true
no_number_made (d ∷ ds) = (not (is_constructor d.role) || nat_lt 0 d.sort) && no_number_made ds

-- whether two roles are the same
abbrev pub same_role : Role → Role → Bool
same_role Constructor Constructor = true
same_role Constructor Function = false
same_role Constructor Operation = false
same_role Function Constructor = false
same_role Function Function = true
same_role Function Operation = false
same_role Operation Constructor = false
same_role Operation Function = false
same_role Operation Operation = true

-- whether two declarations are the same
abbrev pub same_declaration : Declaration → Declaration → Bool
same_declaration a b = bytes_eq a.name b.name && (same_role a.role b.role && (bytes_eq a.args b.args && a.sort == b.sort))

-- whether the second list has the declarations of the first in front
abbrev pub begins_with : List Declaration → List Declaration → Bool
begins_with [] ds = true
begins_with (a ∷ bs) [] = false
begins_with (a ∷ bs) (d ∷ ds) = same_declaration d a && begins_with bs ds

-- whether a symbol of a role may promise so many rules: functions alone promise any, and each does
abbrev pub promise_fits : Role → ℕ → Bool
promise_fits Constructor p = p == 0
promise_fits Function p = nat_lt 0 p
promise_fits Operation p = p == 0

-- and so for each symbol; there are as many promises as symbols
abbrev pub promises_fit : List Declaration → List ℕ → Bool
promises_fit [] [] = true
promises_fit [] (p ∷ ps) = false
promises_fit (d ∷ ds) [] = false
promises_fit (d ∷ ds) (p ∷ ps) = promise_fits d.role p && promises_fit ds ps

-- whether there is no fault
abbrev pub faultless : Option RuleFault → Bool
faultless None = true
faultless (Some e) = false

-- whether each rule is without fault as one of the function whose turn it is
abbrev pub stand_in_turn : Signature → List ℕ → List Sides → Bool
stand_in_turn S fs [] = true
stand_in_turn S [] (q ∷ qs) = false
stand_in_turn S (f ∷ fs) (q ∷ qs) = faultless (rule_fault S f q) && stand_in_turn S fs qs

-- the contents: the names, the sorts, the built-in symbols and the promises
abbrev pub contents_sound : Signature → List ℕ → Bool
contents_sound S ps =
    distinct (names S)
    && (sorts_below (length S.sorts) S.symbols
    && (no_number_made S.symbols
    && (begins_with built_in.symbols S.symbols
    && (promises_fit S.symbols ps && nat_le (total ps) most_rules))))

-- the contents, and then the rules
abbrev pub is_sound : Draft → Bool
is_sound D = contents_sound D.signature D.promised && stand_in_turn D.signature (in_turn 0 D.promised) D.rules

-- no operation
abbrev pub no_operation : List Declaration → Bool
no_operation [] = true
no_operation (d ∷ ds) = not (same_role d.role Operation) && no_operation ds

-- past the first three symbols none is an operation
abbrev pub three_operations : Signature → Bool
three_operations S = no_operation (drop 3 S.symbols)

-- a symbol that may be added with the rules that it promises: its numbers fit, and the draft stays sound
pub record Addable (D : Draft) (d : Declaration) (p : ℕ) : Type 0 where
  pub few : length d.args ≤ 4
  pub small : all_below 16 (d.sort ∷ d.args) ≡ true
  pub room : length D.signature.symbols < 96
  pub promised : p ≤ most_rules
  pub kind : same_role d.role Operation ≡ false
  pub sound : is_sound (with_symbol D d p) ≡ true
  pub operations : three_operations (with_symbol D d p).signature ≡ true
