-- Adding a rule: the refusals in their order, and what is added. Assumes nothing.
use Rattle.std.specs.Prelude.{ℕ, ◌+◌, ◌^◌, Bool, true, false, cond, not, ◌&&◌, ◌||◌, List, [], ◌∷◌, ◌++◌, length, replicate, Some, None, Ok, Err, Option, Result, ◌==◌, nat_lt, slice_set}
use Rattle.std.specs.List.{list_any, position}
use Rattle.std.specs.Option.{option_or}
use Rattle.terms.specs.declared.letter.Letter.{Letter as AnyLetter}
use Rattle.terms.specs.declared.letter.Letter.TheVariants.{Cell, Symbol, Variable}
use Rattle.terms.specs.declared.signature.Role.{Role}
use Rattle.terms.specs.declared.signature.Role.TheVariants.{Constructor, Function, Operation}
use Rattle.terms.specs.Terms.{own}
use Rattle.terms.specs.Options.{more}
use Rattle.terms.specs.Letters.{letter_of}
use Rattle.terms.specs.Signatures.{Signature}
use Rattle.terms.specs.Roots.{role_of, args_of}
use Rattle.terms.specs.Sorting.{closed, fn_sort}
use Rattle.words.specs.Faults.{first_not, is_declared, not_whole, suits, due_after, walk, wrong_place}
use Rattle.terms.specs.Views.{given}
use Rattle.drafts.specs.declared.fault.Side.TheVariants.{Left, Right}
use Rattle.drafts.specs.declared.fault.RuleFault.{RuleFault}
use Rattle.drafts.specs.declared.fault.RuleFault.TheVariants.{NotAwaited, Length, Letter, LeftCell, Whole, OtherFunction, InnerFunction, TwiceOnLeft, OnlyOnRight, Sort, NoRoom}
use Rattle.drafts.specs.Drafts.{Sides, Draft, awaited, letters_in, longest_side, most_letters}
use Rattle.drafts.specs.Contents.{Outcome, outcome}

-- whether a letter is a number cell
abbrev pub cell_letter : Option AnyLetter → Bool
cell_letter None = false
cell_letter (Some (Cell n)) = true
cell_letter (Some (Symbol s)) = false
cell_letter (Some (Variable v)) = false

-- and so for a number
abbrev pub is_cell : ℕ → Bool
is_cell x = cell_letter (letter_of x)

-- whether a letter is a variable
abbrev pub variable_letter : Option AnyLetter → Bool
variable_letter None = false
variable_letter (Some (Cell n)) = false
variable_letter (Some (Symbol s)) = false
variable_letter (Some (Variable v)) = true

-- and so for a number
abbrev pub is_variable : ℕ → Bool
is_variable x = variable_letter (letter_of x)

-- whether a role is that of a function, plus, minus and atmost too
abbrev pub calls : Option Role → Bool
calls None = false
calls (Some Constructor) = false
calls (Some Function) = true
calls (Some Operation) = true

-- whether a letter has such a role
abbrev pub is_function : Signature → ℕ → Bool
is_function S x = calls (role_of S x)

-- whether a letter stands in a word
abbrev pub stands_in : ℕ → List ℕ → Bool
stands_in x w = list_any (λ y. x == y) w

-- the place of the first letter that passes a test
abbrev pub first_that : (ℕ → Bool) → List ℕ → Option ℕ
first_that p w = position p w

-- 12: a side is empty or too long
abbrev pub bad_length : List ℕ → Bool
bad_length w = length w == 0 || nat_lt longest_side (length w)

-- 14: the first number cell
abbrev pub first_cell : List ℕ → Option ℕ
first_cell w = first_that is_cell w

-- 16: whether a word starts with the symbol f
abbrev pub starts_with : ℕ → List ℕ → Bool
starts_with f [] = false
starts_with f (x ∷ w) = x == 2 ^ 32 + f

-- 17: the first function past the first letter
abbrev pub inner_function : Signature → List ℕ → Option ℕ
inner_function S [] = None
inner_function S (x ∷ w) = more (first_that (is_function S) w)

-- 18: whether a letter is a variable that stood before; u is what came before it
abbrev pub is_again : List ℕ → ℕ → Bool
is_again u x = is_variable x && stands_in x u

-- the first such letter of a word; u is what came before the word
abbrev pub first_again : List ℕ → List ℕ → Option ℕ
first_again u [] = None
first_again u (x ∷ w) = cond (is_again u x) (Some 0) (more (first_again (u ++ (x ∷ [])) w))

-- and so of a whole word
abbrev pub first_twice : List ℕ → Option ℕ
first_twice w = first_again [] w

-- 19: whether a letter is a variable that the left side l lacks
abbrev pub is_new : List ℕ → ℕ → Bool
is_new l x = is_variable x && not (stands_in x l)

-- the first such letter on the right
abbrev pub first_new : List ℕ → List ℕ → Option ℕ
first_new l r = first_that (is_new l) r

-- 20 on the left: a variable takes the sort due to it, another letter must have it
abbrev pub takes_sort : Signature → ℕ → ℕ → Bool
takes_sort S x k = is_variable x || suits S closed x k

-- the sorts of the variables with that of a variable's letter
abbrev pub noted : Option AnyLetter → ℕ → List (Option ℕ) → List (Option ℕ)
noted None k vs = vs
noted (Some (Cell n)) k vs = vs
noted (Some (Symbol s)) k vs = vs
noted (Some (Variable v)) k vs = slice_set vs v (Some k)

-- at first none is known
abbrev pub none_known : List (Option ℕ)
none_known = replicate 8 None

-- the same answer, seen from one letter earlier
abbrev pub one_on : Result (List (Option ℕ)) ℕ → Result (List (Option ℕ)) ℕ
one_on (Ok vs) = Ok vs
one_on (Err i) = Err (i + 1)

-- along a left side with the sorts still due: the sorts of its variables, or the first letter that has not the sort due there
abbrev pub left_sorts : Signature → List ℕ → List (Option ℕ) → List ℕ → Result (List (Option ℕ)) ℕ
left_sorts S ks vs [] = Ok vs
left_sorts S [] vs (x ∷ w) = Ok vs
left_sorts S (k ∷ ks) vs (x ∷ w) = cond (takes_sort S x k) (one_on (left_sorts S (due_after (args_of S x) ks) (noted (letter_of x) k vs) w)) (Err 0)

-- and then along the right side, where a variable has its sort
abbrev pub right_wrong : Signature → ℕ → List ℕ → List (Option ℕ) → Option ℕ
right_wrong S k r vs = wrong_place (walk S (given vs) (k ∷ []) r)

-- a refusal at a place, or else the next
abbrev pub at_place : (ℕ → RuleFault) → Option ℕ → Option RuleFault → Option RuleFault
at_place F (Some i) next = Some (F i)
at_place F None next = next

-- 20, on the left and then on the right; k is the function's sort
abbrev pub sort_wrong : Signature → ℕ → List ℕ → Result (List (Option ℕ)) ℕ → Option RuleFault
sort_wrong S k r (Err i) = Some (Sort Left i)
sort_wrong S k r (Ok vs) = at_place (Sort Right) (right_wrong S k r vs) None

-- 12 to 15: what is asked of the two words alone
abbrev pub word_faults : Signature → Sides → Option RuleFault
word_faults S q =
    cond (bad_length q.left) (Some (Length Left))
    (cond (bad_length q.right) (Some (Length Right))
    (at_place (Letter Left) (first_not (is_declared S) q.left)
    (at_place (Letter Right) (first_not (is_declared S) q.right)
    (at_place LeftCell (first_cell q.left)
    (at_place (Whole Left) (not_whole S q.left)
    (at_place (Whole Right) (not_whole S q.right) None))))))

-- 16 to 20: what is asked of them as a rule of the function f
abbrev pub shape_faults : Signature → ℕ → Sides → Option RuleFault
shape_faults S f q =
    cond (not (starts_with f q.left)) (Some OtherFunction)
    (at_place InnerFunction (inner_function S q.left)
    (at_place TwiceOnLeft (first_twice q.left)
    (at_place OnlyOnRight (first_new q.left q.right)
    (sort_wrong S (fn_sort S (own f)) q.right (left_sorts S (fn_sort S (own f) ∷ []) none_known q.left)))))

-- the refusals of a rule of the function f, but for its room
abbrev pub rule_fault : Signature → ℕ → Sides → Option RuleFault
rule_fault S f q = option_or (word_faults S q) (shape_faults S f q)

-- 21: too many letters in all
abbrev pub no_room : List Sides → Sides → Bool
no_room rs q = nat_lt most_letters (letters_in rs + (length q.left + length q.right))

-- all refusals, where f is the function awaited
abbrev pub fault_under : Draft → Option ℕ → Sides → Option RuleFault
fault_under D None q = Some NotAwaited
fault_under D (Some f) q = option_or (rule_fault D.signature f q) (cond (no_room D.rules q) (Some NoRoom) None)

-- and so for the function that the draft awaits
abbrev pub rule_refusal : Draft → Sides → Option RuleFault
rule_refusal D q = fault_under D (awaited D) q

-- one rule more
abbrev pub with_rule : Draft → Sides → Draft
with_rule D q = record { signature = D.signature; promised = D.promised; rules = D.rules ++ (q ∷ []) }

-- Adding a rule.
abbrev pub add_rule : Draft → Sides → Outcome RuleFault
add_rule D q = outcome (rule_refusal D q) D (length D.rules) (with_rule D q)
