-- The faults of a word that is to be a term. Assumes nothing.
use Rattle.std.specs.Prelude.{ℕ, ◌+◌, Bool, true, false, cond, not, ◌||◌, List, [], ◌∷◌, ◌++◌, length, Some, None, Ok, Err, Option, Result, ◌==◌, nat_eq, nat_lt, position, option_map}
use Rattle.std.specs.Option.{option_or}
use Rattle.std.specs.List.{list_all}
use Rattle.terms.specs.declared.letter.Letter.TheVariants.{Symbol, Variable, Cell as CellLetter}
use Rattle.terms.specs.declared.letter.Letter.{Letter as AnyLetter}
use Rattle.words.specs.declared.fault.WordFault.{WordFault}
use Rattle.words.specs.declared.fault.WordFault.TheVariants.{Length, Letter, Whole, Sort, Cell}
use Rattle.terms.specs.Options.{passes, more}
use Rattle.terms.specs.Letters.{letter_of}
use Rattle.terms.specs.Signatures.{Signature}
use Rattle.terms.specs.Roots.{Root, variable, head, call, root_of, args_of}
use Rattle.words.specs.Ends.{part_end}
use Rattle.terms.specs.Sorting.{Environment, closed, sort_of}

-- the place of the first letter that does not pass a test
abbrev pub first_not : (ℕ → Bool) → List ℕ → Option ℕ
first_not p w = position (λ x. not (p x)) w

-- a letter of the signature: a variable, a cell or a declared symbol
abbrev pub any_root : Root → Bool
any_root r = true

-- whether a number is such a letter
abbrev pub is_declared : Signature → ℕ → Bool
is_declared S x = passes any_root (root_of S x)

-- a letter of a closed term: a cell or a declared symbol
abbrev pub closed_root : Root → Bool
closed_root (variable v) = false
closed_root (head c) = true
closed_root (call f) = true

-- whether a number is such a letter
abbrev pub is_closed : Signature → ℕ → Bool
is_closed S x = passes closed_root (root_of S x)

-- a letter of a value: a cell or a declared constructor
abbrev pub value_root : Root → Bool
value_root (variable v) = false
value_root (head c) = true
value_root (call f) = false

-- whether a number is such a letter
abbrev pub is_in_value : Signature → ℕ → Bool
is_in_value S x = passes value_root (root_of S x)

-- whether a word has no other letters; on the word of a term: whether it is a value
abbrev pub is_value : Signature → List ℕ → Bool
is_value S w = list_all (is_in_value S) w

-- where a word that is not one whole term ends early, or the first letter past the term: n is the end of its first part
abbrev pub past_end : ℕ → Option ℕ → Option ℕ
past_end len None = Some len
past_end len (Some n) = cond (nat_lt n len) (Some n) None

-- the place where a word is not one whole term
abbrev pub not_whole : Signature → List ℕ → Option ℕ
not_whole S w = past_end (length w) (part_end S w)

-- whether a letter has the sort k
abbrev pub suits : Signature → Environment → ℕ → ℕ → Bool
suits S e x k = passes (λ j. nat_eq j k) (sort_of S e x)

-- the same answer, seen from one letter earlier
abbrev pub later : Result ℕ ℕ → Result ℕ ℕ
later (Ok n) = Ok (n + 1)
later (Err i) = Err (i + 1)

-- the sorts due after a letter: those of its arguments first
abbrev pub due_after : Option (List ℕ) → List ℕ → List ℕ
due_after None ks = ks
due_after (Some ls) ks = ls ++ ks

-- along a word with the sorts that are still due: where the terms due end, or the first place that has not the sort due there, be it the end of the word
abbrev pub walk : Signature → Environment → List ℕ → List ℕ → Result ℕ ℕ
walk S e [] w = Ok 0
walk S e (k ∷ ks) [] = Err 0
walk S e (k ∷ ks) (x ∷ w) = cond (suits S e x k) (later (walk S e (due_after (args_of S x) ks) w)) (Err 0)

-- the place of the wrong letter
abbrev pub wrong_place : Result ℕ ℕ → Option ℕ
wrong_place (Ok n) = None
wrong_place (Err i) = Some i

-- the first letter of an argument of wrong sort, in a closed term; no sort is due at the first letter
abbrev pub wrong_argument : Signature → List ℕ → Option ℕ
wrong_argument S [] = None
wrong_argument S (x ∷ w) = more (wrong_place (walk S closed (due_after (args_of S x) []) w))

-- a cell is lawful; other letters are not asked
abbrev pub lawful_letter : (ℕ → Bool) → Option AnyLetter → Bool
lawful_letter lawful None = true
lawful_letter lawful (Some (CellLetter n)) = lawful n
lawful_letter lawful (Some (Symbol s)) = true
lawful_letter lawful (Some (Variable v)) = true

-- whether a number is no cell or a lawful one
abbrev pub is_lawful : (ℕ → Bool) → ℕ → Bool
is_lawful lawful x = lawful_letter lawful (letter_of x)

-- the faults of a word that is to be a closed, sort-correct term of at most n letters, in their order
abbrev pub word_fault : Signature → ℕ → List ℕ → Option WordFault
word_fault S n w =
    cond (length w == 0 || nat_lt n (length w)) (Some Length)
    (option_or (option_map Letter (first_not (is_closed S) w)) (option_or (option_map Whole (not_whole S w)) (option_map Sort (wrong_argument S w))))

-- and after these an unlawful cell
abbrev pub lawful_fault : Signature → (ℕ → Bool) → ℕ → List ℕ → Option WordFault
lawful_fault S lawful n w = option_or (word_fault S n w) (option_map Cell (first_not (is_lawful lawful) w))

-- the number of a fault, and the index that it names
abbrev pub numbered : WordFault → ℕ × ℕ
numbered Length = (31, 0)
numbered (Letter i) = (32, i)
numbered (Whole i) = (33, i)
numbered (Sort i) = (34, i)
numbered (Cell i) = (35, i)
