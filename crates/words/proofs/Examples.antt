-- The definitions on a small signature: the sort level with zero, up and meet.
use Rattle.std.proofs.Common.{◌≡◌, ℕ, ◌+◌, ◌^◌, true, false, leb, List, [], ◌∷◌, Some, None, Ok, codes, Option, refl}
use Rattle.terms.specs.declared.letter.Letter.{Letter as AnyLetter}
use Rattle.terms.specs.declared.letter.Letter.TheVariants.{Symbol, Variable}
use Rattle.terms.specs.declared.signature.Role.TheVariants.{Constructor, Function}
use Rattle.words.specs.declared.fault.WordFault.{WordFault}
use Rattle.words.specs.declared.fault.WordFault.TheVariants.{Length, Letter, Whole, Sort, Cell}
use Rattle.terms.specs.Terms.{symbol, own, Term, con, fun, nil, ◌▸◌}
use Rattle.terms.specs.Letters.{letter_of}
use Rattle.terms.specs.Names.{name_of}
use Rattle.terms.specs.Signatures.{Signature, built_in, add_sort, add_symbol, symbol_named}
use Rattle.terms.specs.Roots.{arity}
use Rattle.words.specs.Words.{word, read}
use Rattle.words.specs.Ends.{part_end}
use Rattle.terms.specs.Sorting.{Environment}
use Rattle.terms.specs.Positions.{graft}
use Rattle.words.specs.Places.{part_at, replaced}
use Rattle.words.specs.Faults.{walk, is_value, lawful_fault}

abbrev levels : Signature
levels =
    (add_symbol (record { name = codes "meet"; role = Function; args = 2 ∷ 2 ∷ []; sort = 2 })
    (add_symbol (record { name = codes "up"; role = Constructor; args = 2 ∷ []; sort = 2 })
    (add_symbol (record { name = codes "zero"; role = Constructor; args = []; sort = 2 })
    (add_sort (codes "level") built_in).after).after).after).after

abbrev ZERO : ℕ
ZERO = 2 ^ 32 + 5

abbrev UP : ℕ
UP = 2 ^ 32 + 6

abbrev MEET : ℕ
MEET = 2 ^ 32 + 7

abbrev zero_term : Term
zero_term = con (symbol 5) nil

abbrev one_term : Term
one_term = con (symbol 6) (zero_term ▸ nil)

-- meet(up(zero), zero)
abbrev both : Term
both = fun (own 7) (one_term ▸ zero_term ▸ nil)

abbrev fault : List ℕ → Option WordFault
fault = lawful_fault levels (λ n. leb n 999999) 4

last_symbol : letter_of (2 ^ 32 + 95) ≡ Some (Symbol 95)
last_symbol = refl

past_symbols : ◌≡◌ {A = Option AnyLetter} (letter_of (2 ^ 32 + 96)) None
past_symbols = refl

last_variable : letter_of (2 ^ 33 + 7) ≡ Some (Variable 7)
last_variable = refl

past_variables : ◌≡◌ {A = Option AnyLetter} (letter_of (2 ^ 33 + 8)) None
past_variables = refl

no_name : name_of (codes "9to5") ≡ None
no_name = refl

meet_named : symbol_named levels (codes "meet") ≡ Some 7
meet_named = refl

word_both : word both ≡ MEET ∷ UP ∷ ZERO ∷ ZERO ∷ []
word_both = refl

read_both : read levels (word both) ≡ Some both
read_both = refl

-- symbol 8 is not declared
no_arguments : arity levels (2 ^ 32 + 8) ≡ None
no_arguments = refl

end_both : part_end levels (MEET ∷ UP ∷ ZERO ∷ ZERO ∷ ZERO ∷ []) ≡ Some 4
end_both = refl

cut_short : part_end levels (MEET ∷ UP ∷ ZERO ∷ []) ≡ None
cut_short = refl

first_part : part_at levels (1 ∷ []) (word both) ≡ Some (record { start = 1; len = 2 })
first_part = refl

no_part : part_at levels (1 ∷ 2 ∷ []) (word both) ≡ None
no_part = refl

put_in : replaced (record { start = 1; len = 2 }) (word both) (word zero_term) ≡ word (graft both (1 ∷ []) zero_term)
put_in = refl

-- in up(X) the variable has the sort due
abbrev one_level : Environment
one_level v = Some 2

walk_rule : walk levels one_level (2 ∷ []) (UP ∷ 2 ^ 33 ∷ []) ≡ Ok 2
walk_rule = refl

no_value : is_value levels (word both) ≡ false
no_value = refl

a_value : is_value levels (word one_term) ≡ true
a_value = refl

no_fault : fault (word both) ≡ None
no_fault = refl

empty : fault [] ≡ Some Length
empty = refl

a_variable : fault (MEET ∷ 2 ^ 33 ∷ []) ≡ Some (Letter 1)
a_variable = refl

ends_early : fault (MEET ∷ ZERO ∷ []) ≡ Some (Whole 2)
ends_early = refl

goes_on : fault (ZERO ∷ ZERO ∷ []) ≡ Some (Whole 1)
goes_on = refl

wrong_sort : fault (MEET ∷ ZERO ∷ (2 ^ 32 + 3) ∷ []) ≡ Some (Sort 2)
wrong_sort = refl

unlawful : fault (2 ^ 32 ∷ 5 ∷ 1000000 ∷ []) ≡ Some (Cell 2)
unlawful = refl
