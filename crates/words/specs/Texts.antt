-- How the faults of words are printed.
use Rattle.std.specs.Prelude.{ℕ, List, ◌++◌, codes}
use Rattle.std.specs.Fmt.{decimal}
use Rattle.words.specs.declared.fault.WordFault.{WordFault}
use Rattle.words.specs.declared.fault.WordFault.TheVariants.{Length, Letter, Whole, Sort, Cell}
use Rattle.words.specs.Faults.{numbered}

-- what is wrong, in words
abbrev pub reason : WordFault → List ℕ
reason Length = codes "the word is empty or too long"
reason (Letter i) = codes "the number is no letter of a closed term"
reason (Whole i) = codes "the word is not one whole term"
reason (Sort i) = codes "the letter has not the sort due there"
reason (Cell i) = codes "the cell is unlawful"

-- the fault's number, what is wrong, and the letter at fault
abbrev pub fault_text : WordFault → List ℕ
fault_text f = decimal (numbered f).0 ++ (codes ": " ++ (reason f ++ (codes " (letter " ++ (decimal (numbered f).1 ++ codes ")"))))
