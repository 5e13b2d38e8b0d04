-- The numbers of refusals, what each names, and how they are printed. Assumes nothing.
use Rattle.std.specs.Prelude.{ℕ, List, ◌++◌, codes}
use Rattle.std.specs.Fmt.{decimal}
use Rattle.trees.specs.declared.fault.CheckFault.{CheckFault}
use Rattle.trees.specs.declared.fault.CheckFault.TheVariants.{RulesMissing, NoTree, Incomplete}

-- the number of a refusal of a draft, and the function at fault
abbrev pub check_fault_number : CheckFault → ℕ × ℕ
check_fault_number (RulesMissing f) = (22, f)
check_fault_number (NoTree f) = (23, f)
check_fault_number (Incomplete f) = (24, f)

-- what is wrong, in words
abbrev pub check_fault_reason : CheckFault → List ℕ
check_fault_reason (RulesMissing f) = codes "rules are missing"
check_fault_reason (NoTree f) = codes "there is no tree"
check_fault_reason (Incomplete f) = codes "the tree is not complete"

-- the number, what is wrong, and the function at fault
abbrev pub check_fault_text : CheckFault → List ℕ
check_fault_text f =
    decimal (check_fault_number f).0 ++ (codes ": " ++ (check_fault_reason f ++ (codes " (function " ++ (decimal (check_fault_number f).1 ++ codes ")"))))
