-- What the code's rule sets and books hold, and what Check does with a place.
use Rattle.std.specs.Prelude.{◌≡◌, Some, None, Err, Option, Result}
use Rattle.drafts.specs.Drafts.{Draft}
use Rattle.drafts.specs.Stores.{seen}
use Rattle.trees.specs.declared.fault.CheckFault.{CheckFault}
use Rattle.trees.specs.declared.trees.Trees.{Trees}
use Rattle.trees.specs.Checks.{check_fault}
use Rattle.trees.specs.Standing.{refusal}
use Rattle.books.specs.declared.rules.RuleSet.{RuleSet}
use Rattle.books.specs.declared.book.Book.{Book}

-- the sorts, symbols and rules of a rule set
abbrev pub set_held : RuleSet → Draft
set_held s = seen s.draft

-- and its trees
abbrev pub set_trees : RuleSet → Trees
set_trees s = s.trees

-- of a book
abbrev pub held : Book → Draft
held b = set_held b.rules

-- and its trees
abbrev pub trees_of : Book → Trees
trees_of b = set_trees b.rules

-- what a place holds after a check: the draft, or where it is refused what it held
abbrev pub after_check : Option CheckFault → Draft → Draft → Draft
after_check None D before = D
after_check (Some e) D before = before

-- the draft D was checked into a place
pub record Checks (D : Draft) (r : Result (Unit {0}) CheckFault) (a b : Book) : Type 0 where
  pub answered : refusal r ≡ check_fault D
  pub becomes : held b ≡ after_check (check_fault D) D (held a)
  pub kept : (e : CheckFault) → r ≡ Err e → b ≡ a
