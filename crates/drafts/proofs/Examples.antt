-- The definitions on small drafts.
use Rattle.std.proofs.Common.{◌≡◌, ℕ, ◌+◌, ◌^◌, [], ◌∷◌, Some, Ok, Err, codes, refl}
use Rattle.drafts.specs.declared.fault.ContentFault.TheVariants.{RuleStands, NameTaken, UndeclaredSort, WrongPromise}
use Rattle.drafts.specs.declared.fault.Side.TheVariants.{Right}
use Rattle.drafts.specs.declared.fault.RuleFault.TheVariants.{Letter, TwiceOnLeft, Sort}
use Rattle.drafts.specs.Drafts.{Draft, empty, sides, awaited}
use Rattle.drafts.specs.Contents.{declare_sort, declare_constructor, declare_function}
use Rattle.drafts.specs.Rules.{add_rule}

-- the sort level with zero, up and meet
abbrev levels : Draft
levels = (declare_function (declare_constructor (declare_constructor (declare_sort empty (codes "level")).after (codes "zero") [] 2).after (codes "up") (2 ∷ []) 2).after (codes "meet") (2 ∷ 2 ∷ []) 2 3).after

abbrev zero_letter : ℕ
zero_letter = 2 ^ 32 + 5

abbrev up_letter : ℕ
up_letter = 2 ^ 32 + 6

abbrev meet_letter : ℕ
meet_letter = 2 ^ 32 + 7

abbrev x : ℕ
x = 2 ^ 33

abbrev y : ℕ
y = 2 ^ 33 + 1

first_sort : (declare_sort empty (codes "level")).answer ≡ Ok 2
first_sort = refl

taken_name : (declare_sort empty (codes "plus")).answer ≡ Err NameTaken
taken_name = refl

undeclared_sixth : (declare_constructor levels (codes "a") (0 ∷ 0 ∷ 0 ∷ 0 ∷ 0 ∷ 9 ∷ []) 2).answer ≡ Err UndeclaredSort
undeclared_sixth = refl

too_many_promised : (declare_function levels (codes "a") [] 2 94).answer ≡ Err WrongPromise
too_many_promised = refl

meet_awaited : awaited levels ≡ Some 7
meet_awaited = refl

first_rule : (add_rule levels (sides (meet_letter ∷ zero_letter ∷ y ∷ []) (zero_letter ∷ []))).answer ≡ Ok 0
first_rule = refl

after_a_rule : (declare_sort (add_rule levels (sides (meet_letter ∷ zero_letter ∷ y ∷ []) (zero_letter ∷ []))).after (codes "late")).answer ≡ Err RuleStands
after_a_rule = refl

twice : (add_rule levels (sides (meet_letter ∷ x ∷ up_letter ∷ x ∷ []) (x ∷ []))).answer ≡ Err (TwiceOnLeft 3)
twice = refl

right_before_left : (add_rule levels (sides (5 ∷ []) (x ∷ (2 ^ 32 + 8) ∷ []))).answer ≡ Err (Letter Right 1)
right_before_left = refl

sides_disagree : (add_rule levels (sides (meet_letter ∷ x ∷ y ∷ []) ((2 ^ 32 + 3) ∷ []))).answer ≡ Err (Sort Right 0)
sides_disagree = refl
