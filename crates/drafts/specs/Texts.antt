-- How the refusals of a draft are printed.
use Rattle.std.specs.Prelude.{ℕ, List, ◌++◌, codes}
use Rattle.std.specs.Fmt.{decimal}
use Rattle.drafts.specs.declared.fault.ContentFault.{ContentFault}
use Rattle.drafts.specs.declared.fault.ContentFault.TheVariants.{RuleStands, MalformedName, NameTaken, UndeclaredSort, TooManyArguments, BuiltInSort, WrongPromise, NoNumberLeft}
use Rattle.drafts.specs.declared.fault.Side.{Side}
use Rattle.drafts.specs.declared.fault.Side.TheVariants.{Left, Right}
use Rattle.drafts.specs.declared.fault.RuleFault.{RuleFault}
use Rattle.drafts.specs.declared.fault.RuleFault.TheVariants.{NotAwaited, Length, Letter, LeftCell, Whole, OtherFunction, InnerFunction, TwiceOnLeft, OnlyOnRight, Sort, NoRoom}
use Rattle.drafts.specs.Faults.{content_number, rule_number}

-- what is wrong with contents, in words
abbrev pub content_reason : ContentFault → List ℕ
content_reason RuleStands = codes "a rule stands already"
content_reason MalformedName = codes "the name is malformed"
content_reason NameTaken = codes "the name is taken"
content_reason UndeclaredSort = codes "a sort is not declared"
content_reason TooManyArguments = codes "there are more than four arguments"
content_reason BuiltInSort = codes "a constructor may not make numbers or truths"
content_reason WrongPromise = codes "the promise is no rule or too many"
content_reason NoNumberLeft = codes "no number is left"

-- the number, and what is wrong
abbrev pub content_text : ContentFault → List ℕ
content_text f = decimal (content_number f) ++ (codes ": " ++ content_reason f)

-- a side
abbrev pub side_text : Side → List ℕ
side_text Left = codes "left"
side_text Right = codes "right"

-- what is wrong with a rule, in words
abbrev pub rule_reason : RuleFault → List ℕ
rule_reason NotAwaited = codes "no rule is awaited"
rule_reason (Length s) = codes "the side is empty or too long"
rule_reason (Letter s i) = codes "the number is no letter or an undeclared symbol"
rule_reason (LeftCell i) = codes "a number cell stands on the left"
rule_reason (Whole s i) = codes "the side is not one whole term"
rule_reason OtherFunction = codes "the left side is not of the function awaited"
rule_reason (InnerFunction i) = codes "a function stands inside the left side"
rule_reason (TwiceOnLeft i) = codes "a variable stands twice on the left"
rule_reason (OnlyOnRight i) = codes "a variable stands on the right only"
rule_reason (Sort s i) = codes "the letter has not the sort due there"
rule_reason NoRoom = codes "there is no room for the letters"

-- a number, what is wrong, and a side with the index of a letter
abbrev pub told : ℕ × Side × ℕ → List ℕ → List ℕ
told (n, s, i) why = decimal n ++ (codes ": " ++ (why ++ (codes " (" ++ (side_text s ++ (codes " letter " ++ (decimal i ++ codes ")"))))))

-- the number, what is wrong, and the side and letter at fault
abbrev pub rule_text : RuleFault → List ℕ
rule_text f = told (rule_number f) (rule_reason f)
