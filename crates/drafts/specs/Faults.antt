-- The numbers of refusals, and what each names. Assumes nothing.
use Rattle.std.specs.Prelude.{ℕ}
use Rattle.drafts.specs.declared.fault.ContentFault.{ContentFault}
use Rattle.drafts.specs.declared.fault.ContentFault.TheVariants.{RuleStands, MalformedName, NameTaken, UndeclaredSort, TooManyArguments, BuiltInSort, WrongPromise, NoNumberLeft}
use Rattle.drafts.specs.declared.fault.Side.{Side}
use Rattle.drafts.specs.declared.fault.Side.TheVariants.{Left, Right}
use Rattle.drafts.specs.declared.fault.RuleFault.{RuleFault}
use Rattle.drafts.specs.declared.fault.RuleFault.TheVariants.{NotAwaited, Length, Letter, LeftCell, Whole, OtherFunction, InnerFunction, TwiceOnLeft, OnlyOnRight, Sort, NoRoom}

-- the number of a refusal of contents; it names nothing else
abbrev pub content_number : ContentFault → ℕ
content_number RuleStands = 1
content_number MalformedName = 2
content_number NameTaken = 3
content_number UndeclaredSort = 4
content_number TooManyArguments = 5
content_number BuiltInSort = 6
content_number WrongPromise = 7
content_number NoNumberLeft = 8

-- the number of a refusal of a rule, and the side and the index of the letter that it names
abbrev pub rule_number : RuleFault → ℕ × Side × ℕ
rule_number NotAwaited = (11, Left, 0)
rule_number (Length s) = (12, s, 0)
rule_number (Letter s i) = (13, s, i)
rule_number (LeftCell i) = (14, Left, i)
rule_number (Whole s i) = (15, s, i)
rule_number OtherFunction = (16, Left, 0)
rule_number (InnerFunction i) = (17, Left, i)
rule_number (TwiceOnLeft i) = (18, Left, i)
rule_number (OnlyOnRight i) = (19, Right, i)
rule_number (Sort s i) = (20, s, i)
rule_number NoRoom = (21, Left, 0)
