use Rattle.std.proofs.Common.{arith}
use Rattle.drafts.specs.Books.{book_of}
use Rattle.drafts.specs.Stores.{seen}
use Rattle.drafts.proofs.Sound.{book_rules}
use Rattle.trees.proofs.Places.{nth_below}
use Rattle.trees.proofs.LeftSides.{rule_count_is}
use Rattle.trees.proofs.masks.sole_open.Goals as goal

pub overflow_add-rule : goal.overflow_add-rule
overflow_add-rule c =
    let a = c.args.draft.now in
    let b = nth_below (book_of (seen a)).rules c.in_ok-rule.rule c.in_ok-rule.ensures.1 in
    let n = rule_count_is a in
    let l = (book_rules a).few_rules in
    omega arith

pub next_rule-requires-2 : goal.next_rule-requires-2
next_rule-requires-2 c = let b = nth_below (book_of (seen c.args.draft.now)).rules c.in_ok-rule.rule c.in_ok-rule.ensures.1 in omega arith
