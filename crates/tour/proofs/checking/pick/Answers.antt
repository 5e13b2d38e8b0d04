use Rattle.std.proofs.Common.{[], ◌∷◌, codes, Some, ap}
use Rattle.books.specs.Examples.{letter, variable, true_letter, false_letter}
use Rattle.tour.proofs.Calls.{function_declared, rule_added}
use Rattle.tour.specs.Checked.{Named}
use Rattle.tour.proofs.checking.pick.Goals as goal

pub returns : goal.returns
unfolding Named
returns c =
    let begun = function_declared (codes "pick") (1 ∷ 1 ∷ []) 1 3 c.declare_function.ensures c.new-draft.ensures in
    let first = rule_added (letter 5 ∷ variable 0 ∷ true_letter ∷ []) (variable 0 ∷ []) c.add_rule.ensures begun in
    let second = rule_added (letter 5 ∷ true_letter ∷ false_letter ∷ []) (false_letter ∷ []) c.add_rule-2.ensures first in
    ap Some (rule_added (letter 5 ∷ false_letter ∷ false_letter ∷ []) (true_letter ∷ []) c.add_rule-3.ensures second)
