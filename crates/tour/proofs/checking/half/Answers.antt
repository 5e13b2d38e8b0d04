use Rattle.std.proofs.Common.{[], ◌∷◌, codes, Some, ap}
use Rattle.books.specs.Examples.{letter, variable, zero_letter, up_letter}
use Rattle.tour.proofs.Calls.{sort_declared, constructor_declared, function_declared, rule_added}
use Rattle.tour.specs.Checked.{Named}
use Rattle.tour.proofs.checking.half.Goals as goal

pub returns : goal.returns
unfolding Named
returns c =
    let level = sort_declared (codes "level") c.declare_sort.ensures c.new-draft.ensures in
    let zero = constructor_declared (codes "zero") [] 2 c.declare_constructor.ensures level in
    let up = constructor_declared (codes "up") (2 ∷ []) 2 c.declare_constructor-2.ensures zero in
    let begun = function_declared (codes "half") (2 ∷ []) 2 2 c.declare_function.ensures up in
    let first = rule_added (letter 7 ∷ zero_letter ∷ []) (zero_letter ∷ []) c.add_rule.ensures begun in
    ap Some (rule_added (letter 7 ∷ up_letter ∷ up_letter ∷ variable 0 ∷ []) (up_letter ∷ letter 7 ∷ variable 0 ∷ []) c.add_rule-2.ensures first)
