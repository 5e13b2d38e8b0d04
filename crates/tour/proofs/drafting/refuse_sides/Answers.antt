use Rattle.std.proofs.Common.{◌≡◌, [], ◌∷◌, Ok, Err, OnOk}
use Rattle.drafts.specs.Stores.{seen}
use Rattle.books.specs.Examples.{letter, variable, zero_letter, up_letter, meet_begun}
use Rattle.tour.proofs.Calls.{rule_added}
use Rattle.tour.proofs.drafting.refuse_sides.Goals as goal

-- that each call leaves meet_begun is computed
pub returns : goal.returns
returns c =
    let empty = rule_added [] (zero_letter ∷ []) c.add_rule.ensures c.requires in
    let unknown = rule_added (letter 7 ∷ variable 0 ∷ variable 1 ∷ []) (letter 8 ∷ []) c.add_rule-unknown.ensures empty in
    let cell = rule_added (letter 7 ∷ variable 0 ∷ 5 ∷ []) (zero_letter ∷ []) c.add_rule-cell.ensures unknown in
    let short = rule_added (letter 7 ∷ variable 0 ∷ []) (zero_letter ∷ []) c.add_rule-2.ensures cell in
    let other = rule_added (up_letter ∷ variable 0 ∷ []) (zero_letter ∷ []) c.add_rule-3.ensures short in
    elim c.tell-5.result as (λ r. OnOk r (seen c.add_rule-3.new.self ≡ meet_begun)) [ Ok x ↦ other | Err e ↦ tt ]
