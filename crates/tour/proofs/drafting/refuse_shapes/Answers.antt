use Rattle.std.proofs.Common.{◌≡◌, [], ◌∷◌, Ok, Err, OnOk}
use Rattle.drafts.specs.Stores.{seen}
use Rattle.books.specs.Examples.{letter, variable, true_letter, zero_letter, up_letter, meet_begun}
use Rattle.tour.proofs.Calls.{rule_added}
use Rattle.tour.proofs.drafting.refuse_shapes.Goals as goal

-- that each call leaves meet_begun is computed
pub returns : goal.returns
returns c =
    let inner = rule_added (letter 7 ∷ variable 0 ∷ letter 7 ∷ variable 0 ∷ variable 1 ∷ []) (zero_letter ∷ []) c.add_rule-inner.ensures c.requires in
    let twice = rule_added (letter 7 ∷ variable 0 ∷ variable 0 ∷ []) (zero_letter ∷ []) c.add_rule-twice.ensures inner in
    let new = rule_added (letter 7 ∷ variable 0 ∷ zero_letter ∷ []) (up_letter ∷ variable 1 ∷ []) c.add_rule-new.ensures twice in
    let left = rule_added (letter 7 ∷ variable 0 ∷ true_letter ∷ []) (zero_letter ∷ []) c.add_rule-left.ensures new in
    let right = rule_added (letter 7 ∷ variable 0 ∷ variable 1 ∷ []) (letter 0 ∷ 1 ∷ 2 ∷ []) c.add_rule-right.ensures left in
    elim c.tell-5.result as (λ r. OnOk r (seen c.add_rule-right.new.self ≡ meet_begun)) [ Ok x ↦ right | Err e ↦ tt ]
