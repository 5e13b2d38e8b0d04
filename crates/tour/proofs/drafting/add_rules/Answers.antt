use Rattle.std.proofs.Common.{◌≡◌, [], ◌∷◌, codes, Ok, Err, refl, ◌∙◌, OnOk}
use Rattle.drafts.specs.Drafts.{sides}
use Rattle.drafts.specs.Stores.{seen}
use Rattle.books.specs.Examples.{letter, variable, zero_letter, up_letter, meet_draft}
use Rattle.tour.proofs.Calls.{sort_declared, rule_added, not_awaited, rule_stands}
use Rattle.tour.proofs.drafting.add_rules.Goals as goal

pub returns : goal.returns
returns c =
    let first = rule_added (letter 7 ∷ zero_letter ∷ variable 1 ∷ []) (zero_letter ∷ []) c.add_rule-first.ensures c.requires in
    let second = rule_added (letter 7 ∷ up_letter ∷ variable 0 ∷ zero_letter ∷ []) (zero_letter ∷ []) c.add_rule-second.ensures first in
    let third = rule_added (letter 7 ∷ up_letter ∷ variable 0 ∷ up_letter ∷ variable 1 ∷ []) (up_letter ∷ letter 7 ∷ variable 0 ∷ variable 1 ∷ []) c.add_rule-third.ensures second in
    let fourth = rule_added (letter 7 ∷ variable 0 ∷ variable 1 ∷ []) (zero_letter ∷ []) c.add_rule-fourth.ensures third ∙ not_awaited meet_draft (sides (letter 7 ∷ variable 0 ∷ variable 1 ∷ []) (zero_letter ∷ [])) refl in
    let late = sort_declared (codes "late") c.declare_sort.ensures fourth ∙ rule_stands meet_draft (codes "late") refl in
    elim c.tell-5.result as (λ r. OnOk r (seen c.declare_sort.new.self ≡ meet_draft)) [ Ok x ↦ late | Err e ↦ tt ]
