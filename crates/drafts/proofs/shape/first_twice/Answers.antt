use Rattle.std.proofs.Common.{rules, tests, ◌≡◌, true, false, get_or, take}
use Rattle.std.proofs.lemmas.Iterator.{first_from_Range}
use Rattle.drafts.specs.Rules.{is_again}
use Rattle.drafts.proofs.Again.{again_found}
use Rattle.drafts.proofs.shape.first_twice.Goals as goal

pub returns : goal.returns
returns c =
    let w = c.args.word.now in
    again_found w c.find.result
    (first_from_Range _ _ _ c.find.result (λ i. is_again (take i w) (get_or w i 0) ≡ true) (λ i. is_again (take i w) (get_or w i 0) ≡ false) c.find.ensures.ran (λ x q k. search (rules, tests)) (λ x q k. (search rules, search (rules, tests))))
