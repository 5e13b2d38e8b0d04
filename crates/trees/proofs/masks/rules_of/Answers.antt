use Rattle.std.proofs.Common.{false, refl, eqb, arith, rules, Bool}
use Rattle.std.specs.List.{slice_get}
use Rattle.terms.specs.Options.{passes}
use Rattle.rewriting.specs.Rules.{Rule}
use Rattle.drafts.specs.Books.{book_of}
use Rattle.drafts.specs.Stores.{seen}
use Rattle.drafts.proofs.Lists.{made_at}
use Rattle.drafts.proofs.Sound.{book_rules}
use Rattle.trees.proofs.LeftSides.{rule_count_is}
use Rattle.trees.proofs.Chosen.{chosen_places}
use Rattle.trees.proofs.masks.rules_of.Goals as goal

pub returns : goal.returns
returns c =
    let a = c.args.draft.now in
    let n = rule_count_is a in
    let l = (book_rules a).few_rules in
    let R = (book_of (seen a)).rules in
    let z = c.from_fn.ensures.items in
    let t : Rule → Bool = λ q. eqb q.function c.args.function in
    chosen_places t c.from_fn.result R (omega (arith, z.long, n, l))
    (λ k h. made_at _ _ (λ i. passes t (slice_get R i)) c.from_fn.result (λ i y q e. (search rules, search rules)) 96 0 _ refl z.each k (omega arith) (omega (arith, n, l)) false)
