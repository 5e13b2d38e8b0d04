use Rattle.std.proofs.Common.{true, false, get_or, length, ◌≡◌, ◌∙◌, sym, arith, rules}
use Rattle.std.proofs.lemmas.Iterator.{first_from_Range}
use Rattle.std.proofs.lemmas.List.{get_or_read}
use Rattle.drafts.specs.Books.{book_of}
use Rattle.drafts.specs.Stores.{seen}
use Rattle.drafts.proofs.Sound.{book_rules}
use Rattle.trees.proofs.LeftSides.{rule_count_is}
use Rattle.trees.proofs.Chosen.{next_found}
use Rattle.trees.proofs.masks.next_rule.Goals as goal

pub returns : goal.returns
returns c =
    let a = c.args.draft.now in
    let m = c.args.remain.now in
    let R = (book_of (seen a)).rules in
    let n = rule_count_is a in
    let few = (book_rules a).few_rules in
    let long : length m ≡ 96 = search rules in
    let v = c.rule_count.ensures.value in
    next_found m R c.args.from c.rule_count.result c.find.result (omega (arith, n, few, long)) (v ∙ sym n) (omega (arith, n, v, c.requires))
    (first_from_Range _ _ _ _ (λ i. get_or m i false ≡ true) (λ i. get_or m i false ≡ false) c.find.ensures.ran (λ x q k. search (rules, get_or_read)) (λ x q k. (search rules, search (rules, get_or_read))))
