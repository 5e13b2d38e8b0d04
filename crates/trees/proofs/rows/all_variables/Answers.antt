use Rattle.std.proofs.Common.{◌≡◌, ◌<◌, true, false, length, Bool, ◌∙◌, arith, rules}
use Rattle.std.specs.List.{slice_get}
use Rattle.std.proofs.lemmas.Bool.{le-ltb}
use Rattle.std.proofs.lemmas.Iterator.{cases_from_all, YieldsList-from_slice}
use Rattle.terms.specs.Options.{passes}
use Rattle.rewriting.specs.Growing.{variable_at}
use Rattle.drafts.specs.Books.{book_of}
use Rattle.drafts.specs.Stores.{seen}
use Rattle.trees.specs.declared.path.Path.{Path}
use Rattle.trees.specs.Views.{steps_of}
use Rattle.trees.specs.Opens.{open_of, paths_of}
use Rattle.trees.proofs.Chains.{all_told}
use Rattle.trees.proofs.LeftSides.{variables_listed, variables_past, rule_count_is}
use Rattle.trees.proofs.rows.all_variables.Goals as goal

pub returns-then-rule-rule_count : goal.returns-then-rule-rule_count
returns-then-rule-rule_count c =
    let R = (book_of (seen c.args.draft.now)).rules in
    let n = rule_count_is c.args.draft.now in
    let ps = paths_of c.args.positions.now in
    let t : Path → Bool = λ path. passes (variable_at (steps_of path)) (slice_get R c.args.rule) in
    let below : c.args.rule < length R = omega (arith, n, c.if-rule-rule_count.true, c.rule_count.ensures.value) in
    all_told t ps c.all.result (cases_from_all _ _ _ (λ p. t p ≡ true) (λ p. t p ≡ false) c.all.ensures.ran (YieldsList-from_slice ps (cc)) (λ x q k. search rules) (λ x q k. search rules))
    ∙ variables_listed R c.args.rule below ps

pub returns-else-rule-rule_count : goal.returns-else-rule-rule_count
returns-else-rule-rule_count c =
    let n = rule_count_is c.args.draft.now in
    le-ltb c.args.rule c.rule_count.result c.if-rule-rule_count.false
    ∙ variables_past (book_of (seen c.args.draft.now)).rules c.args.rule (open_of c.args.positions.now) (omega (arith, n, c.if-rule-rule_count.false, c.rule_count.ensures.value))
