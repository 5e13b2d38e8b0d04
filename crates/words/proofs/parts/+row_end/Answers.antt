use Rattle.std.proofs.Common.{◌≡◌, ◌+◌, ◌-◌, Some, None, length, drop, sym, ap, ◌∙◌, arith, rules}
use Rattle.std.specs.List.{between}
use Rattle.std.proofs.lemmas.List.{length-take, length-drop}
use Rattle.terms.specs.Options.{ahead}
use Rattle.words.specs.Ends.{end_of}
use Rattle.terms.specs.Views.{view}
use Rattle.words.proofs.Ends.{passed, stopped, from, front_letter, part_of_letter}
use Rattle.words.proofs.parts.+row_end.Goals as goal

pub returns-in_err-at-clause-value : goal.returns-in_err-at-clause-value
returns-in_err-at-clause-value t c =
    let S = view c.args.signature.now in
    let W = c.args.word.now in
    let at = c.loop.at in
    let rest = between 1 (length (from W at)) (from W at) in
    let none : None ≡ end_of S c.in_ok-arity.field-0 rest = c.in_err-at.ensures.value ∙ ap (λ n. end_of S n rest) (omega arith) in
    let h = part_of_letter S at W _ (front_letter W at (search rules)) c.in_ok-arity.ensures none in
    c.from_residual-in_err-at.ensures ∙ sym (c.loop.invariant.1 ∙ stopped S (c.args.count - c.loop.counter) at W (omega (arith, c.loop-test.true)) h)

pub loop-preserved : goal.loop-preserved
loop-preserved t c =
    let S = view c.args.signature.now in
    let W = c.args.word.now in
    let at = c.loop.at in
    let k = c.args.count - c.loop.counter in
    let n = c.in_ok-at.field-0 + 1 in
    let rest = between 1 (length (from W at)) (from W at) in
    let some : Some c.in_ok-at.field-0 ≡ end_of S c.in_ok-arity.field-0 rest = c.in_ok-at.ensures.value ∙ ap (λ n. end_of S n rest) (omega arith) in
    let h = part_of_letter S at W _ (front_letter W at (search rules)) c.in_ok-arity.ensures some in
    let q : k - 1 ≡ c.args.count - (c.loop.counter + 1) = omega arith in
    (search (rules, length-take, length-drop), c.loop.invariant.1 ∙ passed S k at n W (omega (arith, c.loop-test.true)) h ∙ ap (λ j. ahead (at + n) (end_of S j (drop (at + n) W))) q)
