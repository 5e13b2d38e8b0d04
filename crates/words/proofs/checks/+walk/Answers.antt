use Rattle.std.proofs.Common.{◌≡◌, ◌≤◌, length, Ok, sym, arith, rules}
use Rattle.std.specs.List.{between}
use Rattle.std.proofs.lemmas.Grind.{common_steps}
use Rattle.std.proofs.lemmas.List.{length-take, length-drop}
use Rattle.terms.specs.Views.{view, given}
use Rattle.words.specs.Faults.{walk}
use Rattle.words.proofs.Ends.{from, front_letter}
use Rattle.words.proofs.Sorts.{refused_none, walked_unknown, walked_more, over_letter}
use Rattle.words.proofs.checks.+walk.Goals as goal

pub returns-in_err-arguments-clause-value : goal.returns-in_err-arguments-clause-value
returns-in_err-arguments-clause-value t c =
    let W = c.args.word.now in
    let at = c.loop-sort.at in
    let r = refused_none c.arguments.result at _ c.in_err-arguments.ensures.value in
    let n = r.0 in
    let i = r.1 in
    let h = c.arguments.ensures in
    let o = walked_unknown (view c.args.signature.now) (given c.args.variables.now) c.args.due.now W c.loop-sort.sort-index at _ _ c.loop-sort.invariant.1 c.loop-sort-test.true (front_letter W at (search rules)) (search (rules, n, h)) in
    grind (arith, common_steps, o, i)

pub returns-in_err-at-clause-value : goal.returns-in_err-at-clause-value
returns-in_err-at-clause-value t c =
    let W = c.args.word.now in
    let at = c.loop-sort.at in
    let o = over_letter (view c.args.signature.now) (given c.args.variables.now) c.args.due.now W c.loop-sort.sort-index at _ _ c.in_ok-arguments.arguments.now c.walk.result c.loop-sort.invariant.1 c.loop-sort-test.true (front_letter W at (search rules)) (sym c.if-not-suits.ensures) (let g = c.in_ok-arguments.ensures.ok_part in let h = c.arguments.ensures in search (rules, g, h)) c.walk.ensures.value in
    grind (arith, common_steps, o)

pub loop-sort-preserved : goal.loop-sort-preserved
loop-sort-preserved t c =
    let S = view c.args.signature.now in
    let E = given c.args.variables.now in
    let W = c.args.word.now in
    let at = c.loop-sort.at in
    let js = c.in_ok-arguments.arguments.now in
    let e : Ok c.in_ok-at.field-0 ≡ walk S E js (between 1 (length (from W at)) (from W at)) = grind (arith, common_steps) in
    let b : c.in_ok-at.field-0 ≤ length (between 1 (length (from W at)) (from W at)) = grind (arith, common_steps) in (
      search (rules, length-take, length-drop),
      walked_more S E c.args.due.now W c.loop-sort.sort-index at _ _ js c.in_ok-at.field-0 c.loop-sort.invariant.1 c.loop-sort-test.true (front_letter W at (search rules)) (sym c.if-not-suits.ensures) (let g = c.in_ok-arguments.ensures.ok_part in let h = c.arguments.ensures in search (rules, g, h)) e,
    )
