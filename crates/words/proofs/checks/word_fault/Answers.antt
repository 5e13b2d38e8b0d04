use Rattle.std.proofs.Common.{◌≡◌, arith}
use Rattle.std.proofs.lemmas.Grind.{common_steps}
use Rattle.words.specs.Faults.{word_fault}
use Rattle.terms.specs.Views.{view}
use Rattle.words.proofs.Faultless.{closed_of}
use Rattle.words.proofs.checks.word_fault.Goals as goal

pub returns-clause-exact : goal.returns-clause-exact
returns-clause-exact c =
    let S = view c.args.signature.now in
    let n = c.args.most in
    let w = c.args.word.now in
    let e : c.or_else-3.result ≡ word_fault S n w = grind (arith, common_steps) in
    closed_of S n w c.or_else-3.result e
