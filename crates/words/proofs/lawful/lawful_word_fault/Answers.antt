use Rattle.std.proofs.Common.{◌≡◌, rules}
use Rattle.words.specs.Faults.{lawful_fault}
use Rattle.terms.specs.Views.{view}
use Rattle.words.proofs.Faultless.{lawful_of}
use Rattle.words.proofs.lawful.lawful_word_fault.Goals as goal

pub returns-clause-exact : goal.returns-clause-exact
returns-clause-exact g c =
    let l = (g.K.NumberKind.meaning c.args.kind.now).lawful in
    let S = view c.args.signature.now in
    let n = c.args.most in
    let w = c.args.word.now in
    let e : c.or_else.result ≡ lawful_fault S l n w = search rules in
    lawful_of S l n w c.or_else.result e
