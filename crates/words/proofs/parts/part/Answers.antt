use Rattle.std.proofs.Common.{◌≡◌, Some, arith, rules}
use Rattle.std.proofs.lemmas.Grind.{common_steps}
use Rattle.words.specs.Places.{part_at}
use Rattle.terms.specs.Views.{view}
use Rattle.words.proofs.Cuts.{cuts_of}
use Rattle.words.proofs.parts.part.Goals as goal

pub returns-in_err-start-clause-cuts : goal.returns-in_err-start-clause-cuts
returns-in_err-start-clause-cuts c =
    let S = view c.args.signature.now in
    let e : c.from_residual.result ≡ part_at S c.args.path.now c.args.word.now = search rules in
    cuts_of S _ _ _ e

pub returns-in_err-len-clause-cuts : goal.returns-in_err-len-clause-cuts
returns-in_err-len-clause-cuts c =
    let S = view c.args.signature.now in
    let e : c.from_residual-in_err-len.result ≡ part_at S c.args.path.now c.args.word.now = grind (arith, common_steps) in
    cuts_of S _ _ _ e

pub returns-clause-cuts : goal.returns-clause-cuts
returns-clause-cuts c =
    let S = view c.args.signature.now in
    let e : Some (record { start = c.in_ok-start.start; len = c.in_ok-len.len }) ≡ part_at S c.args.path.now c.args.word.now = grind (arith, common_steps) in
    cuts_of S _ _ _ e
