use Rattle.std.proofs.Common.{◌≡◌, length, Some, None, rules}
use Rattle.words.specs.Faults.{not_whole}
use Rattle.terms.specs.Views.{view}
use Rattle.words.proofs.Faultless.{whole_of}
use Rattle.words.proofs.Rows.{reads_back}
use Rattle.words.proofs.checks.not_whole.Goals as goal

pub returns-in-Some : goal.returns-in-Some
returns-in-Some c =
    let S = view c.args.signature.now in
    let w = c.args.word.now in
    let e : Some c.in-Some.end ≡ not_whole S w = search rules in
    record { value = e; tells = whole_of S w _ e; reads = reads_back S w }

pub returns-in-Some-2 : goal.returns-in-Some-2
returns-in-Some-2 c =
    let S = view c.args.signature.now in
    let w = c.args.word.now in
    let e : None ≡ not_whole S w = search rules in
    record { value = e; tells = whole_of S w _ e; reads = reads_back S w }

pub returns-in-None : goal.returns-in-None
returns-in-None c =
    let S = view c.args.signature.now in
    let w = c.args.word.now in
    let e : Some (length w) ≡ not_whole S w = search rules in
    record { value = e; tells = whole_of S w _ e; reads = reads_back S w }
