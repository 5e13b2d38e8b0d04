use Rattle.std.proofs.Common.{rules, tests}
use Rattle.std.proofs.lemmas.Iterator.Search.{all_from_yields_List}
use Rattle.std.proofs.lemmas.Iterator.{YieldsList-from_slice}
use Rattle.words.specs.Faults.{is_in_value}
use Rattle.terms.specs.Views.{view}
use Rattle.words.proofs.Scans.{tells_value}
use Rattle.words.proofs.checks.is_value.Goals as goal

pub returns-clause-tells : goal.returns-clause-tells
returns-clause-tells c =
    let S = view c.args.signature.now in
    let w = c.args.word.now in
    let e = all_from_yields_List (is_in_value S) _ _ c.all.result c.all.ensures.ran (YieldsList-from_slice w cc) (λ x b q k. search (rules, tests)) in
    tells_value S w c.all.result e
