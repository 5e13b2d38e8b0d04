use Rattle.std.proofs.Common.{not, rules, tests}
use Rattle.std.proofs.lemmas.Iterator.{YieldsList-from_slice}
use Rattle.std.proofs.lemmas.Iterator.Search.{position_from_yields_List}
use Rattle.words.specs.Faults.{is_lawful}
use Rattle.words.proofs.lawful.unlawful_cell.Goals as goal

pub returns : goal.returns
returns g c =
    let l = (g.K.NumberKind.meaning c.args.kind.now).lawful in
    let found = position_from_yields_List (λ x. not (is_lawful l x)) _ _ c.position.result c.position.ensures.ran (YieldsList-from_slice c.args.word.now cc) (λ x b q k. search (rules, tests)) in
    search (rules, found)
