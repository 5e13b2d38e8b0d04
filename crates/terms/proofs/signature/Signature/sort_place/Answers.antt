use Rattle.std.proofs.Common.{rules, tests}
use Rattle.std.specs.Str.{bytes_eq}
use Rattle.std.proofs.lemmas.Iterator.{YieldsList-from_slice}
use Rattle.std.proofs.lemmas.Iterator.Search.{position_from_yields_List}
use Rattle.terms.specs.Rows.{items}
use Rattle.terms.specs.Views.{bytes_of}
use Rattle.terms.proofs.signature.Signature.sort_place.Goals as goal

pub returns-clause-value : goal.returns-clause-value
returns-clause-value c =
    let ns = items c.args.self.now.sorts in
    let found = position_from_yields_List (λ n. bytes_eq (bytes_of n) c.args.bytes.now) _ _ c.position.result c.position.ensures.ran (YieldsList-from_slice ns cc) (λ x b q k. search (rules, tests)) in
    search (rules, found)
