use Rattle.std.proofs.Common.{rules, tests}
use Rattle.drafts.specs.Books.{book_of}
use Rattle.drafts.specs.Stores.{seen}
use Rattle.trees.specs.Opens.{paths_of}
use Rattle.trees.proofs.Shares.{shared_found}
use Rattle.trees.proofs.heads.first_shared.Goals as goal

pub returns : goal.returns
returns c =
    let y = c.find_map.ensures.runs in
    let items = c.iter.ensures.runs y.0 y.0.seen in
    shared_found c.args.stage.remain.now (book_of (seen c.args.draft.now)).rules _ _ (paths_of c.args.stage.positions.now) y.0 (search rules) (λ x r q k. search (rules, tests)) (λ a r q k. search rules) c.find_map.result y.2
