use Rattle.std.proofs.Common.{rules}
use Rattle.terms.proofs.Names.{formed_is}
use Rattle.terms.proofs.name.reads.is_well_formed.Goals as goal

pub returns-then-is_small : goal.returns-then-is_small
returns-then-is_small c =
    let W = c.args.bytes.now in
    formed_is W c.all_follow.result (search rules) (search rules) (search rules) c.all_follow.ensures
