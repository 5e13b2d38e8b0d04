use Rattle.std.proofs.Common.{arith}
use Rattle.drafts.proofs.LeftSorts.{few_given}
use Rattle.drafts.proofs.shape.expect.Goals as goal

pub put_first-requires : goal.put_first-requires
put_first-requires c =
    let h = few_given c.args.signature.now c.args.letter _ c.in-Some.ensures in
    omega (arith, c.requires)
