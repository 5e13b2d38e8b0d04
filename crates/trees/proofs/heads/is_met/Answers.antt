use Rattle.std.proofs.Common.{◌∙◌}
use Rattle.trees.proofs.Scanned.{contains_met}
use Rattle.trees.proofs.heads.is_met.Goals as goal

pub returns : goal.returns
returns c = c.contains.ensures.value ∙ contains_met c.args.symbol c.args.heads.now
