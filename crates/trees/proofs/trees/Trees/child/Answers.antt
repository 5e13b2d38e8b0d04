use Rattle.std.proofs.Common.{rules}
use Rattle.trees.specs.Standing.{nodes_in}
use Rattle.trees.proofs.Seeking.{branch_finds}
use Rattle.trees.proofs.trees.Trees.child.Goals as goal

pub returns-in-Branch-clause-finds : goal.returns-in-Branch-clause-finds
returns-in-Branch-clause-finds c = branch_finds (nodes_in c.args.self.now) c.args.place c.args.symbol c.seek.result (search rules)
