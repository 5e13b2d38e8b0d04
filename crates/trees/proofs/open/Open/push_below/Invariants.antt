use Rattle.std.proofs.Common.{◌≡◌, suc, ◌-◌, ◌++◌}
use Rattle.rewriting.specs.Growing.{below}
use Rattle.trees.specs.Views.{steps_of}
use Rattle.trees.specs.Opens.{open_of}
use Rattle.trees.proofs.open.Open.push_below.Given as goal

abbrev pub invariant-loop-i : goal.invariant-loop-i
invariant-loop-i l = open_of l.self ++ below (steps_of l.path) (suc l.i) (l.arity - l.i) ≡ open_of l.initial.self ++ below (steps_of l.path) 1 l.arity
