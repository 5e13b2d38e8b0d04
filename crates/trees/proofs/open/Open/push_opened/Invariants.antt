use Rattle.std.proofs.Common.{◌≡◌, ◌++◌, drop, map}
use Rattle.rewriting.specs.Growing.{opened}
use Rattle.trees.specs.Views.{steps_of}
use Rattle.trees.specs.Opens.{open_of, paths_of}
use Rattle.trees.proofs.open.Open.push_opened.Given as goal

abbrev pub invariant-loop-other : goal.invariant-loop-other
invariant-loop-other l = open_of l.self ++ opened (map steps_of (drop l.other-index (paths_of l.others))) (steps_of l.path) l.arity ≡ open_of l.initial.self ++ opened (open_of l.others) (steps_of l.path) l.arity
