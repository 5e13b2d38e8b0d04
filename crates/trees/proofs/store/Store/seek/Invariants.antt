use Rattle.std.proofs.Common.{◌≡◌, ◌-◌, length}
use Rattle.trees.specs.Nodes.{seek}
use Rattle.trees.specs.Growth.{nodes_of}
use Rattle.trees.proofs.store.Store.seek.Given as goal

abbrev pub invariant-loop : goal.invariant-loop
invariant-loop l = seek (length (nodes_of l.self) - l.counter) (nodes_of l.self) l.link l.symbol ≡ seek (length (nodes_of l.self)) (nodes_of l.self) l.initial.link l.symbol
