use Rattle.drafts.specs.Books.{book_of}
use Rattle.drafts.specs.Stores.{seen}
use Rattle.trees.specs.Views.{steps_of}
use Rattle.trees.specs.Opens.{open_of}
use Rattle.trees.proofs.Growths.{GrownTo}
use Rattle.trees.proofs.store.Store.+grow.Given as goal

abbrev pub decreases-grow : goal.decreases-grow
decreases-grow l = l.fuel

abbrev pub invariant-loop-i : goal.invariant-loop-i
invariant-loop-i l = GrownTo (book_of (seen l.draft)) (open_of l.stage.positions.now) l.stage.remain.now l.fuel (steps_of l.shared.path) l.shared.heads l.i l.initial.self l.self l.children l.complete
