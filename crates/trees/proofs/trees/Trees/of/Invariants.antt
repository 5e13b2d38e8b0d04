use Rattle.drafts.specs.Books.{book_of}
use Rattle.drafts.specs.Stores.{seen}
use Rattle.trees.proofs.Rooting.{UpTo}
use Rattle.trees.proofs.trees.Trees.of.Given as goal

abbrev pub invariant-loop-symbol : goal.invariant-loop-symbol
invariant-loop-symbol l = UpTo (book_of (seen l.draft)) l.symbol l.trees
