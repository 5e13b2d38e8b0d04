use Rattle.drafts.specs.Books.{book_of}
use Rattle.drafts.specs.Stores.{seen}
use Rattle.trees.specs.Views.{steps_of}
use Rattle.trees.proofs.Shares.{SharedTo}
use Rattle.trees.proofs.LeftSides.{draft_cells}
use Rattle.trees.proofs.heads.shared_heads.Given as goal

abbrev pub invariant-loop-i : goal.invariant-loop-i
invariant-loop-i l = SharedTo (steps_of l.path) l.remain (book_of (seen l.draft)).rules (draft_cells l.draft (steps_of l.path)) l.i l.heads
