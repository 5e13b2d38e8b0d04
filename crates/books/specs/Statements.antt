-- What Check tells of a draft, and what every book is. Assumes nothing.
use Rattle.std.specs.Prelude.{◌≡◌, ℕ, ◌<◌, ◌↔◌, Some, None, Option}
use Rattle.terms.specs.Terms.{own}
use Rattle.terms.specs.Roots.{call, Stands}
use Rattle.rewriting.specs.Rules.{Book}
use Rattle.rewriting.specs.Trees.{Node, TreeFor, CompleteFor}
use Rattle.rewriting.specs.Promises.{HasCompleteTrees}
use Rattle.drafts.specs.Drafts.{Draft, awaited}
use Rattle.drafts.specs.Statements.{SoundContents}
use Rattle.drafts.specs.Books.{book_of, CountedContents, BookRules}
use Rattle.trees.specs.declared.fault.CheckFault.{CheckFault}
use Rattle.trees.specs.declared.fault.CheckFault.TheVariants.{RulesMissing, NoTree, Incomplete}
use Rattle.trees.specs.declared.trees.Trees.{Trees}
use Rattle.trees.specs.Standing.{AllRooted, OthersRootless, AllOnTrees, NodesOnly, LaidOut, RulesDiffer}

-- the function f is completely defined: it has a complete definitional tree
abbrev pub CompletelyDefined : Book → ℕ → Type 0
CompletelyDefined B f = (n : Node) × TreeFor B f n × CompleteFor B f n

-- f is the first declared function that is not
pub record FirstAtFault (B : Book) (f : ℕ) : Type 0 where
  pub declared : Stands B.signature (call (own f))
  pub not_defined : CompletelyDefined B f → ⊥
  pub before : (g : ℕ) → g < f → Stands B.signature (call (own g)) → CompletelyDefined B g

-- Exact: a draft is accepted where no rule is missing and every function has a complete tree; else the function whose rule is missing is told, or the first
-- function without a complete tree, and whether it has no tree at all.
pub record ExactCheck (D : Draft) (o : Option CheckFault) : Type 0 where
  pub accepted : (o ≡ None) ↔ ((awaited D ≡ None) × HasCompleteTrees (book_of D))
  pub missing : (f : ℕ) → (o ≡ Some (RulesMissing f)) ↔ (awaited D ≡ Some f)
  pub no_tree : (f : ℕ) → (o ≡ Some (NoTree f)) ↔ ((awaited D ≡ None) × FirstAtFault (book_of D) f × ((n : Node) → TreeFor (book_of D) f n → ⊥))
  pub incomplete : (f : ℕ) → (o ≡ Some (Incomplete f)) ↔ ((awaited D ≡ None) × FirstAtFault (book_of D) f × ((n : Node) × TreeFor (book_of D) f n))

-- every rule set: sort-correct and left-linear, no rule is missing, no two are the same, at the root of each function stands its fixed tree, no other symbol has a root, each node is on one of these trees,
-- as many nodes stand as these trees have, and nodes and roots are the layout of these trees
pub record SoundSet (D : Draft) (t : Trees) : Type 0 where
  pub contents : SoundContents D.signature
  pub counted : CountedContents D
  pub rules : BookRules D
  pub whole : awaited D ≡ None
  pub differ : RulesDiffer (book_of D)
  pub rooted : AllRooted (book_of D) t
  pub rootless : OthersRootless (book_of D) t
  pub on_trees : AllOnTrees t
  pub nodes : NodesOnly (book_of D) t
  pub laid : LaidOut (book_of D) t

-- every book: and each function has a complete tree
pub record SoundBook (D : Draft) (t : Trees) : Type 0 where
  pub set : SoundSet D t
  pub complete : HasCompleteTrees (book_of D)
