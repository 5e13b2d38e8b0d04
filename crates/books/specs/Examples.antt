-- Drafts as their calls make them, and what Check says of them. Assumes nothing.
use Rattle.std.specs.Prelude.{◌≡◌, ℕ, ◌+◌, ◌^◌, List, [], ◌∷◌, ◌++◌, replicate, Some, None, codes, Option}
use Rattle.terms.specs.Terms.{symbol}
use Rattle.drafts.specs.Drafts.{Draft, empty, sides}
use Rattle.drafts.specs.Contents.{declare_sort, declare_constructor, declare_function}
use Rattle.drafts.specs.Rules.{add_rule}
use Rattle.drafts.specs.Books.{book_of}
use Rattle.rewriting.specs.Rules.{Rule}
use Rattle.rewriting.specs.Examples.{meet_1, meet_2, meet_3}
use Rattle.trees.specs.declared.fault.CheckFault.TheVariants.{RulesMissing, NoTree, Incomplete}
use Rattle.trees.specs.Checks.{check_fault}
use Rattle.trees.specs.Layout.{SeenKind, applies, branches, SeenNode, laid_out}

-- the letter of a symbol
abbrev pub letter : ℕ → ℕ
letter s = 2 ^ 32 + s

-- true
abbrev pub true_letter : ℕ
true_letter = letter 3

-- false
abbrev pub false_letter : ℕ
false_letter = letter 4

-- the letter of a variable
abbrev pub variable : ℕ → ℕ
variable v = 2 ^ 33 + v

-- a rule more
abbrev pub with_rule : Draft → List ℕ → List ℕ → Draft
with_rule D l r = (add_rule D (sides l r)).after

-- the sort level with zero, which is symbol 5, and up, which is 6
abbrev pub level_draft : Draft
level_draft = (declare_constructor (declare_constructor (declare_sort empty (codes "level")).after (codes "zero") [] 2).after (codes "up") (2 ∷ []) 2).after

-- zero
abbrev pub zero_letter : ℕ
zero_letter = letter 5

-- up
abbrev pub up_letter : ℕ
up_letter = letter 6

-- meet promises three rules and has none yet
abbrev pub meet_begun : Draft
meet_begun = (declare_function level_draft (codes "meet") (2 ∷ 2 ∷ []) 2 3).after

-- meet(zero, Y) = zero; meet(up(X), zero) = zero; meet(up(X), up(Y)) = up(meet(X, Y))
abbrev pub meet_draft : Draft
meet_draft =
    with_rule
    (with_rule (with_rule meet_begun (letter 7 ∷ zero_letter ∷ variable 1 ∷ []) (zero_letter ∷ []))
    (letter 7 ∷ up_letter ∷ variable 0 ∷ zero_letter ∷ []) (zero_letter ∷ []))
    (letter 7 ∷ up_letter ∷ variable 0 ∷ up_letter ∷ variable 1 ∷ []) (up_letter ∷ letter 7 ∷ variable 0 ∷ variable 1 ∷ [])

-- pick(A, true) = A; pick(true, false) = false; pick(false, false) = true
abbrev pub pick_draft : Draft
pick_draft =
    with_rule
    (with_rule (with_rule (declare_function empty (codes "pick") (1 ∷ 1 ∷ []) 1 3).after (letter 5 ∷ variable 0 ∷ true_letter ∷ []) (variable 0 ∷ []))
    (letter 5 ∷ true_letter ∷ false_letter ∷ []) (false_letter ∷ []))
    (letter 5 ∷ false_letter ∷ false_letter ∷ []) (true_letter ∷ [])

-- either(true, A) = true; either(A, true) = true; either(false, false) = false
abbrev pub either_draft : Draft
either_draft =
    with_rule
    (with_rule (with_rule (declare_function empty (codes "either") (1 ∷ 1 ∷ []) 1 3).after (letter 5 ∷ true_letter ∷ variable 0 ∷ []) (true_letter ∷ []))
    (letter 5 ∷ variable 0 ∷ true_letter ∷ []) (true_letter ∷ []))
    (letter 5 ∷ false_letter ∷ false_letter ∷ []) (false_letter ∷ [])

-- half(zero) = zero; half(up(up(A))) = up(half(A))
abbrev pub half_draft : Draft
half_draft =
    with_rule (with_rule (declare_function level_draft (codes "half") (2 ∷ []) 2 2).after (letter 7 ∷ zero_letter ∷ []) (zero_letter ∷ []))
    (letter 7 ∷ up_letter ∷ up_letter ∷ variable 0 ∷ []) (up_letter ∷ letter 7 ∷ variable 0 ∷ [])

-- a node under a symbol
abbrev pub node_under : ℕ → SeenKind → Option ℕ → SeenNode
node_under s k n = record { under = symbol s; kind = k; next = n }

-- a rule node's rule
abbrev pub by : Rule → SeenKind
by r = applies (Some r)

-- What Check says of them, and where the nodes of meet lie.
pub record CheckedExamples : Type 0 where
  pub rules_missing : check_fault meet_begun ≡ Some (RulesMissing 7)
  pub meet_accepted : check_fault meet_draft ≡ None
  pub pick_accepted : check_fault pick_draft ≡ None
  pub either_refused : check_fault either_draft ≡ Some (NoTree 5)
  pub half_refused : check_fault half_draft ≡ Some (Incomplete 7)
  pub meet_laid : laid_out (book_of meet_draft) ≡ record {
    nodes =
        node_under 6 (by meet_3) None
        ∷ node_under 5 (by meet_2) (Some 0)
        ∷ node_under 6 (branches (2 ∷ []) (Some 1)) None
        ∷ node_under 5 (by meet_1) (Some 2)
        ∷ node_under 7 (branches (1 ∷ []) (Some 3)) None
        ∷ [];
    roots = replicate 7 None ++ (Some 4 ∷ replicate 88 None);
  }
