-- What every draft is. Assumes nothing.
use Rattle.std.specs.Prelude.{◌≡◌, ℕ, ◌<◌, true, List, ◌∷◌, map, length, take}
use mathlib.Core.List.{Memᴰ}
use Rattle.terms.specs.Terms.{cell, symbol, Term, var, con, fun, Terms, nil, ◌▸◌}
use Rattle.terms.specs.Names.{well_formed}
use Rattle.terms.specs.Signatures.{Declaration, Signature}
use Rattle.words.specs.Words.{word}
use Rattle.rewriting.specs.Rules.{Rule, left_side, Different, SortCorrectRules, LeftLinear, Proper}
use Rattle.drafts.specs.Drafts.{Sides, sides, Draft, in_turn}
use Rattle.drafts.specs.Contents.{names}

-- every name is well formed and no two are the same; every symbol's sorts are declared; the built-in symbols stand first, and cells alone make numbers
pub record SoundContents (S : Signature) : Type 0 where
  pub formed : (n : List ℕ) → Memᴰ n (names S) → well_formed n ≡ true
  pub apart : Different (names S)
  pub declared : (d : Declaration) → Memᴰ d S.symbols → (k : ℕ) → Memᴰ k (d.sort ∷ d.args) → k < length S.sorts
  pub proper : Proper S

-- constructors and variables alone: no number cell, no function
abbrev mutual
  pub Pattern : Term → Type 0
  Pattern (var v) = Unit {0}
  Pattern (con (cell n) ts) = ⊥
  Pattern (con (symbol s) ts) = Patterns ts
  Pattern (fun f ts) = ⊥

  pub Patterns : Terms → Type 0
  Patterns nil = Unit {0}
  Patterns (t ▸ ts) = Pattern t × Patterns ts

-- the words of a rule's sides
abbrev pub written : Rule → Sides
written r = sides (word (left_side r)) (word r.right)

-- The rules are those of a book over the signature: their words are the draft's, in the order of the functions as each promised them;
-- every rule is sort-correct, left-linear, and has patterns inside its left side.
pub record SoundRules (D : Draft) : Type 0 where
  pub rules : List Rule
  pub as_written : map written rules ≡ D.rules
  pub in_order : map (λ (r : Rule). r.function) rules ≡ take (length D.rules) (in_turn 0 D.promised)
  pub sort_correct : SortCorrectRules (record { signature = D.signature; rules = rules })
  pub left_linear : LeftLinear (record { signature = D.signature; rules = rules })
  pub patterns : (r : Rule) → Memᴰ r rules → Patterns r.left
