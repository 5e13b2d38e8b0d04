-- Where a part of a word ends. Assumes nothing.
use Rattle.std.specs.Prelude.{◌≡◌, ℕ, zero, suc, ◌+◌, List, [], ◌∷◌, ◌++◌, length, drop, Some, None, Option}
use Rattle.terms.specs.Terms.{Term}
use Rattle.terms.specs.Options.{onward, more}
use Rattle.terms.specs.Signatures.{Signature}
use Rattle.terms.specs.Roots.{arity}
use Rattle.words.specs.Words.{word, Fits}

-- A part ends n letters on: first letter, then each argument by the same finding.
mutual
  pub data Ends (S : Signature) : List ℕ → ℕ → Type 0 where
    first : {x k m : ℕ} {w : List ℕ} → arity S x ≡ Some k → EndsInRow S k w m → Ends S (x ∷ w) (m + 1)

  pub data EndsInRow (S : Signature) : ℕ → List ℕ → ℕ → Type 0 where
    no_more : {w : List ℕ} → EndsInRow S 0 w 0
    next : {k m n : ℕ} {w : List ℕ} → Ends S w m → EndsInRow S k (drop m w) n → EndsInRow S (suc k) w (m + n)

-- the same computed: the length of k parts in a row at the front of a word; a letter stands for one part and asks for its arguments
abbrev pub end_of : Signature → ℕ → List ℕ → Option ℕ
end_of S zero w = Some 0
end_of S (suc k) [] = None
end_of S (suc k) (x ∷ w) = more (onward (arity S x) (λ n. end_of S (n + k) w))

-- the length of the part that a word begins with
abbrev pub part_end : Signature → List ℕ → Option ℕ
part_end S w = end_of S 1 w

-- the word begins with the word of a term, which has n letters
abbrev pub Begins : Signature → List ℕ → ℕ → Type 0
Begins S w n = (t : Term) × (v : List ℕ) × Fits S t × (w ≡ word t ++ v) × (length (word t) ≡ n)
