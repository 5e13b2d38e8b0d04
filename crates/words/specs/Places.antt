-- Where the part at a position stands in a word. Assumes nothing.
use Rattle.std.specs.Prelude.{ℕ, zero, suc, ◌+◌, cond, List, [], ◌∷◌, ◌++◌, take, drop, Some, None, Option, nat_lt, option_map}
use Rattle.words.specs.declared.part.Part.{Part}
use Rattle.terms.specs.Options.{onward, more, and_then}
use Rattle.terms.specs.Signatures.{Signature}
use Rattle.terms.specs.Roots.{arity}
use Rattle.words.specs.Ends.{end_of, part_end}

-- where the argument i of the term that a word begins with stands, past the first letter and i - 1 arguments
abbrev pub argument_place : Signature → ℕ → List ℕ → Option ℕ
argument_place S i [] = None
argument_place S zero (x ∷ w) = None
argument_place S (suc i) (x ∷ w) = onward (arity S x) (λ n. cond (nat_lt i n) (more (end_of S i w)) None)

-- where the part at a position stands
abbrev pub place : Signature → List ℕ → List ℕ → Option ℕ
place S [] w = Some 0
place S (i ∷ p) w = and_then (argument_place S i w) (λ n. place S p (drop n w))

-- its place and its length
abbrev pub part_at : Signature → List ℕ → List ℕ → Option Part
part_at S p w = onward (place S p w) (λ n. option_map (λ l. record { start = n; len = l }) (part_end S (drop n w)))

-- the letters of a part, and the word with other letters in its place
abbrev pub letters_of : Part → List ℕ → List ℕ
letters_of q w = take q.len (drop q.start w)

-- the word with other letters in the place of a part
abbrev pub replaced : Part → List ℕ → List ℕ → List ℕ
replaced q w v = take q.start w ++ (v ++ drop (q.start + q.len) w)
