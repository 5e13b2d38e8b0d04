-- What the code's parts of a draft are.
use Rattle.std.specs.Prelude.{ℕ, ◌+◌, Bool, ◌&&◌, List, [], ◌∷◌, map, length, take, drop, ◌==◌}
use Rattle.terms.specs.declared.signature.Signature.{Signature as Table}
use Rattle.terms.specs.Views.{view}
use Rattle.drafts.specs.declared.span.Span.{Span}
use Rattle.drafts.specs.Drafts.{Sides, Draft}

-- a rule's sides in the pool
abbrev pub sides_of : List ℕ → Span → Sides
sides_of ls s = record { left = take s.left (drop s.start ls); right = take s.right (drop (s.start + s.left) ls) }

-- a draft: its signature, a promise for each symbol, and the rules of these spans
abbrev pub drafted : Table → List ℕ → List ℕ → List Span → Draft
drafted g ps ls ss = record { signature = view g; promised = take (length (view g).symbols) ps; rules = map (sides_of ls) ss }

-- whether spans follow one another from n on and end at m
abbrev pub in_a_row : ℕ → List Span → ℕ → Bool
in_a_row n [] m = n == m
in_a_row n (s ∷ ss) m = s.start == n && in_a_row (n + (s.left + s.right)) ss m
