-- What comes of an answer that may be missing, and of places in a word. Assumes nothing.
use Rattle.std.specs.Prelude.{ℕ, ◌+◌, Bool, false, Some, None, Option}

-- go on with what is there; option_and_then of Rattle's library with what is there put first
abbrev pub onward : {A B : Type 0} → Option A → (A → Option B) → Option B
onward None f = None
onward (Some a) f = f a

-- whether something is there that passes a test
abbrev pub passes : {A : Type 0} → (A → Bool) → Option A → Bool
passes p None = false
passes p (Some a) = p a

-- the same place, seen from one letter earlier
abbrev pub more : Option ℕ → Option ℕ
more (Some n) = Some (n + 1)
more None = None

-- and from n letters earlier
abbrev pub ahead : ℕ → Option ℕ → Option ℕ
ahead n (Some m) = Some (n + m)
ahead n None = None

-- n letters, and then what is found there
abbrev pub and_then : Option ℕ → (ℕ → Option ℕ) → Option ℕ
and_then (Some n) f = ahead n (f n)
and_then None f = None
