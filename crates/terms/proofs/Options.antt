-- What answers that may be missing give, seen from other places in a word.
use Rattle.std.proofs.Common.{◌≡◌, ℕ, ◌+◌, Some, None, Option, sym, refl, ap, add_assoc, zero-add, arith}
use Rattle.terms.specs.Options.{onward, more, ahead}
use Rattle.terms.proofs.Letters.{zero_one}

pub ahead_zero : (o : Option ℕ) → ahead 0 o ≡ o
ahead_zero (Some n) = ap Some (zero-add n)
ahead_zero None = refl

pub ahead_ahead : (m n : ℕ) (o : Option ℕ) → ahead m (ahead n o) ≡ ahead (m + n) o
ahead_ahead m n (Some k) = ap Some (sym (add_assoc m n k))
ahead_ahead m n None = refl

pub more_ahead : (n : ℕ) (o : Option ℕ) → more (ahead n o) ≡ ahead (n + 1) o
more_ahead n (Some k) = ap Some (omega arith)
more_ahead n None = refl

pub more_some : (o : Option ℕ) (n : ℕ) → more o ≡ Some n → (m : ℕ) × (o ≡ Some m) × (n ≡ m + 1)
more_some (Some m) n h = (m, refl, cc)
more_some None n h = absurd (zero_one (cc))

pub more_none : (o : Option ℕ) → more o ≡ None → o ≡ None
more_none None h = refl
more_none (Some n) h = absurd (zero_one (cc))

pub onward_some : {A : Type 0} (o : Option A) (f : A → Option ℕ) (n : ℕ) → onward o f ≡ Some n → (a : A) × (o ≡ Some a) × (f a ≡ Some n)
onward_some None f n h = absurd (zero_one (cc))
onward_some (Some a) f n h = (a, refl, h)
