-- Limits on a meaning below: the cells from a lower to an upper one, in the order below. Assumes nothing.
use Rattle.std.specs.Prelude.{ℕ, Bool, cond, ◌&&◌, nat_eq}
use Rattle.numbers.specs.Meaning.{Meaning}

-- A lower cell unlawful below stands as the rest cell below.
abbrev pub lower_end : Meaning → ℕ → ℕ
lower_end m l = cond (m.lawful l) l m.rest

-- An upper cell unlawful below, or not at or above the lower end, stands as the lower end.
abbrev pub upper_end : Meaning → ℕ → ℕ → ℕ
upper_end m l u = cond (m.lawful u && m.atmost (lower_end m l) u) u (lower_end m l)

-- the cells from l to u
abbrev pub within : Meaning → ℕ → ℕ → ℕ → Bool
within m l u c = m.lawful c && m.atmost l c && m.atmost c u

-- a cell outside becomes the nearer end
abbrev pub held : Meaning → ℕ → ℕ → ℕ → ℕ
held m l u c = cond (m.atmost l c) (cond (m.atmost c u) c u) l

-- the meaning from l to u: the order below stays, results are held, rest is the lower end
abbrev pub between : Meaning → ℕ → ℕ → Meaning
between m l u = record {
  lawful = within m l u;
  plus = λ a b. held m l u (m.plus a b);
  minus = λ a b. held m l u (m.minus a b);
  atmost = m.atmost;
  rest = l;
}

-- Limits on m from any two cells.
abbrev pub limits : Meaning → ℕ → ℕ → Meaning
limits m l u = between m (lower_end m l) (upper_end m l u)

-- two cells that are ends as they stand
abbrev pub are_ends : Meaning → ℕ → ℕ → Bool
are_ends m l u = m.lawful l && m.lawful u && m.atmost l u

-- ends as they stand, with two cells from the one to the other
abbrev pub both_within : Meaning → ℕ → ℕ → ℕ → ℕ → Bool
both_within m l u a b = are_ends m l u && (within m l u a && within m l u b)

-- one cell alone
abbrev pub only : ℕ → Meaning
only l = record { lawful = λ c. nat_eq c l; plus = λ a b. l; minus = λ a b. l; atmost = nat_eq; rest = l }

-- What two stored cells mean. Those that limits are made with are ends; two that are none, which no call stores, leave the lower cell alone.
abbrev pub stored : Meaning → ℕ → ℕ → Meaning
stored m l u = cond (are_ends m l u) (between m l u) (only l)
