-- What a number kind means, the law that every meaning obeys, and what a kind answers. Assumes nothing.
use Rattle.std.specs.Prelude.{◌≡◌, ℕ, ◌^◌, ◌<◌, Bool, true, cond, ◌&&◌, ◌⊎◌}

-- A set of lawful cells, two operations and an order on them, and a rest cell.
pub record Meaning : Type 0 where
  pub lawful : ℕ → Bool
  pub plus : ℕ → ℕ → ℕ
  pub minus : ℕ → ℕ → ℕ
  pub atmost : ℕ → ℕ → Bool
  pub rest : ℕ

-- a cell of the set
abbrev pub Lawful : Meaning → ℕ → Type 0
Lawful m a = m.lawful a ≡ true

-- the first cell is at most the second in the order
abbrev pub Atmost : Meaning → ℕ → ℕ → Type 0
Atmost m a b = m.atmost a b ≡ true

-- The law: lawful cells have 32 bits, operations and rest stay among them, and the order on them is total.
pub record Sound (m : Meaning) : Type 0 where
  pub cells : (a : ℕ) → Lawful m a → a < 2 ^ 32
  pub rest_lawful : Lawful m m.rest
  pub plus_lawful : (a b : ℕ) → Lawful m a → Lawful m b → Lawful m (m.plus a b)
  pub minus_lawful : (a b : ℕ) → Lawful m a → Lawful m b → Lawful m (m.minus a b)
  pub comparable : (a b : ℕ) → Lawful m a → Lawful m b → Atmost m a b ⊎ Atmost m b a
  pub transitive : (a b c : ℕ) → Lawful m a → Lawful m b → Lawful m c → Atmost m a b → Atmost m b c → Atmost m a c
  pub antisymmetric : (a b : ℕ) → Lawful m a → Lawful m b → Atmost m a b → Atmost m b a → a ≡ b

-- The five answers, for every cell: is it lawful?
abbrev pub lawful_answer : Meaning → ℕ → Bool
lawful_answer m a = m.lawful a

-- the result, or the rest cell if an argument is unlawful
abbrev pub plus_answer : Meaning → ℕ → ℕ → ℕ
plus_answer m a b = cond (m.lawful a && m.lawful b) (m.plus a b) m.rest

-- the difference, or the rest cell if an argument is unlawful
abbrev pub minus_answer : Meaning → ℕ → ℕ → ℕ
minus_answer m a b = cond (m.lawful a && m.lawful b) (m.minus a b) m.rest

-- yes exactly when both cells are lawful and the first is at most the second
abbrev pub atmost_answer : Meaning → ℕ → ℕ → Bool
atmost_answer m a b = m.lawful a && m.lawful b && m.atmost a b

-- the rest cell
abbrev pub rest_answer : Meaning → ℕ
rest_answer m = m.rest
