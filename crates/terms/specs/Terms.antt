-- Terms as trees. Assumes nothing.
use Rattle.std.specs.Prelude.{ℕ, suc}

infixr 40 ◌▸◌
-- What stands before the arguments of a constructor: a number cell, which has none, or a constructor's symbol.
pub data Head : Type 0 where
  cell : ℕ → Head
  symbol : ℕ → Head

-- A function: a built-in operation, or one that was declared.
pub data Fn : Type 0 where
  plus minus atmost : Fn
  own : ℕ → Fn

-- A term: a variable, a constructor over terms, or a function over terms.
mutual
  pub data Term : Type 0 where
    var : ℕ → Term
    con : Head → Terms → Term
    fun : Fn → Terms → Term

  pub data Terms : Type 0 where
    nil : Terms
    ◌▸◌ : Term → Terms → Terms

-- how many terms
abbrev pub count : Terms → ℕ
count nil = 0
count (t ▸ ts) = suc (count ts)

-- no variable
abbrev mutual
  pub Closed : Term → Type 0
  Closed (var v) = ⊥
  Closed (con c ts) = AllClosed ts
  Closed (fun f ts) = AllClosed ts

  pub AllClosed : Terms → Type 0
  AllClosed nil = Unit {0}
  AllClosed (t ▸ ts) = Closed t × AllClosed ts

-- a value: no variable and no function
abbrev mutual
  pub Value : Term → Type 0
  Value (var v) = ⊥
  Value (con c ts) = Values ts
  Value (fun f ts) = ⊥

  pub Values : Terms → Type 0
  Values nil = Unit {0}
  Values (t ▸ ts) = Value t × Values ts
