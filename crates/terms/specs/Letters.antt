-- Letters: what a 64-bit number says, apart from any signature. Assumes nothing.
use Rattle.std.specs.Prelude.{List, ◌++◌, codes, ◌≡◌, ℕ, ◌+◌, ◌-◌, ◌^◌, ◌<◌, cond, ◌&&◌, ◌↔◌, Some, None, Option, Result, nat_le, nat_lt}
use Rattle.std.specs.Fmt.{decimal}
use Rattle.std.specs.Option.{ok_or}
use Rattle.std.specs.Result.{result_ok}
use Rattle.terms.specs.declared.letter.Letter.{Letter}
use Rattle.terms.specs.declared.letter.NoLetter.{NoLetter}
use Rattle.terms.specs.declared.letter.Letter.TheVariants.{Cell, Symbol, Variable}

-- a number below 2^32 is a number cell, 2^32 + s the symbol s, s below 96, 2^33 + v the variable v, v below 8; no other number is a letter
abbrev pub letter_of : ℕ → Option Letter
letter_of x =
    cond (nat_lt x (2 ^ 32)) (Some (Cell x))
    (cond (nat_lt x (2 ^ 32 + 96)) (Some (Symbol (x - 2 ^ 32)))
    (cond (nat_le (2 ^ 33) x && nat_lt x (2 ^ 33 + 8)) (Some (Variable (x - 2 ^ 33))) None))

-- and back
abbrev pub number_of : Letter → ℕ
number_of (Cell n) = n
number_of (Symbol s) = 2 ^ 32 + s
number_of (Variable v) = 2 ^ 33 + v

-- the numbers that cells, symbols and variables go up to
abbrev pub InRange : Letter → Type 0
InRange (Cell n) = n < 2 ^ 32
InRange (Symbol s) = s < 96
InRange (Variable v) = v < 8

-- the answer is the letter that has this number, and none where there is no such letter
abbrev pub OnlyLetter : ℕ → Option Letter → Type 0
OnlyLetter x r = (l : Letter) → (r ≡ Some l) ↔ ((number_of l ≡ x) × InRange l)

-- a number was read: as the letter that has it, or as none, with the number told
pub record Reads (x : ℕ) (r : Result Letter NoLetter) : Type 0 where
  pub value : r ≡ ok_or (letter_of x) (record { number = x })
  pub only : OnlyLetter x (result_ok r)

-- how a number that is no letter is printed
abbrev pub no_letter_text : ℕ → List ℕ
no_letter_text x = decimal x ++ codes " is no letter"
