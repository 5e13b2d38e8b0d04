-- Signed tenths: a cell read in two's complement, -9,999 to 9,999. Assumes nothing.
use Rattle.std.specs.Prelude.{ℕ, ◌^◌, ◌&&◌, ℤ, pos, negsuc, ◌+ℤ◌, ◌-ℤ◌, int_le, nat_lt}
use Rattle.std.proofs.Common.{to_z, of_z}
use Rattle.std.specs.Int.{int_max, int_min, w32}
use Rattle.numbers.specs.Meaning.{Meaning}

-- the ends, -9,999 and 9,999
abbrev pub least : ℤ
least = negsuc 9998

-- the upper end
abbrev pub most : ℤ
most = pos 9999

-- the number that a cell holds in two's complement, and the cell that holds a number
abbrev pub reading : ℕ → ℤ
reading a = to_z w32 a

-- the cell that holds a number
abbrev pub cell_of : ℤ → ℕ
cell_of z = of_z w32 z

-- a number held to the ends
abbrev pub held : ℤ → ℤ
held z = int_max least (int_min z most)

-- what signed tenths mean
abbrev pub tenths : Meaning
tenths = record {
  lawful = λ a. nat_lt a (2 ^ 32) && int_le least (reading a) && int_le (reading a) most;
  plus = λ a b. cell_of (held (reading a +ℤ reading b));
  minus = λ a b. cell_of (held (reading a -ℤ reading b));
  atmost = λ a b. int_le (reading a) (reading b);
  rest = 0;
}
