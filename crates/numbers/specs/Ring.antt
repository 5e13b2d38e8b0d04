-- Trip ring: cells 0 to 9,999; plus and minus are taken modulo 10,000. Assumes nothing.
use Rattle.std.specs.Prelude.{◌+◌, ◌-◌, ◌%◌, nat_le}
use Rattle.numbers.specs.Meaning.{Meaning}

-- what cells of the trip ring mean
abbrev pub ring : Meaning
ring = record {
  lawful = λ a. nat_le a 9999;
  plus = λ a b. (a + b) % 10000;
  minus = λ a b. (a + (10000 - b)) % 10000;
  atmost = nat_le;
  rest = 0;
}
