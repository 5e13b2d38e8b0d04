-- Pulse counts: cells 0 to 999,999; plus stops at 999,999 and minus at 0. Assumes nothing.
use Rattle.std.specs.Prelude.{◌+◌, ◌-◌, min, nat_le}
use Rattle.numbers.specs.Meaning.{Meaning}

-- what pulse counts mean
abbrev pub pulses : Meaning
pulses = record {
  lawful = λ a. nat_le a 999999;
  plus = λ a b. min (a + b) 999999;
  minus = λ a b. a - b;
  atmost = nat_le;
  rest = 0;
}
