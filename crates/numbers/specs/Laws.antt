-- That each plain kind obeys the law. Assumes nothing.
use Rattle.std.proofs.Common.{rules}
use Rattle.numbers.specs.Meaning.{Sound}
use Rattle.numbers.specs.Pulses.{pulses}
use Rattle.numbers.specs.Ring.{ring}
use Rattle.numbers.specs.Tenths.{tenths}

-- pulse counts obey the law
pub pulses_sound : Sound pulses
pulses_sound = search rules

-- and so the trip ring
pub ring_sound : Sound ring
ring_sound = search rules

-- and so signed tenths
pub tenths_sound : Sound tenths
tenths_sound = search rules
