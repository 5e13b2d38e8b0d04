-- The signed result is passed by its bits and comes back from them. Assumes nothing.
use Rattle.std.proofs.Common.{arith}
use Rattle.std.proofs.lemmas.Int.{to_z-of_z}
use Rattle.numbers.proofs.tenths.SignedTenthsNumberKind.plus.Goals as goal

pub returns-then-lawful-2 : goal.returns-then-lawful-2
returns-then-lawful-2 c = grind (arith, to_z-of_z)
