-- The panels that stand at the end are those of the sweep, and their last one adds up. Assumes nothing.
use Rattle.std.proofs.Common.{◌≡◌, length, take, arith}
use Rattle.std.proofs.lemmas.Grind.{common_steps}
use Rattle.meters.specs.Sweep.{swept}
use Rattle.meters.proofs.Sweeping.{adds_up}
use Rattle.meters.proofs.sweep.Goals as goal

pub returns-clause-adds_up : goal.returns-clause-adds_up
returns-clause-adds_up c = λ _ h k.
    let front : take (length c.args.pulses.now) c.loop-i.panels ≡ swept c.args.start c.args.pulses.now = grind (arith, common_steps) in
    rw front (adds_up c.args.pulses.now c.args.start h k)
