-- The panels so far, those still to come from the panel that stands, and what follows in the buffer. Assumes nothing.
use Rattle.std.proofs.Common.{◌≡◌, ◌++◌, length, take, drop}
use Rattle.meters.specs.Sweep.{swept}
use Rattle.meters.proofs.sweep.Given as goal

abbrev pub invariant-loop-i : goal.invariant-loop-i
invariant-loop-i l =
    (take l.i l.panels ++ swept l.panel (drop l.i l.pulses) ≡ swept l.initial.panel l.pulses)
    × (drop (length l.pulses) l.panels ≡ drop (length l.pulses) l.initial.panels)
