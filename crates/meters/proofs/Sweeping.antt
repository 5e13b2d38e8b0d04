-- What one tick and a whole sweep come to. Assumes nothing.
use Rattle.std.proofs.Common.{◌≡◌, ℕ, ◌+◌, ◌%◌, ◌≤◌, min, List, [], ◌∷◌, ℤ, pos, ◌+ℤ◌, sum, sym, ap, ◌∙◌, arith}
use Rattle.std.specs.Int.{int_min}
use Rattle.std.proofs.lemmas.List.Sums.{sum_by-cons}
use Rattle.std.proofs.lemmas.Int.{ints, clamps, to_z-of_z}
use Rattle.std.proofs.lemmas.Bool.Decides.{nat_tests}
use Rattle.numbers.specs.Meaning.{Lawful, plus_answer}
use Rattle.numbers.specs.Pulses.{pulses}
use Rattle.numbers.specs.Ring.{ring}
use Rattle.numbers.specs.Tenths.{tenths, reading, most}
use Rattle.numbers.specs.Limits.{limits}
use Rattle.meters.specs.declared.Panel.{Panel}
use Rattle.meters.specs.Sweep.{ticked, swept, last_of, SoundPanel, AddsUp, Steady}

-- one tick of each meter: the sum in its kind, which is lawful again
count_step : (a n : ℕ) → Lawful pulses a → n ≤ 300 → (plus_answer pulses a n ≡ min (a + n) 999999) × Lawful pulses (plus_answer pulses a n)
count_step a n h k = (grind (arith, nat_tests), grind (arith, nat_tests))

trip_step : (a n : ℕ) → Lawful ring a → n ≤ 300 → (plus_answer ring a n ≡ (a + n) % 10000) × Lawful ring (plus_answer ring a n)
trip_step a n h k = (grind (arith, nat_tests), grind (arith, nat_tests))

gauge_step : (a n : ℕ) → Lawful (limits pulses 0 300) a → n ≤ 300
    → (plus_answer (limits pulses 0 300) a n ≡ min (a + n) 300) × Lawful (limits pulses 0 300) (plus_answer (limits pulses 0 300) a n)
gauge_step a n h k = (grind (arith, nat_tests), grind (arith, nat_tests))

temperature_step : (a n : ℕ) → Lawful tenths a → n ≤ 300
    → (reading (plus_answer tenths a n) ≡ int_min (reading a +ℤ pos n) most) × Lawful tenths (plus_answer tenths a n)
temperature_step a n h k = (grind (arith, ints, to_z-of_z), grind (arith, ints, to_z-of_z))

-- the sums of two ticks are the sum of both
min_more : (a n s top : ℕ) → min (min (a + n) top + s) top ≡ min (a + (n + s)) top
min_more a n s top = grind arith

round_more : (a n s : ℕ) → ((a + n) % 10000 + s) % 10000 ≡ (a + (n + s)) % 10000
round_more a n s = grind arith

held_more : (z : ℤ) (n s : ℕ) → int_min (int_min (z +ℤ pos n) most +ℤ pos s) most ≡ int_min (z +ℤ pos (n + s)) most
held_more z n s = omega (arith, ints, clamps)

pub adds_up : (ns : List ℕ) (p : Panel) → SoundPanel p → Steady ns → AddsUp p ns (last_of p (swept p ns))
adds_up [] p h k = record {
  count = let e = h.count in grind (arith, nat_tests);
  trip = let e = h.trip in grind (arith, nat_tests);
  temperature = let e = h.temperature in grind (arith, ints);
  gauge = let e = h.gauge in grind (arith, nat_tests);
}
adds_up (n ∷ ns) p h k =
    let c = count_step p.count.cell n h.count k.0 in
    let t = trip_step p.trip.cell n h.trip k.0 in
    let d = temperature_step p.temperature.cell n h.temperature k.0 in
    let g = gauge_step p.gauge.cell n h.gauge k.0 in
    let ih = adds_up ns (ticked p n) (record { count = c.1; trip = t.1; temperature = d.1; gauge = g.1 }) k.1 in
    let e : sum (n ∷ ns) ≡ n + sum ns = sum_by-cons (λ x. x) n ns in
    record {
      count = ih.count ∙ ap (λ x. min (x + sum ns) 999999) c.0 ∙ min_more p.count.cell n (sum ns) 999999 ∙ ap (λ x. min (p.count.cell + x) 999999) (sym e);
      trip = ih.trip ∙ ap (λ x. (x + sum ns) % 10000) t.0 ∙ round_more p.trip.cell n (sum ns) ∙ ap (λ x. (p.trip.cell + x) % 10000) (sym e);
      temperature =
          ih.temperature ∙ ap (λ x. int_min (x +ℤ pos (sum ns)) most) d.0 ∙ held_more (reading p.temperature.cell) n (sum ns) ∙ ap (λ x. int_min (reading p.temperature.cell +ℤ pos x) most) (sym e);
      gauge = ih.gauge ∙ ap (λ x. min (x + sum ns) 300) g.0 ∙ min_more p.gauge.cell n (sum ns) 300 ∙ ap (λ x. min (p.gauge.cell + x) 300) (sym e);
    }
