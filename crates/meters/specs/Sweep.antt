-- A sweep of a pulse generator over four meters. Assumes nothing.
use Rattle.std.specs.Prelude.{◌≡◌, ℕ, ◌+◌, ◌%◌, ◌≤◌, min, Bool, true, false, cond, ◌||◌, List, [], ◌∷◌, ◌++◌, length, drop, pos, negsuc, ◌+ℤ◌, sum, count_by, ◌==◌, nat_le}
use Rattle.std.specs.Int.{int_min}
use Rattle.std.specs.List.{AllByRecursion}
use Rattle.numbers.specs.Meaning.{Meaning, Lawful, plus_answer, minus_answer, atmost_answer}
use Rattle.numbers.specs.Pulses.{pulses}
use Rattle.numbers.specs.Ring.{ring}
use Rattle.numbers.specs.Tenths.{tenths, cell_of, reading, most}
use Rattle.numbers.specs.Limits.{limits}
use Rattle.meters.specs.declared.Mark.{Mark}
use Rattle.meters.specs.declared.Mark.TheVariants.{Free, Held, Wrapped}
use Rattle.meters.specs.declared.Reading.{Reading}
use Rattle.meters.specs.declared.Panel.{Panel}
use Rattle.meters.specs.declared.Totals.{Totals}

-- held where taking the pulses away does not lead back, wrapped where it reads less than before
abbrev pub mark_of : Meaning → ℕ → ℕ → ℕ → Mark
mark_of m before n after =
    cond (minus_answer m after n == before) (cond (atmost_answer m before after) Free Wrapped) Held

-- a meter after n pulses
abbrev pub fed : Meaning → ℕ → ℕ → Reading
fed m before n = record { cell = plus_answer m before n; mark = mark_of m before n (plus_answer m before n) }

-- a reading to which nothing happened
abbrev pub free : ℕ → Reading
free c = record { cell = c; mark = Free }

-- 999,700 pulses, trip 9,800, -20.0 degrees, gauge 0
abbrev pub standstill : Panel
standstill = record { count = free 999700; trip = free 9800; temperature = free (cell_of (negsuc 199)); gauge = free 0 }

-- each meter is fed by its own kind; the gauge has its red line at 300
abbrev pub ticked : Panel → ℕ → Panel
ticked p n = record {
  count = fed pulses p.count.cell n;
  trip = fed ring p.trip.cell n;
  temperature = fed tenths p.temperature.cell n;
  gauge = fed (limits pulses 0 300) p.gauge.cell n;
}

-- the panel after each tick
abbrev pub swept : Panel → List ℕ → List Panel
swept p [] = []
swept p (n ∷ ns) = ticked p n ∷ swept (ticked p n) ns

-- a buffer after a sweep: the panels, then what stood there; a buffer that is too short stays
abbrev pub filled : Panel → List ℕ → List Panel → List Panel
filled p ns ps = cond (nat_le (length ns) (length ps)) (swept p ns ++ drop (length ns) ps) ps

-- the panel at the end
abbrev pub last_of : Panel → List Panel → Panel
last_of p [] = p
last_of p (q ∷ qs) = last_of q qs

-- A panel whose meters hold lawful cells.
pub record SoundPanel (p : Panel) : Type 0 where
  pub count : Lawful pulses p.count.cell
  pub trip : Lawful ring p.trip.cell
  pub temperature : Lawful tenths p.temperature.cell
  pub gauge : Lawful (limits pulses 0 300) p.gauge.cell

-- What a whole sweep comes to, however the pulses were spread over the ticks: each meter has the sum of all pulses added at once.
pub record AddsUp (p : Panel) (ns : List ℕ) (q : Panel) : Type 0 where
  pub count : q.count.cell ≡ min (p.count.cell + sum ns) 999999
  pub trip : q.trip.cell ≡ (p.trip.cell + sum ns) % 10000
  pub temperature : reading q.temperature.cell ≡ int_min (reading p.temperature.cell +ℤ pos (sum ns)) most
  pub gauge : q.gauge.cell ≡ min (p.gauge.cell + sum ns) 300

-- No tick has more pulses than the gauge can show.
abbrev pub Steady : List ℕ → Type 0
Steady ns = AllByRecursion (λ n. n ≤ 300) ns

-- whether two marks are the same
abbrev pub same_mark : Mark → Mark → Bool
same_mark Free Free = true
same_mark Free Held = false
same_mark Free Wrapped = false
same_mark Held Free = false
same_mark Held Held = true
same_mark Held Wrapped = false
same_mark Wrapped Free = false
same_mark Wrapped Held = false
same_mark Wrapped Wrapped = true

-- whether some meter has the mark
abbrev pub shows : Mark → Panel → Bool
shows m p = same_mark p.count.mark m || same_mark p.trip.mark m || same_mark p.temperature.mark m || same_mark p.gauge.mark m

-- the ticks, the pulses, and the ticks in which some meter was held or wrapped
abbrev pub totals_of : List ℕ → List Panel → Totals
totals_of ns ps = record { ticks = length ps; pulses = sum ns; held = count_by (shows Held) ps; wrapped = count_by (shows Wrapped) ps }
