use Rattle.std.proofs.Common.{◌+◌, ◌-◌, length, get_or, drop, sym, ap, ◌∙◌, arith}
use Rattle.std.specs.List.{slice_get}
use Rattle.drafts.specs.Drafts.{in_turn}
use Rattle.drafts.specs.Stores.{seen}
use Rattle.drafts.proofs.Turns.{turn_here, turn_more}
use Rattle.drafts.proofs.draft.Draft.awaited.Goals as goal

pub returns-then-before-promised : goal.returns-then-before-promised
returns-then-before-promised c =
    let ps = (seen c.args.self.now).promised in
    let i = c.loop-i.i in
    let e = c.promises-rules-items.ensures.value in
    let l = ap length e in
    let at = ap (λ w. get_or w i 0) e in
    sym (turn_here ps i c.loop-i.before (omega arith) (omega arith)) ∙ c.loop-i.invariant

pub loop-i-preserved : goal.loop-i-preserved
loop-i-preserved c =
    let ps = (seen c.args.self.now).promised in
    let i = c.loop-i.i in
    let e = c.promises-rules-items.ensures.value in
    let l = ap length e in
    let at = ap (λ w. get_or w i 0) e in
    ap (λ p. slice_get (in_turn (i + 1) (drop (i + 1) ps)) (c.loop-i.before - p)) (c.from-promised.ensures ∙ at)
    ∙ sym (turn_more ps i c.loop-i.before (omega arith) (omega arith))
    ∙ c.loop-i.invariant
