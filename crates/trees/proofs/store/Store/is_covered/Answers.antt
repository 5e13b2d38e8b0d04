use Rattle.std.proofs.Common.{ℕ, is_some, sym, ap, ◌∙◌}
use Rattle.std.specs.List.{slice_get}
use Rattle.terms.specs.Views.{view}
use Rattle.rewriting.specs.Completeness.{makes}
use Rattle.trees.specs.Rows.{there}
use Rattle.trees.proofs.Scanned.{among_there, covered_met}
use Rattle.trees.proofs.store.Store.is_covered.Goals as goal

pub returns-else-not-makes : goal.returns-else-not-makes
returns-else-not-makes c =
    let S = view c.args.signature.now in
    let cs = there c.args.heads.now in
    let s = c.args.symbol in
    c.is_some.ensures
    ∙ ap is_some c.seek.ensures
    ∙ c.requires s
    ∙ sym (among_there s c.args.heads.now)
    ∙ sym (covered_met S cs s (slice_get S.symbols s) (let e = c.in-Some-Constructor.ensures in cc) (ap (λ (k : ℕ). makes S k cs) (sym c.sort_of.ensures) ∙ sym c.if-not-makes.ensures))
