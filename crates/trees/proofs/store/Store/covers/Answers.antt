use Rattle.std.proofs.Common.{◌≡◌, ℕ, Bool, true, false, refl, ap, ◌∙◌, arith, rules}
use Rattle.std.specs.List.{slice_get, list_all, range_with_len}
use Rattle.std.proofs.lemmas.Iterator.{serves_from_Range, cases_from_all, YieldsList-from_range}
use Rattle.trees.proofs.Chains.{all_told}
use Rattle.terms.specs.Options.{passes}
use Rattle.terms.specs.Views.{view}
use Rattle.rewriting.specs.Completeness.{is_met as meets}
use Rattle.trees.specs.Rows.{there}
use Rattle.trees.proofs.Scanned.{covers_listed}
use Rattle.trees.proofs.store.Store.covers.Goals as goal

pub all-requires-clause-callable : goal.all-requires-clause-callable
all-requires-clause-callable c =
    let few = c.symbol_count.ensures.within in
    serves_from_Range (λ x q k. search rules) (λ x lo hi. search rules)

pub returns : goal.returns
returns c =
    let S = view c.args.signature.now in
    let cs = there c.args.heads.now in
    let t : ℕ → Bool = λ i. passes (meets S cs i) (slice_get S.symbols i) in
    let n = c.symbol_count.result in
    all_told t (range_with_len 0 n) c.all.result (cases_from_all _ _ _ (λ i. t i ≡ true) (λ i. t i ≡ false) c.all.ensures.ran (YieldsList-from_range 0 n n refl (omega arith)) (λ x q k. search rules) (λ x q k. search rules))
    ∙ ap (λ (k : ℕ). list_all t (range_with_len 0 k)) c.symbol_count.ensures.value
    ∙ covers_listed S cs
