use Rattle.std.proofs.Common.{◌≡◌, true, false, eqb, Option, ℕ, Bool, ◌∙◌, rules}
use Rattle.std.proofs.lemmas.Iterator.{cases_from_any, YieldsList-from_slice}
use Rattle.terms.specs.Terms.{symbol}
use Rattle.terms.specs.Options.{passes}
use Rattle.terms.specs.Sorting.{head_sort}
use Rattle.terms.specs.Views.{view}
use Rattle.trees.proofs.Chains.{any_told}
use Rattle.trees.proofs.Scanned.{any_makes}
use Rattle.trees.proofs.heads.makes.Goals as goal

pub returns : goal.returns
returns c =
    let S = view c.args.signature.now in
    let hs = c.args.heads.now in
    let t : Option ℕ → Bool = λ h. passes (λ s. eqb (head_sort S (symbol s)) c.args.sort) h in
    any_told t hs c.any.result (cases_from_any _ _ _ (λ h. t h ≡ true) (λ h. t h ≡ false) c.any.ensures.ran (YieldsList-from_slice hs (cc)) (λ x q k. search rules) (λ x q k. search rules))
    ∙ any_makes S c.args.sort hs
