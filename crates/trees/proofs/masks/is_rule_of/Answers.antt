use Rattle.std.proofs.Common.{◌≡◌, ◌∙◌, ℕ, List, arith, option_map}
use Rattle.std.proofs.lemmas.Grind.{common_steps}
use denote.Ref.{Bor}
use Rattle.terms.specs.Options.{passes}
use Rattle.drafts.specs.Rules.{starts_with}
use Rattle.trees.proofs.Chosen.{starts_at}
use Rattle.trees.proofs.masks.is_rule_of.Goals as goal

pub returns : goal.returns
returns c =
    let e : c.is_some_and.result ≡ passes (starts_with c.args.function) (option_map (λ (p : Bor (List ℕ)). p.now) c.left.result) = grind (arith, common_steps) in
    e ∙ starts_at c.args.draft.now c.args.rule c.args.function _ c.left.ensures
