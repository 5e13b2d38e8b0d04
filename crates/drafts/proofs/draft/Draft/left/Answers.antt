use Rattle.std.proofs.Common.{Some, sym, ap, ◌∙◌, arith, option_map}
use Rattle.drafts.specs.Drafts.{Sides}
use Rattle.drafts.proofs.Stores.{rule_at, span_within}
use Rattle.drafts.proofs.draft.Draft.left.Goals as goal

pub part-requires : goal.part-requires
part-requires c =
    let h = span_within c.args.self.now c.args.rule c.in_ok-span.span (sym c.in_ok-span.was ∙ c.span.ensures) in
    omega arith

pub returns : goal.returns
returns c = ap Some c.part.ensures ∙ sym (ap (option_map (λ (q : Sides). q.left)) (rule_at c.args.self.now c.args.rule c.in_ok-span.span (sym c.in_ok-span.was ∙ c.span.ensures)))
