use Rattle.std.proofs.Common.{Some, sym, ap, ◌∙◌, arith, option_map}
use Rattle.drafts.specs.Drafts.{Sides}
use Rattle.terms.proofs.Tables.{items_fit}
use Rattle.drafts.proofs.Stores.{rule_at, span_within}
use Rattle.drafts.proofs.draft.Draft.right.Goals as goal

pub overflow_add-span : goal.overflow_add-span
overflow_add-span c =
    let n = items_fit c.args.self.now.letters in
    let h = span_within c.args.self.now c.args.rule c.in_ok-span.span (sym c.in_ok-span.was ∙ c.span.ensures) in
    omega arith

pub part-requires : goal.part-requires
part-requires c =
    let h = span_within c.args.self.now c.args.rule c.in_ok-span.span (sym c.in_ok-span.was ∙ c.span.ensures) in
    omega arith

pub returns : goal.returns
returns c = ap Some c.part.ensures ∙ sym (ap (option_map (λ (q : Sides). q.right)) (rule_at c.args.self.now c.args.rule c.in_ok-span.span (sym c.in_ok-span.was ∙ c.span.ensures)))
