use Rattle.std.proofs.Common.{length, sym, ap, ◌∙◌}
use Rattle.std.specs.Prelude.{ok_or}
use Rattle.drafts.specs.declared.fault.RuleFault.TheVariants.{NoRoom}
use Rattle.drafts.specs.Drafts.{sides}
use Rattle.drafts.specs.Rules.{rule_refusal, with_rule}
use Rattle.drafts.specs.Stores.{seen}
use Rattle.drafts.proofs.Verdicts.{handed, done, not_done, refused}
use Rattle.drafts.proofs.Ruled.{room_left, add_new_rule}
use Rattle.drafts.proofs.draft.Draft.add_rule.Goals as goal

pub returns-in_err-rule_verdict : goal.returns-in_err-rule_verdict
returns-in_err-rule_verdict c =
    let a = c.args.self.now in
    let q = sides c.args.left.now c.args.right.now in
    not_done a (rule_refusal (seen a) q) (with_rule (seen a) q) (length (seen a).rules) _ _ (refused (rule_refusal (seen a) q) (tt {0}) _ c.in_err-rule_verdict.ensures) (handed _ _ c.from_residual.ensures.1)

pub lay-requires : goal.lay-requires
lay-requires c = room_left c.args.self.now c.args.left.now c.args.right.now c.in_ok-rule_verdict.ensures

pub invariant_of-self-2 : goal.invariant_of-self-2
invariant_of-self-2 c =
    let a = c.args.self.now in
    let q = add_new_rule a c.args.left.now c.args.right.now c.in_ok-rule_verdict.ensures c.lay.new.letters c.in_ok-span.span c.push.result c.push.new.self (sym c.in_ok-span.ensures.ok_part ∙ c.lay.ensures.span) c.lay.ensures.pool c.push.ensures in
    record { laid = q.laid; sound = q.sound; operations = a.operations }

pub returns : goal.returns
returns c =
    let a = c.args.self.now in
    let s = sides c.args.left.now c.args.right.now in
    let q = add_new_rule a c.args.left.now c.args.right.now c.in_ok-rule_verdict.ensures c.lay.new.letters c.in_ok-span.span c.push.result c.push.new.self (sym c.in_ok-span.ensures.ok_part ∙ c.lay.ensures.span) c.lay.ensures.pool c.push.ensures in
    done a _ (rule_refusal (seen a) s) (seen a) (with_rule (seen a) s) (length (seen a).rules) _ q.fine (c.ok_or-2.ensures.value ∙ ap (λ o. ok_or o NoRoom) q.number) q.after
