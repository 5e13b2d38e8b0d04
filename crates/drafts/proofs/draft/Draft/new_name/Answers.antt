use Rattle.std.proofs.Common.{not, None, Ok, Err, option_map, sym, ap, ◌∙◌, arith}
use Rattle.terms.specs.Names.{well_formed}
use Rattle.terms.specs.Views.{bytes_of}
use Rattle.drafts.specs.declared.fault.ContentFault.TheVariants.{RuleStands, MalformedName, NameTaken}
use Rattle.drafts.specs.Contents.{some_rule, is_taken}
use Rattle.drafts.specs.Stores.{seen, named}
use Rattle.words.proofs.Sorts.{refused_none}
use Rattle.drafts.proofs.Verdicts.{handed, refuse, pass}
use Rattle.drafts.proofs.Stores.{some_long, none_long, ill_formed, formed}
use Rattle.drafts.proofs.draft.Draft.new_name.Goals as goal

pub returns-then-rule_count-gt0 : goal.returns-then-rule_count-gt0
returns-then-rule_count-gt0 c =
    let n = c.args.name.now in
    refuse (some_rule (seen c.args.self.now).rules) RuleStands _ n (some_long (seen c.args.self.now).rules (omega (arith, c.if-rule_count-gt0.true, c.rule_count.ensures.value)))

pub returns-in_err-well_formed : goal.returns-in_err-well_formed
returns-in_err-well_formed c =
    let d = c.args.self.now in
    let n = c.args.name.now in
    let r = refused_none _ _ _ c.in_err-well_formed.ensures.value in
    ap named (handed _ _ c.from_residual.ensures.1 ∙ ap Err r.1)
    ∙ refuse (not (well_formed n)) MalformedName _ n (ap not (ill_formed n (sym (ap (option_map bytes_of) r.0) ∙ c.new.ensures)))
    ∙ pass (some_rule (seen d).rules) RuleStands _ n (none_long (seen d).rules (omega (arith, c.if-rule_count-gt0.false, c.rule_count.ensures.value)))

pub returns-then-is_taken : goal.returns-then-is_taken
returns-then-is_taken c =
    let d = c.args.self.now in
    let n = c.args.name.now in
    refuse (is_taken (seen d).signature n) NameTaken _ n (sym c.if-is_taken.ensures)
    ∙ pass (not (well_formed n)) MalformedName _ n (ap not (formed n _ (sym (ap (option_map bytes_of) c.in_ok-well_formed.ensures.ok_part) ∙ c.new.ensures)).0)
    ∙ pass (some_rule (seen d).rules) RuleStands _ n (none_long (seen d).rules (omega (arith, c.if-rule_count-gt0.false, c.rule_count.ensures.value)))

pub returns : goal.returns
returns c =
    let d = c.args.self.now in
    let n = c.args.name.now in
    let f = formed n _ (sym (ap (option_map bytes_of) c.in_ok-well_formed.ensures.ok_part) ∙ c.new.ensures) in
    ap Ok f.1
    ∙ pass (is_taken (seen d).signature n) NameTaken None n (sym c.if-is_taken.ensures)
    ∙ pass (not (well_formed n)) MalformedName _ n (ap not f.0)
    ∙ pass (some_rule (seen d).rules) RuleStands _ n (none_long (seen d).rules (omega (arith, c.if-rule_count-gt0.false, c.rule_count.ensures.value)))
