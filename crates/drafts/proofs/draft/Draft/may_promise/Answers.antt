use Rattle.std.proofs.Common.{arith}
use Rattle.std.proofs.lemmas.Bool.{and_parts}
use Rattle.drafts.specs.Soundness.{contents_sound}
use Rattle.drafts.specs.Stores.{seen}
use Rattle.drafts.proofs.Kept.{parts_of}
use Rattle.drafts.proofs.draft.Draft.may_promise.Goals as goal

pub overflow_sub-promised_rules : goal.overflow_sub-promised_rules
overflow_sub-promised_rules c =
    let D = seen c.args.self.now in
    let p = parts_of D.signature D.promised (and_parts (contents_sound D.signature D.promised) _ c.args.self.now.sound).0 in
    let few = p.few in
    let e = c.promised_rules.ensures in
    omega arith
