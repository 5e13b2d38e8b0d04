use Rattle.std.proofs.Common.{rules}
use Rattle.drafts.specs.Stores.{seen}
use Rattle.drafts.proofs.Lists.{total_sum}
use Rattle.drafts.proofs.draft.Draft.promised_rules.Goals as goal

pub returns : goal.returns
returns c = rw (total_sum (seen c.args.self.now).promised) (search rules)
