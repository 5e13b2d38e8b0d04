use Rattle.std.proofs.Common.{rules}
use Rattle.drafts.specs.Stores.{seen}
use Rattle.drafts.proofs.Lists.{functions_counted}
use Rattle.drafts.proofs.draft.Draft.function_count.Goals as goal

pub returns : goal.returns
returns c = rw (functions_counted (seen c.args.self.now).promised) (search rules)
