use Rattle.drafts.proofs.Sound.{sound_rules, book_rules}
use Rattle.drafts.proofs.draft.Draft.rule_count.Goals as goal

pub returns-clause-sound : goal.returns-clause-sound
returns-clause-sound c = sound_rules c.args.self.now

pub returns-clause-book : goal.returns-clause-book
returns-clause-book c = book_rules c.args.self.now
