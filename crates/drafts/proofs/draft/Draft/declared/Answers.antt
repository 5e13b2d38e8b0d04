use Rattle.drafts.proofs.Sound.{sound_contents, counted_contents}
use Rattle.drafts.proofs.draft.Draft.declared.Goals as goal

pub returns-clause-sound : goal.returns-clause-sound
returns-clause-sound c = sound_contents c.args.self.now

pub returns-clause-counted : goal.returns-clause-counted
returns-clause-counted c = counted_contents c.args.self.now
