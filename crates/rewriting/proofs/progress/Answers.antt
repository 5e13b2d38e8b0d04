-- Progress: the lemma gives two things at once, so it is named here and not in the attribute. Assumes nothing.
use Rattle.rewriting.proofs.Progressing.{progress}
use Rattle.rewriting.proofs.progress.Goals as goal

pub returns : goal.returns
returns c = progress
