-- Steps keep sorts: the lemma gives three things at once, so it is named here and not in the attribute. Assumes nothing.
use Rattle.rewriting.proofs.Sorts.{steps_keep_sorts}
use Rattle.rewriting.proofs.steps_keep_sorts.Goals as goal

pub returns : goal.returns
returns c = steps_keep_sorts
