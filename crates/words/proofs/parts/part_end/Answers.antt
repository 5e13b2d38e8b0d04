use Rattle.terms.specs.Views.{view}
use Rattle.words.proofs.Ends.{front_of}
use Rattle.words.proofs.parts.part_end.Goals as goal

pub returns-clause-front : goal.returns-clause-front
returns-clause-front c = front_of (view c.args.signature.now) c.args.word.now c.row_end.result c.row_end.ensures.value
