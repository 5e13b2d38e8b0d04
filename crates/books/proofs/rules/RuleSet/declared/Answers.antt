use Rattle.books.proofs.Tested.{set_tells}
use Rattle.books.proofs.rules.RuleSet.declared.Goals as goal

pub returns-clause-sound : goal.returns-clause-sound
returns-clause-sound c = let s = c.args.self.now in set_tells s.draft s.trees s.sound
