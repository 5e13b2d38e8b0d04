use Rattle.books.proofs.Exact.{accepted_complete}
use Rattle.books.proofs.Tested.{set_tells, book_tells}
use Rattle.books.proofs.book.Book.declared.Goals as goal

pub returns-clause-sound : goal.returns-clause-sound
returns-clause-sound c =
    let s = c.args.self.now.rules in
    record { set = set_tells s.draft s.trees s.sound; complete = (accepted_complete s.draft (book_tells s.draft c.args.self.now.accepted)).1 }
