use Rattle.thread_runs.proofs.WorldLemmas.{books_say, grants_spent}
use Rattle.thread_runs.proofs.joined_laws.findings_are_of_their_books.Goals as goal

pub returns : goal.returns
returns g c = record { found = books_say g.A.Reading.gives g.S.Spread.owner_of; spent = grants_spent g.A.Reading.gives g.S.Spread.owner_of }
