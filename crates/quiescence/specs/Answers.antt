-- What the calls of a book say beside what those of a world's book do.
use Rattle.std.specs.Prelude.{ℕ, ◌==◌, if◌then◌else◌}
use Rattle.world_model.specs.Books.{BookState}
use Rattle.world_model.specs.BookCalls.{Account}
use Rattle.quiescence.specs.declared.book.Rested.{Rested}
use Rattle.quiescence.specs.declared.book.Rested.TheVariants.{Waits, Quiet}

-- a book, and the purse of the worker that calls
abbrev pub account : BookState → ℕ → Account
account book purse = record { book = book; purse = purse }

-- the answer to a worker that rests: the run is quiet where no credit is left, and else others go on
abbrev pub rested : BookState → Rested
rested book = if book.credit == 0 then Quiet else Waits
