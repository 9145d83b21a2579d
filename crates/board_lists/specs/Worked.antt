-- A worked row: the lines of two boards. It is the contract of a function that does nothing.
use Rattle.std.specs.Prelude.{◌≡◌, true, ℕ, List, [], ◌∷◌, codes, Ok, Err}
use Rattle.board.specs.Boards.{BoardModel}
use Rattle.byte_streams.specs.Streams.{SinkState, Change}
use Rattle.byte_streams.specs.Sink.{WritesAll, PutsBeginning}
use Rattle.byte_streams.specs.declared.sink.WriteFailed.{WriteFailed}
use Rattle.board_lists.specs.Lists.{ListsBoards}

abbrev pub of_3_by_4 : List ℕ → BoardModel
of_3_by_4 tiles = record { grid = record { rows = 3; cols = 4 }; tiles = tiles }

abbrev pub two_boards : List BoardModel
two_boards = of_3_by_4 (4 ∷ 1 ∷ 2 ∷ 3 ∷ 0 ∷ 5 ∷ 6 ∷ 7 ∷ 8 ∷ 9 ∷ 10 ∷ 11 ∷ []) ∷ of_3_by_4 (1 ∷ 0 ∷ 2 ∷ 3 ∷ 4 ∷ 5 ∷ 6 ∷ 7 ∷ 8 ∷ 9 ∷ 10 ∷ 11 ∷ []) ∷ []

abbrev pub two_lines : List ℕ
two_lines = codes "b1 4 1 2 3 0 5 6 7 8 9 10 11\nb2 1 0 2 3 4 5 6 7 8 9 10 11\n"

-- where these two are listed, these lines are written; where that fails, a beginning of them
abbrev pub TwoAreListed : Type 0
TwoAreListed =
    (sink : Change SinkState)
    → ((done : Unit {0}) → ListsBoards (λ boards. boards ≡ two_boards) sink (Ok done) → WritesAll sink two_lines)
    × ((failure : WriteFailed) → ListsBoards (λ boards. boards ≡ two_boards) sink (Err failure) → PutsBeginning sink two_lines × (sink.after.has_failed ≡ true))
