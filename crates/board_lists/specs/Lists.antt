-- What a run that lists boards writes.
use Rattle.std.specs.Prelude.{◌≡◌, ◌≤◌, true, List, Result, Ok, Err, ⊤}
use Rattle.board.specs.Shapes.{ShapeModel, cell_count}
use Rattle.board.specs.Boards.{BoardModel}
use Rattle.byte_streams.specs.Streams.{SinkState, Change}
use Rattle.byte_streams.specs.Sink.{WritesAll, PutsBeginning}
use Rattle.byte_streams.specs.declared.sink.WriteFailed.{WriteFailed}
use Rattle.board_lists.specs.Classes.{IsOfClass, AreBoardsWith, AreWholeClass}
use Rattle.board_lists.specs.Walks.{IsWalked}
use Rattle.board_lists.specs.Lines.{lines_text}
use Rattle.board_lists.specs.declared.choices.Choice.{Choice}
use Rattle.board_lists.specs.declared.choices.Choice.TheVariants.{Drawn, Walked, Whole}

-- the boards that are chosen: `count` of the goal's class; `count` that walks from the goal reach; or the whole class. No word is said of chance.
abbrev pub AreChosen : BoardModel → Choice → List BoardModel → Type 0
AreChosen goal (Drawn count seed) boards = AreBoardsWith (IsOfClass goal) count boards
AreChosen goal (Walked moves count seed) boards = AreBoardsWith (IsWalked goal moves) count boards
AreChosen goal Whole boards = AreWholeClass goal boards

-- a whole class is listed where there are at most 9 cells
abbrev pub MayBeListed : ShapeModel → Choice → Type 0
MayBeListed grid (Drawn count seed) = ⊤
MayBeListed grid (Walked moves count seed) = ⊤
MayBeListed grid Whole = cell_count grid ≤ 9

-- the lines of boards that are such a list were written
pub record WritesList (IsSuch : List BoardModel → Type 0) (sink : Change SinkState) : Type 0 where
  pub boards : List BoardModel
  pub such : IsSuch boards
  pub written : WritesAll sink (lines_text 1 boards)

-- a beginning of such lines was written, and the sink has failed
pub record BeginsList (IsSuch : List BoardModel → Type 0) (sink : Change SinkState) : Type 0 where
  pub boards : List BoardModel
  pub such : IsSuch boards
  pub begun : PutsBeginning sink (lines_text 1 boards)
  pub failed : sink.after.has_failed ≡ true

-- the one or the other, as the answer says
abbrev pub ListsBoards : (List BoardModel → Type 0) → Change SinkState → Result (Unit {0}) WriteFailed → Type 0
ListsBoards IsSuch sink (Ok done) = WritesList IsSuch sink
ListsBoards IsSuch sink (Err failure) = BeginsList IsSuch sink
