-- The laws of the definitions. Each is the contract of a function that does nothing.
use Rattle.std.specs.Prelude.{ℕ, ◌≡◌, ◌≢◌, ◌<◌, ◌↔◌, ◌^◌, List, ◌∷◌, ◌++◌, None, length, All, AllPairs, Contains}
use Rattle.board.specs.declared.moves.Move.{Move}
use Rattle.board.specs.Neighbours.{opposite}
use Rattle.board.specs.Boards.{BoardModel, IsBoard}
use Rattle.board.specs.Keys.{key_of}
use Rattle.batch_lines.specs.Words.{IsEntry}
use Rattle.board_lists.specs.Classes.{IsOfClass}
use Rattle.board_lists.specs.Walks.{IsWalkedTo, TakesNoneBack}
use Rattle.board_lists.specs.Lines.{id_text, entry_text}
use Rattle.board_lists.specs.Lists.{AreChosen}
use Rattle.board_lists.specs.declared.choices.Choice.TheVariants.{Drawn, Walked, Whole}

-- the line of a board is read as this id and this board
abbrev pub LinesNameBoards : Type 0
LinesNameBoards = (n : ℕ) (b : BoardModel) → n < 2 ^ 64 → IsBoard b → IsEntry b.grid (entry_text n b) (id_text n) b

-- a walk from a goal stays in its class
abbrev pub WalksKeepTheClass : Type 0
WalksKeepTheClass = (goal : BoardModel) (moves : ℕ) (b : BoardModel) → IsBoard goal → IsWalkedTo goal moves b → IsOfClass goal b

-- a walk of two moves is not back at the goal, since no move takes back the one before it
abbrev pub TwoMovesLeadAway : Type 0
TwoMovesLeadAway = (goal b : BoardModel) → IsBoard goal → IsWalkedTo goal 2 b → b ≢ goal

-- of two moves of a walk, one right after the other, the second doesn't take back the first
abbrev pub NoMoveIsTakenBack : Type 0
NoMoveIsTakenBack = (before after : List Move) (m m' : Move) → TakesNoneBack None (before ++ m ∷ m' ∷ after) → m ≢ opposite m'

-- drawn boards are `count` in number, no more and no fewer, and each is of the goal's class
abbrev pub DrawnAreDue : Type 0
DrawnAreDue = (goal : BoardModel) (count seed : ℕ) (boards : List BoardModel) → AreChosen goal (Drawn count seed) boards → (length boards ≡ count) × All (IsOfClass goal) boards

-- so are the boards of walks, and a walk of `moves` moves leads to each
abbrev pub WalkedAreDue : Type 0
WalkedAreDue = (goal : BoardModel) (moves count seed : ℕ) (boards : List BoardModel) → AreChosen goal (Walked moves count seed) boards → (length boards ≡ count) × All (IsOfClass goal) boards × All (IsWalkedTo goal moves) boards

-- a whole class has each board of the class and no other, and of two boards the later has the greater key
abbrev pub WholeIsDue : Type 0
WholeIsDue = (goal : BoardModel) (boards : List BoardModel) → AreChosen goal Whole boards → ((b : BoardModel) → Contains boards b ↔ IsOfClass goal b) × AllPairs (λ x y. key_of x < key_of y) boards

-- a whole class is one list: two that are it are the same
abbrev pub WholeIsOneList : Type 0
WholeIsOneList = (goal : BoardModel) (boards others : List BoardModel) → AreChosen goal Whole boards → AreChosen goal Whole others → boards ≡ others
