-- Where the rows of lower keys end, and what is known of the successors of a row's board.
use Rattle.std.specs.Prelude.{ℕ, ◌≡◌, ◌≤◌, ◌<◌, List, length, get_or, Option, option_map}
use Rattle.board.specs.declared.moves.Move.{Move}
use Rattle.board.specs.Boards.{BoardModel}
use Rattle.board.specs.Weights.{WeightsModel}
use Rattle.board.specs.Keys.{key_of}
use Rattle.board.specs.Moves.{successor}
use Rattle.lower_bound.specs.Tables.{BoundModel, parts_of}
use Rattle.successor_sums.specs.Unpacked.{told_of}
use Rattle.successor_sums.specs.declared.unpacked.Successor.{Successor}

-- the boards of the rows before a place have lower keys; since that is asked for each d, the place is no further than the rows' end
abbrev pub AreLower : List (BoardModel × ℕ) → ℕ → ℕ → Type 0
AreLower rows key end = (k : ℕ) (d : BoardModel × ℕ) → k < end → key_of (get_or rows k d).0 < key

-- those of the rows from a place on don't have lower keys
abbrev pub AreNotLower : List (BoardModel × ℕ) → ℕ → ℕ → Type 0
AreNotLower rows key from = (k : ℕ) (d : BoardModel × ℕ) → from ≤ k → k < length rows → key ≤ key_of (get_or rows k d).0

-- `told` is what is known of the board that a move leads to, or None where it leads to none
abbrev pub IsTold : WeightsModel → BoundModel → BoardModel → Move → Option Successor → Type 0
IsTold rule tables b m told = told ≡ option_map (told_of (parts_of tables) b) (successor rule b m)
