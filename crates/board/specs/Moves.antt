-- One move of the blank.
use Rattle.std.specs.Prelude.{ℕ, ◌≡◌, List, [], ◌∷◌, Option, slice_index, swap, option_map}
use Rattle.board.specs.declared.moves.Move.{Move}
use Rattle.board.specs.declared.moves.Move.TheVariants.{U, L, R, D}
use Rattle.board.specs.Neighbours.{LiesTowards, neighbour}
use Rattle.board.specs.Boards.{BoardModel, blank_of}
use Rattle.board.specs.Weights.{WeightsModel, weight_of}

-- the four moves, in the order in which they are tried
abbrev pub all_moves : List Move
all_moves = U ∷ L ∷ R ∷ D ∷ []

-- the board after the blank and the number on a cell change places
abbrev pub blank_exchange : BoardModel → ℕ → BoardModel
blank_exchange b cell = record b { tiles = swap b.tiles (blank_of b) cell }

-- b' is b with the blank and its neighbour in the direction m exchanged, and c is the weight of the tile exchanged
pub record Moves (rule : WeightsModel) (b : BoardModel) (m : Move) (b' : BoardModel) (c : ℕ) : Type 0 where
  pub cell : ℕ
  pub towards : LiesTowards b.grid m (blank_of b) cell
  pub after : b' ≡ blank_exchange b cell
  pub cost : c ≡ weight_of rule (slice_index b.tiles cell)

-- the board after an exchange with a cell, and its cost
abbrev pub successor_at : WeightsModel → BoardModel → ℕ → BoardModel × ℕ
successor_at rule b cell = (blank_exchange b cell, weight_of rule (slice_index b.tiles cell))

-- the move computed: the board after it and its cost, where the blank stays on the board
abbrev pub successor : WeightsModel → BoardModel → Move → Option (BoardModel × ℕ)
successor rule b m = option_map (successor_at rule b) (neighbour b.grid m (blank_of b))
