-- Walks: no move takes back the one before it.
use Rattle.std.specs.Prelude.{ℕ, ◌≡◌, ◌≢◌, List, [], ◌∷◌, Option, None, Some, length, ⊤, Bool, false, ◌&&◌, not, is_some}
use Rattle.board.specs.declared.moves.Move.{Move}
use Rattle.board.specs.Neighbours.{opposite, neighbour}
use Rattle.board.specs.Boards.{BoardModel, blank_of}
use Rattle.board.specs.Weights.{unit_rule}
use Rattle.board.specs.Plans.{Leads}
use Rattle.board_lists.specs.Classes.{IsOfClass}
use Rattle.board.specs.Equality.{move_eq}

-- a move doesn't take back the last one, if there is one
abbrev pub IsNotBack : Option Move → Move → Type 0
IsNotBack last m = last ≢ Some (opposite m)

-- behind the last move, if there is one, no move takes back the one before it
abbrev pub TakesNoneBack : Option Move → List Move → Type 0
TakesNoneBack last [] = ⊤
TakesNoneBack last (m ∷ plan) = IsNotBack last m × TakesNoneBack (Some m) plan

-- a walk of `moves` moves leads from the goal to the board, and takes no move back
pub record IsWalkedTo (goal : BoardModel) (moves : ℕ) (b : BoardModel) : Type 0 where
  pub plan : List Move
  pub cost : ℕ
  pub leads : Leads (unit_rule goal.grid) goal plan b cost
  pub counted : length plan ≡ moves
  pub onward : TakesNoneBack None plan

-- so does a walk, and the board is one of the goal's class
pub record IsWalked (goal : BoardModel) (moves : ℕ) (b : BoardModel) : Type 0 where
  pub walked : IsWalkedTo goal moves b
  pub class : IsOfClass goal b

-- the move takes the last one back, if there is one
abbrev pub takes_back : Option Move → Move → Bool
takes_back None m = false
takes_back (Some last) m = move_eq last (opposite m)

-- the blank stays on the board, and the move doesn't take the last one back
abbrev pub leads_on : BoardModel → Option Move → Move → Bool
leads_on b last m = is_some (neighbour b.grid m (blank_of b)) && not (takes_back last m)
