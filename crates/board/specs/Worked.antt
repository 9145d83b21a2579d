-- Worked rows: what the definitions say of boards that a reader can follow by hand.
use Rattle.std.specs.Prelude.{ℕ, ◌≡◌, List, [], ◌∷◌, Some, None}
use Rattle.board.specs.declared.costs.TheConstants.{GREATEST_COST, GREATEST_EXPANDED_COST}
use Rattle.board.specs.declared.moves.Move.TheVariants.{U, L, R, D}
use Rattle.board.specs.Shapes.{ShapeModel}
use Rattle.board.specs.Neighbours.{LiesTowards, neighbour}
use Rattle.board.specs.Boards.{BoardModel, blank_of, goal_of}
use Rattle.board.specs.Weights.{AreWeights, listed_rule, unit_rule, face_rule}
use Rattle.board.specs.Moves.{successor}
use Rattle.board.specs.Plans.{Leads}
use Rattle.board.specs.Rows.{Proves}
use Rattle.board.specs.Classes.{SameClass}
use Rattle.board.specs.Keys.{key_of}

abbrev pub grid_of : ℕ → ℕ → ShapeModel
grid_of rows cols = record { rows = rows; cols = cols }

abbrev pub two_by_two : ℕ → ℕ → ℕ → ℕ → BoardModel
two_by_two a b c d = record { grid = grid_of 2 2; tiles = a ∷ b ∷ c ∷ d ∷ [] }

-- 1 2 0 over 3 4 5 over 6 7 8
abbrev pub two_right : BoardModel
two_right = record { grid = grid_of 3 3; tiles = 1 ∷ 2 ∷ 0 ∷ 3 ∷ 4 ∷ 5 ∷ 6 ∷ 7 ∷ 8 ∷ [] }

-- two moves to the left lead to the goal: at 2, or at 3 where tile t costs t
abbrev pub TwoLeft : Type 0
TwoLeft = Leads (unit_rule (grid_of 3 3)) two_right (L ∷ L ∷ []) (goal_of (grid_of 3 3)) 2 × Leads (face_rule (grid_of 3 3)) two_right (L ∷ L ∷ []) (goal_of (grid_of 3 3)) 3

-- six moves round a board of 2 by 2, either way: at 6, and at 12
abbrev pub SixRound : Type 0
SixRound =
    Leads (unit_rule (grid_of 2 2)) (two_by_two 3 2 1 0) (U ∷ L ∷ D ∷ R ∷ U ∷ L ∷ []) (goal_of (grid_of 2 2)) 6
    × Leads (face_rule (grid_of 2 2)) (two_by_two 3 2 1 0) (L ∷ U ∷ R ∷ D ∷ L ∷ U ∷ []) (goal_of (grid_of 2 2)) 12

-- one move up: at 1, and at 2, the number of the tile moved
abbrev pub OneUp : Type 0
OneUp = Leads (unit_rule (grid_of 2 2)) (two_by_two 2 1 0 3) (U ∷ []) (goal_of (grid_of 2 2)) 1 × Leads (face_rule (grid_of 2 2)) (two_by_two 2 1 0 3) (U ∷ []) (goal_of (grid_of 2 2)) 2

-- what each move makes of 1 0 over 2 3
abbrev pub FourSuccessors : Type 0
FourSuccessors =
    (successor (face_rule (grid_of 2 2)) (two_by_two 1 0 2 3) U ≡ None)
    × (successor (face_rule (grid_of 2 2)) (two_by_two 1 0 2 3) L ≡ Some (two_by_two 0 1 2 3, 1))
    × (successor (face_rule (grid_of 2 2)) (two_by_two 1 0 2 3) R ≡ None)
    × (successor (face_rule (grid_of 2 2)) (two_by_two 1 0 2 3) D ≡ Some (two_by_two 1 3 2 0, 3))

-- 0 2 1 3 isn't in the goal's class, and 1 0 2 3 is
abbrev pub TwoClasses : Type 0
TwoClasses = (¬ SameClass (two_by_two 0 2 1 3) (goal_of (grid_of 2 2))) × SameClass (two_by_two 1 0 2 3) (goal_of (grid_of 2 2))

abbrev pub TwoKeys : Type 0
TwoKeys = (key_of (two_by_two 0 1 2 3) ≡ 1091) × (key_of (two_by_two 1 0 2 3) ≡ 32835)

-- the greatest cost that is handled, and the greatest at which a board is expanded
abbrev pub GreatestCosts : Type 0
GreatestCosts = (GREATEST_COST ≡ 1048575) × (GREATEST_EXPANDED_COST ≡ 1048320)

-- the start's row alone proves that one move is least: each successor is at 1
abbrev pub OneRow : Type 0
OneRow = Proves (unit_rule (grid_of 2 2)) ((two_by_two 1 0 2 3, 0) ∷ []) (λ _. 0) (two_by_two 1 0 2 3) (goal_of (grid_of 2 2)) 1

-- no row is needed where the sum of the start reaches the cost; the sum here is the blank's cell, 1 at the start and 0 at the goal
abbrev pub NoRow : Type 0
NoRow = Proves (unit_rule (grid_of 2 2)) [] blank_of (two_by_two 1 0 2 3) (goal_of (grid_of 2 2)) 1

-- tile 1 may weigh 1 and 255, and neither 0 nor 256
abbrev pub WeightsWithin : Type 0
WeightsWithin =
    AreWeights (listed_rule (grid_of 2 2) (255 ∷ 1 ∷ 1 ∷ []))
    × (¬ AreWeights (listed_rule (grid_of 2 2) (256 ∷ 1 ∷ 1 ∷ [])))
    × (¬ AreWeights (listed_rule (grid_of 2 2) (0 ∷ 1 ∷ 1 ∷ [])))

-- two rows of three columns, so that rows exchanged with columns are seen
abbrev pub two_by_three : List ℕ → BoardModel
two_by_three tiles = record { grid = grid_of 2 3; tiles = tiles }

-- cell 2 is the last of its row, and cell 5 is below it
abbrev pub OblongNeighbours : Type 0
OblongNeighbours =
    LiesTowards (grid_of 2 3) D 2 5
    × (neighbour (grid_of 2 3) U 2 ≡ None)
    × (neighbour (grid_of 2 3) L 2 ≡ Some 1)
    × (neighbour (grid_of 2 3) R 2 ≡ None)
    × (neighbour (grid_of 2 3) D 2 ≡ Some 5)

-- what each move makes of 1 2 0 over 3 4 5
abbrev pub OblongSuccessors : Type 0
OblongSuccessors =
    (successor (face_rule (grid_of 2 3)) (two_by_three (1 ∷ 2 ∷ 0 ∷ 3 ∷ 4 ∷ 5 ∷ [])) U ≡ None)
    × (successor (face_rule (grid_of 2 3)) (two_by_three (1 ∷ 2 ∷ 0 ∷ 3 ∷ 4 ∷ 5 ∷ [])) L ≡ Some (two_by_three (1 ∷ 0 ∷ 2 ∷ 3 ∷ 4 ∷ 5 ∷ []), 2))
    × (successor (face_rule (grid_of 2 3)) (two_by_three (1 ∷ 2 ∷ 0 ∷ 3 ∷ 4 ∷ 5 ∷ [])) R ≡ None)
    × (successor (face_rule (grid_of 2 3)) (two_by_three (1 ∷ 2 ∷ 0 ∷ 3 ∷ 4 ∷ 5 ∷ [])) D ≡ Some (two_by_three (1 ∷ 2 ∷ 5 ∷ 3 ∷ 4 ∷ 0 ∷ []), 5))

-- 1 2 0 over 3 4 5 is in the goal's class, and 2 1 0 over 3 4 5 isn't
abbrev pub OblongClasses : Type 0
OblongClasses =
    SameClass (two_by_three (1 ∷ 2 ∷ 0 ∷ 3 ∷ 4 ∷ 5 ∷ [])) (goal_of (grid_of 2 3))
    × (¬ SameClass (two_by_three (2 ∷ 1 ∷ 0 ∷ 3 ∷ 4 ∷ 5 ∷ [])) (goal_of (grid_of 2 3)))

-- the keys of the goal, and of 1 2 0 over 3 4 5
abbrev pub OblongKeys : Type 0
OblongKeys = (key_of (goal_of (grid_of 2 3)) ≡ 1117317) × (key_of (two_by_three (1 ∷ 2 ∷ 0 ∷ 3 ∷ 4 ∷ 5 ∷ [])) ≡ 35654789)
