-- The laws of letters, moves, costs, plans, classes, keys and rows.
use Rattle.std.specs.Prelude.{ℕ, ◌≡◌, ◌≢◌, ◌+◌, ◌-◌, ◌^◌, ◌<◌, ◌↔◌, List, ◌++◌, length, take, drop, replicate, swap, Some}
use Rattle.std.specs.List.{range_with_len}
use Rattle.board.specs.declared.moves.Move.{Move}
use Rattle.board.specs.Shapes.{ShapeModel, IsShape, cell_count}
use Rattle.board.specs.Letters.{letter_of, move_of_letter}
use Rattle.board.specs.Neighbours.{LiesTowards, neighbour, opposite}
use Rattle.board.specs.Boards.{BoardModel, IsBoard, blank_of}
use Rattle.board.specs.Weights.{WeightsModel, AreWeights, listed_rule, unit_rule, face_rule}
use Rattle.board.specs.Moves.{Moves, successor}
use Rattle.board.specs.Plans.{Leads, NothingBelow, IsLeast, IsStuckAt}
use Rattle.board.specs.Classes.{SameClass}
use Rattle.board.specs.Keys.{key_of, Precedes}
use Rattle.board.specs.Rows.{Proves, IsLowerBound}

-- a letter is read as the move whose letter it is, and nothing else is read
abbrev pub LettersAreRead : Type 0
LettersAreRead = (m : Move) (letter : ℕ) → (move_of_letter letter ≡ Some m) ↔ (letter ≡ letter_of m)

-- the neighbour that is computed is the cell that lies there
abbrev pub NeighboursLieThere : Type 0
NeighboursLieThere = (grid : ShapeModel) (m : Move) (from to : ℕ) → from < cell_count grid → (neighbour grid m from ≡ Some to) ↔ LiesTowards grid m from to

-- the successor that is computed is what the move makes of the board
abbrev pub SuccessorsAreMoves : Type 0
SuccessorsAreMoves = (rule : WeightsModel) (b : BoardModel) (m : Move) (b' : BoardModel) (c : ℕ) → IsBoard b → (successor rule b m ≡ Some (b', c)) ↔ Moves rule b m b' c

-- a move of a board leads to a board
abbrev pub MovesKeepBoards : Type 0
MovesKeepBoards = (rule : WeightsModel) (b : BoardModel) (m : Move) (b' : BoardModel) (c : ℕ) → IsBoard b → Moves rule b m b' c → IsBoard b'

-- a move leads to one board, at one cost
abbrev pub MovesAreDetermined : Type 0
MovesAreDetermined =
    (rule : WeightsModel) (b : BoardModel) (m : Move) (b' b'' : BoardModel) (c d : ℕ) → Moves rule b m b' c → Moves rule b m b'' d → (b'' ≡ b') × (d ≡ c)

-- the opposite move takes a move back, at the same cost
abbrev pub MovesAreTakenBack : Type 0
MovesAreTakenBack = (rule : WeightsModel) (b : BoardModel) (m : Move) (b' : BoardModel) (c : ℕ) → IsBoard b → Moves rule b m b' c → Moves rule b' (opposite m) b c

-- where one plan leads to a board and another leads on from there, both together lead there, and their costs add up
abbrev pub PlansAreJoined : Type 0
PlansAreJoined =
    (rule : WeightsModel) (b : BoardModel) (plan : List Move) (middle : BoardModel) (j : ℕ) (plan' : List Move) (q : BoardModel) (k : ℕ)
    → Leads rule b plan middle j
    → Leads rule middle plan' q k
    → Leads rule b (plan ++ plan') q (j + k)

-- a plan that leads somewhere can be cut at any place: each part leads, and their costs add up
abbrev pub PlansAreCut : Type 0
PlansAreCut =
    (rule : WeightsModel) (b : BoardModel) (plan : List Move) (q : BoardModel) (k place : ℕ)
    → Leads rule b plan q k
    → (middle : BoardModel) × (i j : ℕ) × Leads rule b (take place plan) middle i × Leads rule middle (drop place plan) q j × (k ≡ i + j)

-- a plan leads from a board to one board, at one cost
abbrev pub PlansAreDetermined : Type 0
PlansAreDetermined =
    (rule : WeightsModel) (b : BoardModel) (plan : List Move) (q q' : BoardModel) (j k : ℕ) → Leads rule b plan q j → Leads rule b plan q' k → (q' ≡ q) × (k ≡ j)

-- a plan leads from a board to a board
abbrev pub PlansKeepBoards : Type 0
PlansKeepBoards = (rule : WeightsModel) (b : BoardModel) (plan : List Move) (q : BoardModel) (k : ℕ) → IsBoard b → Leads rule b plan q k → IsBoard q

-- a move neither enters the class of q nor leaves it
abbrev pub MovesKeepTheClass : Type 0
MovesKeepTheClass = (rule : WeightsModel) (b : BoardModel) (m : Move) (b' : BoardModel) (c : ℕ) (q : BoardModel) → IsBoard b → Moves rule b m b' c → SameClass b q ↔ SameClass b' q

-- where a plan leads from b to q they are in one class
abbrev pub PlansKeepTheClass : Type 0
PlansKeepTheClass = (rule : WeightsModel) (b : BoardModel) (plan : List Move) (q : BoardModel) (k : ℕ) → IsBoard b → Leads rule b plan q k → SameClass b q

-- Where two tiles of a board change places, exactly one of the two boards is in the class of q. Moves and such exchanges together lead to
-- every board of a grid, so this and the laws above leave no other test for classes.
abbrev pub ExchangesChangeTheClass : Type 0
ExchangesChangeTheClass =
    (b : BoardModel) (i j : ℕ) (q : BoardModel)
    → IsBoard b
    → i < cell_count b.grid
    → j < cell_count b.grid
    → i ≢ j
    → i ≢ blank_of b
    → j ≢ blank_of b
    → SameClass (record b { tiles = swap b.tiles i j }) q ↔ (¬ SameClass b q)

-- a plan is stuck at a place exactly where the moves before it lead somewhere, and with the move there they lead nowhere
abbrev pub PlansAreStuckThere : Type 0
PlansAreStuckThere =
    (rule : WeightsModel) (b : BoardModel) (plan : List Move) (place : ℕ)
    → IsStuckAt rule b plan place
    ↔ ((place < length plan)
    × ((here : BoardModel) × (k : ℕ) × Leads rule b (take place plan) here k)
    × ((q : BoardModel) (j : ℕ) → ¬ Leads rule b (take (place + 1) plan) q j))

-- a least cost is one number
abbrev pub LeastCostsAreDetermined : Type 0
LeastCostsAreDetermined = (rule : WeightsModel) (b q : BoardModel) (j k : ℕ) → IsLeast rule b q j → IsLeast rule b q k → j ≡ k

-- a key names one board of a grid
abbrev pub KeysNameBoards : Type 0
KeysNameBoards = (a b : BoardModel) → IsBoard a → IsBoard b → a.grid ≡ b.grid → key_of a ≡ key_of b → a ≡ b

-- a key has 5 bits for each cell, so it is below 32 to the power of their count
abbrev pub KeysFit : Type 0
KeysFit = (b : BoardModel) → IsBoard b → key_of b < 32 ^ cell_count b.grid

-- the order of the keys of boards of a grid is the order of their lists of tiles
abbrev pub KeysAreInOrder : Type 0
KeysAreInOrder = (a b : BoardModel) → IsBoard a → IsBoard b → a.grid ≡ b.grid → (key_of a < key_of b) ↔ Precedes a.tiles b.tiles

-- rows that prove a cost, with a sum that is a lower bound, leave no cheaper plan
abbrev pub RowsSuffice : Type 0
RowsSuffice =
    (rule : WeightsModel) (rows : List (BoardModel × ℕ)) (sum : BoardModel → ℕ) (b q : BoardModel) (k : ℕ)
    → IsBoard b
    → Proves rule rows sum b q k
    → IsLowerBound rule sum q
    → NothingBelow rule b q k

-- every cost rule is said by the list of the weights of its tiles
abbrev pub RulesAreListed : Type 0
RulesAreListed = (rule : WeightsModel) → AreWeights rule → rule ≡ listed_rule rule.grid (drop 1 rule.weights)

-- a list of ones is unit cost, and 1, 2, .. is face cost
abbrev pub NamedRulesAreListed : Type 0
NamedRulesAreListed =
    (grid : ShapeModel)
    → IsShape grid
    → (unit_rule grid ≡ listed_rule grid (replicate (cell_count grid - 1) 1)) × (face_rule grid ≡ listed_rule grid (range_with_len 1 (cell_count grid - 1)))
