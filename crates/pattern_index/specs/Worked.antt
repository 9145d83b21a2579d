-- Worked rows: what the definitions say of views that a reader can follow by hand.
use Rattle.std.specs.Prelude.{ℕ, ◌≡◌, ◌<◌, ◌≤◌, List, [], ◌∷◌, Some, None}
use Rattle.board.specs.declared.moves.Move.TheVariants.{U, L, R, D}
use Rattle.board.specs.Shapes.{ShapeModel}
use Rattle.board.specs.Weights.{face_rule}
use Rattle.board.specs.Worked.{grid_of, two_by_three}
use Rattle.pattern_index.specs.declared.group.TheConstants.{MAX_SIZE}
use Rattle.pattern_index.specs.Views.{ViewModel, Abstraction, ViewLeads, view_of}
use Rattle.pattern_index.specs.Groups.{GroupModel, size_of, rank_in, view_successor}
use Rattle.pattern_index.specs.Sparse.{slot_count_of, slot_in}

abbrev pub sight : ℕ → List ℕ → ViewModel
sight blank cells = record { blank = blank; cells = cells }

abbrev pub group_of : ShapeModel → List ℕ → GroupModel
group_of grid tiles = record { grid = grid; tiles = tiles }

-- the blank's cell counts most, then the cells of the tiles in their order
abbrev pub ViewRanks : Type 0
ViewRanks =
    (rank_in (grid_of 2 2) (sight 0 (1 ∷ [])) ≡ 0)
    × (rank_in (grid_of 2 2) (sight 3 (2 ∷ [])) ≡ 11)
    × (rank_in (grid_of 2 2) (sight 1 (0 ∷ 3 ∷ [])) ≡ 7)
    × (rank_in (grid_of 2 3) (sight 2 (0 ∷ 5 ∷ [])) ≡ 43)
    × (rank_in (grid_of 3 3) (sight 0 (8 ∷ [])) ≡ 7)
    × (rank_in (grid_of 3 3) (sight 8 (0 ∷ [])) ≡ 64)

-- the digits of a slot are cells, the blank's as the lowest: of four bits up to 16 cells, and to the base of 25
abbrev pub ViewSlots : Type 0
ViewSlots =
    (slot_in (grid_of 2 2) (sight 3 (2 ∷ [])) ≡ 35)
    × (slot_in (grid_of 3 3) (sight 8 (0 ∷ 5 ∷ [])) ≡ 1288)
    × (slot_in (grid_of 4 4) (sight 15 (1 ∷ 2 ∷ [])) ≡ 543)
    × (slot_in (grid_of 5 5) (sight 24 (1 ∷ 2 ∷ [])) ≡ 1299)
    × (slot_count_of (group_of (grid_of 4 4) (1 ∷ 2 ∷ 3 ∷ 4 ∷ 5 ∷ [])) ≡ 16777216)
    × (slot_count_of (group_of (grid_of 5 5) (1 ∷ 2 ∷ 3 ∷ 4 ∷ [])) ≡ 9765625)

-- sizes of groups: the fourth is within the greatest size, and the last is above it
abbrev pub GroupSizes : Type 0
GroupSizes =
    (size_of (group_of (grid_of 2 3) (1 ∷ 5 ∷ [])) ≡ 120)
    × (size_of (group_of (grid_of 3 3) (1 ∷ 2 ∷ 3 ∷ 4 ∷ [])) ≡ 15120)
    × (size_of (group_of (grid_of 2 5) (1 ∷ 2 ∷ 3 ∷ 4 ∷ [])) ≡ 30240)
    × (size_of (group_of (grid_of 4 4) (1 ∷ 2 ∷ 3 ∷ 4 ∷ 5 ∷ 6 ∷ [])) ≡ 57657600)
    × (size_of (group_of (grid_of 5 5) (1 ∷ 2 ∷ 3 ∷ 4 ∷ 5 ∷ [])) ≡ 127512000)
    × (57657600 ≤ MAX_SIZE)
    × (MAX_SIZE < 127512000)

-- the puzzle of 2 by 3 at face cost, in which only the tiles 1 and 5 are seen
abbrev pub one_and_five : Abstraction
one_and_five = record { grid = grid_of 2 3; rule = face_rule (grid_of 2 3); tiles = 1 ∷ 5 ∷ [] }

-- what the tiles 1 and 5 see of 1 2 0 over 3 4 5
abbrev pub OblongView : Type 0
OblongView = view_of (1 ∷ 5 ∷ []) (two_by_three (1 ∷ 2 ∷ 0 ∷ 3 ∷ 4 ∷ 5 ∷ [])) ≡ sight 2 (0 ∷ 5 ∷ [])

-- what each move makes of that view: tile 2 is not seen, so it moves at no cost
abbrev pub FourViewMoves : Type 0
FourViewMoves =
    (view_successor one_and_five (sight 2 (0 ∷ 5 ∷ [])) U ≡ None)
    × (view_successor one_and_five (sight 2 (0 ∷ 5 ∷ [])) L ≡ Some (sight 1 (0 ∷ 5 ∷ []), 0))
    × (view_successor one_and_five (sight 2 (0 ∷ 5 ∷ [])) R ≡ None)
    × (view_successor one_and_five (sight 2 (0 ∷ 5 ∷ [])) D ≡ Some (sight 5 (0 ∷ 2 ∷ []), 5))

-- four view moves on from that view: the first moves tile 5, and the last tile 1
abbrev pub OneViewPlan : Type 0
OneViewPlan = ViewLeads one_and_five (sight 2 (0 ∷ 5 ∷ [])) (D ∷ L ∷ U ∷ L ∷ []) (sight 0 (1 ∷ 2 ∷ [])) 6
