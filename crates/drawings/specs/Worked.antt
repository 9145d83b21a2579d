-- Worked rows: texts of drawings. Each is the contract of a function that does nothing.
use Rattle.std.specs.Prelude.{ℕ, ◌≡◌, List, [], ◌∷◌, ◌++◌, Some, None, codes}
use Rattle.board.specs.declared.moves.Move.TheVariants.{U, L}
use Rattle.board.specs.Weights.{face_rule}
use Rattle.board.specs.Shapes.{ShapeModel}
use Rattle.board.specs.Boards.{BoardModel}
use Rattle.drawings.specs.declared.pictures.Caption.TheVariants.{Start, Step, Goal}
use Rattle.certificate.specs.Certificates.{CertificateModel}
use Rattle.drawings.specs.declared.drawing.Style.TheVariants.{Text}
use Rattle.drawings.specs.Pictures.{picture}
use Rattle.drawings.specs.Drawings.{bands_text, boards_within, last_line_text, heading_text, IsDrawing}

abbrev pub square : ℕ → ShapeModel
square side = record { rows = side; cols = side }

abbrev pub board_of : ℕ → List ℕ → BoardModel
board_of side tiles = record { grid = square side; tiles = tiles }

-- the plan LL, in 40 columns
abbrev pub PlansAreDrawn : Type 0
PlansAreDrawn =
    bands_text (square 3) (boards_within 40 (square 3)) (picture Start (board_of 3 (1 ∷ 2 ∷ 0 ∷ 3 ∷ 4 ∷ 5 ∷ 6 ∷ 7 ∷ 8 ∷ [])) ∷ picture (Step 1 L) (board_of 3 (1 ∷ 0 ∷ 2 ∷ 3 ∷ 4 ∷ 5 ∷ 6 ∷ 7 ∷ 8 ∷ [])) ∷ picture (Step 2 L) (board_of 3 (0 ∷ 1 ∷ 2 ∷ 3 ∷ 4 ∷ 5 ∷ 6 ∷ 7 ∷ 8 ∷ [])) ∷ picture Goal (board_of 3 (0 ∷ 1 ∷ 2 ∷ 3 ∷ 4 ∷ 5 ∷ 6 ∷ 7 ∷ 8 ∷ [])) ∷ []) ++ last_line_text (Some (L ∷ L ∷ [])) 2
    ≡ codes "       start         1 L         2 L\n     1  2  .     1  .  2     .  1  2\n     3  4  5     3  4  5     3  4  5\n     6  7  8     6  7  8     6  7  8\n\n        goal\n     .  1  2\n     3  4  5\n     6  7  8\n\nmoves: 2, cost: 2 (claimed to be least)\n"

-- a bound, in 80 columns
abbrev pub BoundsAreDrawn : Type 0
BoundsAreDrawn =
    bands_text (square 2) (boards_within 80 (square 2)) (picture Start (board_of 2 (1 ∷ 3 ∷ 2 ∷ 0 ∷ [])) ∷ picture Goal (board_of 2 (0 ∷ 1 ∷ 2 ∷ 3 ∷ [])) ∷ []) ++ last_line_text None 6
    ≡ codes "    start     goal\n     1  3     .  1\n     2  .     2  3\n\nbound: 6 (claimed: no plan costs less)\n"

-- three rows of four columns, so that rows exchanged with columns are seen, and tiles of two digits
abbrev pub oblong : List ℕ → BoardModel
oblong tiles = record { grid = record { rows = 3; cols = 4 }; tiles = tiles }

-- a plan of one move whose tile costs 4, whatever the groups and rows of the certificate are
abbrev pub one_up : CertificateModel → CertificateModel
one_up c = record c { grid = record { rows = 3; cols = 4 }; costs = face_rule (record { rows = 3; cols = 4 }); start = oblong (4 ∷ 1 ∷ 2 ∷ 3 ∷ 0 ∷ 5 ∷ 6 ∷ 7 ∷ 8 ∷ 9 ∷ 10 ∷ 11 ∷ []); goal = oblong (0 ∷ 1 ∷ 2 ∷ 3 ∷ 4 ∷ 5 ∷ 6 ∷ 7 ∷ 8 ∷ 9 ∷ 10 ∷ 11 ∷ []); cost = 4; plan = Some (U ∷ []) }

-- its drawing in 32 columns, with the board after the move
abbrev pub OblongPlansAreDrawn : Type 0
OblongPlansAreDrawn =
    (c : CertificateModel) → IsDrawing (Text 32) (one_up c) (codes "          start            1 U\n     4  1  2  3     .  1  2  3\n     .  5  6  7     4  5  6  7\n     8  9 10 11     8  9 10 11\n\n           goal\n     .  1  2  3\n     4  5  6  7\n     8  9 10 11\n\nmoves: 1, cost: 4 (claimed to be least)\n")

-- a move's number of three digits, and how many boards fit: two where there is room for nearly three, and one where there is none
abbrev pub NumbersFit : Type 0
NumbersFit =
    (heading_text (picture (Step 120 L) (board_of 2 (0 ∷ 1 ∷ 2 ∷ 3 ∷ []))) ≡ codes "    120 L")
    × (boards_within 26 (square 2) ≡ 2)
    × (boards_within 8 (square 2) ≡ 1)
