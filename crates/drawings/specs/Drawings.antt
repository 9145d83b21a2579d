-- The drawing of a certificate as plain text.
--
-- Each column of a board takes three columns of text, with its numbers at the right and a dot for the blank, and three more
-- are at the board's left. Its caption is above it: `start`, a move's number and letter, or `goal`. As many boards as fit
-- are side by side, and one where none does. An empty line follows them, and the claim is the last line. The boards of
-- the plan LL from 1 2 . / 3 4 5 / 6 7 8, in 40 columns:
--
--        start         1 L         2 L
--      1  2  .     1  .  2     .  1  2
--      3  4  5     3  4  5     3  4  5
--      6  7  8     6  7  8     6  7  8
--
--         goal
--      .  1  2
--      3  4  5
--      6  7  8
--
-- moves: 2, cost: 2 (claimed to be least)
--
-- And a bound for 1 3 / 2 .:
--
--     start     goal
--      1  3     .  1
--      2  .     2  3
--
-- bound: 6 (claimed: no plan costs less)
use Rattle.std.specs.Prelude.{ℕ, ◌≡◌, ◌+◌, ◌-◌, ◌*◌, ◌/◌, ◌==◌, max, List, [], ◌∷◌, ◌++◌, length, take, drop, replicate, Option, Some, None, if◌then◌else◌, codes, decimal}
use Rattle.std.specs.Int.{div_ceil}
use Rattle.std.specs.List.{flat_map, range_with_len}
use Rattle.board.specs.declared.moves.Move.{Move}
use Rattle.board.specs.Letters.{letter_of}
use Rattle.board.specs.Shapes.{ShapeModel}
use Rattle.board.specs.Boards.{BoardModel}
use Rattle.certificate.specs.Certificates.{CertificateModel}
use Rattle.drawings.specs.declared.pictures.Caption.{Caption}
use Rattle.drawings.specs.declared.pictures.Caption.TheVariants.{Start, Step, Goal}
use Rattle.drawings.specs.declared.pictures.Picture.{Picture}
use Rattle.drawings.specs.declared.drawing.Style.{Style}
use Rattle.drawings.specs.declared.drawing.Style.TheVariants.{Text, Svg}
use Rattle.drawings.specs.Pictures.{ArePictures}

-- the text at the right of this many columns
abbrev pub at_right : ℕ → List ℕ → List ℕ
at_right columns text = replicate (columns - length text) 32 ++ text

-- the number of a tile, or a dot for the blank
abbrev pub tile_cell_text : ℕ → List ℕ
tile_cell_text tile = if tile == 0 then codes "." else decimal tile

-- the caption: `start`, `goal`, or the number of a move and its letter
abbrev pub caption_text : Caption → List ℕ
caption_text Start = codes "start"
caption_text (Step n m) = decimal n ++ (32 ∷ letter_of m ∷ [])
caption_text Goal = codes "goal"

-- how many columns a board takes
abbrev pub columns_of : ShapeModel → ℕ
columns_of grid = 3 * (grid.cols + 1)

-- the tiles of one row, from 0 at the top
abbrev pub tiles_in_row : BoardModel → ℕ → List ℕ
tiles_in_row b row = take b.grid.cols (drop (row * b.grid.cols) b.tiles)

-- a row of a board
abbrev pub board_row_text : ℕ → Picture → List ℕ
board_row_text row p = codes "   " ++ flat_map (λ tile. at_right 3 (tile_cell_text tile)) (tiles_in_row p.board row)

-- the caption of a board
abbrev pub heading_text : Picture → List ℕ
heading_text p = at_right (columns_of p.board.grid) (caption_text p.caption)

-- a line of what is side by side
abbrev pub picture_line_text : (Picture → List ℕ) → List Picture → List ℕ
picture_line_text part pictures = flat_map part pictures ++ 10 ∷ []

-- boards side by side: their captions, their rows, and an empty line
abbrev pub band_text : ShapeModel → List Picture → List ℕ
band_text grid pictures = picture_line_text heading_text pictures ++ (flat_map (λ row. picture_line_text (board_row_text row) pictures) (range_with_len 0 grid.rows) ++ 10 ∷ [])

-- how many boards are side by side
abbrev pub boards_within : ℕ → ShapeModel → ℕ
boards_within width grid = max 1 (width / columns_of grid)

-- the band with the number k, from 0, where each has n pictures
abbrev pub band_of : ℕ → List Picture → ℕ → List Picture
band_of n pictures k = take n (drop (k * n) pictures)

-- all pictures in bands
abbrev pub bands_text : ShapeModel → ℕ → List Picture → List ℕ
bands_text grid n pictures = flat_map (λ k. band_text grid (band_of n pictures k)) (range_with_len 0 (div_ceil (length pictures) n))

-- the last line: the number of the plan's moves and its cost, or the bound
abbrev pub last_line_text : Option (List Move) → ℕ → List ℕ
last_line_text (Some plan) cost = codes "moves: " ++ (decimal (length plan) ++ (codes ", cost: " ++ (decimal cost ++ codes " (claimed to be least)\n")))
last_line_text None bound = codes "bound: " ++ (decimal bound ++ codes " (claimed: no plan costs less)\n")

-- all pictures, and what is claimed
abbrev pub drawing_text : ℕ → CertificateModel → List Picture → List ℕ
drawing_text width c pictures = bands_text c.grid (boards_within width c.grid) pictures ++ last_line_text c.plan c.cost

-- an SVG file: its first and last bytes are those of one, and it says what is claimed between these texts
abbrev pub file_text : CertificateModel → List ℕ → List ℕ → List ℕ
file_text c front back = codes "<svg " ++ (front ++ (last_line_text c.plan c.cost ++ (back ++ codes "</svg>\n")))

-- These bytes draw the certificate: as text within `width` columns, or as an SVG file that says what is claimed. What its tiles look like is not
-- said here.
abbrev pub IsDrawing : Style → CertificateModel → List ℕ → Type 0
IsDrawing (Text width) c bytes = (pictures : List Picture) × ArePictures c pictures × (bytes ≡ drawing_text width c pictures)
IsDrawing (Svg seconds) c bytes = (front back : List ℕ) × (bytes ≡ file_text c front back)
