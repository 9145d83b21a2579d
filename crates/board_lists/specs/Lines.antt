-- The lines that name boards, as `b12 1 0 2 3`.
use Rattle.std.specs.Prelude.{ℕ, ◌+◌, List, [], ◌∷◌, ◌++◌, decimal, codes}
use Rattle.std.specs.List.{flat_map}
use Rattle.board.specs.Boards.{BoardModel}

-- the id of the n-th board: `b` and the number
abbrev pub id_text : ℕ → List ℕ
id_text n = codes "b" ++ decimal n

-- a tile behind a space (32)
abbrev pub tile_text : ℕ → List ℕ
tile_text tile = 32 ∷ decimal tile

-- the line of the n-th board: its id and its tiles, from cell 0 on
abbrev pub entry_text : ℕ → BoardModel → List ℕ
entry_text n b = id_text n ++ flat_map tile_text b.tiles

-- the same with a line feed (10)
abbrev pub line_text : ℕ → BoardModel → List ℕ
line_text n b = entry_text n b ++ 10 ∷ []

-- the lines of boards, with numbers from n on
abbrev pub lines_text : ℕ → List BoardModel → List ℕ
lines_text n [] = []
lines_text n (b ∷ boards) = line_text n b ++ lines_text (n + 1) boards
