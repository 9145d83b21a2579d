-- The letters of the moves, as bytes of ASCII.
use Rattle.std.specs.Prelude.{ℕ, ◌==◌, Option, None, Some, if◌then◌else◌}
use Rattle.board.specs.declared.moves.Move.{Move}
use Rattle.board.specs.declared.moves.Move.TheVariants.{U, L, R, D}

-- the letter of a move: `U`, `L`, `R` or `D`
abbrev pub letter_of : Move → ℕ
letter_of U = 85
letter_of L = 76
letter_of R = 82
letter_of D = 68

-- the move with a letter, where there is one
abbrev pub move_of_letter : ℕ → Option Move
move_of_letter letter =
    if letter == 85 then Some U else if letter == 76 then Some L else if letter == 82 then Some R else if letter == 68 then Some D else None
