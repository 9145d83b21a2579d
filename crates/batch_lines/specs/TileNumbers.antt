-- The numbers that words say.
use Rattle.std.specs.Prelude.{ℕ, ◌&&◌, List, length, min, nat_lt, if◌then◌else◌}
use Rattle.std.specs.List.{list_all}
use Rattle.std.specs.Char.{is_ascii_digit}
use Rattle.std.specs.Str.Parse.{digits_value}

-- the number that a word of digits says, up to 255, and 255 for any other word; no board has that many cells
abbrev pub tile_number : List ℕ → ℕ
tile_number word = if nat_lt 0 (length word) && list_all is_ascii_digit word then min 255 (digits_value 10 word) else 255
