use Rattle.std.proofs.Common.{◌≡◌, ◌++◌}
use Rattle.std.specs.List.{flat_map, range_with_len}
use Rattle.drawings.specs.Drawings.{picture_line_text, board_row_text}
use Rattle.drawings.proofs.bands.push_rows.Given as goal

abbrev pub invariant-rows : goal.invariant-rows
invariant-rows l = l.text.items ≡ l.fn.text.items ++ flat_map (λ row. picture_line_text (board_row_text row) l.pictures) (range_with_len 0 l.row)
