use Rattle.std.proofs.Common.{◌≡◌, ◌++◌, take}
use Rattle.std.specs.List.{flat_map}
use Rattle.drawings.specs.Drawings.{board_row_text}
use Rattle.drawings.proofs.bands.push_row_line.Given as goal

abbrev pub invariant-pictures : goal.invariant-pictures
invariant-pictures l = l.text.items ≡ l.fn.text.items ++ flat_map (board_row_text l.row) (take l.picture-index l.pictures)
