use Rattle.drawings.specs.Drawings.{picture_line_text, board_row_text}
use Rattle.drawings.proofs.TextLemmas.{counted_part}
use Rattle.drawings.proofs.bands.push_rows.Goals as goal

pub rows-preserved : goal.rows-preserved
rows-preserved c = counted_part (λ row. picture_line_text (board_row_text row) c.args.pictures.now) c.args.text.now.items c.rows.row c.rows.text.items c.push_row_line.new.text.items c.rows.invariant c.in_ok-push_row_line.ensures
