use Rattle.board.proofs.RowLemmas.{rows_suffice}
use Rattle.board.proofs.laws.rows_suffice.Goals as goal

pub returns : goal.returns
returns c = rows_suffice
