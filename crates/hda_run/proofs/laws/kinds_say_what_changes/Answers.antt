use Rattle.hda_run.proofs.LawLemmas.{arrives, book_by_kind, lanes_by_kind, other_lanes}
use Rattle.hda_run.proofs.laws.kinds_say_what_changes.Goals as goal

pub returns : goal.returns
returns c = record { lanes = lanes_by_kind; others = other_lanes; arrives = arrives; book = book_by_kind }
