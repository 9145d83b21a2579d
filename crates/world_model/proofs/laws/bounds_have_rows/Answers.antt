use Rattle.world_model.proofs.KeptLemmas.{bounds_given, bound_rows_prove, rows_left, unknown_goals}
use Rattle.world_model.proofs.laws.bounds_have_rows.Goals as goal

pub returns : goal.returns
returns c = record { given = bounds_given; prove = bound_rows_prove; lacking = rows_left; unwanted = unknown_goals }
