use Rattle.world_model.proofs.WorkedOutcomeLemmas.{empty_given, above_given, no_rows_given, three_given}
use Rattle.world_model.proofs.worked.plans.Goals as goal

pub returns : goal.returns
returns c = record { empty = empty_given; above = above_given; no_rows = no_rows_given; three = three_given }
