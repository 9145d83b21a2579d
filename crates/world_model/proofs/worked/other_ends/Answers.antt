use Rattle.world_model.proofs.WorkedOutcomeLemmas.{unsolvable_given, cost_given, memory_given, start_given}
use Rattle.world_model.proofs.worked.other_ends.Goals as goal

pub returns : goal.returns
returns c = record { unsolvable = unsolvable_given; cost = cost_given; memory = memory_given; start = start_given }
