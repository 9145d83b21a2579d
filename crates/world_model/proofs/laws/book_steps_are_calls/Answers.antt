use Rattle.world_model.proofs.CreditLemmas.{draws, announces, grants, rests, halts}
use Rattle.world_model.proofs.laws.book_steps_are_calls.Goals as goal

pub returns : goal.returns
returns c = record { draw = draws; announce = announces; grant = grants; rest = rests; halt = halts }
