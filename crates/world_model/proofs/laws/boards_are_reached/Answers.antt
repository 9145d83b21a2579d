use Rattle.world_model.proofs.OutcomeLemmas.{known_reached, items_reached, plans_lead}
use Rattle.world_model.proofs.laws.boards_are_reached.Goals as goal

pub returns : goal.returns
returns c = record { known = known_reached; items = items_reached; plans = plans_lead }
