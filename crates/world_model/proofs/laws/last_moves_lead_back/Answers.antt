use Rattle.world_model.proofs.KeptLemmas.{first_moves}
use Rattle.world_model.proofs.OutcomeLemmas.{leads_back}
use Rattle.world_model.proofs.laws.last_moves_lead_back.Goals as goal

pub returns : goal.returns
returns c = record { back = leads_back; first = first_moves }
