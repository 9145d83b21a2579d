use Rattle.world_model.proofs.ExpandLemmas.{moves_lead_back, one_left_out}
use Rattle.world_model.proofs.laws.moves_back_lead_back.Goals as goal

pub returns : goal.returns
returns c = record { out = one_left_out; back = moves_lead_back }
