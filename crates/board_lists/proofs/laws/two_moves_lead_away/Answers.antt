use Rattle.board_lists.proofs.WalkLemmas.{two_lead_away}
use Rattle.board_lists.proofs.laws.two_moves_lead_away.Goals as goal

pub returns : goal.returns
returns c = two_lead_away
