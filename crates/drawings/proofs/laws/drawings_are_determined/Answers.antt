use Rattle.drawings.proofs.StepLemmas.{one_drawing, claim_said}
use Rattle.drawings.proofs.laws.drawings_are_determined.Goals as goal

pub returns : goal.returns
returns c = record { texts = one_drawing; files = claim_said }
