use Rattle.std.proofs.Common.{refl}
use Rattle.std.specs.Fmt.{digits}
use Rattle.drawings.proofs.laws.texts_are_these.Goals as goal

pub returns : goal.returns
unfolding digits
returns c = record { plan = refl; bound = refl }
