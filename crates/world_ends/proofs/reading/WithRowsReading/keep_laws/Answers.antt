use Rattle.std.proofs.Common.{refl}
use Rattle.world_ends.proofs.PartLemmas.{given_bounds}
use Rattle.world_ends.proofs.reading.WithRowsReading.keep_laws.Goals as goal

pub returns : goal.returns
returns c = record { answers = c.outcomes_answer.ensures.answers; bounds = given_bounds; parity = λ task. ((λ x. x), (λ x. x)); end = refl }
