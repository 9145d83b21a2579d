use Rattle.std.proofs.Common.{refl}
use Rattle.world_ends.proofs.PartLemmas.{ends_answer, ends_bounds}
use Rattle.world_ends.proofs.reading.WithoutRowsReading.keep_laws.Goals as goal

pub returns : goal.returns
returns c = record { answers = ends_answer c.outcomes_answer.ensures.answers; bounds = ends_bounds; parity = λ task. ((λ x. x), (λ x. x)); end = refl }
