use Rattle.std.proofs.Common.{refl}
use Rattle.world_ends.proofs.PartLemmas.{ends_answer, ends_bounds}
use Rattle.world_ends.proofs.reading.WithFiguresReading.keep_laws.Goals as goal

pub returns : goal.returns
returns c = record { answers = λ w answer shaped sound quiet lower given. ends_answer c.outcomes_answer.ensures.answers w answer.ending shaped sound quiet lower given.0; bounds = λ w answer gives. ends_bounds w answer.ending gives.0; parity = λ task. ((λ x. x), (λ x. x)); end = refl }
