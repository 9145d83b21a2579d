use Rattle.thread_runs.proofs.WorldLemmas.{joined_answers, no_list_stops}
use Rattle.thread_runs.proofs.joined_laws.joined_worlds_answer.Goals as goal

pub returns : goal.returns
returns g c = record { answers = joined_answers g.A.Reading.gives g.A.Reading.answers c.keep_laws.ensures.answers; no_list = no_list_stops }
