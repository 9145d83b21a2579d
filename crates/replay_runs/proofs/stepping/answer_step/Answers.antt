use Rattle.std.proofs.Common.{None, refl}
use Rattle.world_model.specs.Turns.{refusal_in}
use Rattle.replay_runs.proofs.stepping.answer_step.Goals as goal

pub returns-in-Some-clause-reply : goal.returns-in-Some-clause-reply
returns-in-Some-clause-reply g c = rw c.in-Some.is (refusal_in c.step-answer.result, c.step-answer.ensures, rw c.answer_word.ensures at c.tell.ensures.writes)

pub returns-in-None-clause-reply : goal.returns-in-None-clause-reply
returns-in-None-clause-reply g c = rw c.in-None.is (None, refl, c.tell-in-None.ensures.writes)
