use Rattle.replay_runs.proofs.ReadLemmas.{long_said, step_said}
use Rattle.replay_runs.proofs.stepping.step_in.Goals as goal

pub returns-in_default : goal.returns-in_default
returns-in_default c = λ refusal. long_said c.args.kind c.args.bytes.now c.requires c.in_default.not-Within

pub returns : goal.returns
returns c = λ refusal. step_said c.args.kind c.args.bytes.now c.read_step.result refusal c.in-Within.is c.read_step.ensures
