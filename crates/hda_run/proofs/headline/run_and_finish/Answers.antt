use Rattle.std.proofs.Common.{◌∙◌}
use Rattle.hda_run.proofs.LawLemmas.{truth_of}
use Rattle.hda_run.proofs.headline.run_and_finish.Goals as goal

pub returns-clause-truth : goal.returns-clause-truth
returns-clause-truth g c = truth_of c.args.job c.run_steps.result.job c.finish.result (c.run_steps.ensures.job ∙ c.in_ok-world.ensures.job) c.finish.ensures.answers
