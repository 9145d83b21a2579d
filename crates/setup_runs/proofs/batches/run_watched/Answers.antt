use Rattle.setup_runs.proofs.SolvingLemmas.{setup_truthful}
use Rattle.setup_runs.proofs.batches.run_watched.Goals as goal

pub returns-clause-truth : goal.returns-clause-truth
returns-clause-truth g c = c.run_lines.ensures.truth (setup_truthful c.args.setup.now)
