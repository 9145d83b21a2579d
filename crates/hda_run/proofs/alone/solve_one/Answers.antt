use Rattle.hda_run.proofs.LawLemmas.{outcome_kept}
use Rattle.hda_run.proofs.alone.solve_one.Goals as goal

pub returns-clause-kept : goal.returns-clause-kept
returns-clause-kept g c = outcome_kept c.read_one.result c.read_one.ensures.kept
