use Rattle.setup_runs.proofs.SolvingLemmas.{may_prove}
use Rattle.setup_runs.proofs.certifying.fn.run_cert.prove.Goals as goal

pub returns : goal.returns
returns g c = let found = c.answer_board.ensures in may_prove c.captures.setup.now c.args.start.now c.answer_board.result found.parity found.run found.answers found.kept
