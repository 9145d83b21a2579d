use Rattle.batch_cli.proofs.LawLemmas.{certified_status, solved_status}
use Rattle.batch_cli.proofs.laws.statuses_tell_outputs.Goals as goal

pub returns-clause-solved : goal.returns-clause-solved
returns-clause-solved c = solved_status

pub returns-clause-certified : goal.returns-clause-certified
returns-clause-certified c = certified_status
