use Rattle.batch_cli.proofs.LawLemmas.{endings_seen}
use Rattle.batch_cli.proofs.laws.endings_are_seen.Goals as goal

pub returns : goal.returns
returns c = endings_seen
