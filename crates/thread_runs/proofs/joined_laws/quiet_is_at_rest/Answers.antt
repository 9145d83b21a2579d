use Rattle.thread_runs.proofs.WorldLemmas.{no_credit, still, grants_counted}
use Rattle.thread_runs.proofs.joined_laws.quiet_is_at_rest.Goals as goal

pub returns : goal.returns
returns c = record { credit = no_credit; still = still; granted = grants_counted }
