use Rattle.clap.specs.Words.{found_of, rows_of}
use Rattle.command_line.proofs.ParseLemmas.{if_none, no_workers}
use Rattle.command_line.proofs.values.workers_in.Goals as goal

pub returns-in_err-workers-clause-none : goal.returns-in_err-workers-clause-none
returns-in_err-workers-clause-none c = if_none _ _ (no_workers (rows_of (found_of c.args.matches.now)) c.in_err-workers.ensures.none)
