use Rattle.clap.specs.Words.{found_of, rows_of}
use Rattle.command_line.proofs.ParseLemmas.{if_none, no_rows, no_cols}
use Rattle.command_line.proofs.values.shape_in.Goals as goal

pub returns-in_err-rows-clause-none : goal.returns-in_err-rows-clause-none
returns-in_err-rows-clause-none c = if_none _ _ (no_rows (rows_of (found_of c.args.matches.now)) c.in_err-rows.ensures.none)

pub returns-in_err-cols-clause-none : goal.returns-in_err-cols-clause-none
returns-in_err-cols-clause-none c = if_none _ _ (no_cols (rows_of (found_of c.args.matches.now)) c.in_err-cols.ensures.none)
