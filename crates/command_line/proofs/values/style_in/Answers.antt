use Rattle.clap.specs.Words.{found_of, rows_of}
use Rattle.command_line.proofs.ParseLemmas.{if_none, no_seconds, no_width}
use Rattle.command_line.proofs.values.style_in.Goals as goal

pub returns-in_err-seconds-clause-none : goal.returns-in_err-seconds-clause-none
returns-in_err-seconds-clause-none c = if_none _ _ (no_seconds (rows_of (found_of c.args.matches.now)) c.if-is_set.ensures c.in_err-seconds.ensures.none)

pub returns-in_err-width-clause-none : goal.returns-in_err-width-clause-none
returns-in_err-width-clause-none c = if_none _ _ (no_width (rows_of (found_of c.args.matches.now)) c.if-is_set.ensures c.in_err-width.ensures.none)
