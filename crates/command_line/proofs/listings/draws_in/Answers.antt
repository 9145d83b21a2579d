use Rattle.clap.specs.Words.{found_of, rows_of}
use Rattle.command_line.proofs.ParseLemmas.{if_none, no_draws, no_seed, no_moves}
use Rattle.command_line.proofs.listings.draws_in.Goals as goal

pub returns-in_err-count-clause-none : goal.returns-in_err-count-clause-none
returns-in_err-count-clause-none c = if_none _ _ (no_draws (rows_of (found_of c.args.matches.now)) c.requires c.in_err-count.ensures.none)

pub returns-in_err-seed-clause-none : goal.returns-in_err-seed-clause-none
returns-in_err-seed-clause-none c = if_none _ _ (no_seed (rows_of (found_of c.args.matches.now)) c.requires c.in_err-seed.ensures.none)

pub returns-in_err-moves-clause-none : goal.returns-in_err-moves-clause-none
returns-in_err-moves-clause-none c = if_none _ _ (no_moves (rows_of (found_of c.args.matches.now)) c.requires c.if-is_left_out.ensures c.in_err-moves.ensures.none)
