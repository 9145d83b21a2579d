use Rattle.std.proofs.Common.{string_bytes}
use Rattle.clap.specs.Words.{subcommand_rows_of}
use Rattle.command_line.proofs.ParseLemmas.{text_asks, text_fails, run_asks, run_fails}
use Rattle.command_line.proofs.requests.read_words.Goals as goal

pub returns-in-Err-matches_of-clause-request : goal.returns-in-Err-matches_of-clause-request
returns-in-Err-matches_of-clause-request c = text_asks string_bytes c.args.words.now c.if-is_empty.ensures c.in-Err-matches_of.error c.in-Err-matches_of.ensures.fault c.unmatched.result c.unmatched.ensures.request

pub returns-in-Err-matches_of-clause-refusal : goal.returns-in-Err-matches_of-clause-refusal
returns-in-Err-matches_of-clause-refusal c = text_fails string_bytes c.args.words.now c.if-is_empty.ensures c.in-Err-matches_of.error c.in-Err-matches_of.ensures.fault c.unmatched.result c.unmatched.ensures.refusal

pub returns-clause-request : goal.returns-clause-request
returns-clause-request c = run_asks string_bytes c.args.words.now c.if-is_empty.ensures (subcommand_rows_of c.in-Ok-matches_of.matches) c.in-Ok-matches_of.ensures.matches c.run_in.result c.run_in.ensures.request

pub returns-clause-refusal : goal.returns-clause-refusal
returns-clause-refusal c = run_fails string_bytes c.args.words.now c.if-is_empty.ensures (subcommand_rows_of c.in-Ok-matches_of.matches) c.in-Ok-matches_of.ensures.matches c.run_in.result c.run_in.ensures.refusal
