use Rattle.std.proofs.Common.{sym, ◌∙◌, rules}
use Rattle.std.proofs.lemmas.Bool.{true≢false}
use Rattle.clap.specs.Words.{subcommand_rows_of}
use Rattle.command_line.proofs.ParseLemmas.{others_fail, names_agree}
use Rattle.command_line.proofs.matches.run_in.Goals as goal

pub returns-clause-refusal : goal.returns-clause-refusal
returns-clause-refusal c =
    let name = sym (names_agree c.args.matches.now) in
    others_fail (subcommand_rows_of c.args.matches.now) (search rules) (search rules) (search rules) (search rules) (λ is. true≢false (sym (c.subcommand_matches-5.ensures.found.1 (name ∙ is)) ∙ sym c.if-is_some.ensures)) (λ is. true≢false (sym (c.subcommand_matches-6.ensures.found.1 (name ∙ is)) ∙ sym c.if-is_some-2.ensures))
