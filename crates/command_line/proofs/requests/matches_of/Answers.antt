use Rattle.std.proofs.Common.{rules, map, string_bytes}
use Rattle.command_line.specs.Commands.{AreChoices}
use Rattle.command_line.proofs.ParseLemmas.{matches_say, error_says, refused_says}
use Rattle.command_line.proofs.requests.matches_of.Goals as goal

pub returns-in_err-program-clause-fault : goal.returns-in_err-program-clause-fault
returns-in_err-program-clause-fault c =
    let spreads = c.as_slice.result in
    let choices : AreChoices spreads = search rules in
    refused_says spreads choices (map string_bytes c.args.words.now) c.in_err-program.field-0.0 c.in_err-program.ensures.refused c.from_residual.result c.from_residual.ensures.1

pub returns-clause-matches : goal.returns-clause-matches
returns-clause-matches c =
    let spreads = c.as_slice.result in
    let choices : AreChoices spreads = search rules in
    matches_say spreads choices _ c.in_ok-program.ensures.command.parse (map string_bytes c.args.words.now) c.try_get_matches_from.result c.try_get_matches_from.ensures.matches c.try_get_matches_from.ensures.kinds

pub returns-clause-fault : goal.returns-clause-fault
returns-clause-fault c =
    let spreads = c.as_slice.result in
    let choices : AreChoices spreads = search rules in
    error_says spreads choices _ c.in_ok-program.ensures.command.parse (map string_bytes c.args.words.now) c.try_get_matches_from.result c.try_get_matches_from.ensures.kinds
