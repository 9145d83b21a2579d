use Rattle.command_line.proofs.ParseLemmas.{adds_subcommand}
use Rattle.command_line.proofs.commands.program.Goals as goal

pub returns : goal.returns
returns c =
    let replay = adds_subcommand _ _ _ c.in_ok-subcommand.ensures c.in_ok-replaying.ensures.command c.in_ok-proving.ensures.command in
    record { command = adds_subcommand _ _ _ c.in_ok-command.ensures c.in_ok-listing.ensures.command replay; refused = tt }
