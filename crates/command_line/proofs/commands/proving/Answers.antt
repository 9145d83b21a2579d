use Rattle.command_line.proofs.ParseLemmas.{adds_subcommand}
use Rattle.command_line.proofs.commands.proving.Goals as goal

pub returns : goal.returns
returns c =
    let solve = adds_subcommand _ _ _ c.in_ok-subcommand.ensures c.in_ok-solving.ensures.command c.in_ok-top.ensures.command in
    let check = adds_subcommand _ _ _ c.in_ok-subcommand-2.ensures c.checking.ensures solve in
    let show = adds_subcommand _ _ _ c.in_ok-subcommand-3.ensures c.in_ok-showing.ensures.command check in
    record { command = adds_subcommand _ _ _ c.in_ok-command.ensures c.upgrading.ensures show; refused = tt }
