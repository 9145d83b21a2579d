use Rattle.command_line.proofs.commands.replaying.Goals as goal

pub returns : goal.returns
returns c = record { command = c.with_help.ensures _ c.in_ok-command.ensures.command; refused = tt }
