use Rattle.command_line.proofs.ParseLemmas.{read_as}
use Rattle.command_line.proofs.commands.upgrading.Goals as goal

pub returns : goal.returns
returns c = c.with_help.ensures _ (read_as c.new-command.ensures.app c.new-command.ensures.local)
