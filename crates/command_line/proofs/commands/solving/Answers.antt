use Rattle.command_line.proofs.ParseLemmas.{adds_rule}
use Rattle.command_line.proofs.commands.solving.Goals as goal

pub returns : goal.returns
returns c =
    let cert = adds_rule _ _ _ c.in_ok-arg.ensures c.flag.ensures.local c.flag.ensures.rule c.in_ok-puzzle.ensures.command in
    let progress = adds_rule _ _ _ c.in_ok-arg-2.ensures c.flag-2.ensures.local c.flag-2.ensures.rule cert in
    let stats = adds_rule _ _ _ c.in_ok-command.ensures c.flag-3.ensures.local c.flag-3.ensures.rule progress in
    record { command = c.with_help.ensures _ stats; refused = tt }
