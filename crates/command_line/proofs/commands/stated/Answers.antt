use Rattle.command_line.proofs.ParseLemmas.{adds_rule}
use Rattle.command_line.proofs.commands.stated.Goals as goal

pub returns : goal.returns
returns c =
    let cost = adds_rule _ _ _ c.in_ok-arg.ensures c.text.ensures.local c.text.ensures.rule c.in_ok-sided.ensures.command in
    let home = adds_rule _ _ _ c.in_ok-arg-2.ensures c.option.ensures.local c.option.ensures.rule cost in
    let groups = adds_rule _ _ _ c.in_ok-arg-3.ensures c.option-2.ensures.local c.option-2.ensures.rule home in
    record { command = adds_rule _ _ _ c.in_ok-command.ensures c.flag.ensures.local c.flag.ensures.rule groups; refused = tt }
