use Rattle.std.proofs.Common.{◌∙◌}
use Rattle.command_line.proofs.ParseLemmas.{adds_rule, parses}
use Rattle.command_line.proofs.commands.listing.Goals as goal

pub returns : goal.returns
returns c =
    let home = adds_rule _ _ _ c.in_ok-arg.ensures c.option.ensures.local c.option.ensures.rule c.in_ok-sided.ensures.command in
    let count = adds_rule _ _ _ c.in_ok-arg-2.ensures c.count.ensures.local c.count.ensures.rule home in
    let seed = adds_rule _ _ _ c.in_ok-arg-3.ensures (c.parsed.ensures.local ∙ c.option-2.ensures.local) (parses _ _ _ _ c.parsed.ensures.rule c.option-2.ensures.rule) count in
    let moves = adds_rule _ _ _ c.in_ok-arg-4.ensures c.count-2.ensures.local c.count-2.ensures.rule seed in
    let all = adds_rule _ _ _ c.in_ok-command.ensures c.flag.ensures.local c.flag.ensures.rule moves in
    record { command = c.with_help.ensures _ all; refused = tt }
