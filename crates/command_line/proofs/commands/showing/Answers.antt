use Rattle.std.proofs.Common.{◌∙◌}
use Rattle.command_line.proofs.ParseLemmas.{adds_rule, parses, read_as}
use Rattle.command_line.proofs.commands.showing.Goals as goal

pub returns : goal.returns
returns c =
    let bare = read_as c.new.ensures.app c.new.ensures.local in
    let width = adds_rule _ _ _ c.in_ok-arg.ensures (c.parsed.ensures.local ∙ c.option.ensures.local) (parses _ _ _ _ c.parsed.ensures.rule c.option.ensures.rule) bare in
    let svg = adds_rule _ _ _ c.in_ok-arg-2.ensures c.flag.ensures.local c.flag.ensures.rule width in
    let seconds = adds_rule _ _ _ c.in_ok-command.ensures (c.parsed-2.ensures.local ∙ c.option-2.ensures.local) (parses _ _ _ _ c.parsed-2.ensures.rule c.option-2.ensures.rule) svg in
    record { command = c.with_help.ensures _ seconds; refused = tt }
