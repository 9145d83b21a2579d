use Rattle.std.proofs.Common.{◌∙◌}
use Rattle.batch_lines.proofs.TextLemmas.{group_read, fault_read}
use Rattle.batch_lines.proofs.groups.read_group.Goals as goal

pub returns-clause-group : goal.returns-clause-group
returns-clause-group c =
    group_read c.args.shape c.args.text.now c.as_slice.result.now c.new.result c.cells.ensures.sides (c.as_slice.ensures.value ∙ c.group_numbers_in-numbers.ensures) c.new.ensures.accepted.0 c.new.ensures.grid c.new.ensures.tiles c.new.ensures.group

pub returns-clause-fault : goal.returns-clause-fault
returns-clause-fault c = fault_read c.args.shape c.args.text.now c.as_slice.result.now c.new.result c.cells.ensures.sides (c.as_slice.ensures.value ∙ c.group_numbers_in-numbers.ensures) c.new.ensures.fault
