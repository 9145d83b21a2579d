use Rattle.certificate_check.proofs.parallel.may_be_open.Goals as goal

pub returns-then-is_closed_block : goal.returns-then-is_closed_block
returns-then-is_closed_block c = λ e. c.is_closed_block.ensures.0 c.if-is_closed_block.true
