use Rattle.std.proofs.Common.{Ok, Err, refl}
use Rattle.batch_cli.proofs.runner.flush_behind.Goals as goal

pub returns-in-Ok-clause-ended : goal.returns-in-Ok-clause-ended
returns-in-Ok-clause-ended g c = (Ok tt, c.in-Ok.ensures.flushes, refl)

pub returns-in-Err-clause-ended : goal.returns-in-Err-clause-ended
returns-in-Err-clause-ended g c = (Err c.in-Err.field-0, c.in-Err.ensures.flushes, c.unflushed.ensures c.in-Err.field-0)
