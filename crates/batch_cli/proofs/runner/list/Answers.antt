use Rattle.std.proofs.Common.{Ok, Err, refl}
use Rattle.batch_cli.proofs.runner.list.Goals as goal

pub returns-in-Ok : goal.returns-in-Ok
returns-in-Ok g c = (Ok tt, c.in-Ok.ensures.lists, refl)

pub returns-in-Err : goal.returns-in-Err
returns-in-Err g c = (Err c.in-Err.field-0, c.in-Err.ensures.lists, refl)
