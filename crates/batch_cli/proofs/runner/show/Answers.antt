use Rattle.std.proofs.Common.{Ok, Err, refl}
use Rattle.batch_cli.proofs.runner.show.Goals as goal

pub returns-in-Ok : goal.returns-in-Ok
returns-in-Ok g c = (Ok tt, rw c.as_bytes.ensures.value at c.in-Ok.ensures, refl)

pub returns-in-Err : goal.returns-in-Err
returns-in-Err g c = (Err c.in-Err.field-0, rw c.as_bytes.ensures.value at c.in-Err.ensures, refl)
