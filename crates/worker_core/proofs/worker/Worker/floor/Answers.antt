use Rattle.std.proofs.Common.{refl}
use Rattle.worker_core.specs.Workers.{state_of}
use Rattle.worker_core.proofs.GuideLemmas.{same_floor}
use Rattle.worker_core.proofs.worker.Worker.floor.Goals as goal

pub returns-clause-floor : goal.returns-clause-floor
returns-clause-floor g c = λ task guide is. same_floor task guide c.args.self.now.lists (state_of c.args.self.now) refl is c.floor.result (c.floor.ensures.floor guide is.order)
