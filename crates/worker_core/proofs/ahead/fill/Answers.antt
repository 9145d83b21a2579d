use Rattle.worker_core.proofs.BackLemmas.{adds_up}
use Rattle.worker_core.proofs.ahead.fill.Goals as goal

pub make_batch-requires-clause-adds : goal.make_batch-requires-clause-adds
make_batch-requires-clause-adds g c =
    let guided = c.requires.guided in
    adds_up c.args.context.now guided.0 guided.1 c.args.lists.now guided.2 c.args.next c.requires.waits c.requires.low
