use Rattle.std.proofs.Common.{subst}
use Rattle.worker_core.specs.Contexts.{ContextModel}
use Rattle.worker_core.specs.Serving.{StaysGuided}
use Rattle.worker_core.proofs.GuideLemmas.{stays_guided}
use Rattle.test_worlds.proofs.steps.meet.Goals as goal

pub returns : goal.returns
returns g c =
    let led = c.requires.led in
    let stays = stays_guided c.context_of-context.result c.args.worker.now.lists c.meet.new.self.lists c.meet.ensures.keeps.lists in
    let after = subst (λ (x : ContextModel _). StaysGuided x c.args.worker.now.lists c.meet.new.self.lists) c.context_of-context.ensures stays led.0 led.1 led.2 in
    record { led = (led.0, led.1, after) }
