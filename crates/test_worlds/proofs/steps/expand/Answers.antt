use Rattle.std.proofs.Common.{rules, subst, sym}
use Rattle.worker_core.specs.Contexts.{ContextModel}
use Rattle.worker_core.specs.Serving.{Serves, StaysGuided}
use Rattle.test_worlds.proofs.steps.expand.Goals as goal

pub expand-requires-clause-serves : goal.expand-requires-clause-serves
expand-requires-clause-serves g c κs within =
    let led = c.requires.led in
    subst (λ (x : ContextModel g.row.S.Denot). Serves x c.args.worker.now) (sym c.context_of-context.ensures) (record { workers = search rules; guided = led })

pub returns : goal.returns
returns g c =
    let led = c.requires.led in
    let stays = c.expand.ensures.keeps.guided in
    let after = subst (λ (x : ContextModel g.row.S.Denot). StaysGuided x c.args.worker.now.lists c.expand.new.self.lists) c.context_of-context.ensures stays led.0 led.1 led.2 in
    record { led = (led.0, led.1, after) }
