use Rattle.worker_core.specs.Roles.{task_of}
use Rattle.golden_steps.proofs.steps.trial.Trial.rest.Goals as goal

pub invariant_of-self : goal.invariant_of-self
invariant_of-self g c =
    let job = c.self.inside.job in
    let led = c.self.invariant.1 in
    (c.self.invariant.0, (led.0, led.1, c.rest.ensures.keeps.guided (task_of led.0 job.goal job.weights job.bound) led.1 led.2))
