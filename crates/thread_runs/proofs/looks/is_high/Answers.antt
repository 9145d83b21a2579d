use Rattle.std.proofs.Common.{rules, ◌≡◌, None, refl}
use Rattle.worker_core.specs.Workers.{state_of}
use Rattle.thread_runs.proofs.WorldLemmas.{floor_high, no_floor}
use Rattle.thread_runs.proofs.looks.is_high.Goals as goal

pub returns-in_default-clause-high : goal.returns-in_default-clause-high
returns-in_default-clause-high g c = λ task guide is.
    let none : c.floor.result ≡ None = search rules in
    ((λ yes. no_floor task (state_of c.args.worker.now) c.floor.result c.args.limit (c.floor.ensures.floor task guide is) none), (λ high. refl))

pub returns-clause-high : goal.returns-clause-high
returns-clause-high g c = λ task guide is.
    let both = floor_high task (state_of c.args.worker.now) c.floor.result c.args.limit c.in-Some.least (c.floor.ensures.floor task guide is) c.in-Some.is in
    ((λ yes. both.0 (search (rules, yes))), (λ high. let le = both.1 high in search (rules, le)))
