use Rattle.std.proofs.Common.{rules, arith, ◌<◌, ◌≤◌, length, refl}
use Rattle.std.proofs.lemmas.List.{length-map}
use Rattle.worker_core.specs.Workers.{state_of}
use Rattle.world_ends.specs.Parts.{states_of}
use Rattle.world_ends.proofs.PartLemmas.{state_at}
use Rattle.std.specs.Prelude.{slice_index_or}
use Rattle.thread_runs.proofs.WorldLemmas.{states_kept, guided_kept, high_at, high_more, high_all}
use Rattle.thread_runs.proofs.looks.are_high.Goals as goal

pub workers-preserved : goal.workers-preserved
workers-preserved g c =
    let states = states_of c.args.workers.now in
    let xs = c.workers.workers in
    let i = c.workers.i in
    let inv = c.workers.invariant in
    let e = c.is_high.ensures in
    let new = c.is_high.new.worker in
    let within : i < length xs = search rules in
    let d = c.index-workers-i.result in
    let at = state_at xs states i d inv.same within in
    record {
      same = states_kept xs i d new states inv.same e.same;
      guided = λ task guide is. guided_kept xs i d new task guide within (e.guided task guide) (inv.guided task guide is);
      high = λ task guide is. high_more task c.args.limit states i (state_of (slice_index_or xs i d)) at ((c.is_high.ensures.high task guide (inv.guided task guide is i d within)).0 (search rules)) (inv.high task guide is);
    }

pub returns-clause-high : goal.returns-clause-high
returns-clause-high g c = λ task guide is.
    let ended : length c.args.workers.now ≤ c.workers.i = search rules in (
      (λ yes. high_all task c.args.limit (states_of c.args.workers.now) c.workers.i (omega (arith, ended, length-map c.args.workers.now (λ worker. state_of worker))) (c.workers.invariant.high task guide is)),
      (λ all. refl),
    )

pub returns-then-not-is_high-clause-same : goal.returns-then-not-is_high-clause-same
returns-then-not-is_high-clause-same g c = states_kept c.workers.workers c.workers.i c.index-workers-i.result c.is_high.new.worker (states_of c.args.workers.now) c.workers.invariant.same c.is_high.ensures.same

pub returns-then-not-is_high-clause-guided : goal.returns-then-not-is_high-clause-guided
returns-then-not-is_high-clause-guided g c = λ task guide is.
    let within : c.workers.i < length c.workers.workers = search rules in
    guided_kept c.workers.workers c.workers.i c.index-workers-i.result c.is_high.new.worker task guide within (c.is_high.ensures.guided task guide) (c.workers.invariant.guided task guide is)

pub returns-then-not-is_high-clause-high : goal.returns-then-not-is_high-clause-high
returns-then-not-is_high-clause-high g c = λ task guide is.
    let states = states_of c.args.workers.now in
    let xs = c.workers.workers in
    let i = c.workers.i in
    let inv = c.workers.invariant in
    let d = c.index-workers-i.result in
    let within : i < length xs = search rules in
    let at = state_at xs states i d inv.same within in (
      (λ yes. absurd (cc yes)),
      (λ all.
          let high = (c.is_high.ensures.high task guide (inv.guided task guide is i d within)).1 (high_at task c.args.limit states i (state_of (slice_index_or xs i d)) at all) in
          absurd (search (rules, high))),
    )
