use Rattle.std.proofs.Common.{rules, ◌≡◌, ℕ, ◌<◌, length, ◌∙◌, subst}
use Rattle.std.specs.Prelude.{slice_index_or}
use Rattle.std.proofs.lemmas.List.{length-map}
use Rattle.std.proofs.lemmas.List.Elements.{All-set}
use Rattle.std.proofs.Math.Seq.{map-set_same}
use Rattle.worker_core.specs.Workers.{state_of}
use Rattle.worker_core.specs.Roles.{IsGuided}
use Rattle.world_ends.specs.Parts.{task_asked, states_of}
use Rattle.world_ends.specs.Lowest.{IsLeastBeside}
use Rattle.world_ends.proofs.PartLemmas.{IsOfWorkersUpTo, worker_more, all_workers, state_at}
use Rattle.world_ends.proofs.lowest.lowest_of_workers.Goals as goal

pub lowest_of_worker-least-requires-clause-items : goal.lowest_of_worker-least-requires-clause-items
lowest_of_worker-least-requires-clause-items g c κs lives =
    let within : c.workers.i < length c.workers.workers = search rules in
    let d = c.index-workers-i.result in
    c.requires.items c.workers.i (state_of (slice_index_or c.workers.workers c.workers.i d)) (state_at c.workers.workers (states_of c.args.workers.now) c.workers.i d c.workers.invariant.same within)

pub workers-preserved : goal.workers-preserved
workers-preserved g c =
    let task = task_asked c.args.asked.now in
    let states = states_of c.args.workers.now in
    let within : c.workers.i < length c.workers.workers = search rules in
    let d = c.index-workers-i.result in
    let at = state_at c.workers.workers states c.workers.i d c.workers.invariant.same within in
    let done = c.lowest_of_worker-least.ensures in
    record {
      same = map-set_same state_of c.workers.workers c.workers.i c.lowest_of_worker-least.new.worker d done.same ∙ c.workers.invariant.same;
      least = λ guide is.
          let before = c.workers.invariant.least guide is in
          let here = before.0 c.workers.i d within in (
            All-set (λ worker. IsGuided task guide worker.lists) c.workers.workers c.workers.i c.lowest_of_worker-least.new.worker (done.guided guide here) before.0,
            worker_more task states c.workers.i (state_of (slice_index_or c.workers.workers c.workers.i d)) c.args.lowest c.workers.least c.lowest_of_worker-least.result at before.1 (done.least guide here),
          );
    }

pub returns-clause-least : goal.returns-clause-least
returns-clause-least g c = λ guide is.
    let task = task_asked c.args.asked.now in
    let states = states_of c.args.workers.now in
    let ended : c.workers.i ≡ length c.args.workers.now = search rules in
    let e : c.workers.i ≡ length states = simp length-map ended in
    all_workers task states c.args.lowest c.workers.least (subst (λ (k : ℕ). IsLeastBeside (IsOfWorkersUpTo k task states) c.args.lowest c.workers.least) e (c.workers.invariant.least guide is).1)
