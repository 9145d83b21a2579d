use Rattle.std.proofs.Common.{sym, ap, ◌∙◌, subst}
use Rattle.board.specs.Boards.{BoardModel}
use Rattle.lower_bound.specs.Bounds.{sum_of}
use Rattle.lower_bound.specs.Tables.{BoundModel, parts_of}
use Rattle.outcomes.specs.Outcomes.{Task}
use Rattle.world_model.specs.Books.{BookState}
use Rattle.worker_core.specs.Roles.{guide_of}
use Rattle.world_ends.specs.Parts.{AreWorkersGuided, HasParts, states_of}
use Rattle.hda_run.specs.Jobs.{task_in}
use Rattle.thread_runs.proofs.WorldLemmas.{items_left, lowest_left, same_task}
use Rattle.thread_runs.proofs.outcome.outcome_with.Goals as goal

pub lowest_in_rows-lanes-requires-after_bounds : goal.lowest_in_rows-lanes-requires-after_bounds
lowest_in_rows-lanes-requires-after_bounds g c κs within =
    let w = c.requires.1 in
    let is = c.requires.2 in
    items_left w g.C.Tokens.workers c.args.ins.items is.lanes is.widths c.bound.result.now.split.grid is.parts.shaped (c.bound.ensures.sides ∙ ap (λ (t : Task). t.goal.grid) (sym is.parts.asks))

pub read-requires-after_bounds : goal.read-requires-after_bounds
read-requires-after_bounds g c κs within =
    let p = c.args.search.now.job in
    let asked = c.asked_in-asked in
    let same = same_task p asked.result.start asked.result.goal asked.result.weights asked.result.bound.now asked.ensures.start asked.ensures.goal asked.ensures.weights asked.ensures.bound in
    record {
      sides = ap (λ (tables : BoundModel). tables.split.grid) (asked.ensures.bound ∙ sym c.bound.ensures.value) ∙ c.bound.ensures.sides ∙ ap (λ (b : BoardModel). b.grid) (sym asked.ensures.goal);
      guide = guide_of (task_in p);
      guided = subst (λ (task : Task). AreWorkersGuided task (guide_of (task_in p)) c.args.workers.now) (sym same) c.requires.2.guided;
      world = c.requires.1;
      parts = subst (λ (task : Task). HasParts task (g.S.Spread.owner_of c.args.search.now.owners.now) (states_of c.args.workers.now) c.requires.1) (sym same) c.requires.2.parts;
    }

pub returns-clause-given : goal.returns-clause-given
returns-clause-given g c = λ book w is stop.
    let p = c.args.search.now.job in
    let asked = c.asked_in-asked in
    let same = same_task p asked.result.start asked.result.goal asked.result.weights asked.result.bound.now asked.ensures.start asked.ensures.goal asked.ensures.weights asked.ensures.bound in
    let sums = ap (λ (tables : BoundModel). sum_of (parts_of tables)) c.bound.ensures.value ∙ ap (λ (t : Task). t.sum) (sym is.parts.asks) in
    c.read.ensures.given w (record {
      parts = subst (λ (task : Task). HasParts task (g.S.Spread.owner_of c.args.search.now.owners.now) (states_of c.args.workers.now) w) (sym same) is.parts;
      lanes = lowest_left w g.C.Tokens.workers c.args.ins.items is.lanes is.widths (sum_of (parts_of c.bound.result.now)) c.lowest_in_rows-lanes.result sums c.lowest_in_rows-lanes.ensures;
      stop = ap (λ (b : BookState). b.stop) is.book_is ∙ stop;
    })
