use Rattle.std.proofs.Common.{◌≡◌, ℕ, List, Option, ap, ◌∙◌, subst}
use Rattle.std.specs.Prelude.{Contains}
use Rattle.world_model.specs.declared.parts.Item.{Item}
use Rattle.world_model.specs.Workers.{WorkerState}
use Rattle.worker_core.specs.Workers.{state_of}
use Rattle.world_ends.specs.Parts.{task_asked}
use Rattle.world_ends.specs.Lowest.{IsLeastBeside, IsOfItem, IsOfUnsent}
use Rattle.world_ends.proofs.PartLemmas.{worker_is}
use Rattle.world_ends.proofs.lowest.lowest_of_worker.Goals as goal

pub lowest_of-least-requires : goal.lowest_of-least-requires
lowest_of-least-requires g c = λ item has.
    let same : c.held.result.now ≡ (state_of c.args.worker.now).held = c.held.ensures ∙ ap (λ (s : WorkerState). s.held) c.floor-floor.ensures.same in
    c.requires.items.held item (subst (λ (items : List Item). Contains items item) same has)

pub returns-clause-least : goal.returns-clause-least
returns-clause-least g c = λ guide is.
    let task = task_asked c.args.asked.now in
    let worker = state_of c.args.worker.now in
    let same : c.held.result.now ≡ worker.held = c.held.ensures ∙ ap (λ (s : WorkerState). s.held) c.floor-floor.ensures.same in
    let held : IsLeastBeside (IsOfItem task.sum worker.held) c.lesser-least.result c.lowest_of-least.result = subst (λ (items : List Item). IsLeastBeside (IsOfItem task.sum items) c.lesser-least.result c.lowest_of-least.result) same c.lowest_of-least.ensures in
    let unsent : IsLeastBeside (IsOfUnsent task.sum worker) c.lowest_of-least.result c.lowest_unsent.result = subst (λ (s : WorkerState). IsLeastBeside (IsOfUnsent task.sum s) c.lowest_of-least.result c.lowest_unsent.result) c.floor-floor.ensures.same c.lowest_unsent.ensures in
    worker_is task worker c.floor-floor.result c.args.lowest c.lowest_of-least.result c.lowest_unsent.result (c.floor-floor.ensures.floor task guide is)
    (subst (λ (o : Option ℕ). IsLeastBeside (IsOfItem task.sum worker.held) o c.lowest_of-least.result) c.lesser-least.ensures held)
    unsent

pub returns-clause-guided : goal.returns-clause-guided
returns-clause-guided g c = λ guide is. c.floor-floor.ensures.guided (task_asked c.args.asked.now) guide is
