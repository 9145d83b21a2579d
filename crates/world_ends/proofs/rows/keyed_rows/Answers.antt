use Rattle.std.proofs.Common.{rules, ◌≡◌, ◌⊎◌, ℕ, ◌<◌, length, Some, refl, sym, ap, ◌∙◌, subst}
use Rattle.std.specs.Prelude.{slice_get, Contains, ◌↔◌}
use Rattle.std.proofs.lemmas.List.{length-map}
use Rattle.search_lists.specs.Lists.{SearchListsModel}
use Rattle.worker_core.specs.Workers.{state_of}
use Rattle.world_ends.specs.declared.rows.KeyedRow.{KeyedRow}
use Rattle.world_ends.specs.Parts.{task_asked, states_of}
use Rattle.world_ends.specs.Rows.{IsRowIn, IsOfBoards, AreElsewhere}
use Rattle.world_ends.proofs.PartLemmas.{state_at}
use Rattle.world_ends.proofs.RowLemmas.{AreRowsOfFirst, rows_of_one_more, rows_of_all, boards_are, rows_elsewhere}
use Rattle.world_ends.proofs.rows.keyed_rows.Goals as goal

pub add_rows-requires-clause-boards : goal.add_rows-requires-clause-boards
add_rows-requires-clause-boards g c =
    let task = task_asked c.args.asked.now in
    let states = states_of c.args.workers.now in
    let within : c.workers.worker-index < length c.args.workers.now = search rules in
    let worker = c.worker-item.result in
    let at : slice_get states c.workers.worker-index ≡ Some (state_of worker) = state_at c.args.workers.now states c.workers.worker-index worker refl within ∙ ap (λ x. Some (state_of x)) (sym c.worker-item.is) in
    subst (λ (lists : SearchListsModel). IsOfBoards task.goal.grid lists.closed.known) (sym c.lists.ensures)
    (boards_are task c.requires.world.0 states c.requires.world.1 c.requires.world.2 c.workers.worker-index (state_of worker) at)

pub add_rows-requires-clause-elsewhere : goal.add_rows-requires-clause-elsewhere
add_rows-requires-clause-elsewhere g c =
    let task = task_asked c.args.asked.now in
    let states = states_of c.args.workers.now in
    let within : c.workers.worker-index < length c.args.workers.now = search rules in
    let worker = c.worker-item.result in
    let at : slice_get states c.workers.worker-index ≡ Some (state_of worker) = state_at c.args.workers.now states c.workers.worker-index worker refl within ∙ ap (λ x. Some (state_of x)) (sym c.worker-item.is) in
    subst (λ (lists : SearchListsModel). AreElsewhere task.goal.grid c.workers.rows.items lists.closed.known) (sym c.lists.ensures)
    (rows_elsewhere task c.requires.world.0 states c.requires.world.1 c.requires.world.2 c.args.cost c.workers.worker-index (state_of worker) c.workers.rows.items at c.workers.invariant)

pub workers-preserved : goal.workers-preserved
workers-preserved g c =
    let task = task_asked c.args.asked.now in
    let states = states_of c.args.workers.now in
    let within : c.workers.worker-index < length c.args.workers.now = search rules in
    let worker = c.worker-item.result in
    let at : slice_get states c.workers.worker-index ≡ Some (state_of worker) = state_at c.args.workers.now states c.workers.worker-index worker refl within ∙ ap (λ x. Some (state_of x)) (sym c.worker-item.is) in
    let rows = c.workers.rows.items in
    let more = c.add_rows.new.rows.items in
    let each : (row : KeyedRow) → Contains more row ↔ (Contains rows row ⊎ IsRowIn task c.args.cost (state_of worker).known row) = subst (λ (lists : SearchListsModel). (row : KeyedRow) → Contains more row ↔ (Contains rows row ⊎ IsRowIn task c.args.cost lists.closed.known row)) c.lists.ensures c.in_ok-add_rows.ensures.each in
    rows_of_one_more task c.args.cost states c.workers.worker-index (state_of worker) rows more at c.workers.invariant c.in_ok-add_rows.ensures.apart each

pub returns : goal.returns
returns g c =
    let task = task_asked c.args.asked.now in
    let states = states_of c.args.workers.now in
    let ended : c.workers.worker-index ≡ length c.args.workers.now = search rules in
    let e : c.workers.worker-index ≡ length states = simp length-map ended in
    rows_of_all task c.args.cost states c.workers.rows.items (subst (λ (n : ℕ). AreRowsOfFirst task c.args.cost states n c.workers.rows.items) e c.workers.invariant)
