use Rattle.std.proofs.Common.{rules, ◌≡◌, ℕ, ◌<◌, List, sym, subst}
use Rattle.std.specs.Prelude.{All, Vec}
use Rattle.std.specs.List.Sorted.{IsPermutation, IsNonDecreasingBy}
use Rattle.std.specs.declared.alloc.Global.{Global}
use Rattle.std.proofs.lemmas.List.Sorted.{IsNonDecreasingBy-from_sort, answers_always}
use Rattle.std.proofs.lemmas.Result.{IfOk-weaker}
use Rattle.board.specs.Shapes.{ShapeModel}
use Rattle.board.specs.Boards.{BoardModel}
use Rattle.board.specs.Keys.{HasKey}
use Rattle.world_model.specs.Outcomes.{AreRowsFor}
use Rattle.world_model.specs.Worlds.{WorldState}
use Rattle.world_ends.specs.declared.rows.KeyedRow.{KeyedRow}
use Rattle.world_ends.specs.Parts.{task_asked, states_of, HasParts}
use Rattle.world_ends.specs.Rows.{AreBoardsOf}
use Rattle.world_ends.proofs.RowLemmas.{boards_of_keys, rows_are_for}
use Rattle.world_ends.proofs.rows.rows_for.Goals as goal

pub with_boards-requires : goal.with_boards-requires
with_boards-requires g c =
    let task = task_asked c.args.asked.now in
    let states = states_of c.args.workers.now in
    let sorted = c.sort_unstable_by_key.new.self.items in
    let moved : IsPermutation c.in_ok-rows.rows.items sorted = c.sort_unstable_by_key.ensures.permutation in
    let after : c.deref.result.now ≡ sorted = c.deref.ensures.value in
    let all : All (λ (row : KeyedRow). (b : BoardModel) × HasKey task.goal.grid row.key b) sorted = boards_of_keys task c.args.cost states c.in_ok-rows.rows.items sorted c.in_ok-rows.ensures moved in
    let here : All (λ (row : KeyedRow). (b : BoardModel) × HasKey task.goal.grid row.key b) c.deref.result.now = subst (All (λ (row : KeyedRow). (b : BoardModel) × HasKey task.goal.grid row.key b)) (sym after) all in
    subst (λ (grid : ShapeModel). All (λ (row : KeyedRow). (b : BoardModel) × HasKey grid row.key b) c.deref.result.now) (sym c.shape.ensures.value) here

pub returns-clause-rows : goal.returns-clause-rows
returns-clause-rows g c =
    let task = task_asked c.args.asked.now in
    let states = states_of c.args.workers.now in
    let sorted = c.sort_unstable_by_key.new.self.items in
    let moved : IsPermutation c.in_ok-rows.rows.items sorted = c.sort_unstable_by_key.ensures.permutation in
    let after : c.deref.result.now ≡ sorted = c.deref.ensures.value in
    let low : c.of.result < c.args.cost = search rules in
    let start : task.sum task.start < c.args.cost = subst (λ (n : ℕ). n < c.args.cost) c.of.ensures.value low in
    let rising : IsNonDecreasingBy (λ (row : KeyedRow). row.key) sorted = IsNonDecreasingBy-from_sort (λ (row : KeyedRow). row.key) sorted (c.sort_unstable_by_key.ensures.sorted (λ (row : KeyedRow). row.key) (answers_always _ _ _ (λ f a r h k. search rules))) in
    IfOk-weaker c.with_boards.result (λ (named : Vec (BoardModel × ℕ) Global). AreBoardsOf c.shape.result c.deref.result.now named.items)
    (λ (rows : Vec (BoardModel × ℕ) Global). (owner_among : ℕ → BoardModel → ℕ) (w : WorldState) → HasParts task owner_among states w → AreRowsFor w c.args.cost rows.items)
    (λ named is owner_among w parts.
    let there : AreBoardsOf task.goal.grid c.deref.result.now named.items = subst (λ (grid : ShapeModel). AreBoardsOf grid c.deref.result.now named.items) c.shape.ensures.value is in
    rows_are_for task owner_among states w parts c.args.cost c.in_ok-rows.rows.items sorted named.items c.in_ok-rows.ensures moved rising
    (subst (λ (xs : List KeyedRow). AreBoardsOf task.goal.grid xs named.items) after there)
    start)
    c.with_boards.ensures
