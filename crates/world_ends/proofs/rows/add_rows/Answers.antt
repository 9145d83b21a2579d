use Rattle.std.proofs.Common.{rules, ◌≡◌, ℕ, ◌+◌, ◌<◌, ◌≤◌, length, sym, subst, ⊎_elim}
use Rattle.std.proofs.lemmas.Bool.{cases_lt}
use Rattle.board.specs.Shapes.{ShapeModel}
use Rattle.search_keys.specs.SearchKeys.{HasSearchKey}
use Rattle.world_ends.specs.Parts.{task_asked}
use Rattle.world_ends.proofs.RowLemmas.{AreRowsUpTo, read_at, row_left_out, row_added, all_rows_in}
use Rattle.world_ends.proofs.rows.add_rows.Goals as goal

pub boards-preserved : goal.boards-preserved
boards-preserved c =
    let task = task_asked c.args.asked.now in
    let k = c.args.cost in
    let closed = c.args.lists.now.closed in
    let old = c.args.rows.now.items in
    let n = c.boards.place in
    let key = c.at-key.result.0 in
    let known = c.at-key.result.1 in
    let board = c.board-board.result in
    let within : c.boards.place < length c.args.lists.now.closed.keys = search rules in
    let read : HasSearchKey task.goal.grid key c.of_key.result = subst (λ (grid : ShapeModel). HasSearchKey grid key c.of_key.result) c.shape.ensures.value c.of_key.ensures in
    let has : HasSearchKey task.goal.grid key board = subst (HasSearchKey task.goal.grid key) (sym c.board-board.ensures.value) read in
    let here = read_at task.goal.grid closed n key board known within c.at-key.ensures.key c.at-key.ensures.known has in
    let did = c.in_ok-add_row.ensures in
    ⊎_elim
    (λ (low : known.cost + task.sum board < k).
    subst (AreRowsUpTo task k closed old (n + 1)) (sym (did.low low))
    (row_added task k closed c.len-place-end.ensures.table old c.requires.elsewhere n c.boards.rows.items c.boards.invariant board known here low))
    (λ (high : k ≤ known.cost + task.sum board).
    subst (AreRowsUpTo task k closed old (n + 1)) (sym (did.high high))
    (row_left_out task k closed c.len-place-end.ensures.table old c.requires.elsewhere n c.boards.rows.items c.boards.invariant board known here high))
    (cases_lt (known.cost + task.sum board) k)

pub returns-clause-each : goal.returns-clause-each
returns-clause-each c =
    let task = task_asked c.args.asked.now in
    let closed = c.args.lists.now.closed in
    let ended : c.boards.place ≡ length c.args.lists.now.closed.keys = search rules in
    all_rows_in task c.args.cost closed c.len-place-end.ensures.table c.args.rows.now.items c.boards.rows.items
    (subst (λ (n : ℕ). AreRowsUpTo task c.args.cost closed c.args.rows.now.items n c.boards.rows.items) ended c.boards.invariant)
