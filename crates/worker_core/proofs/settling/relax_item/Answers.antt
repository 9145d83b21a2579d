use Rattle.std.proofs.Common.{rules, ◌≡◌, ◌+◌, ℕ, true, arith, sym, ap, ◌∙◌, subst}
use Rattle.std.specs.Prelude.{OnErr, Result, Ok, Err}
use Rattle.std.specs.FinMap as map
use Rattle.search_keys.specs.SearchKeys.{search_key}
use Rattle.board.specs.Boards.{BoardModel, IsBoard}
use Rattle.lower_bound.specs.Bounds.{sum_of}
use Rattle.lower_bound.specs.Tables.{BoundModel, parts_of}
use Rattle.world_model.specs.Knowledge.{Knowledge, is_news}
use Rattle.search_lists.proofs.OrderLemmas.{order_with_room}
use Rattle.worker_core.specs.Contexts.{ContextModel}
use Rattle.worker_core.specs.Roles.{AreTaskBoards}
use Rattle.worker_core.specs.Settling.{HasPlaceAt}
use Rattle.worker_core.proofs.ExpandLemmas.{relaxed_boards}
use Rattle.worker_core.proofs.settling.relax_item.Goals as goal

pub returns-in_err-make_place-clause-lists : goal.returns-in_err-make_place-clause-lists
returns-in_err-make_place-clause-lists g c = record {
  order = λ start guide leads order. order_with_room guide c.args.lists.now c.make_place.new.lists c.make_place.ensures.same order;
  boards = λ task goal_is boards key known at. boards key known (ap (λ (m : Knowledge). map.get m key) (sym c.make_place.ensures.same.known) ∙ at);
}

-- what holds in any case holds after an error
after_err : {T E P : Type 0} (answer : Result T E) → P → OnErr answer P
after_err (Ok _) here = tt
after_err (Err _) here = here

pub returns-in_err-make_place-clause-refused : goal.returns-in_err-make_place-clause-refused
returns-in_err-make_place-clause-refused g c =
    let item = c.args.item.now in
    let lists = c.args.lists.now in
    let tables_are : c.context.inside.bound.now ≡ c.args.context.now.tables = ap (λ (x : ContextModel g.row.S.Denot). x.tables) c.context.view_is in
    let sum : c.of_keyed.result ≡ sum_of (parts_of c.args.context.now.tables) item.board = c.of_keyed.ensures.value ∙ ap (λ (x : BoundModel). sum_of (parts_of x) item.board) tables_are in
    let yes : c.brings_news.result ≡ true = search rules in
    let key : c.key-key.result ≡ search_key item.board = c.key-key.ensures.value in
    after_err c.from_residual.result (record {
      news = sym (ap (λ (k : ℕ). is_news (map.get lists.closed.known k) item.cost) key) ∙ sym c.brings_news.ensures ∙ yes;
      no_place = subst (λ (n : ℕ). ¬ HasPlaceAt (item.cost + n) lists) sum c.in_err-make_place.ensures.refused;
    })

pub relax-requires-clause-room : goal.relax-requires-clause-room
relax-requires-clause-room g c = λ none. c.in_ok-make_place.ensures.made.0

pub relax-requires-clause-place : goal.relax-requires-clause-place
relax-requires-clause-place g c = c.in_ok-make_place.ensures.made.1

pub of_keyed-requires : goal.of_keyed-requires
of_keyed-requires g c = c.requires.board ∙ sym (ap (λ (x : ContextModel g.row.S.Denot). x.goal.grid) c.context.view_is) ∙ sym c.context.invariant.tables

pub returns-clause-lists : goal.returns-clause-lists
returns-clause-lists g c =
    let item = c.args.item.now in
    let goal_is : c.context.inside.goal.now ≡ c.args.context.now.goal = ap (λ (x : ContextModel g.row.S.Denot). x.goal) c.context.view_is in
    let tables_are : c.context.inside.bound.now ≡ c.args.context.now.tables = ap (λ (x : ContextModel g.row.S.Denot). x.tables) c.context.view_is in
    let made = c.make_place.new.lists.closed in
    let board : IsBoard item.board = c.key-key.ensures.board in
    let key : c.key-key.result ≡ search_key item.board = c.key-key.ensures.value in
    record {
      order = λ start guide leads order.
          let low = c.requires.cost in
          let high = c.of_keyed.ensures.high in
          let before = order_with_room guide c.args.lists.now c.make_place.new.lists c.make_place.ensures.same order in
          let sum : c.of_keyed.result ≡ guide.sum c.key-key.result = c.of_keyed.ensures.value ∙ ap (λ (x : BoundModel). sum_of (parts_of x) item.board) tables_are ∙ sym (leads.sums item.board (board, c.requires.board)) ∙ ap guide.sum (sym key) in
          c.relax.ensures.order guide (leads.ends ∙ ap search_key (sym goal_is) ∙ sym c.key.ensures.value) (record { adds = ap (λ (n : ℕ). item.cost + n) sum; within = omega (arith, low, high) }) before;
      boards = λ task ends boards.
          let before : AreTaskBoards task made = λ key known at. boards key known (ap (λ (m : Knowledge). map.get m key) (sym c.make_place.ensures.same.known) ∙ at) in
          let sides = c.requires.board ∙ ap (λ (b : BoardModel). b.grid) (sym ends) in
          subst (AreTaskBoards task) (sym c.relax.ensures.closed) (relaxed_boards task made.known before c.key-key.result (item.board, (board, sides), sym key) item.cost item.via);
    }
