use Rattle.std.proofs.Common.{◌≡◌, ◌∙◌, ◌<◌, sym, ap, arith, ℕ}
use Rattle.std.proofs.lemmas.Bool.{false≢true}
use Rattle.board.specs.Shapes.{ShapeModel, cell_count}
use Rattle.byte_streams.specs.Streams.{change}
use Rattle.pattern_index.specs.Ranks.{ways}
use Rattle.board_lists.specs.Classes.{board_at}
use Rattle.board_lists.proofs.ListLemmas.{ClassIsListed-none, ClassIsListed-more, ClassIsListed-same, ClassIsListed-failed, ClassIsListed-flushed}
use Rattle.board_lists.proofs.lists.list_class.Goals.{then-same_class+in-Ok, else-same_class}
use Rattle.board_lists.proofs.lists.list_class.Goals as goal

pub places-init : goal.places-init
places-init g c = ClassIsListed-none c.args.goal.now (g.K.Sink.state c.args.sink.now)

pub overflow_add-count : goal.overflow_add-count
overflow_add-count g c =
    let counted = c.places.invariant.counted in
    let few = c.places.invariant.are.few in
    let most = c.count_orders-place-end.ensures.few in
    omega arith

pub returns-in_default-clause-lists : goal.returns-in_default-clause-lists
returns-in_default-clause-lists g c =
    let state = g.K.Sink.state in
    let grid = c.shape-shape.ensures.value in
    let here : c.board_at-board.result ≡ board_at c.args.goal.now.grid c.places.place = c.board_at-board.ensures ∙ ap (λ (s : ShapeModel). board_at s c.places.place) grid in
    let orders : c.count_orders-place-end.result ≡ ways (cell_count c.args.goal.now.grid) (cell_count c.args.goal.now.grid) = c.count_orders-place-end.ensures.orders ∙ ap (λ (n : ℕ). ways n n) (c.cells.ensures.value ∙ ap cell_count grid) in
    let low : c.places.place < ways (cell_count c.args.goal.now.grid) (cell_count c.args.goal.now.grid) = omega (arith, orders) in
    ClassIsListed-failed c.args.goal.now (state c.args.sink.now) (state c.places.sink) (state c.put_line.new.sink) c.places.place c.places.count c.board_at-board.result c.shape-shape.ensures.board c.places.invariant low here (c.same_class.ensures.0 c.if-same_class.true) (rw c.in_default.is at c.put_line.ensures)

pub places-preserved : goal.places-preserved
places-preserved g c =
    let state = g.K.Sink.state in
    let grid = c.shape-shape.ensures.value in
    let here : c.board_at-board.result ≡ board_at c.args.goal.now.grid c.places.place = c.board_at-board.ensures ∙ ap (λ (s : ShapeModel). board_at s c.places.place) grid in
    let orders : c.count_orders-place-end.result ≡ ways (cell_count c.args.goal.now.grid) (cell_count c.args.goal.now.grid) = c.count_orders-place-end.ensures.orders ∙ ap (λ (n : ℕ). ways n n) (c.cells.ensures.value ∙ ap cell_count grid) in
    let low : c.places.place < ways (cell_count c.args.goal.now.grid) (cell_count c.args.goal.now.grid) = omega (arith, orders) in
    elim c.if-same_class.branch [
      | then-same_class+in-Ok w ↦
          rw (w.sink-is, w.count-is)
          (ClassIsListed-more c.args.goal.now (state c.args.sink.now) (state c.places.sink) (state w.put_line.new.sink) c.places.place c.places.count c.board_at-board.result c.shape-shape.ensures.board c.places.invariant low here (c.same_class.ensures.0 w.if-same_class.true) (rw w.in-Ok.is at w.put_line.ensures))
      | else-same_class w ↦
          rw (w.sink-is, w.count-is)
          (ClassIsListed-same c.args.goal.now (change state c.args.sink.now c.places.sink) c.places.place c.places.count c.board_at-board.result c.shape-shape.ensures.board c.places.invariant low here (λ same. false≢true (sym w.if-same_class.false ∙ c.same_class.ensures.1 same)))
    ]

pub returns-clause-lists : goal.returns-clause-lists
returns-clause-lists g c =
    let state = g.K.Sink.state in
    let grid = c.shape-shape.ensures.value in
    let orders : c.count_orders-place-end.result ≡ ways (cell_count c.args.goal.now.grid) (cell_count c.args.goal.now.grid) = c.count_orders-place-end.ensures.orders ∙ ap (λ (n : ℕ). ways n n) (c.cells.ensures.value ∙ ap cell_count grid) in
    let all : c.places.place ≡ ways (cell_count c.args.goal.now.grid) (cell_count c.args.goal.now.grid) = omega (arith, orders) in
    ClassIsListed-flushed c.args.goal.now (state c.args.sink.now) (state c.places.sink) (state c.flush.new.self) c.places.place c.places.count c.flush.result c.places.invariant all c.flush.ensures.flushes
