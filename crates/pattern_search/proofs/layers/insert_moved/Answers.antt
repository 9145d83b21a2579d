use Rattle.std.proofs.Common.{◌≡◌, ℕ, ◌+◌, ◌*◌, subst, arith}
use Rattle.std.specs.Int.{w64, trailing_zeros}
use Rattle.pattern_search.specs.Layers.{IsUnion}
use Rattle.pattern_search.proofs.LayerLemmas.{cleared, order_here, one_inserted}
use Rattle.pattern_graph.proofs.OrderTables.{factorial_small}
use Rattle.pattern_search.proofs.layers.insert_moved.Goals as goal

pub overflow_mul-order : goal.overflow_mul-order
overflow_mul-order c =
    let clear = cleared c.bits.left c.bits-test.true (omega arith) in
    let below = c.requires.bits (64 * c.args.place + trailing_zeros w64 c.bits.left) (order_here c.args.place c.args.bits c.bits.left (trailing_zeros w64 c.bits.left) _ clear c.bits.invariant.rest) in
    let small = factorial_small c.args.orders.now.count c.requires.orders.passes.short in
    omega arith

pub overflow_add-order : goal.overflow_add-order
overflow_add-order c =
    let clear = cleared c.bits.left c.bits-test.true (omega arith) in
    let below = c.requires.bits (64 * c.args.place + trailing_zeros w64 c.bits.left) (order_here c.args.place c.args.bits c.bits.left (trailing_zeros w64 c.bits.left) _ clear c.bits.invariant.rest) in
    let small = factorial_small c.args.orders.now.count c.requires.orders.passes.short in
    omega arith

pub moved-moved-requires-clause-change : goal.moved-moved-requires-clause-change
moved-moved-requires-clause-change c =
    let clear = cleared c.bits.left c.bits-test.true (omega arith) in record {
      order_low = c.requires.bits (64 * c.args.place + trailing_zeros w64 c.bits.left) (order_here c.args.place c.args.bits c.bits.left (trailing_zeros w64 c.bits.left) _ clear c.bits.invariant.rest);
      from_low = c.requires.positions.from;
      to_low = c.requires.positions.to;
    }

pub bits-preserved : goal.bits-preserved
bits-preserved c =
    let clear = cleared c.bits.left c.bits-test.true (omega arith) in
    one_inserted c.args.orders.now.count c.args.edge.now c.args.place c.args.bits c.bits.left (trailing_zeros w64 c.bits.left) _ c.args.next.now c.bits.next c.insert.new.self clear c.bits.invariant
    (subst (λ (o : ℕ). IsUnion (λ r other. (r ≡ c.args.edge.now.region) × (other ≡ o)) c.bits.next c.insert.new.self) c.moved-moved.ensures.value c.insert.ensures)
