use Rattle.std.proofs.Common.{arith}
use Rattle.std.specs.Int.{w64, trailing_zeros}
use Rattle.pattern_search.proofs.LayerLemmas.{cleared, inside_here, one_written}
use Rattle.pattern_search.proofs.layers.write_values.Goals as goal

pub overflow_add-values : goal.overflow_add-values
overflow_add-values c =
    let clear = cleared c.bits.left c.bits-test.true (omega arith) in
    let lt = inside_here c.args.first c.args.bits c.bits.left (trailing_zeros w64 c.bits.left) _ c.args.cost c.args.values.now c.bits.values c.requires clear c.bits.invariant in
    omega arith

pub offset_bounds-values-first : goal.offset_bounds-values-first
offset_bounds-values-first c =
    let clear = cleared c.bits.left c.bits-test.true (omega arith) in
    let lt = inside_here c.args.first c.args.bits c.bits.left (trailing_zeros w64 c.bits.left) _ c.args.cost c.args.values.now c.bits.values c.requires clear c.bits.invariant in
    omega arith

pub bounds-values-first : goal.bounds-values-first
bounds-values-first c =
    let clear = cleared c.bits.left c.bits-test.true (omega arith) in
    inside_here c.args.first c.args.bits c.bits.left (trailing_zeros w64 c.bits.left) _ c.args.cost c.args.values.now c.bits.values c.requires clear c.bits.invariant

pub bits-smaller : goal.bits-smaller
bits-smaller c = (cleared c.bits.left c.bits-test.true (omega arith)).less

pub bits-preserved : goal.bits-preserved
bits-preserved c =
    let clear = cleared c.bits.left c.bits-test.true (omega arith) in
    one_written c.args.first c.args.bits c.bits.left (trailing_zeros w64 c.bits.left) _ c.args.cost c.args.values.now c.bits.values c.requires clear c.bits.invariant
