use Rattle.std.proofs.Common.{◌+◌, arith}
use Rattle.pattern_index.proofs.SparseLemmas.{stride_found, stride_on, stride_none, power_more, pow_low}
use Rattle.pattern_index.proofs.sparse.stride_of.Goals as goal

pub returns-then-tiles-place : goal.returns-then-tiles-place
returns-then-tiles-place c = stride_found c.args.count c.tiles.stride c.args.tiles.now c.args.tile c.tiles.place c.tiles-test.true c.if-tiles-place.true c.tiles.invariant.rest

pub overflow_mul-stride : goal.overflow_mul-stride
overflow_mul-stride c =
    let next = power_more c.args.count c.tiles.stride c.tiles.place c.tiles.invariant.power in
    let top = pow_low c.args.count (c.tiles.place + 1) c.requires.few (omega (arith, c.requires.short, c.tiles-test.true)) in
    omega (arith, next, top)

pub tiles-preserved : goal.tiles-preserved
tiles-preserved c = record {
  power = power_more c.args.count c.tiles.stride c.tiles.place c.tiles.invariant.power;
  rest = stride_on c.args.count c.tiles.stride c.args.tiles.now c.args.tile c.tiles.place c.tiles-test.true c.if-tiles-place.false c.tiles.invariant.rest;
}

pub returns : goal.returns
returns c = stride_none c.args.count c.tiles.stride c.args.tiles.now c.args.tile c.tiles.place (omega arith) c.tiles.invariant.rest
