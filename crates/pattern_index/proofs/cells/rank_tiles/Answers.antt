use Rattle.std.proofs.Common.{[], ◌∷◌, map, get_or, ap, arith}
use Rattle.std.specs.Prelude.{slice_index}
use Rattle.std.proofs.lemmas.List.{drop_all, length-map}
use Rattle.pattern_index.specs.declared.group.TheConstants.{MAX_SIZE}
use Rattle.pattern_index.proofs.CellLemmas.{ranked_all, ranked_none, ranked_tile, placed_low}
use Rattle.pattern_index.proofs.cells.rank_tiles.Goals as goal

pub tiles-init : goal.tiles-init
tiles-init c = ([], ranked_none c.args.count (map (slice_index c.args.cells.now) c.args.tiles.now) c.requires.few c.requires.listing (let long = length-map c.args.tiles.now (slice_index c.args.cells.now) in omega (arith, c.requires.fits)))

pub overflow_mul-rank : goal.overflow_mul-rank
overflow_mul-rank c =
    let low = placed_low c.args.count c.args.cells.now c.args.tiles.now MAX_SIZE c.tiles.free c.tiles.rank c.tiles.seen c.tiles.invariant.0 c.tiles.tile-index c.bits_below.result c.requires.listing c.requires.small c.tiles-test.true c.tiles.invariant.1 c.bits_below.ensures.value in
    omega arith

pub overflow_add-rank : goal.overflow_add-rank
overflow_add-rank c =
    let low = placed_low c.args.count c.args.cells.now c.args.tiles.now MAX_SIZE c.tiles.free c.tiles.rank c.tiles.seen c.tiles.invariant.0 c.tiles.tile-index c.bits_below.result c.requires.listing c.requires.small c.tiles-test.true c.tiles.invariant.1 c.bits_below.ensures.value in
    omega arith

pub tiles-preserved : goal.tiles-preserved
tiles-preserved c =
    let next = ranked_tile c.args.count c.args.cells.now c.args.tiles.now _ c.tiles.free c.tiles.rank c.tiles.seen c.tiles.invariant.0 c.tiles.tile-index c.bits_below.result c.tiles-test.true c.tiles.invariant.1 c.bits_below.ensures.value in
    (slice_index c.args.cells.now (get_or c.args.tiles.now c.tiles.tile-index 0) ∷ c.tiles.invariant.0, rw c.with_bit-seen.ensures next)

pub returns : goal.returns
returns c = ranked_all _ _ _ _ _ _ c.tiles.invariant.1 (ap (map (slice_index c.args.cells.now)) (drop_all c.tiles.tile-index c.args.tiles.now (omega arith)))
