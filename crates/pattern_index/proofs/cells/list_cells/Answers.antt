use Rattle.std.proofs.Common.{◌-◌, length, refl, arith}
use Rattle.pattern_index.proofs.CellLemmas.{listed_none, listed_step, listed_small, listed_all}
use Rattle.pattern_index.proofs.cells.list_cells.Goals as goal

pub places-init : goal.places-init
places-init c = listed_none c.args.cells c.args.rank (length c.args.list.now) c.args.list.now refl

pub spread_cells-requires : goal.spread_cells-requires
spread_cells-requires c = listed_small c.args.cells c.args.rank (length c.args.list.now) c.places.list c.places.place c.places.rest (length c.places.list - c.places.place) c.requires.few c.requires.fits c.places.invariant

pub places-preserved : goal.places-preserved
places-preserved c = listed_step c.args.cells c.args.rank (length c.args.list.now) c.places.list c.places.place (c.places.place - 1) c.places.rest c.spread_cells.new.later c.requires.fits c.places.auto.list (omega arith) c.places.invariant c.spread_cells.ensures

pub returns : goal.returns
returns c = listed_all c.args.cells c.args.rank (length c.args.list.now) c.places.list c.places.place c.places.rest (omega arith) c.requires.fits c.requires.below c.places.invariant
