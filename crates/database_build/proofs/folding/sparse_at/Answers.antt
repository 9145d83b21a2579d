use Rattle.database_build.proofs.FoldLemmas.{listed_below, place_sparse, place_within}
use Rattle.database_build.proofs.folding.sparse_at.Goals as goal

pub sparse_place-requires-clause-below : goal.sparse_place-requires-clause-below
sparse_place-requires-clause-below c =
    listed_below c.args.group.now c.tiles.ensures.group c.args.place c.requires
    c.shape.result c.cells-cells.result c.tiles.result.now c.list_cells.new.list c.shape.ensures.value c.cells-cells.ensures.value c.tiles.ensures.value c.list_cells.ensures

pub returns-clause-value : goal.returns-clause-value
returns-clause-value c =
    place_sparse c.args.group.now c.tiles.ensures.group c.args.place c.requires
    c.shape.result c.cells-cells.result c.tiles.result.now c.list_cells.new.list c.shape.ensures.value c.cells-cells.ensures.value c.tiles.ensures.value c.list_cells.ensures c.sparse_place.result c.sparse_place.ensures

pub returns-clause-below : goal.returns-clause-below
returns-clause-below c =
    place_within c.args.group.now c.tiles.ensures.group c.args.place c.requires
    c.shape.result c.cells-cells.result c.tiles.result.now c.list_cells.new.list c.shape.ensures.value c.cells-cells.ensures.value c.tiles.ensures.value c.list_cells.ensures c.sparse_place.result c.sparse_place.ensures
