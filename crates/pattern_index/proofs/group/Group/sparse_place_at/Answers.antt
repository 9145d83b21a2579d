use Rattle.std.proofs.Common.{◌<◌, ℕ, List, map, sym, ap, ◌∙◌, subst}
use Rattle.std.specs.Prelude.{slice_index, All}
use Rattle.board.specs.Shapes.{cell_count}
use Rattle.pattern_index.specs.Views.{view_at}
use Rattle.pattern_index.proofs.PlaceLemmas.{place_listing}
use Rattle.pattern_index.proofs.group.Group.sparse_place_at.Goals as goal

pub sparse_tiles-requires-clause-within : goal.sparse_tiles-requires-clause-within
sparse_tiles-requires-clause-within c =
    let is = place_listing c.args.self.now.grid c.args.self.now.tiles (view_at c.args.self.now.tiles c.args.cells.now) c.requires in
    subst (λ n. All (λ cell. cell < n) (map (slice_index c.args.cells.now) c.tiles.result.now)) (sym (c.cells.ensures.value ∙ ap cell_count c.shape.ensures.value))
    (subst (λ (ts : List ℕ). All (λ cell. cell < cell_count c.args.self.now.grid) (map (slice_index c.args.cells.now) ts)) (sym c.tiles.ensures.value) is.in_range)
