use Rattle.std.proofs.Common.{◌≡◌, ◌<◌, List, ℕ, map, length, sym, ap, ◌∙◌, subst, arith}
use Rattle.std.specs.Prelude.{slice_index}
use Rattle.board.specs.Shapes.{cell_count}
use Rattle.pattern_index.specs.Ranks.{IsListing, ways, rank_of}
use Rattle.pattern_index.specs.Views.{view_at}
use Rattle.pattern_index.specs.Groups.{place_in, folded_size_of}
use Rattle.pattern_index.proofs.GroupLemmas.{groups_small}
use Rattle.pattern_index.proofs.PlaceLemmas.{place_listing, place_below, ways-less}
use Rattle.pattern_index.proofs.group.Group.place_at.Goals as goal

pub rank_tiles-requires-clause-listing : goal.rank_tiles-requires-clause-listing
rank_tiles-requires-clause-listing c =
    let is = place_listing c.args.self.now.grid c.args.self.now.tiles (view_at c.args.self.now.tiles c.args.cells.now) c.requires in
    subst (λ n. IsListing n (map (slice_index c.args.cells.now) c.tiles.result.now)) (sym (c.cells.ensures.value ∙ ap cell_count c.shape.ensures.value))
    (subst (λ (ts : List ℕ). IsListing (cell_count c.args.self.now.grid) (map (slice_index c.args.cells.now) ts)) (sym c.tiles.ensures.value) is)

pub rank_tiles-requires-clause-small : goal.rank_tiles-requires-clause-small
rank_tiles-requires-clause-small c =
    let room = (groups_small c.args.self.now c.shape.ensures.group).1 in
    let small = c.shape.ensures.group.small in
    let less = ways-less (cell_count c.args.self.now.grid) (length c.args.self.now.tiles) room in
    let cells : c.cells.result ≡ cell_count c.args.self.now.grid = c.cells.ensures.value ∙ ap cell_count c.shape.ensures.value in
    let is : ways c.cells.result (length c.tiles.result.now) ≡ ways (cell_count c.args.self.now.grid) (length c.args.self.now.tiles) = λ i. ways (cells i) (length (c.tiles.ensures.value i)) in
    omega arith

pub returns-clause-below : goal.returns-clause-below
returns-clause-below c =
    let cells : c.cells.result ≡ cell_count c.args.self.now.grid = c.cells.ensures.value ∙ ap cell_count c.shape.ensures.value in
    let is : c.rank_tiles.result ≡ place_in c.args.self.now.grid (view_at c.args.self.now.tiles c.args.cells.now) =
    c.rank_tiles.ensures ∙ (λ i. rank_of (cells i) (map (slice_index c.args.cells.now) (c.tiles.ensures.value i))) in
    subst (λ k. k < folded_size_of c.args.self.now) (sym is) (place_below c.args.self.now.grid c.args.self.now.tiles (view_at c.args.self.now.tiles c.args.cells.now) c.requires)

pub returns-clause-high : goal.returns-clause-high
returns-clause-high c =
    let below = returns-clause-below c in
    let room = (groups_small c.args.self.now c.shape.ensures.group).1 in
    let small = c.shape.ensures.group.small in
    let less = ways-less (cell_count c.args.self.now.grid) (length c.args.self.now.tiles) room in
    omega arith
