use Rattle.std.proofs.Common.{◌≡◌, ◌<◌, ◌-◌, length, drop, take, sym, ap, ◌∙◌, subst, arith}
use Rattle.std.proofs.lemmas.List.{take_rest}
use Rattle.board.specs.Shapes.{cell_count}
use Rattle.pattern_index.specs.Ranks.{IsListing, ways, rank_of}
use Rattle.pattern_index.specs.Groups.{place_in, folded_size_of}
use Rattle.pattern_index.proofs.GroupLemmas.{groups_small}
use Rattle.pattern_index.proofs.PlaceLemmas.{place_listing, place_below, ways-less}
use Rattle.pattern_index.proofs.group.Group.place.Goals as goal

cells_are : (c : goal.After-rank_cells-arg-1) → c.cells.result ≡ cell_count c.args.self.now.grid
cells_are c = c.cells.ensures.value ∙ ap cell_count c.shape.ensures.value

rest_is : (c : goal.After-rank_cells-arg-1) → take (length c.cells-2.result.now - 1) (drop 1 c.cells-2.result.now) ≡ c.args.view.now.cells
rest_is c = take_rest c.cells-2.result.now 1 ∙ ap (drop 1) c.cells-2.ensures

count_is : (c : goal.After-rank_cells-arg-1) → length (take (length c.cells-2.result.now - 1) (drop 1 c.cells-2.result.now)) ≡ length c.args.self.now.tiles
count_is c = ap length (rest_is c) ∙ c.requires.one_each

pub rank_cells-requires-clause-listing : goal.rank_cells-requires-clause-listing
rank_cells-requires-clause-listing c =
    let is = place_listing c.args.self.now.grid c.args.self.now.tiles c.args.view.now c.requires in
    subst (λ n. IsListing n (take (length c.cells-2.result.now - 1) (drop 1 c.cells-2.result.now))) (sym (cells_are c))
    (subst (λ xs. IsListing (cell_count c.args.self.now.grid) xs) (sym (rest_is c)) is)

pub rank_cells-requires-clause-fits : goal.rank_cells-requires-clause-fits
rank_cells-requires-clause-fits c =
    let room = (groups_small c.args.self.now c.shape.ensures.group).1 in
    omega (arith, cells_are c, count_is c)

pub rank_cells-requires-clause-small : goal.rank_cells-requires-clause-small
rank_cells-requires-clause-small c =
    let room = (groups_small c.args.self.now c.shape.ensures.group).1 in
    let small = c.shape.ensures.group.small in
    let less = ways-less (cell_count c.args.self.now.grid) (length c.args.self.now.tiles) room in
    let is : ways c.cells.result (length (take (length c.cells-2.result.now - 1) (drop 1 c.cells-2.result.now))) ≡ ways (cell_count c.args.self.now.grid) (length c.args.self.now.tiles) = λ i. ways (cells_are c i) (count_is c i) in
    omega arith

pub returns-clause-below : goal.returns-clause-below
returns-clause-below c =
    let cells : c.cells.result ≡ cell_count c.args.self.now.grid = c.cells.ensures.value ∙ ap cell_count c.shape.ensures.value in
    let rest : take (length c.cells-2.result.now - 1) (drop 1 c.cells-2.result.now) ≡ c.args.view.now.cells = take_rest c.cells-2.result.now 1 ∙ ap (drop 1) c.cells-2.ensures in
    let is : c.rank_cells.result ≡ place_in c.args.self.now.grid c.args.view.now = c.rank_cells.ensures ∙ (λ i. rank_of (cells i) (rest i)) in
    subst (λ k. k < folded_size_of c.args.self.now) (sym is) (place_below c.args.self.now.grid c.args.self.now.tiles c.args.view.now c.requires)
