use Rattle.std.proofs.Common.{◌≡◌, ◌+◌, suc, length, sym, ap, ◌∙◌, add-one}
use Rattle.board.specs.Shapes.{cell_count}
use Rattle.pattern_index.specs.Ranks.{list_at}
use Rattle.pattern_index.specs.Views.{IsView}
use Rattle.pattern_index.specs.Groups.{rank_in}
use Rattle.pattern_index.proofs.SightLemmas.{sight_of_list, sight_from_rank, cells_of}
use Rattle.pattern_index.proofs.group.Group.unrank.Goals as goal

is_view : (c : goal.After-of_rank) → IsView c.args.self.now.grid c.args.self.now.tiles c.of_rank.result × (rank_in c.args.self.now.grid c.of_rank.result ≡ c.args.rank)
is_view c =
    let is : cells_of c.of_rank.result ≡ list_at (cell_count c.args.self.now.grid) (suc (length c.args.self.now.tiles)) c.args.rank =
    let few : length c.tiles.result.now + 1 ≡ suc (length c.args.self.now.tiles) = ap (λ ts. length ts + 1) c.tiles.ensures.value ∙ add-one (length c.args.self.now.tiles) in
    let cells : c.cells.result ≡ cell_count c.args.self.now.grid = c.cells.ensures.value ∙ ap cell_count c.shape.ensures.value in
    c.of_rank.ensures ∙ (λ i. list_at (cells i) (few i) c.args.rank)
    in
    sight_of_list c.args.self.now.grid c.args.self.now.tiles c.of_rank.result c.args.rank c.tiles.ensures.room c.requires is

pub returns-clause-view : goal.returns-clause-view
returns-clause-view c = (is_view c).0

pub returns-clause-rank : goal.returns-clause-rank
returns-clause-rank c = (is_view c).1

pub returns-clause-one : goal.returns-clause-one
returns-clause-one c = λ v view same. let made = is_view c in sight_from_rank c.args.self.now.grid c.args.self.now.tiles v c.of_rank.result view made.0 (same ∙ sym made.1)
