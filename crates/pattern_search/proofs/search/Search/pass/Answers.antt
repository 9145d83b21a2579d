use Rattle.std.proofs.Common.{◌∙◌, ◌+◌, ◌*◌, ap, subst}
use Rattle.std.specs.Prelude.{slice_index}
use Rattle.std.proofs.lemmas.Result.{on_ok_weaker}
use Rattle.pattern_graph.specs.Orders.{tile_of, moved_order}
use Rattle.pattern_search.specs.Searches.{IsLowered, cost_by}
use Rattle.pattern_search.proofs.search.Search.pass.Goals as goal

pub returns : goal.returns
returns c =
    let e = c.args.edge.now in
    let order = c.args.order in
    let number = c.requires.fits.sound.orders.passes.number in
    let size = c.size.ensures ∙ c.requires.fits.sound.orders.passes.size in
    let moved = c.moved-moved.ensures.value ∙ ap (λ n. moved_order n order e.from e.to) number in
    let tile = c.tile-tile.ensures.value ∙ ap (λ n. tile_of n order e.from) number in
    on_ok_weaker c.lower.result
    (λ low.
    subst (λ k. IsLowered k (c.args.cost + cost_by c.args.self.now.graph order e) c.args.self.now c.lower.new.self) (λ i. e.region * size i + moved i)
    (subst (λ t. IsLowered (e.region * c.size.result + c.moved-moved.result) (c.args.cost + slice_index c.args.self.now.graph.costs t) c.args.self.now c.lower.new.self) tile low))
    c.lower.ensures
