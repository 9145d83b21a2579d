use Rattle.std.proofs.Common.{◌<◌, length, ap, ◌∙◌, arith}
use Rattle.std.specs.Prelude.{slice_index}
use Rattle.std.proofs.lemmas.List.{length-map}
use Rattle.std.proofs.lemmas.List.Elements.{recursion_from_All}
use Rattle.board.specs.Shapes.{cell_count}
use Rattle.board.proofs.NeighbourLemmas.{cells_above}
use Rattle.pattern_index.proofs.StorageLemmas.{view_stored, view_seen, zeros_behind, looked_up}
use Rattle.pattern_index.proofs.view.View.of_board.Goals as goal

pub pick-requires-clause-within : goal.pick-requires-clause-within
pick-requires-clause-within c = λ k d k_in. let low = c.requires.tiles k d k_in in omega (arith, low, c.cells_of-cells.ensures.few)

pub invariant_of-result : goal.invariant_of-result
invariant_of-result c =
    view_stored (length c.args.tiles.now) _ c.pick.new.picked _ (ap length c.pick.ensures ∙ length-map c.args.tiles.now (slice_index c.cells_of-cells.result)) c.requires.few (zeros_behind (length c.args.tiles.now))

pub returns-clause-value : goal.returns-clause-value
returns-clause-value c =
    let tiles = recursion_from_All (λ tile. tile < cell_count c.args.board.now.grid) c.args.tiles.now c.requires.tiles in
    let blank = c.cells_of-cells.ensures.cells 0 (cells_above c.args.board.now.grid c.cells_of-cells.ensures.board.sides) in
    let cells = c.pick.ensures ∙ looked_up c.args.board.now c.cells_of-cells.result c.args.tiles.now c.cells_of-cells.ensures.cells tiles in
    view_seen (length c.args.tiles.now) _ c.pick.new.picked _ (ap length c.pick.ensures ∙ length-map c.args.tiles.now (slice_index c.cells_of-cells.result))
    ∙ (λ i. record { blank = blank i; cells = cells i })
