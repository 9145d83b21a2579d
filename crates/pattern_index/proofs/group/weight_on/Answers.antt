use Rattle.std.proofs.Common.{◌∙◌, arith}
use Rattle.std.proofs.lemmas.List.{drop_more}
use Rattle.std.proofs.lemmas.Bool.{cond-false, ne_eqb}
use Rattle.pattern_index.specs.Views.{weight_on}
use Rattle.pattern_index.proofs.group.weight_on.Goals as goal

pub loop-i-preserved : goal.loop-i-preserved
loop-i-preserved c =
    let tiles = drop_more c.args.tiles.now c.loop-i.i 0 c.loop-i-test.true in
    let cells = drop_more c.args.cells.now c.loop-i.i 0 (omega arith) in
    c.loop-i.invariant
    ∙ (λ j. weight_on c.args.weights.now (tiles j) (cells j) c.args.cell)
    ∙ cond-false _ _ _ (ne_eqb _ _ c.if-cells-i.false)
