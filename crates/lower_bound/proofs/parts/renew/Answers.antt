use Rattle.std.proofs.Common.{◌≡◌, sym, ap, ◌∙◌, subst}
use Rattle.std.specs.List.{AllByRecursion}
use Rattle.std.specs.Prelude.{All, Contains}
use Rattle.std.proofs.lemmas.Bool.{false≢true}
use Rattle.std.proofs.lemmas.List.Elements.{recursion_from_All}
use Rattle.board.specs.Shapes.{ShapeModel}
use Rattle.pattern_index.specs.Groups.{IsTile}
use Rattle.database_build.specs.Folds.{FoldedModel}
use Rattle.lower_bound.specs.Folded.{value_for}
use Rattle.lower_bound.proofs.PartLemmas.{renewed_kept, renewed_set}
use Rattle.lower_bound.proofs.parts.renew.Goals as goal
use Rattle.lower_bound.proofs.parts.renew.Goals.{then-has_tile, else-has_tile}

pub tables-preserved : goal.tables-preserved
tables-preserved c =
    let before = c.requires.before in
    let grid : c.index-folds-i.result.selection.grid ≡ c.args.board.now.grid = ap (λ (f : FoldedModel). f.selection.grid) c.index-folds-i.is ∙ c.requires.grid c.tables.i c.index-folds-i.result c.tables-test.true in
    let tiles : AllByRecursion (IsTile c.args.board.now.grid) c.index-folds-i.result.selection.tiles =
    recursion_from_All (λ t. IsTile c.args.board.now.grid t) c.index-folds-i.result.selection.tiles (subst (λ (g : ShapeModel). All (λ t. IsTile g t) c.index-folds-i.result.selection.tiles) grid c.has_tile.ensures.group.group.tiles) in
    elim c.if-has_tile.branch [
      | then-has_tile w ↦
          w.values-is
          ∙ renewed_set before.0 c.args.board.now c.args.folds.now c.tables.i w.index-folds-i-then-has_tile.result c.tables.values c.args.values.now before.2 c.tables-test.true c.tables.invariant
          w.value_for.result (w.value_for.ensures ∙ ap (value_for c.args.board.now) w.index-folds-i-then-has_tile.is)
      | else-has_tile w ↦
          w.values-is
          ∙ renewed_kept before.0 c.args.board.now c.args.folds.now c.tables.i c.index-folds-i.result c.tables.values c.args.values.now before.2 c.tables-test.true c.tables.invariant
          c.args.tile before.1
          (subst (λ (f : FoldedModel). AllByRecursion (IsTile c.args.board.now.grid) f.selection.tiles) c.index-folds-i.is tiles)
          (subst (λ (f : FoldedModel). ¬ Contains f.selection.tiles c.args.tile) c.index-folds-i.is (λ within. false≢true (sym w.if-has_tile.false ∙ c.has_tile.ensures.has.1 within)))
    ]
