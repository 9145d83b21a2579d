use Rattle.std.proofs.Common.{sym, ap, ◌∙◌, subst, arith}
use Rattle.pattern_index.specs.Groups.{rank_in}
use Rattle.pattern_index.specs.Views.{IsView, ViewModel}
use Rattle.database_build.proofs.EntryLemmas.{seen, tile_written}
use Rattle.database_build.proofs.table.rank_of_digits.Goals as goal

pub tiles-preserved : goal.tiles-preserved
tiles-preserved c =
    let kept = tile_written c.args.group.now c.args.base c.args.slot c.tiles.rest c.tiles.place c.tiles-tiles.result.now c.tiles.cells c.tiles-tiles.ensures.group c.tiles-tiles.ensures.value c.tiles-test.true c.tiles.invariant.all c.tiles.invariant.blank c.tiles.invariant.are in
    record { all = kept.0; blank = kept.1; are = kept.2 }

pub rank_at-requires : goal.rank_at-requires
rank_at-requires c =
    let same = seen c.args.group.now c.args.base c.args.slot c.tiles.rest c.tiles.place c.tiles-tiles.result.now c.tiles.cells c.requires.base c.tiles-tiles.ensures.value (omega (arith, c.tiles-test.false)) c.tiles.invariant.blank c.tiles.invariant.are c.requires.view.0 c.requires.view.1 c.requires.view.2 in
    subst (λ (v : ViewModel). IsView c.args.group.now.grid c.args.group.now.tiles v) (sym same) c.requires.view.1

pub returns-clause-value : goal.returns-clause-value
returns-clause-value c = λ v view at.
    let same = seen c.args.group.now c.args.base c.args.slot c.tiles.rest c.tiles.place c.tiles-tiles.result.now c.tiles.cells c.requires.base c.tiles-tiles.ensures.value (omega (arith, c.tiles-test.false)) c.tiles.invariant.blank c.tiles.invariant.are v view at in
    c.rank_at.ensures.value ∙ ap (rank_in c.args.group.now.grid) same
