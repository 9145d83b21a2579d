use Rattle.std.proofs.Common.{subst, sym, List, arith}
use Rattle.std.specs.Prelude.{All}
use Rattle.std.proofs.lemmas.List.{take_all}
use Rattle.std.proofs.lemmas.List.Elements.{All-more}
use Rattle.pattern_index.specs.Groups.{GroupModel}
use Rattle.pattern_index.specs.Partitions.{ShareNoTile}
use Rattle.pattern_index.proofs.SplitLemmas.{test_failed, test_passed, not_so, of_group}
use Rattle.pattern_index.proofs.partition.is_apart.Goals as goal

pub returns-then-not-share_no_tile : goal.returns-then-not-share_no_tile
returns-then-not-share_no_tile c =
    let test = of_group c.tiles.result.now c.index-groups-i.result c.args.tiles.now c.share_no_tile.result c.tiles.ensures.value c.share_no_tile.ensures in
    test_failed
    (λ all.
    not_so c.share_no_tile.result c.if-not-share_no_tile.true test
    (subst (λ (g : GroupModel). ShareNoTile g.tiles c.args.tiles.now) (sym c.index-groups-i.is) (all c.groups.i c.index-groups-i.result c.groups-test.true)))

pub groups-preserved : goal.groups-preserved
groups-preserved c =
    let test = of_group c.tiles.result.now c.index-groups-i.result c.args.tiles.now c.share_no_tile.result c.tiles.ensures.value c.share_no_tile.ensures in
    All-more (λ (g : GroupModel). ShareNoTile g.tiles c.args.tiles.now) c.args.groups.now c.groups.i c.index-groups-i.result c.groups-test.true c.groups.invariant
    (subst (λ (g : GroupModel). ShareNoTile g.tiles c.args.tiles.now) c.index-groups-i.is (test.0 c.if-not-share_no_tile.false))

pub returns : goal.returns
returns c = test_passed (subst (λ (gs : List GroupModel). All (λ (g : GroupModel). ShareNoTile g.tiles c.args.tiles.now) gs) (take_all c.groups.i c.args.groups.now (omega arith)) c.groups.invariant)
