use Rattle.std.proofs.Common.{subst, List, arith}
use Rattle.std.specs.Prelude.{All}
use Rattle.std.proofs.lemmas.List.{take_all}
use Rattle.std.proofs.lemmas.List.Elements.{All-more}
use Rattle.pattern_index.specs.Groups.{GroupModel, IsGroup}
use Rattle.pattern_index.specs.Partitions.{AreApart}
use Rattle.pattern_index.proofs.SplitLemmas.{test_failed, test_passed, not_so, apart_more, apart_before, of_tiles}
use Rattle.pattern_index.proofs.partition.are_apart.Goals as goal

pub returns-then-not-is_apart-clause-apart : goal.returns-then-not-is_apart-clause-apart
returns-then-not-is_apart-clause-apart c =
    let test = of_tiles c.args.groups.now c.groups.i c.tiles.result.now c.index-groups-i.result c.is_apart.result c.tiles.ensures.value c.is_apart.ensures in
    test_failed (λ apart. not_so c.is_apart.result c.if-not-is_apart.true test (apart_before c.args.groups.now c.groups.i c.index-groups-i.result c.groups-test.true c.index-groups-i.is apart))

pub groups-preserved : goal.groups-preserved
groups-preserved c =
    let test = of_tiles c.args.groups.now c.groups.i c.tiles.result.now c.index-groups-i.result c.is_apart.result c.tiles.ensures.value c.is_apart.ensures in (
      apart_more c.args.groups.now c.groups.i c.index-groups-i.result c.groups-test.true c.index-groups-i.is (test.0 c.if-not-is_apart.false) c.groups.invariant.0,
      All-more (λ (g : GroupModel). IsGroup g) c.args.groups.now c.groups.i c.index-groups-i.result c.groups-test.true c.groups.invariant.1 (subst (λ (g : GroupModel). IsGroup g) c.index-groups-i.is c.tiles.ensures.group),
    )

pub returns-clause-apart : goal.returns-clause-apart
returns-clause-apart c = test_passed (subst (λ (gs : List GroupModel). AreApart gs) (take_all c.groups.i c.args.groups.now (omega arith)) c.groups.invariant.0)

pub returns-clause-groups : goal.returns-clause-groups
returns-clause-groups c = λ _. subst (λ (gs : List GroupModel). All (λ (g : GroupModel). IsGroup g) gs) (take_all c.groups.i c.args.groups.now (omega arith)) c.groups.invariant.1
