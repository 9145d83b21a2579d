use Rattle.std.proofs.Common.{get_or, take, subst, arith}
use Rattle.std.proofs.lemmas.List.{take_all}
use Rattle.std.proofs.lemmas.Bool.Decides.{not_from_Decides}
use Rattle.pattern_index.specs.Groups.{AreGroupTiles}
use Rattle.pattern_index.proofs.GroupLemmas.{group_none, group_more, group_room, contains_is}
use Rattle.pattern_index.proofs.group.check_tiles.Goals as goal

pub places-init : goal.places-init
places-init c = group_none c.args.shape

pub places-preserved : goal.places-preserved
places-preserved c =
    group_more c.args.shape c.args.numbers.now c.places.place c.places-test.true (omega arith) (omega arith)
    (not_from_Decides c.contains.result (contains_is (take c.places.place c.args.numbers.now) (get_or c.args.numbers.now c.places.place 0) c.contains.result c.contains.ensures.cases) c.if-contains.false)
    c.places.invariant

all : (c : goal.After-places) → AreGroupTiles c.args.shape c.args.numbers.now
all c = subst (λ xs. AreGroupTiles c.args.shape xs) (take_all c.places.place c.args.numbers.now (omega arith)) c.places.invariant

pub returns-clause-group : goal.returns-clause-group
returns-clause-group c = all c

pub returns-clause-room : goal.returns-clause-room
returns-clause-room c = let h = group_room c.args.shape c.args.numbers.now (omega arith) (all c) in omega arith
