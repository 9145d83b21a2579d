use Rattle.std.proofs.Common.{◌≡◌, ◌-◌, ◌*◌, ap, sym, ◌∙◌, arith}
use Rattle.pattern_index.specs.Ranks.{ways}
use Rattle.pattern_index.proofs.GroupLemmas.{ways_step, ways_past}
use Rattle.pattern_index.proofs.group.count_ways.Goals as goal

pub returns-then-ways-gt-MAX_SIZE : goal.returns-then-ways-gt-MAX_SIZE
returns-then-ways-gt-MAX_SIZE c = let h = ways_past c.args.cells c.args.places c.places.place c.places.ways (ways c.args.cells c.args.places) c.places-test.true c.requires.room c.places.invariant.0 in omega arith

pub places-preserved : goal.places-preserved
places-preserved c = (ways_step c.args.cells c.args.places c.places.place c.places.ways (ways c.args.cells c.args.places) c.places-test.true c.requires.room c.places.invariant.0, c.if-ways-gt-MAX_SIZE.false)

pub returns : goal.returns
unfolding ways
returns c =
    let none : c.args.places - c.places.place ≡ 0 = omega arith in
    let e : c.places.ways * ways (c.args.cells - c.places.place) 0 ≡ ways c.args.cells c.args.places = ap (λ r. c.places.ways * ways (c.args.cells - c.places.place) r) (sym none) ∙ c.places.invariant.0 in
    (omega arith, c.places.invariant.1)
