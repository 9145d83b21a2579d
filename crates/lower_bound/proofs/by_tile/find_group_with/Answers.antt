use Rattle.std.proofs.Common.{◌≡◌, ◌<◌, ap, subst, sym, ◌∙◌, ⊎_elim, arith, get_or}
use Rattle.std.specs.Prelude.{Contains}
use Rattle.std.proofs.lemmas.Bool.{false≢true}
use Rattle.std.proofs.lemmas.List.{get_or_default}
use Rattle.std.proofs.Math.Nat.{eq-or-lt_of_le}
use Rattle.pattern_index.specs.Groups.{GroupModel}
use Rattle.lower_bound.proofs.by_tile.find_group_with.Goals as goal

pub groups-preserved : goal.groups-preserved
groups-preserved c = λ k d lt k_in.
    ⊎_elim
    (λ (e : k ≡ c.groups.place). λ within.
    let here = c.index-groups-place.result in
    let same : get_or c.args.groups.now k d ≡ here = ap (λ n. get_or c.args.groups.now n d) e ∙ get_or_default c.args.groups.now c.groups.place d here c.groups-test.true ∙ sym c.index-groups-place.is in
    false≢true (sym c.if-has_tile.false ∙ c.has_tile.ensures.1 (subst (λ (g : GroupModel). Contains g.tiles c.args.tile) same within)))
    (λ (low : k < c.groups.place). c.groups.invariant k d low k_in)
    (eq-or-lt_of_le (omega (arith, lt)))

pub returns-then-has_tile : goal.returns-then-has_tile
returns-then-has_tile c = record {
  some = λ lt d. subst (λ (g : GroupModel). Contains g.tiles c.args.tile) (c.index-groups-place.is ∙ get_or_default c.args.groups.now c.groups.place c.index-groups-place.result d lt) (c.has_tile.ensures.0 c.if-has_tile.true);
  none = λ past k d k_in. absurd (omega (arith, past, c.groups-test.true));
  few = omega (arith, c.groups-test.true);
}

pub returns : goal.returns
returns c = record {
  some = λ lt d. absurd (omega (arith, lt));
  none = λ past k d k_in. c.groups.invariant k d (omega (arith, k_in, c.groups-test.false)) k_in;
  few = omega arith;
}
