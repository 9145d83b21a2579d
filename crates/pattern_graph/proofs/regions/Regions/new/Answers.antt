use Rattle.std.proofs.Common.{◌≡◌, ℕ, ap, refl, ◌+◌, ◌∙◌, arith}
use Rattle.board.specs.Shapes.{cell_count}
use Rattle.pattern_graph.specs.Sets.{choose}
use Rattle.pattern_graph.proofs.RegionLemmas.{begun_own, begun_next, begun_regions, numbered_first}
use Rattle.pattern_graph.proofs.regions.Regions.new.Goals as goal

pub sets-init : goal.sets-init
sets-init c = record {
  shape = refl;
  tiles = refl;
  choices = c.new.ensures;
  short = c.requires.count.short;
  room = c.requires.room;
  small = c.requires.small;
  numbered = numbered_first c.args.shape c.args.count c.new-2.result.items c.new-3.result.items c.new-2.ensures.items c.new-3.ensures.items;
}

pub add_set-requires : goal.add_set-requires
add_set-requires c =
    let sets : c.count-sets.result ≡ choose (cell_count c.args.shape) c.args.count = c.count-sets.ensures.value ∙ ap (λ (k : ℕ). choose k c.args.count) c.cells.ensures.value in
    let same : choose (cell_count c.sets.regions.shape) c.sets.regions.count ≡ choose (cell_count c.args.shape) c.args.count = (λ i. choose (cell_count (c.sets.invariant.shape i)) (c.sets.invariant.tiles i)) in
    record { begun = begun_own c.args.shape c.args.count c.sets.set c.sets.regions c.sets.invariant; inside = omega (arith, sets, same, c.sets-test.true) }

pub sets-preserved : goal.sets-preserved
sets-preserved c = begun_next c.args.shape c.args.count c.sets.set c.sets.regions c.sets.invariant (c.sets.set + 1) c.add_set.new.self c.in_ok-add_set.ensures

pub returns : goal.returns
returns c =
    let sets : c.count-sets.result ≡ choose (cell_count c.args.shape) c.args.count = c.count-sets.ensures.value ∙ ap (λ (k : ℕ). choose k c.args.count) c.cells.ensures.value in
    let all : c.sets.set ≡ choose (cell_count c.args.shape) c.args.count = omega arith in
    begun_regions c.args.shape c.args.count c.sets.set c.sets.regions c.sets.invariant c.cells.ensures.sides c.requires.count.some all
