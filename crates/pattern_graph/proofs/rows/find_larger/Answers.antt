use Rattle.std.proofs.Common.{◌∙◌, ◌+◌, ◌-◌, ap, sym, subst, arith}
use Rattle.std.specs.Prelude.{ℕ}
use Rattle.pattern_graph.specs.Sets.{choose}
use Rattle.pattern_graph.proofs.RowLemmas.{AreFound, written_listing, written_more, found_all}
use Rattle.pattern_graph.proofs.rows.find_larger.Goals as goal

pub place_with-place-requires-clause-listing : goal.place_with-place-requires-clause-listing
place_with-place-requires-clause-listing c =
    written_listing c.args.regions.now c.cells-count.result c.sets.set c.sets.cells c.write_set.new.set c.requires c.cells-count.ensures.value c.sets.invariant.all (let low = c.sets-test.true in let is = c.count-sets.ensures.value in omega (arith, low, is)) c.write_set.ensures

pub cells-preserved : goal.cells-preserved
cells-preserved c =
    let next = written_more c.args.regions.now c.cells-count.result c.sets.set c.sets.cells c.write_set.new.set c.requires c.cells-count.ensures.value c.sets.invariant.all (let low = c.sets-test.true in let is = c.count-sets.ensures.value in omega (arith, low, is)) c.write_set.ensures c.cells.cell c.place_with-place.result c.cells.larger.items c.cells-test.true c.place_with-place.ensures c.cells.invariant in
    subst (AreFound c.args.regions.now c.sets.set (c.cells.cell + 1)) (sym c.in_ok-push.ensures.items) next

pub returns : goal.returns
returns c =
    let end = c.sets-test.false in
    let high = c.sets.auto.set-end in
    let is = c.count-sets.ensures.value in
    found_all c.args.regions.now c.sets.set c.sets.larger.items ((omega (arith, end, high)) ∙ is ∙ ap (λ (n : ℕ). choose n (c.args.regions.now.count - 1)) c.cells-count.ensures.value) c.sets.invariant.found
