use Rattle.std.proofs.Common.{◌≡◌, ℕ, ap, ◌∙◌, arith}
use Rattle.board.specs.Shapes.{cell_count}
use Rattle.pattern_graph.specs.Sets.{choose}
use Rattle.database_build.proofs.LeastLemmas.{least_to_none, least_to_all, least_to_more, row_fresh}
use Rattle.database_build.proofs.least.fold_nodes.Goals as goal

pub sets-init : goal.sets-init
sets-init c = least_to_none c.args.group.now c.args.regions.now c.args.nodes.now c.in_ok-least.least.items c.folded_size.result c.requires.nodes.regions c.folded_size.ensures.value c.in_ok-least.ensures.items

pub lower_set-requires-clause-row : goal.lower_set-requires-clause-row
lower_set-requires-clause-row c =
    let sets : c.count-sets.result ≡ choose (cell_count c.args.regions.now.shape) c.args.regions.now.count = c.count-sets.ensures.value ∙ ap (λ (n : ℕ). choose n c.args.regions.now.count) c.cells.ensures.value in
    row_fresh c.args.regions.now c.args.nodes.now c.sets.least.items c.sets.set c.factorial-orders.result c.factorial-orders.ensures.value (omega (arith, sets, c.sets-test.true)) c.sets.invariant c.deref_mut.result.now c.deref_mut.ensures.value

pub sets-preserved : goal.sets-preserved
sets-preserved c =
    let sets : c.count-sets.result ≡ choose (cell_count c.args.regions.now.shape) c.args.regions.now.count = c.count-sets.ensures.value ∙ ap (λ (n : ℕ). choose n c.args.regions.now.count) c.cells.ensures.value in
    least_to_more c.args.regions.now c.args.nodes.now c.sets.least.items c.sets.set c.factorial-orders.result c.factorial-orders.ensures.value (omega (arith, sets, c.sets-test.true)) c.sets.invariant c.lower_set.new.row c.lower_set.ensures.size
    c.sets.least.len c.deref_mut.result.now c.sets.least.ok.0 c.deref_mut.ensures.value c.lower_set.ensures.least

pub returns : goal.returns
returns c =
    let sets : c.count-sets.result ≡ choose (cell_count c.args.regions.now.shape) c.args.regions.now.count = c.count-sets.ensures.value ∙ ap (λ (n : ℕ). choose n c.args.regions.now.count) c.cells.ensures.value in
    least_to_all c.args.regions.now c.args.nodes.now c.sets.least.items c.count-sets.result c.sets.set sets (omega (arith, c.sets-test.false)) c.sets.invariant
