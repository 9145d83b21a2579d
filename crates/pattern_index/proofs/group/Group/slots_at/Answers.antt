use Rattle.std.proofs.Common.{◌+◌, ◌*◌, ◌<◌, ◌≤◌, ℕ, List, length, sym, ap, ◌∙◌, subst, arith}
use Rattle.pattern_index.specs.Sparse.{digit_base, slot_count_of}
use Rattle.pattern_index.specs.Views.{exchanged, view_at}
use Rattle.pattern_index.proofs.SparseLemmas.{slot_below}
use Rattle.pattern_index.proofs.SlotLemmas.{blank_after, product, under_base, whole}
use Rattle.pattern_index.proofs.group.Group.slots_at.Goals as goal

pub sparse_both-before-requires-clause-before : goal.sparse_both-before-requires-clause-before
sparse_both-before-requires-clause-before c =
    under_base c.args.self.now.grid c.args.self.now.tiles c.tiles.result.now c.args.cells.now c.digit_base-base.result c.requires.before (c.digit_base-base.ensures.value ∙ ap digit_base c.shape.ensures.value) c.tiles.ensures.value

pub sparse_both-before-requires-clause-after : goal.sparse_both-before-requires-clause-after
sparse_both-before-requires-clause-after c =
    under_base c.args.self.now.grid c.args.self.now.tiles c.tiles.result.now (exchanged c.args.cells.now c.args.tile) c.digit_base-base.result c.requires.after (c.digit_base-base.ensures.value ∙ ap digit_base c.shape.ensures.value) c.tiles.ensures.value

pub overflow_mul-result : goal.overflow_mul-result
overflow_mul-result c =
    let top = product c.digit_base-base.result c.sparse_both-before.result.0 c.tiles.result.now c.args.cells.now c.sparse_both-before.ensures.before c.digit_base-base.ensures.high (subst (λ (ts : List ℕ). length ts ≤ 9) (sym c.tiles.ensures.value) c.tiles.ensures.few) (under_base c.args.self.now.grid c.args.self.now.tiles c.tiles.result.now c.args.cells.now c.digit_base-base.result c.requires.before (c.digit_base-base.ensures.value ∙ ap digit_base c.shape.ensures.value) c.tiles.ensures.value) in
    omega (arith, top)

pub overflow_add-result : goal.overflow_add-result
overflow_add-result c =
    let top = product c.digit_base-base.result c.sparse_both-before.result.0 c.tiles.result.now c.args.cells.now c.sparse_both-before.ensures.before c.digit_base-base.ensures.high (subst (λ (ts : List ℕ). length ts ≤ 9) (sym c.tiles.ensures.value) c.tiles.ensures.few) (under_base c.args.self.now.grid c.args.self.now.tiles c.tiles.result.now c.args.cells.now c.digit_base-base.result c.requires.before (c.digit_base-base.ensures.value ∙ ap digit_base c.shape.ensures.value) c.tiles.ensures.value) in
    let low = c.fits-cells 0 in
    omega (arith, top, low)

pub overflow_mul-result-2 : goal.overflow_mul-result-2
overflow_mul-result-2 c =
    let top = product c.digit_base-base.result c.sparse_both-before.result.1 c.tiles.result.now (exchanged c.args.cells.now c.args.tile) c.sparse_both-before.ensures.after c.digit_base-base.ensures.high (subst (λ (ts : List ℕ). length ts ≤ 9) (sym c.tiles.ensures.value) c.tiles.ensures.few) (under_base c.args.self.now.grid c.args.self.now.tiles c.tiles.result.now (exchanged c.args.cells.now c.args.tile) c.digit_base-base.result c.requires.after (c.digit_base-base.ensures.value ∙ ap digit_base c.shape.ensures.value) c.tiles.ensures.value) in
    omega (arith, top)

pub overflow_add-result-2 : goal.overflow_add-result-2
overflow_add-result-2 c =
    let top = product c.digit_base-base.result c.sparse_both-before.result.1 c.tiles.result.now (exchanged c.args.cells.now c.args.tile) c.sparse_both-before.ensures.after c.digit_base-base.ensures.high (subst (λ (ts : List ℕ). length ts ≤ 9) (sym c.tiles.ensures.value) c.tiles.ensures.few) (under_base c.args.self.now.grid c.args.self.now.tiles c.tiles.result.now (exchanged c.args.cells.now c.args.tile) c.digit_base-base.result c.requires.after (c.digit_base-base.ensures.value ∙ ap digit_base c.shape.ensures.value) c.tiles.ensures.value) in
    let low = c.fits-cells c.args.tile in
    omega (arith, top, low)

pub returns-clause-before : goal.returns-clause-before
returns-clause-before c =
    whole c.args.self.now.grid c.digit_base-base.result c.sparse_both-before.result.0 c.tiles.result.now c.args.self.now.tiles c.args.cells.now (c.digit_base-base.ensures.value ∙ ap digit_base c.shape.ensures.value) c.tiles.ensures.value c.sparse_both-before.ensures.before

pub returns-clause-after : goal.returns-clause-after
returns-clause-after c =
    ap (λ (k : ℕ). c.sparse_both-before.result.1 * c.digit_base-base.result + k) (sym (blank_after c.args.cells.now c.args.tile c.told-cells c.requires.tile))
    ∙ whole c.args.self.now.grid c.digit_base-base.result c.sparse_both-before.result.1 c.tiles.result.now c.args.self.now.tiles (exchanged c.args.cells.now c.args.tile) (c.digit_base-base.ensures.value ∙ ap digit_base c.shape.ensures.value) c.tiles.ensures.value c.sparse_both-before.ensures.after

pub returns-clause-before_below : goal.returns-clause-before_below
returns-clause-before_below c =
    subst (λ k. k < slot_count_of c.args.self.now) (sym (returns-clause-before c)) (slot_below c.args.self.now (view_at c.args.self.now.tiles c.args.cells.now) c.requires.before)

pub returns-clause-after_below : goal.returns-clause-after_below
returns-clause-after_below c =
    subst (λ k. k < slot_count_of c.args.self.now) (sym (returns-clause-after c)) (slot_below c.args.self.now (view_at c.args.self.now.tiles (exchanged c.args.cells.now c.args.tile)) c.requires.after)
