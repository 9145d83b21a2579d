use Rattle.std.proofs.Common.{ℕ, ◌<◌, ◌≤◌, List, length, sym, ap, ◌∙◌, subst, arith}
use Rattle.pattern_index.specs.Views.{view_at}
use Rattle.pattern_index.specs.Sparse.{digit_base, slot_count_of}
use Rattle.pattern_index.proofs.SparseLemmas.{slot_below}
use Rattle.pattern_index.proofs.SlotLemmas.{under_base, product, whole}
use Rattle.pattern_index.proofs.group.Group.slot_at.Goals as goal

pub sparse_tiles-requires-clause-within : goal.sparse_tiles-requires-clause-within
sparse_tiles-requires-clause-within c =
    under_base c.args.self.now.grid c.args.self.now.tiles c.tiles.result.now c.args.cells.now c.digit_base-base.result c.requires (c.digit_base-base.ensures.value ∙ ap digit_base c.shape.ensures.value) c.tiles.ensures.value

pub overflow_mul-result : goal.overflow_mul-result
overflow_mul-result c =
    let top = product c.digit_base-base.result c.sparse_tiles.result c.tiles.result.now c.args.cells.now c.sparse_tiles.ensures c.digit_base-base.ensures.high
    (subst (λ (ts : List ℕ). length ts ≤ 9) (sym c.tiles.ensures.value) c.tiles.ensures.few) (under_base c.args.self.now.grid c.args.self.now.tiles c.tiles.result.now c.args.cells.now c.digit_base-base.result c.requires (c.digit_base-base.ensures.value ∙ ap digit_base c.shape.ensures.value) c.tiles.ensures.value) in
    omega (arith, top)

pub overflow_add-result : goal.overflow_add-result
overflow_add-result c =
    let top = product c.digit_base-base.result c.sparse_tiles.result c.tiles.result.now c.args.cells.now c.sparse_tiles.ensures c.digit_base-base.ensures.high
    (subst (λ (ts : List ℕ). length ts ≤ 9) (sym c.tiles.ensures.value) c.tiles.ensures.few) (under_base c.args.self.now.grid c.args.self.now.tiles c.tiles.result.now c.args.cells.now c.digit_base-base.result c.requires (c.digit_base-base.ensures.value ∙ ap digit_base c.shape.ensures.value) c.tiles.ensures.value) in
    let low = c.type_inv.cells in
    omega (arith, top, low)

pub returns-clause-value : goal.returns-clause-value
returns-clause-value c =
    whole c.args.self.now.grid c.digit_base-base.result c.sparse_tiles.result c.tiles.result.now c.args.self.now.tiles c.args.cells.now
    (c.digit_base-base.ensures.value ∙ ap digit_base c.shape.ensures.value) c.tiles.ensures.value c.sparse_tiles.ensures

pub returns-clause-below : goal.returns-clause-below
returns-clause-below c =
    subst (λ k. k < slot_count_of c.args.self.now) (sym (returns-clause-value c)) (slot_below c.args.self.now (view_at c.args.self.now.tiles c.args.cells.now) c.requires)
