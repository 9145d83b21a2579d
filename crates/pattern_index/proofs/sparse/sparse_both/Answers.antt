use Rattle.std.proofs.Common.{◌≡◌, ◌+◌, ◌-◌, ◌*◌, ◌<◌, ◌≤◌, ℕ, List, length, map, drop, get_or, arith, ap, refl, ◌∙◌}
use Rattle.std.specs.Prelude.{slice_index, All}
use Rattle.std.proofs.lemmas.List.Elements.{recursion_from_All}
use Rattle.pattern_index.specs.Sparse.{sparse_of}
use Rattle.pattern_index.specs.Views.{exchanged}
use Rattle.pattern_index.proofs.SparseLemmas.{sparse_none, sparse_more, sparse_low}
use Rattle.pattern_index.proofs.sparse.sparse_both.Goals as goal

pub tiles-init : goal.tiles-init
tiles-init c = record {
  within = omega arith;
  before = sparse_none c.args.base (slice_index c.args.cells.now) c.args.tiles.now;
  after = sparse_none c.args.base (slice_index (exchanged c.args.cells.now c.args.tile)) c.args.tiles.now;
}

module _ (base place sparse digit : ℕ) (cells tiles : List ℕ) (some : 0 < place) (within : place ≤ length tiles) (is : sparse ≡ sparse_of base (map (slice_index cells) (drop place tiles))) (at : digit ≡ slice_index cells (get_or tiles (place - 1) 0)) where
  next : sparse * base + digit ≡ sparse_of base (map (slice_index cells) (drop (place - 1) tiles))
  next = ap (λ d. sparse * base + d) at ∙ sparse_more base (slice_index cells) tiles place (place - 1) sparse (omega (arith, some)) (omega (arith, some, within)) is

  low : base ≤ 25 → length tiles ≤ 9 → All (λ cell. cell < base) (map (slice_index cells) tiles) → sparse * base + digit ≤ 3814697265625
  low few short below =
      let small = sparse_low base (slice_index cells) tiles (place - 1) few short (recursion_from_All (λ cell. cell < base) (map (slice_index cells) tiles) below) in
      let more = next in
      omega (arith, small, more)

pub overflow_mul-before : goal.overflow_mul-before
overflow_mul-before c =
    let top = low c.args.base c.tiles.place c.tiles.before _ c.args.cells.now c.args.tiles.now c.tiles-test.true c.tiles.invariant.within c.tiles.invariant.before refl c.requires.few c.requires.short c.requires.before in
    omega (arith, top)

pub overflow_add-before : goal.overflow_add-before
overflow_add-before c =
    let top = low c.args.base c.tiles.place c.tiles.before _ c.args.cells.now c.args.tiles.now c.tiles-test.true c.tiles.invariant.within c.tiles.invariant.before refl c.requires.few c.requires.short c.requires.before in
    omega (arith, top)

pub overflow_mul-after : goal.overflow_mul-after
overflow_mul-after c =
    let top = low c.args.base c.tiles.place c.tiles.after _ (exchanged c.args.cells.now c.args.tile) c.args.tiles.now c.tiles-test.true c.tiles.invariant.within c.tiles.invariant.after refl c.requires.few c.requires.short c.requires.after in
    omega (arith, top)

pub overflow_add-after : goal.overflow_add-after
overflow_add-after c =
    let top = low c.args.base c.tiles.place c.tiles.after c.cell_after.result (exchanged c.args.cells.now c.args.tile) c.args.tiles.now c.tiles-test.true c.tiles.invariant.within c.tiles.invariant.after c.cell_after.ensures c.requires.few c.requires.short c.requires.after in
    omega (arith, top)

pub tiles-preserved : goal.tiles-preserved
tiles-preserved c = record {
  within = omega (arith, c.tiles.invariant.within);
  before = next c.args.base c.tiles.place c.tiles.before _ c.args.cells.now c.args.tiles.now c.tiles-test.true c.tiles.invariant.within c.tiles.invariant.before refl;
  after = next c.args.base c.tiles.place c.tiles.after c.cell_after.result (exchanged c.args.cells.now c.args.tile) c.args.tiles.now c.tiles-test.true c.tiles.invariant.within c.tiles.invariant.after c.cell_after.ensures;
}
