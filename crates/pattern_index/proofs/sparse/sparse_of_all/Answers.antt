use Rattle.std.proofs.Common.{◌≡◌, ◌+◌, ◌-◌, ◌*◌, ◌<◌, ◌≤◌, ℕ, List, length, map, drop, get_or, arith, ap, sym, ◌∙◌}
use Rattle.std.specs.Prelude.{slice_index, All}
use Rattle.std.proofs.lemmas.List.Elements.{recursion_from_All}
use Rattle.pattern_index.specs.Sparse.{sparse_of}
use Rattle.pattern_index.proofs.SparseLemmas.{sparse_none, sparse_more, sparse_low}
use Rattle.pattern_index.proofs.sparse.sparse_of_all.Goals as goal

pub tiles-init : goal.tiles-init
tiles-init c = record { within = omega (arith, c.requires.all); sparse = sparse_none c.args.count (slice_index c.args.cells.now) c.args.tiles.now ∙ ap (λ (k : ℕ). sparse_of c.args.count (map (slice_index c.args.cells.now) (drop k c.args.tiles.now))) (sym c.requires.all) }

module _ (count place sparse : ℕ) (cells tiles : List ℕ) (some : 0 < place) (within : place ≤ length tiles) (is : sparse ≡ sparse_of count (map (slice_index cells) (drop place tiles))) where
  next : sparse * count + slice_index cells (get_or tiles (place - 1) 0) ≡ sparse_of count (map (slice_index cells) (drop (place - 1) tiles))
  next = sparse_more count (slice_index cells) tiles place (place - 1) sparse (omega (arith, some)) (omega (arith, some, within)) is

  low : count ≤ 25 → length tiles ≤ 9 → All (λ cell. cell < count) (map (slice_index cells) tiles) → sparse * count + slice_index cells (get_or tiles (place - 1) 0) ≤ 3814697265625
  low few short below =
      let small = sparse_low count (slice_index cells) tiles (place - 1) few short (recursion_from_All (λ cell. cell < count) (map (slice_index cells) tiles) below) in
      let more = next in
      omega (arith, small, more)

pub overflow_mul-sparse : goal.overflow_mul-sparse
overflow_mul-sparse c = let top = low c.args.count c.tiles.place c.tiles.sparse c.args.cells.now c.args.tiles.now c.tiles-test.true c.tiles.invariant.within c.tiles.invariant.sparse c.requires.few c.requires.short c.requires.within in omega (arith, top)

pub bounds-tiles-place : goal.bounds-tiles-place
bounds-tiles-place c = omega (arith, c.tiles-test.true, c.tiles.invariant.within)

pub overflow_add-sparse : goal.overflow_add-sparse
overflow_add-sparse c = let top = low c.args.count c.tiles.place c.tiles.sparse c.args.cells.now c.args.tiles.now c.tiles-test.true c.tiles.invariant.within c.tiles.invariant.sparse c.requires.few c.requires.short c.requires.within in omega (arith, top)

pub tiles-preserved : goal.tiles-preserved
tiles-preserved c = record { within = omega (arith, c.tiles.invariant.within); sparse = next c.args.count c.tiles.place c.tiles.sparse c.args.cells.now c.args.tiles.now c.tiles-test.true c.tiles.invariant.within c.tiles.invariant.sparse }
