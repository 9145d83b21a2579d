use Rattle.std.proofs.Common.{◌≡◌, ◌≢◌, ◌<◌, ◌≤◌, ℕ, List, length, take, drop, [], ◌∷◌, ◌++◌, sym, ap, ◌∙◌, subst, arith}
use Rattle.std.specs.Prelude.{AllPairs, Some}
use Rattle.std.specs.List.{AllByRecursion}
use Rattle.std.proofs.lemmas.Bool.{false≢true}
use Rattle.board.specs.Shapes.{cell_count}
use Rattle.pattern_index.specs.Ranks.{IsListing, ways, rank_of}
use Rattle.pattern_index.specs.Views.{ViewModel, IsView}
use Rattle.pattern_index.specs.Sparse.{digits_in, sparse_in}
use Rattle.pattern_index.specs.Groups.{GroupModel, IsGroup, folded_size_of}
use Rattle.pattern_index.proofs.RankLemmas.{listing_from, differ_from_pairs, below_in, differ_in, rank_below}
use Rattle.pattern_index.proofs.GroupLemmas.{groups_small}
use Rattle.pattern_index.proofs.PlaceLemmas.{place_listing, ways-less}
use Rattle.pattern_index.proofs.SparseLemmas.{written, digits_below, length-digits, view_digits}
use Rattle.pattern_index.proofs.group.Group.place_of_sparse.Goals as goal

abbrev zeros : List ℕ
zeros = 0 ∷ 0 ∷ 0 ∷ 0 ∷ 0 ∷ 0 ∷ 0 ∷ 0 ∷ 0 ∷ []

-- what is known of the digits `list` of the number, where there are `n` cells and `k` tiles
module _ (g : GroupModel) (selection : IsGroup g) (n k sparse : ℕ) (cells : n ≡ cell_count g.grid) (tiles : k ≡ length g.tiles) (list : List ℕ) (are : list ≡ digits_in n k sparse) where
  view_is : (v : ViewModel) → IsView g.grid g.tiles v → sparse_in g.grid v ≡ sparse → list ≡ v.cells
  view_is v view is = are ∙ (λ i. digits_in (cells i) (tiles i) sparse) ∙ view_digits g.grid g.tiles v sparse view is

  some_cells : 0 < n
  some_cells = let room = (groups_small g selection).1 in omega (arith, room, cells)

  is_listing : AllPairs (λ x y. x ≢ y) list → IsListing n list
  is_listing differ = listing_from n list (subst (λ xs. AllByRecursion (λ y. y < n) xs) (sym are) (digits_below n k sparse some_cells)) (differ_from_pairs list differ)

  long : length list ≡ k
  long = ap length are ∙ length-digits n k sparse

  ways_are : ways n (length list) ≡ folded_size_of g
  ways_are = λ i. ways (cells i) ((long ∙ tiles) i)

module _ (g : GroupModel) (n : ℕ) (count : List ℕ) (sparse : ℕ) (digits : List ℕ) (few : length g.tiles ≤ 9) (tiles : count ≡ g.tiles) (wrote : digits ≡ digits_in n (length (take (length count) zeros)) sparse) where
  list_is : take (length count) (digits ++ drop (length count) zeros) ≡ digits_in n (length count) sparse
  list_is = let e = ap length tiles in written n (length count) sparse zeros digits (omega (arith, e, few)) wrote

pub returns-then-not-are_different-clause-view : goal.returns-then-not-are_different-clause-view
returns-then-not-are_different-clause-view c = λ v view is.
    let g = c.args.self.now in
    let cells : c.cells-cells.result ≡ cell_count g.grid = c.cells-cells.ensures.value ∙ ap cell_count c.shape.ensures.value in
    let are = list_is g c.cells-cells.result c.tiles-count.result.now c.args.sparse c.write_digits.new.digits c.tiles-count.ensures.few c.tiles-count.ensures.value c.write_digits.ensures in
    let same = view_is g c.shape.ensures.group c.cells-cells.result (length c.tiles-count.result.now) c.args.sparse cells (ap length c.tiles-count.ensures.value) _ are v view is in
    let differ = (place_listing g.grid g.tiles v view).different in
    absurd (false≢true (sym c.if-not-are_different.true ∙ c.are_different.ensures.1 (subst (λ xs. AllPairs (λ x y. x ≢ y) xs) (sym same) differ)))

pub returns-then-not-are_different-clause-digits : goal.returns-then-not-are_different-clause-digits
returns-then-not-are_different-clause-digits c = λ differ.
    let g = c.args.self.now in
    let cells : c.cells-cells.result ≡ cell_count g.grid = c.cells-cells.ensures.value ∙ ap cell_count c.shape.ensures.value in
    let tiles : length c.tiles-count.result.now ≡ length g.tiles = ap length c.tiles-count.ensures.value in
    let are = list_is g c.cells-cells.result c.tiles-count.result.now c.args.sparse c.write_digits.new.digits c.tiles-count.ensures.few c.tiles-count.ensures.value c.write_digits.ensures in
    let same = are ∙ (λ i. digits_in (cells i) (tiles i) c.args.sparse) in
    absurd (false≢true (sym c.if-not-are_different.true ∙ c.are_different.ensures.1 (subst (λ xs. AllPairs (λ x y. x ≢ y) xs) (sym same) differ)))

pub rank_cells-requires-clause-listing : goal.rank_cells-requires-clause-listing
rank_cells-requires-clause-listing c =
    let g = c.args.self.now in
    let cells : c.cells-cells.result ≡ cell_count g.grid = c.cells-cells.ensures.value ∙ ap cell_count c.shape.ensures.value in
    let are = list_is g c.cells-cells.result c.tiles-count.result.now c.args.sparse c.write_digits.new.digits c.tiles-count.ensures.few c.tiles-count.ensures.value c.write_digits.ensures in
    is_listing g c.shape.ensures.group c.cells-cells.result (length c.tiles-count.result.now) c.args.sparse cells (ap length c.tiles-count.ensures.value) _ are (c.are_different.ensures.0 c.if-not-are_different.false)

pub rank_cells-requires-clause-small : goal.rank_cells-requires-clause-small
rank_cells-requires-clause-small c =
    let g = c.args.self.now in
    let cells : c.cells-cells.result ≡ cell_count g.grid = c.cells-cells.ensures.value ∙ ap cell_count c.shape.ensures.value in
    let are = list_is g c.cells-cells.result c.tiles-count.result.now c.args.sparse c.write_digits.new.digits c.tiles-count.ensures.few c.tiles-count.ensures.value c.write_digits.ensures in
    let is = ways_are g c.shape.ensures.group c.cells-cells.result (length c.tiles-count.result.now) c.args.sparse cells (ap length c.tiles-count.ensures.value) _ are in
    let less = ways-less (cell_count g.grid) (length g.tiles) (groups_small g c.shape.ensures.group).1 in
    omega (arith, is, less, c.shape.ensures.group.small)

pub returns-clause-some : goal.returns-clause-some
returns-clause-some c =
    let g = c.args.self.now in
    let cells : c.cells-cells.result ≡ cell_count g.grid = c.cells-cells.ensures.value ∙ ap cell_count c.shape.ensures.value in
    let are = list_is g c.cells-cells.result c.tiles-count.result.now c.args.sparse c.write_digits.new.digits c.tiles-count.ensures.few c.tiles-count.ensures.value c.write_digits.ensures in
    let listing = is_listing g c.shape.ensures.group c.cells-cells.result (length c.tiles-count.result.now) c.args.sparse cells (ap length c.tiles-count.ensures.value) _ are (c.are_different.ensures.0 c.if-not-are_different.false) in
    let is = ways_are g c.shape.ensures.group c.cells-cells.result (length c.tiles-count.result.now) c.args.sparse cells (ap length c.tiles-count.ensures.value) _ are in
    let low = rank_below c.cells-cells.result _ (below_in c.cells-cells.result _ listing) (differ_in c.cells-cells.result _ listing) in
    omega (arith, is, low, c.rank_cells.ensures)

pub returns-clause-view : goal.returns-clause-view
returns-clause-view c = λ v view is.
    let g = c.args.self.now in
    let cells : c.cells-cells.result ≡ cell_count g.grid = c.cells-cells.ensures.value ∙ ap cell_count c.shape.ensures.value in
    let are = list_is g c.cells-cells.result c.tiles-count.result.now c.args.sparse c.write_digits.new.digits c.tiles-count.ensures.few c.tiles-count.ensures.value c.write_digits.ensures in
    let same = view_is g c.shape.ensures.group c.cells-cells.result (length c.tiles-count.result.now) c.args.sparse cells (ap length c.tiles-count.ensures.value) _ are v view is in
    ap (λ (n : ℕ). Some n) (c.rank_cells.ensures ∙ (λ i. rank_of (cells i) (same i)))

pub returns-clause-none : goal.returns-clause-none
returns-clause-none c = λ repeated.
    let g = c.args.self.now in
    let cells : c.cells-cells.result ≡ cell_count g.grid = c.cells-cells.ensures.value ∙ ap cell_count c.shape.ensures.value in
    let tiles : length c.tiles-count.result.now ≡ length g.tiles = ap length c.tiles-count.ensures.value in
    let are = list_is g c.cells-cells.result c.tiles-count.result.now c.args.sparse c.write_digits.new.digits c.tiles-count.ensures.few c.tiles-count.ensures.value c.write_digits.ensures in
    absurd (repeated (subst (λ xs. AllPairs (λ x y. x ≢ y) xs) (are ∙ (λ i. digits_in (cells i) (tiles i) c.args.sparse)) (c.are_different.ensures.0 c.if-not-are_different.false)))

pub returns-clause-digits : goal.returns-clause-digits
returns-clause-digits c = λ differ.
    let g = c.args.self.now in
    let cells : c.cells-cells.result ≡ cell_count g.grid = c.cells-cells.ensures.value ∙ ap cell_count c.shape.ensures.value in
    let tiles : length c.tiles-count.result.now ≡ length g.tiles = ap length c.tiles-count.ensures.value in
    let are = list_is g c.cells-cells.result c.tiles-count.result.now c.args.sparse c.write_digits.new.digits c.tiles-count.ensures.few c.tiles-count.ensures.value c.write_digits.ensures in
    let same = are ∙ (λ i. digits_in (cells i) (tiles i) c.args.sparse) in
    ap (λ (n : ℕ). Some n) (c.rank_cells.ensures ∙ (λ i. rank_of (cells i) (same i)))
