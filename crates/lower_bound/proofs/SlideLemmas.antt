-- What changes where a tile goes to the blank's cell: one value of a sum, that of the group that has the tile.
use Rattle.std.proofs.Common.{◌≡◌, ◌⊎◌, ℕ, zero, suc, ◌+◌, ◌-◌, ◌*◌, ◌<◌, ◌≤◌, List, [], ◌∷◌, length, map, set, get_or, refl, sym, ap, ◌∙◌, subst, inl, inr, ⊎_elim, arith, ◌≢◌}
use Rattle.std.specs.Prelude.{All, Contains, sum_by, slice_index, slice_index_or}
use Rattle.std.specs.List.{AllByRecursion}
use Rattle.std.proofs.lemmas.List.{length-map, length-set, get_or-map, get_or-set_other, get_or-set_same, get_or_default}
use Rattle.std.proofs.lemmas.Nat.{mul-le}
use Rattle.std.proofs.lemmas.List.Sums.{get_or-le-sum_by, sum_by-cons}
use Rattle.std.proofs.lemmas.Bool.{cases_eq, cases_order}
use Rattle.std.proofs.lemmas.Bool.Decides.{nat_tests}
use Rattle.std.proofs.lemmas.List.Elements.{All-map, All-weaker, recursion_from_All}
use Rattle.std.proofs.Math.Nat.{eq-or-lt_of_le}
use Rattle.board.specs.Shapes.{ShapeModel, IsShape, cell_count}
use Rattle.board.specs.Boards.{BoardModel, IsBoard, blank_of, cell_of}
use Rattle.board.specs.Weights.{WeightsModel, weight_of}
use Rattle.board.specs.Moves.{Moves, blank_exchange}
use Rattle.board.specs.Neighbours.{opposite}
use Rattle.board.specs.declared.moves.Move.{Move}
use Rattle.board.proofs.MoveLemmas.{blank_after, cell_below, cell_of-exchange, exchange_board, other_cell}
use Rattle.board.proofs.NeighbourLemmas.{cells_above}
use Rattle.board.proofs.StepLemmas.{blank_stands, tile_above, tile_below}
use Rattle.board.proofs.TileLemmas.{across, cell_is, has_cell}
use Rattle.pattern_index.proofs.StorageLemmas.{looked_up}
use Rattle.pattern_index.specs.Groups.{GroupModel, AreGroupTiles, IsGroup, IsTile}
use Rattle.pattern_index.specs.Sparse.{sparse_in, sparse_of, stride_of}
use Rattle.pattern_index.proofs.GroupLemmas.{groups_small, cells_high}
use Rattle.pattern_index.proofs.RankLemmas.{below_in, differ_from_pairs}
use Rattle.pattern_index.proofs.PlaceLemmas.{place_listing}
use Rattle.pattern_index.proofs.SparseLemmas.{moved, sparse_small, stride_low, pow_low}
use Rattle.pattern_index.specs.Partitions.{ShareNoTile, AreApart}
use Rattle.pattern_index.specs.Views.{Abstraction, IsView, ViewModel, ViewMoves, view_at, view_of, exchanged}
use Rattle.pattern_index.proofs.ViewMoveLemmas.{board_view, seen_move, moved_back, moved_view}
use Rattle.database_build.specs.Folds.{FoldedModel}
use Rattle.database_build.specs.Tables.{TableModel, value_in, IsPotential}
use Rattle.lower_bound.specs.Bounds.{Part, sum_of}
use Rattle.lower_bound.specs.ByTile.{AreGroupsByTile, IsGroupWith}
use Rattle.lower_bound.specs.Folded.{AreFoldsOf, part_folded, value_by}
use Rattle.lower_bound.specs.Laws.{ATileHasOneGroup, MovesChangeOneValue}
use Rattle.lower_bound.specs.Slides.{AreCellsOf, HasCells, IsMoveOf, IsTileMove, SeesBoth, SeesView}
use Rattle.lower_bound.specs.Tables.{AreConsistent, AreTablesOf, AreWhole, IsTables, BoundModel, part_of, parts_of}
use Rattle.lower_bound.proofs.PartLemmas.{all_folded_parts, each_fold, each_lookup, folded_each, moves_one, value_stays, whole_each, whole_parts}

-- ---- sums by the cell of each number

-- what a part says of what its group sees
abbrev pub said_by : List ℕ → Part → ℕ
said_by cells part = part.value (view_at part.tiles cells)

-- the sum of a board: what the parts say, added up
abbrev pub sum_at : List Part → List ℕ → ℕ
sum_at parts cells = sum_by (said_by cells) parts

-- ---- a sum in which one value changes

-- sums of the same values
all_same : {X : Type 0} (f g : X → ℕ) (xs : List X) → AllByRecursion (λ x. f x ≡ g x) xs → sum_by f xs ≡ sum_by g xs
all_same f g [] same = refl
all_same {X = X} f g (x ∷ xs) same =
    let here = same.0 in
    let rest = all_same f g xs same.1 in
    let one = sum_by-cons f x xs in
    let other = sum_by-cons g x xs in
    omega arith

-- sums of values that are the same except at one place
one_changed : {X : Type 0} (f g : X → ℕ) (xs : List X) (i : ℕ) (d : X) → i < length xs → ((j : ℕ) (e : X) → j < length xs → j ≢ i → f (get_or xs j e) ≡ g (get_or xs j e)) → sum_by f xs + g (get_or xs i d) ≡ sum_by g xs + f (get_or xs i d)
one_changed f g [] i d i_in same = absurd (omega (arith, i_in))
one_changed {X = X} f g (x ∷ xs) zero d i_in same =
    let rest = all_same f g xs (recursion_from_All (λ (y : X). f y ≡ g y) xs (λ j e j_in. same (suc j) e (omega (arith, j_in)) (λ z. absurd (omega (arith, z))))) in
    let one = sum_by-cons f x xs in
    let other = sum_by-cons g x xs in
    omega arith
one_changed {X = X} f g (x ∷ xs) (suc i) d i_in same =
    let here : f x ≡ g x = same 0 d (omega arith) (λ e. absurd (omega (arith, e))) in
    let rest = one_changed f g xs i d (omega (arith, i_in)) (λ j e j_in ne. same (suc j) e (omega (arith, j_in)) (λ z. ne (omega (arith, z)))) in
    let one = sum_by-cons f x xs in
    let other = sum_by-cons g x xs in
    omega arith

-- one of two different places is before the other
one_before : (j i : ℕ) → j ≢ i → (j < i) ⊎ (i < j)
one_before zero zero ne = absurd (ne refl)
one_before zero (suc i) ne = inl (omega arith)
one_before (suc j) zero ne = inr (omega arith)
one_before (suc j) (suc i) ne =
    ⊎_elim (λ (lt : j < i). inl (omega (arith, lt))) (λ (gt : i < j). inr (omega (arith, gt))) (one_before j i (λ e. ne (ap suc e)))

-- sums over what is made of items are sums over the items
mapped_sum : {X Y : Type 0} (f : Y → ℕ) (made : X → Y) (xs : List X) → sum_by (λ x. f (made x)) xs ≡ sum_by f (map made xs)
mapped_sum f made [] = refl
mapped_sum {X = X} f made (x ∷ xs) =
    let rest = mapped_sum f made xs in
    let one = sum_by-cons (λ (y : X). f (made y)) x xs in
    let other = sum_by-cons f (made x) (map made xs) in
    omega arith

-- what holds of all that is made of items holds of what is made of each
unmapped : {X Y : Type 0} (P : Y → Type 0) (made : X → Y) (xs : List X) → All P (map made xs) → All (λ x. P (made x)) xs
unmapped {X = X} P made xs all k d k_in =
    let count : length (map made xs) ≡ length xs = length-map xs made in
    subst P (get_or-map made xs k d (made d) k_in) (all k (made d) (omega (arith, count, k_in)))

pub few_cells : (grid : ShapeModel) → IsShape grid → cell_count grid ≤ 25
few_cells grid sides = mul-le grid.rows grid.cols 5 5 sides.rows_high sides.cols_high

-- ---- which group has a tile

-- where none of the groups has a tile, no place has one with it
none_there : (groups : List GroupModel) (tile place : ℕ) → All (λ (g : GroupModel). ¬ Contains g.tiles tile) groups → ((d : GroupModel) → Contains (slice_index_or groups place d).tiles tile) → ¬ (place < length groups)
none_there [] tile place without has lt = absurd (omega (arith, lt))
none_there (g ∷ gs) tile place without has lt = without place g lt (has g)

module _ (groups : List GroupModel) (tile place : ℕ) (is : IsGroupWith groups tile place) where
  -- a group that has the tile is at the place
  has_place : AreApart groups → (i : ℕ) (d : GroupModel) → i < length groups → Contains (slice_index_or groups i d).tiles tile → place ≡ i
  has_place apart i d i_in has =
      ⊎_elim
      (λ (past : place ≡ length groups). absurd (is.none (omega (arith, past)) i d i_in has))
      (λ (lt : place < length groups).
      ⊎_elim
      (λ (same : place ≡ i). same)
      (λ (differ : (place < i) ⊎ (i < place)).
      ⊎_elim
      (λ (low : place < i). absurd (apart place i d low i_in tile (is.some lt d) has))
      (λ (high : i < place). absurd (apart i place d high lt tile has (is.some lt d)))
      differ)
      (cases_order place i))
      (eq-or-lt_of_le is.few)

  -- and the group at the place has the tile
  place_has : (i : ℕ) (d : GroupModel) → i < length groups → place ≡ i → Contains (slice_index_or groups i d).tiles tile
  place_has i d i_in e = subst (λ (k : ℕ). Contains (slice_index_or groups k d).tiles tile) e (is.some (omega (arith, e, i_in)) d)

  -- where none has it, no group is at the place
  none_has : All (λ (g : GroupModel). ¬ Contains g.tiles tile) groups → place ≡ length groups
  none_has without =
      ⊎_elim
      (λ (past : place ≡ length groups). past)
      (λ (lt : place < length groups). absurd (none_there groups tile place without (is.some lt) lt))
      (eq-or-lt_of_le is.few)

pub has_one_group : ATileHasOneGroup
has_one_group groups places tile are low =
    let is = are tile low in
    ((λ apart i d i_in. (has_place groups tile (slice_index places tile) is apart i d i_in, place_has groups tile (slice_index places tile) is i d i_in)), none_has groups tile (slice_index places tile) is)

-- ---- the sum after a tile went to the blank's cell

-- items with a group each
module _ {X : Type 0} (selection : X → GroupModel) (groups : List GroupModel) (xs : List X) (of : map selection xs ≡ groups) where
  count : length xs ≡ length groups
  count = sym (length-map xs selection) ∙ ap length of

  group_at : (k : ℕ) (d : X) → k < length xs → get_or groups k (selection d) ≡ selection (get_or xs k d)
  group_at k d k_in = ap (λ (gs : List GroupModel). get_or gs k (selection d)) (sym of) ∙ get_or-map selection xs k d (selection d) k_in

  apart_too : AreApart groups → (i j : ℕ) (d : X) → i < j → j < length xs → ShareNoTile (selection (get_or xs i d)).tiles (selection (get_or xs j d)).tiles
  apart_too apart i j d lt j_in =
      let count = count in
      subst (λ (s : GroupModel). ShareNoTile (selection (get_or xs i d)).tiles s.tiles) (group_at j d j_in)
      (subst (λ (s : GroupModel). ShareNoTile s.tiles (get_or groups j (selection d)).tiles) (group_at i d (omega (arith, lt, j_in))) (apart i j (selection d) lt (omega (arith, j_in, count))))

  -- the one at a tile's place has it
  pub has_tile : (tile i : ℕ) (d : X) → IsGroupWith groups tile i → i < length xs → Contains (selection (get_or xs i d)).tiles tile
  has_tile tile i d with i_in = let count = count in subst (λ (s : GroupModel). Contains s.tiles tile) (group_at i d i_in) (with.some (omega (arith, i_in, count)) (selection d))

-- two values of each item, the same where its group doesn't have the tile
module _ {X : Type 0} (selection : X → GroupModel) (groups : List GroupModel) (xs : List X) (of : map selection xs ≡ groups) (f g : X → ℕ) (tile : ℕ) (others : All (λ x. ¬ Contains (selection x).tiles tile → f x ≡ g x) xs) where
  -- where one has the tile, its value alone changes
  pub changed : AreApart groups → (i : ℕ) (d : X) → IsGroupWith groups tile i → i < length xs → sum_by f xs + g (get_or xs i d) ≡ sum_by g xs + f (get_or xs i d)
  changed apart i d with i_in =
      let has = has_tile selection groups xs of tile i d with i_in in
      one_changed f g xs i d i_in (λ j e j_in ne. others j e j_in
      (λ within.
      let within' : Contains (selection (get_or xs j d)).tiles tile = subst (λ (x : X). Contains (selection x).tiles tile) (get_or_default xs j e d j_in) within in
      ⊎_elim
      (λ (lt : j < i). apart_too selection groups xs of apart j i d lt i_in tile within' has)
      (λ (gt : i < j). apart_too selection groups xs of apart i j d gt j_in tile has within')
      (one_before j i ne)))

  -- where none has it, no value does
  pub unchanged : (i : ℕ) → IsGroupWith groups tile i → length xs ≤ i → sum_by f xs ≡ sum_by g xs
  unchanged i with past =
      let count = count selection groups xs of in
      all_same f g xs (recursion_from_All (λ (x : X). f x ≡ g x) xs
      (λ k d k_in. others k d k_in (λ within. with.none (omega (arith, past, count)) k (selection d) (omega (arith, k_in, count)) (subst (λ (s : GroupModel). Contains s.tiles tile) (sym (group_at selection groups xs of k d k_in)) within))))

-- ---- what groups see by the cell of each number

module _ (tables : BoundModel) (is : IsTables tables) (cells : List ℕ) (b : BoardModel) (has : HasCells tables.split.grid cells b) where
  pub board_groups : All (λ g. AreGroupTiles b.grid g.tiles) tables.split.groups
  board_groups k d k_in = subst (λ (grid : ShapeModel). AreGroupTiles grid (get_or tables.split.groups k d).tiles) (is.partition.of_grid k d k_in ∙ sym has.sides) (is.partition.groups k d k_in).group

  -- what a group sees of the board
  pub seen_at : (tiles : List ℕ) → AreGroupTiles b.grid tiles → view_at tiles cells ≡ view_of tiles b
  seen_at tiles group =
      let low = recursion_from_All (λ tile. tile < cell_count b.grid) tiles (All-weaker (λ tile. IsTile b.grid tile) (λ tile. tile < cell_count b.grid) (λ tile h. h.1) tiles group.tiles) in
      let some = cells_above b.grid has.board.sides in
      λ i. record { blank = has.listed.are 0 some i; cells = looked_up b cells tiles has.listed.are low i }

  -- so what each sees is a view
  pub sees : All (SeesView cells) tables.split.groups
  sees k d k_in =
      let g = get_or tables.split.groups k d in
      let group = board_groups k d k_in in
      subst (λ (grid : ShapeModel). IsView grid g.tiles (view_at g.tiles cells)) (has.sides ∙ sym (is.partition.of_grid k d k_in))
      (subst (λ (v : ViewModel). IsView b.grid g.tiles v) (sym (seen_at g.tiles group)) (board_view g.tiles b has.board group))

  part_groups : All (λ part. AreGroupTiles b.grid part.tiles) (parts_of tables)
  part_groups =
      ⊎_elim
      (λ (whole : AreTablesOf tables.split.groups tables.lookups × AreWhole tables).
      subst (λ (ps : List Part). All (λ part. AreGroupTiles b.grid part.tiles) ps) (sym (whole_parts tables whole.1)) (All-map (λ (part : Part). AreGroupTiles b.grid part.tiles) part_of tables.lookups (each_lookup (λ g. AreGroupTiles b.grid g.tiles) tables is board_groups)))
      (λ (folded : AreFoldsOf tables.split.groups tables.folds × (tables.lookups ≡ [])).
      subst (λ (ps : List Part). All (λ part. AreGroupTiles b.grid part.tiles) ps) (sym (all_folded_parts tables folded.1)) (All-map (λ (part : Part). AreGroupTiles b.grid part.tiles) part_folded tables.folds (each_fold (λ g. AreGroupTiles b.grid g.tiles) tables is board_groups)))
      is.one_each

  -- and what its part says is the value of the view
  pub says : All (λ part. said_by cells part ≡ part.value (view_of part.tiles b)) (parts_of tables)
  says k d k_in = ap (get_or (parts_of tables) k d).value (seen_at (get_or (parts_of tables) k d).tiles (part_groups k d k_in))

  pub sum_is : sum_at (parts_of tables) cells ≡ sum_of (parts_of tables) b
  sum_is = all_same (said_by cells) (λ part. part.value (view_of part.tiles b)) (parts_of tables) (recursion_from_All (λ (part : Part). said_by cells part ≡ part.value (view_of part.tiles b)) (parts_of tables) says)

-- ---- the cells after a move

across_first : (i j : ℕ) → across i j i ≡ j
across_first i j = grind (arith, nat_tests)

across_second : (i j : ℕ) → j ≢ i → across i j j ≡ i
across_second i j ne = grind (arith, nat_tests)

across_other : (i j k : ℕ) → k ≢ i → k ≢ j → across i j k ≡ k
across_other i j k ne ne' = grind (arith, nat_tests)

cells_after : (b : BoardModel) (cells : List ℕ) (to : ℕ) → IsBoard b → AreCellsOf b cells → cell_count b.grid ≤ 25 → to < cell_count b.grid → to ≢ blank_of b → AreCellsOf (blank_exchange b to) (set (set cells 0 to) (get_or b.tiles to 0) (blank_of b))
cells_after b cells to board of few to_below other = record {
  all = length-set (set cells 0 to) t (blank_of b) ∙ length-set cells 0 to ∙ of.all;
  are = at;
}
  where
    t : ℕ
    t = get_or b.tiles to 0

    at : (number : ℕ) → number < cell_count b.grid → get_or (set (set cells 0 to) (get_or b.tiles to 0) (blank_of b)) number 0 ≡ cell_of (blank_exchange b to) number
    at number low =
        let e = board.one_each in
        let size = of.all in
        let stands = blank_stands b board in
        let above = tile_above b to board to_below other in
        let below = tile_below b to board to_below in
        let long : length (set cells 0 to) ≡ 25 = length-set cells 0 to ∙ of.all in
        let moved = cell_of-exchange b (blank_of b) to board stands.0 to_below number low in
        ⊎_elim
        (λ (same : number ≡ get_or b.tiles to 0).
        let here : cell_of b number ≡ to = ap (cell_of b) same ∙ cell_is b board.different to (get_or b.tiles to 0) (omega arith) refl in
        ap (λ (k : ℕ). get_or (set (set cells 0 to) (get_or b.tiles to 0) (blank_of b)) k 0) same
        ∙ get_or-set_same (set cells 0 to) (get_or b.tiles to 0) (blank_of b) 0 (omega arith)
        ∙ sym (moved ∙ ap (across (blank_of b) to) here ∙ across_second (blank_of b) to other))
        (λ (ne : number ≢ get_or b.tiles to 0).
        get_or-set_other (set cells 0 to) (get_or b.tiles to 0) number (blank_of b) 0 ne
        ∙ ⊎_elim
        (λ (zero_is : number ≡ 0).
        ap (λ (k : ℕ). get_or (set cells 0 to) k 0) zero_is
        ∙ get_or-set_same cells 0 to 0 (omega arith)
        ∙ sym (moved ∙ ap (λ (k : ℕ). across (blank_of b) to (cell_of b k)) zero_is ∙ across_first (blank_of b) to))
        (λ (ne' : number ≢ 0).
        let found = has_cell b board number low in
        let off_blank : cell_of b number ≢ blank_of b = λ s. ne' (sym found.1 ∙ ap (λ (k : ℕ). get_or b.tiles k 0) s ∙ stands.1) in
        let off_to : cell_of b number ≢ to = λ s. ne (sym found.1 ∙ ap (λ (k : ℕ). get_or b.tiles k 0) s) in
        get_or-set_other cells 0 number to 0 ne' ∙ of.are number low ∙ sym (moved ∙ across_other (blank_of b) to (cell_of b number) off_blank off_to))
        (cases_eq number 0))
        (cases_eq number (get_or b.tiles to 0))

-- they are the cells before, with the blank's and the tile's exchanged
pub cells_exchanged : (b : BoardModel) (cells : List ℕ) (to : ℕ) → IsBoard b → AreCellsOf b cells → to < cell_count b.grid → to ≢ blank_of b → AreCellsOf (blank_exchange b to) (exchanged cells (get_or b.tiles to 0))
cells_exchanged b cells to board of to_below other =
    let t = get_or b.tiles to 0 in
    let few = few_cells b.grid board.sides in
    let e = board.one_each in
    let blank : slice_index cells 0 ≡ blank_of b = of.are 0 (cells_above b.grid board.sides) in
    let tile : slice_index cells t ≡ to = of.are t (tile_below b to board to_below) ∙ cell_is b board.different to t (omega (arith, e, to_below)) refl in
    subst (λ (x : ℕ). AreCellsOf (blank_exchange b to) (set (set cells 0 (slice_index cells t)) t x)) (sym blank)
    (subst (λ (y : ℕ). AreCellsOf (blank_exchange b to) (set (set cells 0 y) t (blank_of b))) (sym tile) (cells_after b cells to board of few to_below other))

-- ---- what holds where a tile goes to the blank's cell

-- each group sees a view before and after, and the parts that don't have the tile say what they said
pub record IsExchange (tables : BoundModel) (cells : List ℕ) (tile : ℕ) : Type 0 where
  pub low : tile < 25
  pub before : All (SeesView cells) tables.split.groups
  pub after : All (SeesView (exchanged cells tile)) tables.split.groups
  pub others : All (λ part. ¬ Contains part.tiles tile → said_by cells part ≡ said_by (exchanged cells tile) part) (parts_of tables)

-- what is said by the cell of each number: of whole tables, and of folded ones
abbrev pub whole_says : List ℕ → TableModel → ℕ
whole_says cells table = value_in table (view_at table.selection.tiles cells)

pub whole_sum_at : (tables : BoundModel) (cells : List ℕ) → AreWhole tables → sum_by (whole_says cells) tables.lookups ≡ sum_at (parts_of tables) cells
whole_sum_at tables cells whole = mapped_sum (said_by cells) part_of tables.lookups ∙ ap (λ (ps : List Part). sum_at ps cells) (sym (whole_parts tables whole))

pub folded_sum_at : (tables : BoundModel) (cells : List ℕ) → tables.lookups ≡ [] → sum_by (value_by cells) tables.folds ≡ sum_at (parts_of tables) cells
folded_sum_at tables cells folded = mapped_sum (said_by cells) part_folded tables.folds ∙ ap (λ (ps : List Part). sum_at ps cells) (sym (all_folded_parts tables folded))

module _ (tables : BoundModel) (cells : List ℕ) (tile : ℕ) (slide : IsExchange tables cells tile) (is : IsTables tables) where
  pub whole_others : AreWhole tables → All (λ table. ¬ Contains table.selection.tiles tile → whole_says cells table ≡ whole_says (exchanged cells tile) table) tables.lookups
  whole_others whole =
      unmapped (λ (p : Part). ¬ Contains p.tiles tile → said_by cells p ≡ said_by (exchanged cells tile) p) part_of tables.lookups
      (subst (λ (ps : List Part). All (λ p. ¬ Contains p.tiles tile → said_by cells p ≡ said_by (exchanged cells tile) p) ps) (whole_parts tables whole) slide.others)

  pub folded_others : tables.lookups ≡ [] → All (λ fold. ¬ Contains fold.selection.tiles tile → value_by cells fold ≡ value_by (exchanged cells tile) fold) tables.folds
  folded_others folded =
      unmapped (λ (p : Part). ¬ Contains p.tiles tile → said_by cells p ≡ said_by (exchanged cells tile) p) part_folded tables.folds
      (subst (λ (ps : List Part). All (λ p. ¬ Contains p.tiles tile → said_by cells p ≡ said_by (exchanged cells tile) p) ps) (all_folded_parts tables folded) slide.others)

  pub whole_sees : All (λ table. SeesBoth cells tile table.selection) tables.lookups
  whole_sees k d k_in = record { low = slide.low; before = each_lookup (SeesView cells) tables is slide.before k d k_in; after = each_lookup (SeesView (exchanged cells tile)) tables is slide.after k d k_in }

  pub fold_sees : All (λ fold. SeesBoth cells tile fold.selection) tables.folds
  fold_sees k d k_in = record { low = slide.low; before = each_fold (SeesView cells) tables is slide.before k d k_in; after = each_fold (SeesView (exchanged cells tile)) tables is slide.after k d k_in }

-- a place by tile: where it is that of a table, the table sees both views, said no more than the sum, and its value alone changes
pub record WholeAt (tables : BoundModel) (cells : List ℕ) (tile : ℕ) (table : TableModel) : Type 0 where
  pub sees : SeesBoth cells tile table.selection
  pub low : whole_says cells table ≤ sum_at (parts_of tables) cells
  pub next : sum_at (parts_of tables) (exchanged cells tile) ≡ sum_at (parts_of tables) cells - whole_says cells table + whole_says (exchanged cells tile) table

pub record FoldedAt (tables : BoundModel) (cells : List ℕ) (tile : ℕ) (fold : FoldedModel) : Type 0 where
  pub sees : SeesBoth cells tile fold.selection
  pub low : value_by cells fold ≤ sum_at (parts_of tables) cells
  pub next : sum_at (parts_of tables) (exchanged cells tile) ≡ sum_at (parts_of tables) cells - value_by cells fold + value_by (exchanged cells tile) fold

module _ (tables : BoundModel) (places : List ℕ) (cells : List ℕ) (tile : ℕ) (slide : IsExchange tables cells tile) (is : IsTables tables) (by : AreGroupsByTile tables.split.groups places) where
  at_tile : IsGroupWith tables.split.groups tile (slice_index places tile)
  at_tile = by tile slide.low

  pub whole_at : AreWhole tables → (table : TableModel) → slice_index places tile < length tables.lookups → table ≡ get_or tables.lookups (slice_index places tile) table → WholeAt tables cells tile table
  whole_at whole table low at =
      let here = get_or tables.lookups (slice_index places tile) table in
      let one = changed (λ (t : TableModel). t.selection) tables.split.groups tables.lookups (whole_each tables is whole) (whole_says cells) (whole_says (exchanged cells tile)) tile (whole_others tables cells tile slide is whole) is.partition.apart (slice_index places tile) table at_tile low in
      let before = whole_sum_at tables cells whole in
      let after = whole_sum_at tables (exchanged cells tile) whole in
      let most = get_or-le-sum_by (whole_says cells) tables.lookups (slice_index places tile) table low in
      subst (WholeAt tables cells tile) (sym at) (record {
        sees = whole_sees tables cells tile slide is (slice_index places tile) table low;
        low = omega (arith, most, before);
        next = omega (arith, one, before, after, most);
      })

  pub whole_none : AreWhole tables → length tables.lookups ≤ slice_index places tile → sum_at (parts_of tables) cells ≡ sum_at (parts_of tables) (exchanged cells tile)
  whole_none whole past =
      let same = unchanged (λ (t : TableModel). t.selection) tables.split.groups tables.lookups (whole_each tables is whole) (whole_says cells) (whole_says (exchanged cells tile)) tile (whole_others tables cells tile slide is whole) (slice_index places tile) at_tile past in
      sym (whole_sum_at tables cells whole) ∙ same ∙ whole_sum_at tables (exchanged cells tile) whole

  pub folded_at : tables.lookups ≡ [] → (fold : FoldedModel) → slice_index places tile < length tables.folds → fold ≡ get_or tables.folds (slice_index places tile) fold → FoldedAt tables cells tile fold
  folded_at folded fold low at =
      let here = get_or tables.folds (slice_index places tile) fold in
      let one = changed (λ (f : FoldedModel). f.selection) tables.split.groups tables.folds (folded_each tables is folded) (value_by cells) (value_by (exchanged cells tile)) tile (folded_others tables cells tile slide is folded) is.partition.apart (slice_index places tile) fold at_tile low in
      let before = folded_sum_at tables cells folded in
      let after = folded_sum_at tables (exchanged cells tile) folded in
      let most = get_or-le-sum_by (value_by cells) tables.folds (slice_index places tile) fold low in
      subst (FoldedAt tables cells tile) (sym at) (record {
        sees = fold_sees tables cells tile slide is (slice_index places tile) fold low;
        low = omega (arith, most, before);
        next = omega (arith, one, before, after, most);
      })

  pub folded_none : tables.lookups ≡ [] → length tables.folds ≤ slice_index places tile → sum_at (parts_of tables) cells ≡ sum_at (parts_of tables) (exchanged cells tile)
  folded_none folded past =
      let same = unchanged (λ (f : FoldedModel). f.selection) tables.split.groups tables.folds (folded_each tables is folded) (value_by cells) (value_by (exchanged cells tile)) tile (folded_others tables cells tile slide is folded) (slice_index places tile) at_tile past in
      sym (folded_sum_at tables cells folded) ∙ same ∙ folded_sum_at tables (exchanged cells tile) folded

-- ---- why a move changes one value

-- a move that a group doesn't see costs it nothing, there and back, so a potential says the same before and after
potential_stays : (rule : WeightsModel) (goal b : BoardModel) (m : Move) (b' : BoardModel) (c : ℕ) (tiles : List ℕ) (value : ViewModel → ℕ) → IsBoard b → goal.grid ≡ b.grid → AreGroupTiles b.grid tiles → Moves rule b m b' c → IsPotential rule tiles goal value → ¬ Contains tiles (get_or b.tiles (blank_of b') 0) → value (view_of tiles b) ≡ value (view_of tiles b')
potential_stays rule goal b m b' c tiles value board same group moves potential without =
    let step = seen_move rule tiles b m b' c board group moves in
    let a : Abstraction = record { grid = b.grid; rule = rule; tiles = tiles } in
    let view = board_view tiles b board group in
    let back = moved_back a (view_of tiles b) m (view_of tiles b') step.0 view step.1 in
    let view' = moved_view a (view_of tiles b) m (view_of tiles b') step.0 view step.1 in
    let falls = subst (λ (g : ShapeModel). (v : ViewModel) (k : Move) (v' : ViewModel) (n : ℕ) → IsView g tiles v → ViewMoves (record { grid = g; rule = rule; tiles = tiles }) v k v' n → value v ≤ n + value v') same potential.falls_slowly in
    let there = falls (view_of tiles b) m (view_of tiles b') step.0 view step.1 in
    let here = falls (view_of tiles b') (opposite m) (view_of tiles b) step.0 view' back in
    let none = step.3 without in
    omega (arith, there, here, none)

-- the same move by other costs
other_costs : (rule other : WeightsModel) (b : BoardModel) (m : Move) (b' : BoardModel) (c : ℕ) → (moves : Moves rule b m b' c) → Moves other b m b' (weight_of other (slice_index b.tiles moves.cell))
other_costs rule other b m b' c moves = record { cell = moves.cell; towards = moves.towards; after = moves.after; cost = refl }

pub one_value_changes : MovesChangeOneValue
one_value_changes tables rule b m b' c is consistent board same moves =
    ⊎_elim
    (λ (whole : AreTablesOf tables.split.groups tables.lookups × AreWhole tables).
    subst (λ (ps : List Part). All Stays ps) (sym (whole_parts tables whole.1)) (All-map Stays part_of tables.lookups
    (λ k d k_in. potential_stays consistent.rule consistent.goal b m b' _ (get_or tables.lookups k d).selection.tiles (value_in (get_or tables.lookups k d)) board (consistent.grid ∙ sym same) (each_lookup (λ g. AreGroupTiles b.grid g.tiles) tables is groups k d k_in) (other_costs rule consistent.rule b m b' c moves) (consistent.whole k d k_in))))
    (λ (folded : AreFoldsOf tables.split.groups tables.folds × (tables.lookups ≡ [])).
    subst (λ (ps : List Part). All Stays ps) (sym (all_folded_parts tables folded.1)) (All-map Stays part_folded tables.folds
    (λ k d k_in. value_stays b b' (get_or b.tiles (blank_of b') 0) (get_or tables.folds k d) (moves_one rule b m b' c board moves) (tiles_after (get_or tables.folds k d).selection.tiles (each_fold (λ g. AreGroupTiles b.grid g.tiles) tables is groups k d k_in).tiles))))
    is.one_each
  where
    Stays : Part → Type 0
    Stays part = ¬ Contains part.tiles (get_or b.tiles (blank_of b') 0) → part.value (view_of part.tiles b) ≡ part.value (view_of part.tiles b')

    groups : All (λ g. AreGroupTiles b.grid g.tiles) tables.split.groups
    groups k d k_in = subst (λ (grid : ShapeModel). AreGroupTiles grid (get_or tables.split.groups k d).tiles) (is.partition.of_grid k d k_in ∙ sym same) (is.partition.groups k d k_in).group

    tiles_after : (tiles : List ℕ) → All (IsTile b.grid) tiles → AllByRecursion (IsTile b'.grid) tiles
    tiles_after tiles all = recursion_from_All (IsTile b'.grid) tiles (subst (λ (g : ShapeModel). All (IsTile g) tiles) (sym (ap (λ (x : BoardModel). x.grid) moves.after)) all)

-- ---- the board to which a move leads

module _ (tile : ℕ) (b b' : BoardModel) (board : IsBoard b) (move : IsMoveOf tile b b') where
  cell_low : move.moves.cell < cell_count b.grid
  cell_low = cell_below b.grid move.direction (blank_of b) move.moves.cell move.moves.towards

  blank_at : blank_of b' ≡ move.moves.cell
  blank_at = ap blank_of move.moves.after ∙ blank_after b board move.moves.cell cell_low

  tile_at : get_or b.tiles move.moves.cell 0 ≡ tile
  tile_at = ap (λ k. get_or b.tiles k 0) (sym blank_at) ∙ sym move.moved

  pub tile_low : tile < cell_count b.grid
  tile_low = subst (λ (t : ℕ). t < cell_count b.grid) tile_at (tile_below b move.moves.cell board cell_low)

  pub tile_small : tile < 25
  tile_small = let few = few_cells b.grid board.sides in let low = tile_low in omega (arith, few, low)

  -- the blank is where the tile was
  pub blank_there : blank_of b' ≡ cell_of b tile
  blank_there =
      let all = board.one_each in
      let low = cell_low in
      blank_at ∙ sym (cell_is b board.different move.moves.cell tile (omega (arith, all, low)) tile_at)

  pub moved_board : IsBoard b'
  moved_board = subst IsBoard (sym move.moves.after) (exchange_board b (blank_of b) move.moves.cell board (blank_stands b board).0 cell_low)

  pub moved_sides : b'.grid ≡ b.grid
  moved_sides = ap (λ (p : BoardModel). p.grid) move.moves.after

  -- its cells are those before, with the blank's and the tile's exchanged
  pub moved_cells : (cells : List ℕ) → AreCellsOf b cells → AreCellsOf b' (exchanged cells tile)
  moved_cells cells listed =
      let other = other_cell b.grid move.direction (blank_of b) move.moves.cell move.moves.towards in
      subst (λ (p : BoardModel). AreCellsOf p (exchanged cells tile)) (sym move.moves.after)
      (subst (λ (t : ℕ). AreCellsOf (blank_exchange b move.moves.cell) (exchanged cells t)) tile_at (cells_exchanged b cells move.moves.cell board listed cell_low other))

module _ (tables : BoundModel) (is : IsTables tables) (cells : List ℕ) (tile : ℕ) (b b' : BoardModel) (slide : IsTileMove tables.split.grid cells tile b b') where
  -- the cells after it are those of the board to which it leads
  pub cells_there : HasCells tables.split.grid (exchanged cells tile) b'
  cells_there = record {
    board = moved_board tile b b' slide.before.board slide.move;
    sides = moved_sides tile b b' slide.before.board slide.move ∙ slide.before.sides;
    listed = moved_cells tile b b' slide.before.board slide.move cells slide.before.listed;
  }

  pub exchange_of : AreConsistent tables → IsExchange tables cells tile
  exchange_of consistent =
      let stay = one_value_changes tables slide.move.rule b slide.move.direction b' slide.move.cost is consistent slide.before.board slide.before.sides slide.move.moves in
      let there = cells_there in
      record {
        low = tile_small tile b b' slide.before.board slide.move;
        before = sees tables is cells b slide.before;
        after = sees tables is (exchanged cells tile) b' there;
        others = λ k d k_in without.
            says tables is cells b slide.before k d k_in
            ∙ stay k d k_in (λ within. without (subst (Contains (get_or (parts_of tables) k d).tiles) (sym slide.move.moved) within))
            ∙ sym (says tables is (exchanged cells tile) b' there k d k_in);
      }

-- ---- what an exchange makes of a sparse place

module _ (cells : List ℕ) (tile : ℕ) (all : length cells ≡ 25) (low : tile < 25) where
  others : (number : ℕ) → 0 < number → number ≢ tile → slice_index (exchanged cells tile) number ≡ slice_index cells number
  others number some other =
      get_or-set_other (set cells 0 (slice_index cells tile)) tile number (slice_index cells 0) 0 other
      ∙ get_or-set_other cells 0 number (slice_index cells tile) 0 (λ e. absurd (omega (arith, e, some)))

  here : slice_index (exchanged cells tile) tile ≡ slice_index cells 0
  here = get_or-set_same (set cells 0 (slice_index cells tile)) tile (slice_index cells 0) 0 (let long = length-set cells 0 (slice_index cells tile) in omega (arith, long, all, low))

  -- the number that the cells of a group's tiles are digits of, before and after
  pub next_sparse : (n : ℕ) (g : GroupModel) → IsGroup g → sparse_of n (map (slice_index (exchanged cells tile)) g.tiles) + slice_index cells tile * stride_of n g.tiles tile ≡ sparse_of n (map (slice_index cells) g.tiles) + slice_index cells 0 * stride_of n g.tiles tile
  next_sparse n g selection =
      moved n tile cells (exchanged cells tile) others g.tiles (recursion_from_All (λ t. 0 < t) g.tiles (λ k d k_in. (selection.group.tiles k d k_in).0)) (differ_from_pairs g.tiles selection.group.different)
      ∙ ap (λ c. sparse_of n (map (slice_index cells) g.tiles) + c * stride_of n g.tiles tile) here

module _ (g : GroupModel) (selection : IsGroup g) (cells : List ℕ) (tile : ℕ) (all : length cells ≡ 25) (low : tile < 25) (view : IsView g.grid g.tiles (view_at g.tiles cells)) where
  -- what a sparse place was and what it is
  pub next_place : sparse_in g.grid (view_at g.tiles (exchanged cells tile)) + slice_index cells tile * stride_of (cell_count g.grid) g.tiles tile ≡ sparse_in g.grid (view_at g.tiles cells) + slice_index cells 0 * stride_of (cell_count g.grid) g.tiles tile
  next_place = next_sparse cells tile all low (cell_count g.grid) g selection

  pub place_low : sparse_in g.grid (view_at g.tiles cells) ≤ 3814697265625
  place_low =
      let few = cells_high g.grid selection.sides in
      let short = (groups_small g selection).0 in
      let long = view.one_each in
      sparse_small (cell_count g.grid) (map (slice_index cells) g.tiles) few (omega (arith, long, short)) (below_in (cell_count g.grid) (map (slice_index cells) g.tiles) (place_listing g.grid g.tiles (view_at g.tiles cells) view))

  pub times_low : (cell : ℕ) → cell < 256 → cell * stride_of (cell_count g.grid) g.tiles tile ≤ 972747802734375
  times_low cell small =
      let few = cells_high g.grid selection.sides in
      let short = (groups_small g selection).0 in
      let room = (groups_small g selection).1 in
      let top = stride_low (cell_count g.grid) g.tiles tile (omega (arith, room)) in
      let power = pow_low (cell_count g.grid) (length g.tiles) few short in
      let product : cell * stride_of (cell_count g.grid) g.tiles tile ≤ 255 * 3814697265625 = mul-le cell (stride_of (cell_count g.grid) g.tiles tile) 255 3814697265625 (omega (arith, small)) (omega (arith, top, power)) in
      omega (arith, product)
