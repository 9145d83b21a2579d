-- Consecutive tiles: what groups of them see of a board as digits of its search key, before a move and after it.
use Rattle.std.proofs.Common.{◌≡◌, ◌≢◌, ℕ, zero, suc, ◌+◌, ◌-◌, ◌*◌, ◌^◌, ◌<◌, ◌≤◌, List, [], ◌∷◌, eqb, length, map, set, get_or, refl, sym, ap, ◌∙◌, subst, ⊎_elim, arith}
use Rattle.std.specs.Prelude.{All, Contains, slice_index, sum_by}
use Rattle.std.specs.List.{range_with_len}
use Rattle.std.proofs.lemmas.Bool.{cases_eq, cond-true, cond-false, eq-eqb, ne_eqb}
use Rattle.std.proofs.lemmas.List.{get_or-map, length-map}
use Rattle.std.proofs.lemmas.List.Elements.{recursion_from_All}
use Rattle.std.proofs.lemmas.List.FromFn.{length-range_with_len, get_or-range_with_len, length-map-range_with_len, get_or-map-range_with_len}
use Rattle.std.proofs.lemmas.Grind.{same_number_lists}
use Rattle.std.proofs.lemmas.Nat.{mul-le}
use Rattle.std.proofs.Math.Nat.{max-eq_right, pow-le-pow_right, pow-succ', pow-zero}
use Rattle.board.specs.Shapes.{ShapeModel, cell_count}
use Rattle.board.specs.Boards.{BoardModel, IsBoard, blank_of, cell_of}
use Rattle.board.proofs.TileLemmas.{has_cell}
use Rattle.pattern_index.specs.Groups.{GroupModel, AreGroupTiles, IsGroup}
use Rattle.pattern_index.specs.Partitions.{IsPartition, PartitionModel}
use Rattle.pattern_index.specs.Sparse.{digit_base, slot_in, sparse_of, stride_of}
use Rattle.pattern_index.specs.Views.{IsView, exchanged, view_of}
use Rattle.pattern_index.proofs.GroupLemmas.{groups_small}
use Rattle.pattern_index.proofs.SparseLemmas.{digits_none, slot-parts, slot_below}
use Rattle.pattern_index.proofs.StorageLemmas.{looked_up}
use Rattle.pattern_index.proofs.ViewMoveLemmas.{board_view}
use Rattle.search_keys.proofs.SearchKeyLemmas.{digit_set}
use Rattle.database_build.specs.Tables.{TableModel, value_in}
use Rattle.lower_bound.specs.Bounds.{Part, sum_of}
use Rattle.lower_bound.specs.ByTile.{AreGroupsByTile}
use Rattle.lower_bound.specs.Consecutive.{AreConsecutive, HasConsecutiveGroups, HasConsecutiveTables, IsConsecutiveMove, IsConsecutiveOn}
use Rattle.lower_bound.specs.Lists.{AreHeldWhole, tables_in}
use Rattle.lower_bound.specs.Slides.{AreCellsOf, HasCells, HasSum, IsMoveOf, IsTileMove}
use Rattle.lower_bound.specs.Tables.{AreConsistent, AreWhole, IsTables, BoundModel, parts_of}
use Rattle.lower_bound.specs.declared.bound.Held.{Held}
use Rattle.lower_bound.specs.declared.bound.Held.TheVariants.{Whole, Folded}
use Rattle.lower_bound.proofs.PartLemmas.{each_lookup, tables_sum, whole_each, whole_parts}
use Rattle.lower_bound.proofs.SlideLemmas.{blank_there, board_groups, cells_there, exchange_of, few_cells, has_tile, moved_board, moved_cells, moved_sides, next_sparse, seen_at, sum_is, tile_low, tile_small, whole_at, whole_none, whole_says}

-- ---- cells of a board

-- the cells of a board by number, with a place for each that a board may have
abbrev pub listed : BoardModel → List ℕ
listed b = map (cell_of b) (range_with_len 0 25)

pub cells_listed : (b : BoardModel) → IsBoard b → AreCellsOf b (listed b)
cells_listed b board = record {
  all = length-map-range_with_len (cell_of b) 0 25;
  are = λ number low. let few = few_cells b.grid board.sides in get_or-map-range_with_len (cell_of b) 0 25 number number 0 (omega (arith, low, few)) (omega arith);
}

-- ---- consecutive tiles

-- each of them is as far behind the first as its place
pub consecutive_at : (tiles : List ℕ) → AreConsecutive tiles → (k : ℕ) → k < length tiles → slice_index tiles k ≡ slice_index tiles 0 + k
consecutive_at tiles are k k_in = ap (λ (ts : List ℕ). slice_index ts k) are ∙ get_or-range_with_len (slice_index tiles 0) (length tiles) k 0 k_in

-- and tiles that are so are consecutive
pub consecutive_made : (tiles : List ℕ) → ((k : ℕ) → k < length tiles → slice_index tiles k ≡ slice_index tiles 0 + k) → AreConsecutive tiles
consecutive_made tiles are =
    same_number_lists tiles (range_with_len (slice_index tiles 0) (length tiles))
    (sym (length-range_with_len (slice_index tiles 0) (length tiles)))
    (λ k k_in. are k k_in ∙ sym (get_or-range_with_len (slice_index tiles 0) (length tiles) k 0 k_in))

-- a number of a range is that far behind the range's first
range_within : (first n tile : ℕ) → Contains (range_with_len first n) tile → (first ≤ tile) × (tile < first + n)
range_within first n tile has =
    let long = length-range_with_len first n in
    let i_in : has.0 < n = omega (arith, long, has.1) in
    let at : first + has.0 ≡ tile = sym (get_or-range_with_len first n has.0 tile i_in) ∙ has.2 in
    (omega (arith, at), omega (arith, at, i_in))

-- and its stride is the base to the power of that
range_stride : (base first n tile : ℕ) → first ≤ tile → tile < first + n → stride_of base (range_with_len first n) tile ≡ base ^ (tile - first)
unfolding stride_of
range_stride base first zero tile above below = absurd (omega arith)
range_stride base first (suc n) tile above below =
    ⊎_elim
    (λ (same : first ≡ tile).
    let none : tile - first ≡ 0 = omega (arith, same) in
    cond-true (eqb first tile) 1 (base * stride_of base (range_with_len (first + 1) n) tile) (eq-eqb first tile same) ∙ sym (ap (λ (k : ℕ). base ^ k) none ∙ pow-zero base))
    (λ (other : first ≢ tile).
    let rest = range_stride base (first + 1) n tile (omega (arith, above, other)) (omega (arith, below)) in
    let next : tile - first ≡ suc (tile - (first + 1)) = omega (arith, above, other) in
    cond-false (eqb first tile) 1 (base * stride_of base (range_with_len (first + 1) n) tile) (ne_eqb first tile other)
    ∙ ap (λ (s : ℕ). base * s) rest
    ∙ sym (ap (λ (k : ℕ). base ^ k) next ∙ pow-succ' base (tile - (first + 1))))
    (cases_eq first tile)

-- a number of one digit
one_digit : (n cell : ℕ) → sparse_of n (cell ∷ []) ≡ cell
one_digit n cell =
    let none : 0 ≡ sparse_of n [] = digits_none n [] in
    let times : n * 0 ≡ n * sparse_of n [] = ap (λ (s : ℕ). n * s) none in
    let parts = slot-parts n cell [] in
    omega (arith, parts, times)

-- ---- what consecutive tiles see of a board

module _ (g : GroupModel) (b : BoardModel) (selection : IsGroup g) (is : IsConsecutiveOn g b) where
  abbrev first : ℕ
  first = slice_index g.tiles 0

  abbrev count : ℕ
  count = length g.tiles

  based : digit_base g.grid ≡ 16
  based = max-eq_right (subst (λ (grid : ShapeModel). cell_count grid ≤ 16) is.sides is.few)

  group : AreGroupTiles b.grid g.tiles
  group = subst (λ (grid : ShapeModel). AreGroupTiles grid g.tiles) (sym is.sides) selection.group

  -- there are at most nine tiles
  pub tiles_few : count ≤ 9
  tiles_few = (groups_small g selection).0

  -- what the group sees is a view
  pub sees_before : IsView g.grid g.tiles (view_of g.tiles b)
  sees_before = subst (λ (grid : ShapeModel). IsView grid g.tiles (view_of g.tiles b)) is.sides (board_view g.tiles b is.board group)

  slot_parts : (p : BoardModel) → slot_in g.grid (view_of g.tiles p) ≡ blank_of p + 16 * sparse_of 16 (map (cell_of p) g.tiles)
  slot_parts p = ap (λ (n : ℕ). sparse_of n (blank_of p ∷ map (cell_of p) g.tiles)) based ∙ slot-parts 16 (blank_of p) (map (cell_of p) g.tiles)

  -- the digits that are read make its slot
  pub slot_read : (sparse blank start many : ℕ) → start ≡ first → many ≡ count → sparse ≡ sparse_of 16 (map (cell_of b) (range_with_len start many)) → blank ≡ sparse_of 16 (map (cell_of b) (range_with_len 0 1)) → slot_in g.grid (view_of g.tiles b) ≡ sparse * 16 + blank
  slot_read sparse blank start many starts counts read blank_read =
      let cells : sparse ≡ sparse_of 16 (map (cell_of b) g.tiles) = read ∙ (λ i. sparse_of 16 (map (cell_of b) (range_with_len (starts i) (counts i)))) ∙ ap (λ (ts : List ℕ). sparse_of 16 (map (cell_of b) ts)) (sym is.consecutive) in
      let at : blank ≡ blank_of b = blank_read ∙ one_digit 16 (blank_of b) in
      let parts = slot_parts b in
      omega (arith, parts, cells, at)

  digit_read : (number cell : ℕ) → cell ≡ sparse_of 16 (map (cell_of b) (range_with_len number 1)) → cell ≡ cell_of b number
  digit_read number cell read = read ∙ one_digit 16 (cell_of b number)

  cell_small : (number : ℕ) → number < cell_count b.grid → cell_of b number < 16
  cell_small number low = let here = (has_cell b is.board number low).0 in omega (arith, here, is.few)

  -- the slots are small
  slot_small : slot_in g.grid (view_of g.tiles b) < 16 ^ 10
  slot_small =
      let low = slot_below g (view_of g.tiles b) sees_before in
      let e : digit_base g.grid ^ suc count ≡ 16 ^ suc count = ap (λ (n : ℕ). n ^ suc count) based in
      let most : 16 ^ suc count ≤ 16 ^ 10 = pow-le-pow_right {n = 16} (omega arith) {j = 10} (let few = tiles_few in omega (arith, few)) in
      omega (arith, low, e, most)

-- ---- what they see after a move

module _ (g : GroupModel) (tile : ℕ) (b : BoardModel) (selection : IsGroup g) (is : IsConsecutiveMove g tile b) where
  board : IsBoard b
  board = is.here.board

  -- the tile is in the range of the group's tiles
  pub within : (slice_index g.tiles 0 ≤ tile) × (tile < slice_index g.tiles 0 + length g.tiles)
  within = range_within (slice_index g.tiles 0) (length g.tiles) tile (subst (λ (ts : List ℕ). Contains ts tile) is.here.consecutive is.has)

  module _ (b' : BoardModel) (move : IsMoveOf tile b b') where
    pub sees_after : IsView g.grid g.tiles (view_of g.tiles b')
    sees_after =
        let same : b'.grid ≡ b.grid = moved_sides tile b b' board move in
        subst (λ (grid : ShapeModel). IsView grid g.tiles (view_of g.tiles b')) (same ∙ is.here.sides)
        (board_view g.tiles b' (moved_board tile b b' board move) (subst (λ (grid : ShapeModel). AreGroupTiles grid g.tiles) (sym same) (group g b selection is.here)))

    -- the cells of the tiles as digits, before and after
    next : sparse_of 16 (map (cell_of b') g.tiles) + cell_of b tile * 16 ^ (tile - slice_index g.tiles 0) ≡ sparse_of 16 (map (cell_of b) g.tiles) + blank_of b * 16 ^ (tile - slice_index g.tiles 0)
    next =
        let cells : List ℕ = listed b in
        let of : AreCellsOf b (listed b) = cells_listed b board in
        let of' : AreCellsOf b' (exchanged (listed b) tile) = moved_cells tile b b' board move (listed b) of in
        let same : b'.grid ≡ b.grid = moved_sides tile b b' board move in
        let low : (grid : ShapeModel) → grid ≡ b.grid → All (λ t. t < cell_count grid) g.tiles = λ grid e. subst (λ (h : ShapeModel). All (λ t. t < cell_count h) g.tiles) (sym e) (λ k d k_in. ((group g b selection is.here).tiles k d k_in).1) in
        let here : map (slice_index (listed b)) g.tiles ≡ map (cell_of b) g.tiles = looked_up b (listed b) g.tiles of.are (recursion_from_All (λ t. t < cell_count b.grid) g.tiles (low b.grid refl)) in
        let there : map (slice_index (exchanged (listed b) tile)) g.tiles ≡ map (cell_of b') g.tiles = looked_up b' (exchanged (listed b) tile) g.tiles of'.are (recursion_from_All (λ t. t < cell_count b'.grid) g.tiles (low b'.grid same)) in
        let stride : stride_of 16 g.tiles tile ≡ 16 ^ (tile - slice_index g.tiles 0) = ap (λ (ts : List ℕ). stride_of 16 ts tile) is.here.consecutive ∙ range_stride 16 (slice_index g.tiles 0) (length g.tiles) tile within.0 within.1 in
        let cell : slice_index (listed b) tile ≡ cell_of b tile = of.are tile (tile_low tile b b' board move) in
        let some = tile_low tile b b' board move in
        let blank : slice_index (listed b) 0 ≡ blank_of b = of.are 0 (omega (arith, some)) in
        (λ i. sparse_of 16 (sym there i) + sym cell i * sym stride i)
        ∙ next_sparse (listed b) tile of.all (tile_small tile b b' board move) 16 g selection
        ∙ (λ i. sparse_of 16 (here i) + blank i * stride i)

    -- the slot, before and after
    pub slot_next : slot_in g.grid (view_of g.tiles b') + (cell_of b tile * 16 ^ (tile - slice_index g.tiles 0 + 1) + blank_of b) ≡ slot_in g.grid (view_of g.tiles b) + blank_of b * 16 ^ (tile - slice_index g.tiles 0 + 1) + cell_of b tile
    slot_next =
        let power : 16 ^ (tile - slice_index g.tiles 0 + 1) ≡ 16 * 16 ^ (tile - slice_index g.tiles 0) = (let up : tile - slice_index g.tiles 0 + 1 ≡ suc (tile - slice_index g.tiles 0) = omega arith in ap (λ (k : ℕ). 16 ^ k) up ∙ pow-succ' 16 (tile - slice_index g.tiles 0)) in
        let blank = blank_there tile b b' board move in
        let after = slot_parts g b selection is.here b' in
        let before = slot_parts g b selection is.here b in
        joined (sparse_of 16 (map (cell_of b) g.tiles)) (sparse_of 16 (map (cell_of b') g.tiles)) (cell_of b tile) (blank_of b) (16 ^ (tile - slice_index g.tiles 0)) (16 ^ (tile - slice_index g.tiles 0 + 1)) (slot_in g.grid (view_of g.tiles b)) (slot_in g.grid (view_of g.tiles b')) next power before (after ∙ ap (λ (k : ℕ). k + 16 * sparse_of 16 (map (cell_of b') g.tiles)) blank)
      where
        joined : (s s' c x p q k k' : ℕ) → s' + c * p ≡ s + x * p → q ≡ 16 * p → k ≡ x + 16 * s → k' ≡ c + 16 * s' → k' + (c * q + x) ≡ k + x * q + c
        joined s s' c x p q k k' e power here there =
            let c_up : c * q ≡ c * (16 * p) = ap (λ (n : ℕ). c * n) power in
            let x_up : x * q ≡ x * (16 * p) = ap (λ (n : ℕ). x * n) power in
            let c_out : c * (16 * p) ≡ 16 * (c * p) = grind (arith) in
            let x_out : x * (16 * p) ≡ 16 * (x * p) = grind (arith) in
            omega (arith, e, here, there, c_up, x_up, c_out, x_out)

  -- the digit of the tile is in the slot
  slot_stand : cell_of b tile * 16 ^ (tile - slice_index g.tiles 0 + 1) + blank_of b ≤ slot_in g.grid (view_of g.tiles b)
  slot_stand =
      let xs = map (cell_of b) g.tiles in
      let i = tile - slice_index g.tiles 0 in
      let at = within in
      let i_in : i < length g.tiles = omega (arith, at.0, at.1) in
      let back : slice_index g.tiles 0 + i ≡ tile = omega (arith, at.0) in
      let tile_at : slice_index g.tiles i ≡ tile =
      ap (λ (ts : List ℕ). slice_index ts i) is.here.consecutive ∙ get_or-range_with_len (slice_index g.tiles 0) (length g.tiles) i 0 i_in ∙ back in
      let digit : slice_index xs i ≡ cell_of b tile = get_or-map (cell_of b) g.tiles i 0 0 i_in ∙ ap (cell_of b) tile_at in
      let there = digit_set 16 xs i 0 (omega (arith, i_in, length-map g.tiles (cell_of b))) in
      let all : sparse_of 16 (set xs i 0) + cell_of b tile * 16 ^ i ≡ sparse_of 16 xs =
      ap (λ (x : ℕ). sparse_of 16 (set xs i 0) + x * 16 ^ i) (sym digit) ∙ there ∙ none (sparse_of 16 xs) (16 ^ i) in
      let power : 16 ^ (i + 1) ≡ 16 * 16 ^ i = (let up : i + 1 ≡ suc i = omega arith in ap (λ (k : ℕ). 16 ^ k) up ∙ pow-succ' 16 i) in
      joined (sparse_of 16 xs) (sparse_of 16 (set xs i 0)) (cell_of b tile) (blank_of b) (16 ^ i) (16 ^ (i + 1)) (slot_in g.grid (view_of g.tiles b)) all power (slot_parts g b selection is.here b)
    where
      none : (s p : ℕ) → s + 0 * p ≡ s
      none s p = omega arith

      joined : (s s' c x p q k : ℕ) → s' + c * p ≡ s → q ≡ 16 * p → k ≡ x + 16 * s → c * q + x ≤ k
      joined s s' c x p q k e power here =
          let c_up : c * q ≡ c * (16 * p) = ap (λ (n : ℕ). c * n) power in
          let c_out : c * (16 * p) ≡ 16 * (c * p) = grind (arith) in
          omega (arith, e, here, c_up, c_out)

  digit_room : (cell : ℕ) → cell < 16 → cell * 16 ^ (tile - slice_index g.tiles 0 + 1) ≤ 15 * 16 ^ 9
  digit_room cell small =
      let few = tiles_few g b selection is.here in
      let at = within in
      let most : 16 ^ (tile - slice_index g.tiles 0 + 1) ≤ 16 ^ 9 = pow-le-pow_right {n = 16} (omega arith) {j = 9} (omega (arith, few, at.1, at.0)) in
      mul-le cell (16 ^ (tile - slice_index g.tiles 0 + 1)) 15 (16 ^ 9) (omega (arith, small)) most

-- ---- what is read of a board

-- digits that are read of a board, and the slot that they make
pub record IsRead (g : GroupModel) (b : BoardModel) (sparse blank : ℕ) : Type 0 where
  pub small : sparse * 16 + blank < 16 ^ 10
  pub sees : IsView g.grid g.tiles (view_of g.tiles b)
  pub slot : slot_in g.grid (view_of g.tiles b) ≡ sparse * 16 + blank

-- by what names the code has
module _ (g : GroupModel) (b : BoardModel) (own : GroupModel) (tiles : List ℕ) (sparse blank : ℕ) (is : IsConsecutiveOn g b) (same : own ≡ g) (listed_are : tiles ≡ own.tiles) (selected : IsGroup own) where
  pub digits_read : sparse ≡ sparse_of 16 (map (cell_of b) (range_with_len (slice_index tiles 0) (length tiles))) → blank ≡ sparse_of 16 (map (cell_of b) (range_with_len 0 1)) → IsRead g b sparse blank
  digits_read sparse_is blank_is =
      let selection : IsGroup g = subst IsGroup same selected in
      let tiles_are : tiles ≡ g.tiles = listed_are ∙ ap (λ (s : GroupModel). s.tiles) same in
      let read = slot_read g b selection is sparse blank (slice_index tiles 0) (length tiles) (ap (λ (ts : List ℕ). slice_index ts 0) tiles_are) (ap length tiles_are) sparse_is blank_is in
      let small = slot_small g b selection is in
      record { small = omega (arith, small, read); sees = sees_before g b selection is; slot = read }

-- ---- what is read of a board before a move

-- the slot and the digits that are read of a board, and the slot after a move
pub record IsReadToMove (g : GroupModel) (tile : ℕ) (b : BoardModel) (slot blank cell start : ℕ) : Type 0 where
  pub above : start ≤ tile
  pub fits : slot + blank * 16 ^ (tile - start + 1) + cell < 2 ^ 64
  pub stand : cell * 16 ^ (tile - start + 1) + blank ≤ slot
  pub sees_next : (b' : BoardModel) → IsMoveOf tile b b' → IsView g.grid g.tiles (view_of g.tiles b')
  pub next : (b' : BoardModel) (after : ℕ) → IsMoveOf tile b b' → after + (cell * 16 ^ (tile - start + 1) + blank) ≡ slot + blank * 16 ^ (tile - start + 1) + cell → slot_in g.grid (view_of g.tiles b') ≡ after

-- by what names the code has
module _ (g : GroupModel) (tile : ℕ) (b : BoardModel) (own : GroupModel) (tiles : List ℕ) (slot blank cell : ℕ) (is : IsConsecutiveMove g tile b) (same : own ≡ g) (listed_are : tiles ≡ own.tiles) (selected : IsGroup own) where
  selection : IsGroup g
  selection = subst IsGroup same selected

  tiles_are : tiles ≡ g.tiles
  tiles_are = listed_are ∙ ap (λ (s : GroupModel). s.tiles) same

  pub move_read :
      slot_in g.grid (view_of g.tiles b) ≡ slot
      → blank ≡ sparse_of 16 (map (cell_of b) (range_with_len 0 1))
      → cell ≡ sparse_of 16 (map (cell_of b) (range_with_len tile 1))
      → IsReadToMove g tile b slot blank cell (slice_index tiles 0)
  move_read read blank_is cell_is =
      let at_blank : blank ≡ blank_of b = digit_read g b selection is.here 0 blank blank_is in
      let at_cell : cell ≡ cell_of b tile = digit_read g b selection is.here tile cell cell_is in
      subst (λ (ts : List ℕ). IsReadToMove g tile b slot blank cell (slice_index ts 0)) (sym tiles_are)
      (subst (λ (x : ℕ). IsReadToMove g tile b slot x cell (slice_index g.tiles 0)) (sym at_blank)
      (subst (λ (x : ℕ). IsReadToMove g tile b slot (blank_of b) x (slice_index g.tiles 0)) (sym at_cell) known))
    where
      known : IsReadToMove g tile b slot (blank_of b) (cell_of b tile) (slice_index g.tiles 0)
      known =
          let board = is.here.board in
          let at = within g tile b selection is in
          let small = slot_small g b selection is.here in
          let low = tile_low tile b is.moved.0 board is.moved.1 in
          let blank_small = cell_small g b selection is.here 0 (omega (arith, low)) in
          let blank_room = digit_room g tile b selection is (blank_of b) blank_small in
          let cell_small' = cell_small g b selection is.here tile low in
          record {
            above = at.0;
            fits = omega (arith, small, read, blank_room, cell_small');
            stand = subst (λ (n : ℕ). cell_of b tile * 16 ^ (tile - slice_index g.tiles 0 + 1) + blank_of b ≤ n) read (slot_stand g tile b selection is);
            sees_next = sees_after g tile b selection is;
            next = λ b' after move total. let step' = slot_next g tile b selection is b' move in omega (arith, step', total, read);
          }

-- ---- the sum

-- whole tables that are held for consecutive groups
pub held_consecutive : (split : PartitionModel) (held : Held) → AreHeldWhole held × HasConsecutiveGroups split → HasConsecutiveTables (tables_in split held)
held_consecutive split (Whole tables) both = record { whole = refl; groups = both.1 }
held_consecutive split (Folded folds) both = absurd both.0

-- each group is read by digits
pub groups_read : (split : PartitionModel) (b : BoardModel) → IsPartition split → HasConsecutiveGroups split → IsBoard b → b.grid ≡ split.grid → All (λ g. IsConsecutiveOn g b) split.groups
groups_read split b is consecutive board sides k d k_in = record {
  board = board;
  few = subst (λ (grid : ShapeModel). cell_count grid ≤ 16) (sym sides) consecutive.few;
  sides = sides ∙ sym (is.of_grid k d k_in);
  consecutive = consecutive.groups k d k_in;
}

-- so is each table's
pub tables_read : (tables : BoundModel) (lookups : List TableModel) (b : BoardModel) → IsTables tables → HasConsecutiveGroups tables.split → IsBoard b → b.grid ≡ tables.split.grid → lookups ≡ tables.lookups → All (λ table. IsConsecutiveOn table.selection b) lookups
tables_read tables lookups b is consecutive board sides same =
    subst (λ (ls : List TableModel). All (λ table. IsConsecutiveOn table.selection b) ls) (sym same)
    (each_lookup (λ g. IsConsecutiveOn g b) tables is (groups_read tables.split b is.partition consecutive board sides))

-- whole tables' values are added
pub sum_read : (tables : BoundModel) (lookups : List TableModel) (b : BoardModel) → AreWhole tables → lookups ≡ tables.lookups → sum_by (λ table. value_in table (view_of table.selection.tiles b)) lookups ≡ sum_of (parts_of tables) b
sum_read tables lookups b whole same =
    ap (λ (ls : List TableModel). sum_by (λ table. value_in table (view_of table.selection.tiles b)) ls) same
    ∙ tables_sum tables.lookups b
    ∙ ap (λ (ps : List Part). sum_of ps b) (sym (whole_parts tables whole))

-- ---- the sum after a move

-- a board whose sum is known, by its cells
pub slide_of : (tables : BoundModel) (cells : List ℕ) (tile sum : ℕ) (b b' : BoardModel) → HasSum tables b sum → HasCells b.grid cells b → IsMoveOf tile b b' → IsTileMove tables.split.grid cells tile b b'
slide_of tables cells tile sum b b' has at move = record { before = subst (λ (grid : ShapeModel). HasCells grid cells b) has.sides at; move = move }

module _ (tables : BoundModel) (places : List ℕ) (tile : ℕ) (b : BoardModel) (is : IsTables tables) (by : AreGroupsByTile tables.split.groups places) (whole : AreWhole tables) (board : IsBoard b) (sides : b.grid ≡ tables.split.grid) where
  has : HasCells tables.split.grid (listed b) b
  has = record { board = board; sides = sides; listed = cells_listed b board }

  -- a move whose tile no group has leaves the sum as it is
  pub sum_stays : AreConsistent tables → length tables.lookups ≤ slice_index places tile → (b' : BoardModel) → IsMoveOf tile b b' → sum_of (parts_of tables) b ≡ sum_of (parts_of tables) b'
  sum_stays consistent past b' move =
      let slide : IsTileMove tables.split.grid (listed b) tile b b' = record { before = has; move = move } in
      sym (sum_is tables is (listed b) b has)
      ∙ whole_none tables places (listed b) tile (exchange_of tables is (listed b) tile b b' slide consistent) is by whole past
      ∙ sum_is tables is (exchanged (listed b) tile) b' (cells_there tables is (listed b) tile b b' slide)

  module _ (table : TableModel) (low : slice_index places tile < length tables.lookups) (at : table ≡ get_or tables.lookups (slice_index places tile) table) where
    of_table : (P : GroupModel → Type 0) → All P tables.split.groups → P table.selection
    of_table P all = subst (λ (t : TableModel). P t.selection) (sym at) (each_lookup P tables is all (slice_index places tile) table low)

    -- else one value of it changes, that of the table at the tile's place
    pub sum_changes :
        AreConsistent tables → (b' : BoardModel) → IsMoveOf tile b b'
        → (value_in table (view_of table.selection.tiles b) ≤ sum_of (parts_of tables) b)
        × (sum_of (parts_of tables) b' ≡ sum_of (parts_of tables) b - value_in table (view_of table.selection.tiles b) + value_in table (view_of table.selection.tiles b'))
    sum_changes consistent b' move =
        let slide : IsTileMove tables.split.grid (listed b) tile b b' = record { before = has; move = move } in
        let there = cells_there tables is (listed b) tile b b' slide in
        let one = whole_at tables places (listed b) tile (exchange_of tables is (listed b) tile b b' slide consistent) is by whole table low at in
        let before : whole_says (listed b) table ≡ value_in table (view_of table.selection.tiles b) =
        ap (value_in table) (seen_at tables is (listed b) b has table.selection.tiles (of_table (λ g. AreGroupTiles b.grid g.tiles) (board_groups tables is (listed b) b has))) in
        let after : whole_says (exchanged (listed b) tile) table ≡ value_in table (view_of table.selection.tiles b') =
        ap (value_in table) (seen_at tables is (exchanged (listed b) tile) b' there table.selection.tiles (of_table (λ g. AreGroupTiles b'.grid g.tiles) (board_groups tables is (exchanged (listed b) tile) b' there))) in
        let sum = sum_is tables is (listed b) b has in
        let sum' = sum_is tables is (exchanged (listed b) tile) b' there in
        (omega (arith, one.low, before, sum), omega (arith, one.next, before, after, sum, sum'))

    -- where digits are read, the group has the tile
    pub consecutive_move : HasConsecutiveGroups tables.split → (b' : BoardModel) × IsMoveOf tile b b' → IsConsecutiveMove table.selection tile b
    consecutive_move consecutive moved = record {
      here = of_table (λ g. IsConsecutiveOn g b) (groups_read tables.split b is.partition consecutive board sides);
      has = subst (λ (t : TableModel). Contains t.selection.tiles tile) (sym at)
          (has_tile (λ (t : TableModel). t.selection) tables.split.groups tables.lookups (whole_each tables is whole) tile (slice_index places tile) table (by tile (tile_small tile b moved.0 board moved.1)) low);
      moved = moved;
    }
