-- What a move changes: cells and keys.
use Rattle.std.proofs.Common.{◌≡◌, ◌≢◌, ℕ, zero, suc, ◌+◌, ◌-◌, ◌*◌, ◌/◌, ◌%◌, ◌^◌, ◌<◌, ◌≤◌, List, [], ◌∷◌, length, get_or, set, refl, sym, ap, ◌∙◌, subst, arith, Option, Some}
use Rattle.std.specs.Prelude.{swap, slice_index, option_map}
use Rattle.std.proofs.Math.Nat.{pow-suc, pow-le-pow_right, mod-eq_of_lt, mul-add-div_right, mul-add-mod_self_right}
use Rattle.std.proofs.lemmas.Nat.{pow-add, pow_pos, mul-le, div-mul-add}
use Rattle.std.proofs.lemmas.List.{length-set, get_or-set_other}
use Rattle.std.proofs.lemmas.List.Edits.{swap_is}
use Rattle.std.specs.Int.Digits.{AllBelowBase}
use Rattle.std.proofs.lemmas.List.Elements.{recursion_from_All}
use Rattle.board.specs.Shapes.{ShapeModel, cell_count}
use Rattle.board.specs.Digits.{digits_of}
use Rattle.board.specs.Boards.{BoardModel, IsBoard, blank_of}
use Rattle.board.specs.Keys.{packed_number, key_of, HasKey}
use Rattle.board.specs.Moves.{blank_exchange, successor, successor_at}
use Rattle.board.specs.Weights.{WeightsModel, weight_of}
use Rattle.board.proofs.StepLemmas.{blank_stands, tile_above, tile_below}
use Rattle.board.proofs.KeyLemmas.{digits_of-key, packed_number-lt, key_of-lt, tiles_small}
use Rattle.board.specs.declared.moves.Move.{Move}
use Rattle.board.specs.Neighbours.{LiesTowards, neighbour}
use Rattle.board.proofs.NeighbourLemmas.{cells_above}
use Rattle.board.proofs.MoveLemmas.{blank_after, exchange_board, other_cell, cell_below}
use Rattle.pattern_index.specs.Views.{exchanged}
use Rattle.lower_bound.specs.Slides.{AreCellsOf}
use Rattle.lower_bound.specs.Bounds.{Part, sum_of}
use Rattle.lower_bound.specs.declared.bound.TheConstants.{GREATEST_SUM}
use Rattle.lower_bound.proofs.SlideLemmas.{cells_exchanged, few_cells}
use Rattle.search_keys.proofs.ZeroLemmas.{five_bits, long_put}
use Rattle.successor_sums.specs.Unpacked.{FitsGrid, unpacked_board, IsUnpacked, told_of}
use Rattle.successor_sums.specs.declared.unpacked.Successor.{Successor}
use Rattle.successor_sums.specs.declared.unpacked.UnpackedBoard.TheInside.{Inside}

-- ---- the key of a board after a move, by the board's own

-- a digit of a key does not pass 128 bits
pub digit_fits : (tile behind : ℕ) → tile < 32 → behind ≤ 24 → tile * 2 ^ (5 * behind) % 340282366920938463463374607431768211456 ≡ tile * 32 ^ behind
digit_fits tile behind low few =
    let power : 32 ^ behind ≤ 32 ^ 24 = pow-le-pow_right {n = 32} (omega arith) {j = 24} few in
    let most : tile * 32 ^ behind ≤ 31 * 32 ^ 24 = mul-le tile (32 ^ behind) 31 (32 ^ 24) (omega arith) power in
    long_put tile behind (omega arith)

-- a digit of a packed number is the number at that place
pub digit_there : (xs : List ℕ) (i k : ℕ) → i + suc k ≡ length xs → AllBelowBase 32 xs → packed_number xs / 32 ^ k % 32 ≡ get_or xs i 0
digit_there [] i k e low = absurd (omega arith)
digit_there (x ∷ xs) zero k e low =
    let at : k ≡ length xs = omega arith in
    let rest : packed_number xs < 32 ^ length xs = packed_number-lt xs low.1 in
    let front : (x * 32 ^ length xs + packed_number xs) / 32 ^ length xs ≡ x = div-mul-add x (32 ^ length xs) (packed_number xs) rest in
    ap (λ (n : ℕ). (x * 32 ^ length xs + packed_number xs) / 32 ^ n % 32) at ∙ ap (λ (n : ℕ). n % 32) front ∙ mod-eq_of_lt low.0
digit_there (x ∷ xs) (suc i) k e low =
    let rest = digit_there xs i k (omega arith) low.1 in
    let long : length xs ≡ suc i + k = omega arith in
    let power : 32 ^ length xs ≡ 32 ^ suc i * 32 ^ k = ap (λ (n : ℕ). 32 ^ n) long ∙ pow-add 32 (suc i) k in
    let some : 0 < 32 ^ k = subst (λ (n : ℕ). 0 < n) (five_bits k) (pow_pos (5 * k)) in
    let shifted : x * 32 ^ length xs + packed_number xs ≡ x * 32 ^ i * 32 * 32 ^ k + packed_number xs = let p = pow-suc 32 i in rw power (rw p (grind (arith))) in
    let front : (x * 32 ^ i * 32 * 32 ^ k + packed_number xs) / 32 ^ k ≡ x * 32 ^ i * 32 + packed_number xs / 32 ^ k = mul-add-div_right some (x * 32 ^ i * 32) (packed_number xs) in
    ap (λ (n : ℕ). n / 32 ^ k % 32) shifted ∙ ap (λ (n : ℕ). n % 32) front ∙ mul-add-mod_self_right (x * 32 ^ i) 32 (packed_number xs / 32 ^ k) ∙ rest

-- the board of a key is its digits
pub key_read : (grid : ShapeModel) (key : ℕ) (b : BoardModel) → HasKey grid key b → record { grid = grid; tiles = digits_of (cell_count grid) key } ≡ b
key_read grid key b has =
    let tiles : digits_of (cell_count grid) key ≡ b.tiles = (λ i. digits_of (cell_count (sym has.sides i)) (sym has.packed i)) ∙ digits_of-key b has.board in
    λ i. record { grid = sym has.sides i; tiles = tiles i }

-- where one number is written in place of another its digit takes the place of the other's
set_packed : (xs : List ℕ) (i k v : ℕ) → i + suc k ≡ length xs → packed_number (set xs i v) + get_or xs i 0 * 32 ^ k ≡ packed_number xs + v * 32 ^ k
set_packed [] i k v e = absurd (omega arith)
set_packed (x ∷ xs) zero k v e =
    let at : k ≡ length xs = omega arith in
    let a : x * 32 ^ k ≡ x * 32 ^ length xs = ap (λ (n : ℕ). x * 32 ^ n) at in
    let b : v * 32 ^ k ≡ v * 32 ^ length xs = ap (λ (n : ℕ). v * 32 ^ n) at in
    omega arith
set_packed (x ∷ xs) (suc i) k v e =
    let rest = set_packed xs i k v (omega arith) in
    let first : x * 32 ^ length (set xs i v) ≡ x * 32 ^ length xs = ap (λ (n : ℕ). x * 32 ^ n) (length-set xs i v) in
    omega arith

-- the digit of the tile that is moved goes to where the blank was
pub moved_key : (b : BoardModel) (to : ℕ) → IsBoard b → to < cell_count b.grid → to ≢ blank_of b
    → (get_or b.tiles to 0 * 32 ^ (cell_count b.grid - 1 - to) ≤ key_of b)
    × (key_of b - get_or b.tiles to 0 * 32 ^ (cell_count b.grid - 1 - to) + get_or b.tiles to 0 * 32 ^ (cell_count b.grid - 1 - blank_of b) ≡ key_of (blank_exchange b to))
moved_key b to board to_below other =
    let stands = blank_stands b board in
    let e = board.one_each in
    let n : ℕ = cell_count b.grid in
    let t : ℕ = get_or b.tiles to 0 in
    let one = set_packed b.tiles (blank_of b) (n - 1 - blank_of b) t (omega (arith, stands.0)) in
    let none : get_or b.tiles (blank_of b) 0 * 32 ^ (n - 1 - blank_of b) ≡ 0 * 32 ^ (n - 1 - blank_of b) = ap (λ (x : ℕ). x * 32 ^ (n - 1 - blank_of b)) stands.1 in
    let long : length (set b.tiles (blank_of b) t) ≡ length b.tiles = length-set b.tiles (blank_of b) t in
    let two = set_packed (set b.tiles (blank_of b) t) to (n - 1 - to) 0 (omega arith) in
    let held : get_or (set b.tiles (blank_of b) t) to 0 * 32 ^ (n - 1 - to) ≡ t * 32 ^ (n - 1 - to) = ap (λ (x : ℕ). x * 32 ^ (n - 1 - to)) (get_or-set_other b.tiles (blank_of b) to t 0 other) in
    let low = set_packed b.tiles to (n - 1 - to) 0 (omega arith) in
    let both : set (set b.tiles (blank_of b) t) to 0 ≡ swap b.tiles (blank_of b) to =
    ap (set (set b.tiles (blank_of b) t) to) (sym stands.1) ∙ swap_is b.tiles (blank_of b) to 0 (omega (arith, stands.0)) (omega arith) in
    let key : packed_number (set (set b.tiles (blank_of b) t) to 0) ≡ packed_number (swap b.tiles (blank_of b) to) = ap packed_number both in
    (omega arith, omega arith)

-- ---- what lies in memory

-- what lies in memory where a board has the key, and the cells are its
pub unpacked_as : (inside : Inside) (b : BoardModel) → HasKey inside.shape inside.key b → AreCellsOf b inside.cells → IsUnpacked inside
unpacked_as inside b has of =
    let same = key_read inside.shape inside.key b has in
    record { board = subst IsBoard (sym same) has.board; key = ap key_of same ∙ has.packed; cells = subst (λ (p : BoardModel). AreCellsOf p inside.cells) (sym same) of }

-- the blank's cell
pub blank_is : (inside : Inside) → IsUnpacked inside → slice_index inside.cells 0 ≡ blank_of (unpacked_board inside)
blank_is inside unpacked = unpacked.cells.are 0 (cells_above (unpacked_board inside).grid unpacked.board.sides)

pub blank_below : (inside : Inside) → IsUnpacked inside → slice_index inside.cells 0 < cell_count (unpacked_board inside).grid
blank_below inside unpacked = subst (λ (k : ℕ). k < cell_count (unpacked_board inside).grid) (sym (blank_is inside unpacked)) (blank_stands (unpacked_board inside) unpacked.board).0

-- what holds where the blank goes from its cell to another that a tile is on
pub record IsLedTo (inside : Inside) (b : BoardModel) (count from to tile : ℕ) : Type 0 where
  pub tile_is : slice_index b.tiles to ≡ tile
  pub tile_some : 0 < tile
  pub tile_low : tile < cell_count b.grid
  pub small : tile < 25
  pub key_low : tile * 32 ^ (count - 1 - to) ≤ inside.key
  pub key_is : inside.key - tile * 32 ^ (count - 1 - to) + tile * 32 ^ (count - 1 - from) ≡ key_of (blank_exchange b to)
  pub key_fits : key_of (blank_exchange b to) < 2 ^ 125
  pub board : IsBoard (blank_exchange b to)
  pub blank : blank_of (blank_exchange b to) ≡ to
  pub cells : AreCellsOf (blank_exchange b to) (exchanged inside.cells tile)

module _ (inside : Inside) (m : Move) (count from to : ℕ) (unpacked : IsUnpacked inside) (counted : count ≡ cell_count inside.shape) (at : from ≡ blank_of (unpacked_board inside)) (lies : LiesTowards inside.shape m from to) where
  abbrev b : BoardModel
  b = (unpacked_board inside)

  below : to < cell_count b.grid
  below = cell_below b.grid m from to lies

  other : to ≢ blank_of b
  other same = other_cell b.grid m from to lies (same ∙ sym at)

  after : IsBoard (blank_exchange b to)
  after = exchange_board b (blank_of b) to unpacked.board (blank_stands b unpacked.board).0 below

  fits : key_of (blank_exchange b to) < 2 ^ 125
  fits =
      let low : key_of (blank_exchange b to) < 32 ^ cell_count b.grid = key_of-lt (blank_exchange b to) after in
      let most : 32 ^ cell_count b.grid ≤ 32 ^ 25 = pow-le-pow_right {n = 32} (omega arith) {j = 25} (few_cells b.grid unpacked.board.sides) in
      omega arith

  led_there : IsLedTo inside b count from to (get_or b.tiles to 0)
  led_there =
      let key = moved_key b to unpacked.board below other in
      let low : get_or b.tiles to 0 < cell_count b.grid = tile_below b to unpacked.board below in
      let few = few_cells b.grid unpacked.board.sides in
      record {
        tile_is = refl;
        tile_some = tile_above b to unpacked.board below other;
        tile_low = low;
        small = omega (arith, low, few);
        key_low = subst (λ (k : ℕ). get_or b.tiles to 0 * 32 ^ (count - 1 - to) ≤ k) unpacked.key (subst (λ (n : ℕ). get_or b.tiles to 0 * 32 ^ (n - 1 - to) ≤ key_of b) (sym counted) key.0);
        key_is = (λ i. sym unpacked.key i - get_or b.tiles to 0 * 32 ^ (counted i - 1 - to) + get_or b.tiles to 0 * 32 ^ (counted i - 1 - at i)) ∙ key.1;
        key_fits = fits;
        board = after;
        blank = blank_after b unpacked.board to below;
        cells = cells_exchanged b inside.cells to unpacked.board unpacked.cells below other;
      }

  -- the tile is a digit of the key
  led_here : (tile : ℕ) → tile ≡ inside.key / 32 ^ (count - 1 - to) % 32 → IsLedTo inside b count from to tile
  led_here tile read =
      let one_each = unpacked.board.one_each in
      let low = below in
      let behind : ℕ = cell_count b.grid - 1 - to in
      let digit : packed_number b.tiles / 32 ^ behind % 32 ≡ get_or b.tiles to 0 = digit_there b.tiles to behind (omega arith) (recursion_from_All (λ x. x < 32) b.tiles (tiles_small b unpacked.board)) in
      subst (λ (t : ℕ). IsLedTo inside b count from to t) (sym (read ∙ (λ i. sym unpacked.key i / 32 ^ (counted i - 1 - to) % 32) ∙ digit)) led_there

-- so it is for the board that lies in memory
pub led_to : (inside : Inside) (b : BoardModel) (m : Move) (count from to tile : ℕ) → IsUnpacked inside → unpacked_board inside ≡ b → count ≡ cell_count inside.shape → from ≡ blank_of b → LiesTowards inside.shape m from to → tile ≡ inside.key / 32 ^ (count - 1 - to) % 32 → IsLedTo inside b count from to tile
led_to inside b m count from to tile unpacked is counted at lies read = subst (λ (p : BoardModel). IsLedTo inside p count from to tile) is (led_here inside m count from to unpacked counted (at ∙ sym (ap blank_of is)) lies tile read)

-- ---- what is given of a successor

module _ (rule : WeightsModel) (parts : List Part) (b : BoardModel) (m : Move) (inside : Inside) (count from : ℕ) (s : Successor) (led : IsLedTo inside b count from s.cell s.tile) where
  -- where a move leads there, this is what is given of it
  pub some_told : neighbour b.grid m (blank_of b) ≡ Some s.cell → s.key ≡ key_of (blank_exchange b s.cell) → s.cost ≡ weight_of rule s.tile → s.sum ≡ sum_of parts (blank_exchange b s.cell) → Some s ≡ option_map (told_of parts b) (successor rule b m)
  some_told found key cost sum =
      let tile : s.tile ≡ slice_index b.tiles (blank_of (blank_exchange b s.cell)) = sym led.tile_is ∙ sym (ap (slice_index b.tiles) led.blank) in
      (λ i. Some (record { key = key i; tile = tile i; cell = sym led.blank i; cost = (cost ∙ ap (weight_of rule) (sym led.tile_is)) i; sum = sum i }))
      ∙ ap (λ (o : Option ℕ). option_map (told_of parts b) (option_map (successor_at rule b) o)) (sym found)

  -- and it fits the board's grid
  pub fits_grid : s.key ≡ key_of (blank_exchange b s.cell) → s.cell < cell_count b.grid → 1 ≤ s.cost → s.cost ≤ 255 → s.sum ≤ GREATEST_SUM → FitsGrid b.grid s
  fits_grid key cell low high sum = record {
    board = blank_exchange b s.cell;
    key = record { board = led.board; sides = refl; packed = sym key };
    tile_some = led.tile_some;
    tile_low = led.tile_low;
    cell = cell;
    cost_some = low;
    cost_low = high;
    sum = sum;
  }
