-- What a step writes into memory, and what it answers.
use Rattle.std.proofs.Common.{◌≡◌, ◌≢◌, ℕ, ◌<◌, List, Option, Some, eqb, length, get_or, take, set, arith, sym, ap, ◌∙◌, subst, lt-ltb, length-take}
use Rattle.std.specs.Prelude.{swap, slice_get, option_map, ◌↔◌}
use Rattle.std.specs.List.{position, position_or_len}
use Rattle.std.proofs.Math.Seq.{take-set-lt}
use Rattle.std.proofs.lemmas.List.{get_or-take, drop-set-lt}
use Rattle.std.proofs.lemmas.List.Sums.{position_or_len_is, fails_before_first}
use Rattle.std.proofs.lemmas.List.Edits.{swap_is}
use Rattle.std.proofs.lemmas.Option.{slice_get-get_or}
use Rattle.board.specs.declared.moves.Move.{Move}
use Rattle.board.specs.Shapes.{cell_count}
use Rattle.board.specs.Boards.{BoardModel, IsBoard, blank_of}
use Rattle.board.specs.Weights.{WeightsModel, weight_of}
use Rattle.board.specs.Neighbours.{neighbour}
use Rattle.board.specs.Moves.{Moves, blank_exchange, successor_at, successor}
use Rattle.board.specs.Storage.{position_in, IsStored}
use Rattle.board.specs.declared.boards.Board.TheInside.{Inside}
use Rattle.board.proofs.TileLemmas.{has_cell, same_place}
use Rattle.board.proofs.MoveLemmas.{exchange_board}
use Rattle.board.proofs.NeighbourLemmas.{cells_above, successor_moves}

-- the blank is on a cell
pub blank_stands : (b : BoardModel) → IsBoard b → (blank_of b < cell_count b.grid) × (get_or b.tiles (blank_of b) 0 ≡ 0)
blank_stands b board = has_cell b board 0 (cells_above b.grid board.sides)

-- the first 0 in memory is the blank, though zeros lie behind the tiles
pub blank_found : (inside : Inside) (found : Option ℕ) → IsStored inside → found ≡ position (λ tile. eqb tile 0) inside.tiles → found ≡ Some (blank_of (position_in inside))
blank_found inside found stored is =
    let n : ℕ = cell_count inside.shape in
    let blank : ℕ = blank_of (position_in inside) in
    let stands = blank_stands (position_in inside) stored.board in
    let counted : length (take n inside.tiles) ≡ n = stored.board.one_each in
    let size = length-take n inside.tiles in
    let zero : get_or inside.tiles blank 0 ≡ 0 = sym (get_or-take n inside.tiles blank 0 stands.0) ∙ stands.1 in
    let first : position_or_len (λ tile. eqb tile 0) inside.tiles ≡ blank =
    position_or_len_is (λ tile. eqb tile 0) inside.tiles blank 0 (omega (arith, stands.0))
    (λ k before. ap (λ (x : ℕ). eqb x 0) (sym (get_or-take n inside.tiles k 0 (omega (arith, stands.0)))) ∙ fails_before_first (λ tile. eqb tile 0) (take n inside.tiles) k 0 before)
    (λ _. ap (λ (x : ℕ). eqb x 0) zero) in
    let within : position_or_len (λ tile. eqb tile 0) inside.tiles < length inside.tiles = omega (arith, stands.0) in
    is ∙ rw (lt-ltb _ _ within) (ap Some first)

-- the blank's cell holds a 0
pub blank_holds : (b : BoardModel) → IsBoard b → slice_get b.tiles (blank_of b) ≡ Some 0
blank_holds b board =
    let stands = blank_stands b board in
    let e = board.one_each in
    slice_get-get_or b.tiles (blank_of b) 0 (omega (arith, stands.0)) ∙ ap Some stands.1

-- another cell holds a tile
pub tile_above : (b : BoardModel) (cell : ℕ) → IsBoard b → cell < cell_count b.grid → cell ≢ blank_of b → 0 < get_or b.tiles cell 0
tile_above b cell board within other =
    let stands = blank_stands b board in
    let e = board.one_each in
    let apart : get_or b.tiles cell 0 ≢ 0 = λ none. other (same_place b.tiles board.different cell (blank_of b) (omega arith) (omega (arith, stands.0)) (none ∙ sym stands.1)) in
    omega arith

pub tile_below : (b : BoardModel) (cell : ℕ) → IsBoard b → cell < cell_count b.grid → get_or b.tiles cell 0 < cell_count b.grid
tile_below b cell board within = board.in_range cell 0 (omega (arith, board.one_each))

-- what the two writes of a step leave is stored, and it is the board after the exchange
module _ (inside : Inside) (from to : ℕ) (stored : IsStored inside) (at : from ≡ blank_of (position_in inside)) (to_below : to < cell_count inside.shape) where
  abbrev pub after : Inside
  after = record { shape = inside.shape; tiles = set (set inside.tiles from (get_or inside.tiles to 0)) to 0 }

  from_below : from < cell_count inside.shape
  from_below = subst (λ (x : ℕ). x < cell_count inside.shape) (sym at) (blank_stands (position_in inside) stored.board).0

  tiles_after : (position_in after).tiles ≡ (blank_exchange (position_in inside) to).tiles
  tiles_after =
      let n : ℕ = cell_count inside.shape in
      let ts : List ℕ = take n inside.tiles in
      let counted : length ts ≡ n = stored.board.one_each in
      let low = from_below in
      let zero : get_or ts from 0 ≡ 0 = ap (λ (x : ℕ). get_or ts x 0) at ∙ (blank_stands (position_in inside) stored.board).1 in
      let tile : get_or ts to 0 ≡ get_or inside.tiles to 0 = get_or-take n inside.tiles to 0 to_below in
      let outer = take-set-lt n (set inside.tiles from (get_or inside.tiles to 0)) to 0 to_below in
      let inner = take-set-lt n inside.tiles from (get_or inside.tiles to 0) low in
      let both : set (set ts from (get_or ts to 0)) to (get_or ts from 0) ≡ swap ts from to = swap_is ts from to 0 (omega arith) (omega arith) in
      let blank : swap ts from to ≡ swap ts (blank_of (position_in inside)) to = ap (λ (x : ℕ). swap ts x to) at in
      cc

  pub position_after : position_in after ≡ blank_exchange (position_in inside) to
  position_after = λ i. record { grid = inside.shape; tiles = tiles_after i }

  pub board_after : IsBoard (position_in after)
  board_after = subst IsBoard (sym position_after) (exchange_board (position_in inside) (blank_of (position_in inside)) to stored.board (blank_stands (position_in inside) stored.board).0 to_below)

  pub stored_after : IsStored after
  stored_after = record {
    board = board_after;
    unused = drop-set-lt (cell_count inside.shape) (set inside.tiles from (get_or inside.tiles to 0)) to 0 to_below
        ∙ drop-set-lt (cell_count inside.shape) inside.tiles from (get_or inside.tiles to 0) from_below
        ∙ stored.unused;
  }

  -- the answer is the successor
  pub answer_is : (rule : WeightsModel) (m : Move) (cost : ℕ) → Some to ≡ neighbour inside.shape m from → cost ≡ weight_of rule (get_or inside.tiles to 0) → Some (position_in after, cost) ≡ successor rule (position_in inside) m
  answer_is rule m cost found paid =
      let tile : get_or (take (cell_count inside.shape) inside.tiles) to 0 ≡ get_or inside.tiles to 0 = get_or-take (cell_count inside.shape) inside.tiles to 0 to_below in
      let here : Some to ≡ neighbour inside.shape m (blank_of (position_in inside)) = found ∙ ap (neighbour inside.shape m) at in
      let worth : cost ≡ weight_of rule (get_or (take (cell_count inside.shape) inside.tiles) to 0) = paid ∙ ap (weight_of rule) (sym tile) in
      (λ i. Some (position_after i, worth i)) ∙ ap (option_map (successor_at rule (position_in inside))) here

-- the successor is the move
pub moves_from : (rule : WeightsModel) (b : BoardModel) (m : Move) (answer : Option (BoardModel × ℕ)) → IsBoard b → answer ≡ successor rule b m → (b' : BoardModel) (c : ℕ) → (answer ≡ Some (b', c)) ↔ Moves rule b m b' c
moves_from rule b m answer board is b' c =
    let moves = successor_moves rule b m b' c board in ((λ e. moves.0 (sym is ∙ e)), (λ h. is ∙ moves.1 h))
