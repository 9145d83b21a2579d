-- The neighbour that is computed is the one that lies there.
use Rattle.std.proofs.Common.{◌≡◌, ◌≢◌, ℕ, zero, suc, ◌+◌, ◌-◌, ◌*◌, ◌/◌, ◌%◌, ◌<◌, ◌≤◌, Bool, true, false, cond, eqb, refl, sym, ap, ◌∙◌, ⊎_elim, arith, Option, Some, None}
use Rattle.std.specs.Prelude.{◌↔◌, option_map}
use Rattle.std.proofs.Math.Nat.{mod-add-div', mod-lt, mul-le-mul_right, pos_of_ne-zero}
use Rattle.std.proofs.lemmas.Bool.{eqb-false, ne_eqb, cond-false, cases_lt}
use Rattle.std.proofs.lemmas.Nat.{div-mul-add, mod-mul-add, mul-le}
use Rattle.board.specs.declared.moves.Move.{Move}
use Rattle.board.specs.declared.moves.Move.TheVariants.{U, L, R, D}
use Rattle.board.specs.Shapes.{ShapeModel, IsShape, cell_count, row_of, column_of}
use Rattle.board.specs.Neighbours.{LiesTowards, neighbour}
use Rattle.board.specs.Boards.{BoardModel, IsBoard, blank_of}
use Rattle.board.specs.Weights.{WeightsModel}
use Rattle.board.specs.Moves.{Moves, successor_at, successor}
use Rattle.board.proofs.TileLemmas.{has_cell}

if_some : (b : Bool) (x to : ℕ) → cond b None (Some x) ≡ Some to → (b ≡ false) × (x ≡ to)
if_some true x to is = cc
if_some false x to is = (refl, cc)

row_at : (n r k x : ℕ) → k < n → x ≡ r * n + k → x / n ≡ r
row_at n r k x low is = rw is (div-mul-add r n k low)

column_at : (n r k x : ℕ) → k < n → x ≡ r * n + k → x % n ≡ k
column_at n r k x low is = rw is (mod-mul-add r n k low)

-- a cell is in one of the rows
row_below : (rows n x : ℕ) → x < rows * n → x / n < rows
row_below rows n x low =
    ⊎_elim (λ (lt : x / n < rows). lt)
    (λ (le : rows ≤ x / n). let h : rows * n ≤ x / n * n = mul-le-mul_right n le in let e = mod-add-div' x n in absurd (omega arith))
    (cases_lt (x / n) rows)

one_less : (r : ℕ) → r ≢ 0 → (p : ℕ) × (r ≡ p + 1)
one_less zero ne = absurd (ne refl)
one_less (suc p) ne = (p, omega arith)

module _ (grid : ShapeModel) (from to : ℕ) (some : 0 < grid.cols) (inside : from < cell_count grid) where
  -- a cell in row r and column k
  placed : (r k : ℕ) → k < grid.cols → to ≡ r * grid.cols + k → (row_of grid to ≡ r) × (column_of grid to ≡ k)
  placed r k low is = (row_at grid.cols r k to low is, column_at grid.cols r k to low is)

  pub lies_from : (m : Move) → neighbour grid m from ≡ Some to → LiesTowards grid m from to
  lies_from U is =
      let h = if_some (eqb (row_of grid from) 0) (from - grid.cols) to is in
      let p = one_less (row_of grid from) (eqb-false _ _ h.0) in
      let e = mod-add-div' from grid.cols in
      let q : from / grid.cols * grid.cols ≡ (p.0 + 1) * grid.cols = ap (λ x. x * grid.cols) p.1 in
      let at = placed p.0 (column_of grid from) (mod-lt from some) (omega (arith, h.1)) in
      (omega (arith, h.1), omega (arith, at.0, p.1), at.1)
  lies_from L is =
      let h = if_some (eqb (column_of grid from) 0) (from - 1) to is in
      let p = one_less (column_of grid from) (eqb-false _ _ h.0) in
      let e = mod-add-div' from grid.cols in
      let low = mod-lt from some in
      let at = placed (row_of grid from) p.0 (omega (arith, p.1)) (omega (arith, h.1, p.1)) in
      (omega (arith, h.1), at.0, omega (arith, at.1, p.1))
  lies_from R is =
      let h = if_some (eqb (column_of grid from + 1) grid.cols) (from + 1) to is in
      let ne = eqb-false (column_of grid from + 1) grid.cols h.0 in
      let e = mod-add-div' from grid.cols in
      let low = mod-lt from some in
      let last : column_of grid from + 1 < grid.cols = omega arith in
      let at = placed (row_of grid from) (column_of grid from + 1) last (omega (arith, h.1)) in
      let below : (from / grid.cols + 1) * grid.cols ≤ grid.rows * grid.cols = mul-le-mul_right grid.cols (omega (arith, row_below grid.rows grid.cols from inside)) in
      (omega (arith, h.1), at.0, at.1)
  lies_from D is =
      let h = if_some (eqb (row_of grid from + 1) grid.rows) (from + grid.cols) to is in
      let ne = eqb-false (row_of grid from + 1) grid.rows h.0 in
      let e = mod-add-div' from grid.cols in
      let low = mod-lt from some in
      let row = row_below grid.rows grid.cols from inside in
      let at = placed (row_of grid from + 1) (column_of grid from) low (omega (arith, h.1)) in
      let below : (from / grid.cols + 2) * grid.cols ≤ grid.rows * grid.cols = mul-le-mul_right grid.cols (omega arith) in
      (omega (arith, h.1), at.0, at.1)

  pub lies_to : (m : Move) → LiesTowards grid m from to → neighbour grid m from ≡ Some to
  lies_to U lies =
      let ne : row_of grid from ≢ 0 = omega (arith, lies.1) in
      let e = mod-add-div' from grid.cols in
      let f = mod-add-div' to grid.cols in
      let q : (to / grid.cols + 1) * grid.cols ≡ from / grid.cols * grid.cols = ap (λ x. x * grid.cols) lies.1 in
      let is : from - grid.cols ≡ to = omega (arith, lies.2) in
      cond-false _ _ _ (ne_eqb _ _ ne) ∙ ap Some is
  lies_to L lies =
      let ne : column_of grid from ≢ 0 = omega (arith, lies.2) in
      let e = mod-add-div' from grid.cols in
      let f = mod-add-div' to grid.cols in
      let q : to / grid.cols * grid.cols ≡ from / grid.cols * grid.cols = ap (λ x. x * grid.cols) lies.1 in
      let is : from - 1 ≡ to = omega (arith, lies.2) in
      cond-false _ _ _ (ne_eqb _ _ ne) ∙ ap Some is
  lies_to R lies =
      let low = mod-lt to some in
      let ne : column_of grid from + 1 ≢ grid.cols = omega (arith, lies.2) in
      let e = mod-add-div' from grid.cols in
      let f = mod-add-div' to grid.cols in
      let q : to / grid.cols * grid.cols ≡ from / grid.cols * grid.cols = ap (λ x. x * grid.cols) lies.1 in
      let is : from + 1 ≡ to = omega (arith, lies.2) in
      cond-false _ _ _ (ne_eqb _ _ ne) ∙ ap Some is
  lies_to D lies =
      let row = row_below grid.rows grid.cols to lies.0 in
      let ne : row_of grid from + 1 ≢ grid.rows = omega (arith, lies.1) in
      let e = mod-add-div' from grid.cols in
      let f = mod-add-div' to grid.cols in
      let q : to / grid.cols * grid.cols ≡ (from / grid.cols + 1) * grid.cols = ap (λ x. x * grid.cols) lies.1 in
      let is : from + grid.cols ≡ to = omega (arith, lies.2) in
      cond-false _ _ _ (ne_eqb _ _ ne) ∙ ap Some is

some_step : (rule : WeightsModel) (b : BoardModel) (o : Option ℕ) (b' : BoardModel) (c : ℕ) → option_map (successor_at rule b) o ≡ Some (b', c) → (cell : ℕ) × (o ≡ Some cell) × (successor_at rule b cell ≡ (b', c))
some_step rule b None b' c is = cc
some_step rule b (Some cell) b' c is = (cell, refl, cc)

-- the neighbour that is computed is the cell that lies there
pub neighbour_lies : (grid : ShapeModel) (m : Move) (from to : ℕ) → from < cell_count grid → (neighbour grid m from ≡ Some to) ↔ LiesTowards grid m from to
neighbour_lies grid m from to inside =
    let cols : 0 < grid.cols = pos_of_ne-zero (λ none. let e = ap (λ x. grid.rows * x) none in omega arith) in (lies_from grid from to cols inside m, lies_to grid from to cols inside m)

-- a grid has a cell
pub cells_above : (grid : ShapeModel) → IsShape grid → 0 < cell_count grid
cells_above grid sides = omega (arith, mul-le 2 2 grid.rows grid.cols sides.rows_low sides.cols_low)

-- what is computed of a move is what it does
pub successor_moves : (rule : WeightsModel) (b : BoardModel) (m : Move) (b' : BoardModel) (c : ℕ) → IsBoard b → (successor rule b m ≡ Some (b', c)) ↔ Moves rule b m b' c
successor_moves rule b m b' c board =
    let cols : 0 < b.grid.cols = omega (arith, board.sides.cols_low) in
    let blank = has_cell b board 0 (cells_above b.grid board.sides) in (
      (λ is.
          let h = some_step rule b (neighbour b.grid m (blank_of b)) b' c is in
          record { cell = h.0; towards = lies_from b.grid (blank_of b) h.0 cols blank.0 m h.1; after = sym (ap (λ p. p.0) h.2); cost = sym (ap (λ p. p.1) h.2) }),
      (λ moves. rw (lies_to b.grid (blank_of b) moves.cell cols blank.0 m moves.towards) (λ i. Some (sym moves.after i, sym moves.cost i))),
    )
