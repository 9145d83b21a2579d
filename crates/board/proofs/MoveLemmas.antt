-- What a move does to a board.
use Rattle.std.proofs.Common.{◌≡◌, ◌≢◌, ℕ, ◌*◌, ◌/◌, ◌%◌, ◌<◌, List, length, get_or, refl, sym, ap, ◌∙◌, subst, arith, eqb}
use Rattle.std.proofs.lemmas.Bool.{cond-true, eq-eqb}
use Rattle.std.specs.Prelude.{swap}
use Rattle.std.proofs.Math.Nat.{mod-add-div'}
use Rattle.std.proofs.lemmas.Grind.{same_number_lists}
use Rattle.std.proofs.lemmas.List.Edits.{length-swap, swapped_from_swap}
use Rattle.std.proofs.lemmas.List.Elements.{All-from_get_or, All-get_or}
use Rattle.board.specs.declared.moves.Move.{Move}
use Rattle.board.specs.declared.moves.Move.TheVariants.{U, L, R, D}
use Rattle.board.specs.Shapes.{ShapeModel, cell_count}
use Rattle.board.specs.Neighbours.{LiesTowards, opposite}
use Rattle.board.specs.Boards.{BoardModel, IsBoard, cell_of, blank_of}
use Rattle.board.specs.Weights.{WeightsModel, weight_of}
use Rattle.board.specs.Moves.{Moves, blank_exchange}
use Rattle.board.proofs.TileLemmas.{same_place, all_differ, across, across-across, across_back, across_below, at_swap, cell_is, has_cell}

abbrev pub exchange : BoardModel → ℕ → ℕ → BoardModel
exchange b i j = record b { tiles = swap b.tiles i j }

pub exchange_board : (b : BoardModel) (i j : ℕ) → IsBoard b → i < cell_count b.grid → j < cell_count b.grid → IsBoard (exchange b i j)
exchange_board b i j board i_below j_below =
    let e = board.one_each in
    let i_in : i < length b.tiles = omega arith in
    let j_in : j < length b.tiles = omega arith in
    let same_length : length (swap b.tiles i j) ≡ length b.tiles = length-swap b.tiles i j in
    record {
      sides = board.sides;
      one_each = same_length ∙ e;
      in_range = All-from_get_or (λ t. t < cell_count b.grid) (swap b.tiles i j) 0
          (λ k k_in. rw (at_swap b.tiles i j k i_in j_in) (All-get_or (λ t. t < cell_count b.grid) b.tiles (across i j k) 0 (across_below i j k (length b.tiles) i_in j_in (omega arith)) board.in_range));
      different = all_differ (swap b.tiles i j)
          (λ x y x_in y_in same.
          let at : across i j x ≡ across i j y = same_place b.tiles board.different (across i j x) (across i j y) (across_below i j x (length b.tiles) i_in j_in (omega arith)) (across_below i j y (length b.tiles) i_in j_in (omega arith)) (sym (at_swap b.tiles i j x i_in j_in) ∙ same ∙ at_swap b.tiles i j y i_in j_in) in
          sym (across-across i j x) ∙ ap (across i j) at ∙ across-across i j y);
    }

pub cell_of-exchange : (b : BoardModel) (i j : ℕ) → IsBoard b → i < cell_count b.grid → j < cell_count b.grid → (t : ℕ) → t < cell_count b.grid → cell_of (exchange b i j) t ≡ across i j (cell_of b t)
cell_of-exchange b i j board i_below j_below t t_below =
    let e = board.one_each in
    let i_in : i < length b.tiles = omega arith in
    let j_in : j < length b.tiles = omega arith in
    let same_length : length (swap b.tiles i j) ≡ length b.tiles = length-swap b.tiles i j in
    let found = has_cell b board t t_below in
    let low : across i j (cell_of b t) < length b.tiles = across_below i j (cell_of b t) (length b.tiles) i_in j_in (omega arith) in
    cell_is (exchange b i j) (exchange_board b i j board i_below j_below).different (across i j (cell_of b t)) t (omega arith)
    (at_swap b.tiles i j (across i j (cell_of b t)) i_in j_in ∙ ap (λ k. get_or b.tiles k 0) (across-across i j (cell_of b t)) ∙ found.1)

-- the blank's new cell is another one
pub other_cell : (grid : ShapeModel) (m : Move) (from to : ℕ) → LiesTowards grid m from to → to ≢ from
other_cell grid U from to lies same = let r = ap (λ x. x / grid.cols) same in omega arith
other_cell grid L from to lies same = let r = ap (λ x. x % grid.cols) same in omega arith
other_cell grid R from to lies same = let r = ap (λ x. x % grid.cols) same in omega arith
other_cell grid D from to lies same = let r = ap (λ x. x / grid.cols) same in omega arith

pub cell_below : (grid : ShapeModel) (m : Move) (from to : ℕ) → LiesTowards grid m from to → to < cell_count grid
cell_below grid U from to lies = lies.0
cell_below grid L from to lies = lies.0
cell_below grid R from to lies = lies.0
cell_below grid D from to lies = lies.0

-- after an exchange with a cell the blank is on that cell
pub blank_after : (b : BoardModel) → IsBoard b → (to : ℕ) → to < cell_count b.grid → blank_of (blank_exchange b to) ≡ to
blank_after b board to to_below =
    let some : 0 < cell_count b.grid = omega arith in
    cell_of-exchange b (blank_of b) to board (has_cell b board 0 some).0 to_below 0 some
    ∙ cond-true (eqb (blank_of b) (blank_of b)) to _ (eq-eqb _ _ refl)

-- a move of a board leads to a board
pub moved_board : (rule : WeightsModel) (b : BoardModel) → IsBoard b → (m : Move) (b' : BoardModel) (c : ℕ) → Moves rule b m b' c → IsBoard b'
moved_board rule b board m b' c moves =
    let to_below = cell_below b.grid m (blank_of b) moves.cell moves.towards in
    let blank = (has_cell b board 0 (omega arith)).0 in
    subst IsBoard (sym moves.after) (exchange_board b (blank_of b) moves.cell board blank to_below)

-- a cell is known by its row and its column
same_cell : (grid : ShapeModel) (x y : ℕ) → y / grid.cols ≡ x / grid.cols → y % grid.cols ≡ x % grid.cols → y ≡ x
same_cell grid x y rows columns =
    let first = mod-add-div' x grid.cols in
    let second = mod-add-div' y grid.cols in
    let whole : y / grid.cols * grid.cols ≡ x / grid.cols * grid.cols = ap (λ (r : ℕ). r * grid.cols) rows in
    omega arith

-- one cell lies in a direction
pub one_cell : (grid : ShapeModel) (m : Move) (from x y : ℕ) → LiesTowards grid m from x → LiesTowards grid m from y → y ≡ x
one_cell grid U from x y first second = same_cell grid x y (omega (arith, first.1, second.1)) (second.2 ∙ sym first.2)
one_cell grid L from x y first second = same_cell grid x y (second.1 ∙ sym first.1) (omega (arith, first.2, second.2))
one_cell grid R from x y first second = same_cell grid x y (second.1 ∙ sym first.1) (omega (arith, first.2, second.2))
one_cell grid D from x y first second = same_cell grid x y (omega (arith, first.1, second.1)) (second.2 ∙ sym first.2)

-- a move leads to one board, at one cost
pub one_move : (rule : WeightsModel) (b : BoardModel) (m : Move) (b' b'' : BoardModel) (c d : ℕ) → Moves rule b m b' c → Moves rule b m b'' d → (b'' ≡ b') × (d ≡ c)
one_move rule b m b' b'' c d first second =
    let same = one_cell b.grid m (blank_of b) first.cell second.cell first.towards second.towards in
    (second.after ∙ ap (blank_exchange b) same ∙ sym first.after, second.cost ∙ ap (λ (k : ℕ). weight_of rule (get_or b.tiles k 0)) same ∙ sym first.cost)

-- the other way round
lies_back : (grid : ShapeModel) (m : Move) (from to : ℕ) → from < cell_count grid → LiesTowards grid m from to → LiesTowards grid (opposite m) to from
lies_back grid U from to inside lies = (inside, omega (arith, lies.1), sym lies.2)
lies_back grid L from to inside lies = (inside, sym lies.1, omega (arith, lies.2))
lies_back grid R from to inside lies = (inside, sym lies.1, omega (arith, lies.2))
lies_back grid D from to inside lies = (inside, omega (arith, lies.1), sym lies.2)

-- two exchanges of the same cells
swapped_back : (ts : List ℕ) (i j : ℕ) → i < length ts → j < length ts → swap (swap ts i j) j i ≡ ts
swapped_back ts i j i_in j_in =
    let n : length (swap ts i j) ≡ length ts = length-swap ts i j in
    same_number_lists (swap (swap ts i j) j i) ts (length-swap (swap ts i j) j i ∙ n)
    (λ k k_in. at_swap (swap ts i j) j i k (omega arith) (omega arith) ∙ at_swap ts i j (across j i k) i_in j_in ∙ ap (λ (x : ℕ). get_or ts x 0) (across_back i j k))

-- the opposite move takes a move back, at the same cost
pub taken_back : (rule : WeightsModel) (b : BoardModel) (m : Move) (b' : BoardModel) (c : ℕ) → IsBoard b → Moves rule b m b' c → Moves rule b' (opposite m) b c
taken_back rule b m b' c board moves =
    let e = board.one_each in
    let to_below = cell_below b.grid m (blank_of b) moves.cell moves.towards in
    let blank = (has_cell b board 0 (omega arith)).0 in
    let to_in : moves.cell < length b.tiles = omega arith in
    let blank_in : blank_of b < length b.tiles = omega arith in
    let now : blank_of b' ≡ moves.cell = ap blank_of moves.after ∙ blank_after b board moves.cell to_below in
    let grid : b'.grid ≡ b.grid = ap (λ (p : BoardModel). p.grid) moves.after in
    let tiles : b'.tiles ≡ swap b.tiles (blank_of b) moves.cell = ap (λ (p : BoardModel). p.tiles) moves.after in
    let back : swap b'.tiles (blank_of b') (blank_of b) ≡ b.tiles = (λ i. swap (tiles i) (now i) (blank_of b)) ∙ swapped_back b.tiles (blank_of b) moves.cell blank_in to_in in
    let at : get_or b'.tiles (blank_of b) 0 ≡ get_or b.tiles moves.cell 0 = ap (λ (ts : List ℕ). get_or ts (blank_of b) 0) tiles ∙ (swapped_from_swap b.tiles (swap b.tiles (blank_of b) moves.cell) (blank_of b) moves.cell 0 blank_in to_in refl).0 in
    record {
      cell = blank_of b;
      towards = subst (λ (g : ShapeModel). LiesTowards g (opposite m) (blank_of b') (blank_of b)) (sym grid)
          (subst (λ (x : ℕ). LiesTowards b.grid (opposite m) x (blank_of b)) (sym now) (lies_back b.grid m (blank_of b) moves.cell blank moves.towards));
      after = λ i. record { grid = sym grid i; tiles = sym back i };
      cost = moves.cost ∙ ap (weight_of rule) (sym at);
    }
