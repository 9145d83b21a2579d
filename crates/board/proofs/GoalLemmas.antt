-- The goal, and the two cost rules.
use Rattle.std.proofs.Common.{◌≡◌, ℕ, zero, suc, ◌+◌, ◌-◌, ◌<◌, ◌≤◌, List, ◌∷◌, ◌++◌, length, get_or, set, replicate, refl, sym, ap, ◌∙◌, subst, arith}
use Rattle.std.specs.List.{range_with_len}
use Rattle.std.proofs.lemmas.List.FromFn.{length-range_with_len, get_or-range_with_len}
use Rattle.std.proofs.lemmas.List.{length-replicate, get_or-replicate, replicate_more}
use Rattle.board.specs.Shapes.{ShapeModel, IsShape, cell_count}
use Rattle.board.specs.Boards.{IsBoard, goal_of}
use Rattle.board.specs.Weights.{AreWeights, unit_rule, face_rule}
use Rattle.board.specs.Storage.{IsStored}
use Rattle.board.specs.CostStorage as cost
use Rattle.board.proofs.NeighbourLemmas.{cells_above}
use Rattle.board.proofs.StorageLemmas.{filled_more, filled_parts}

counts : (n t d : ℕ) → t < n → get_or (range_with_len 0 n) t d ≡ t
counts n t d h = get_or-range_with_len 0 n t d h ∙ omega arith

-- the goal is a board
pub goal_board : (grid : ShapeModel) → IsShape grid → IsBoard (goal_of grid)
goal_board grid sides =
    let n : ℕ = cell_count grid in
    let counted = length-range_with_len 0 n in
    record {
      sides = sides;
      one_each = counted;
      in_range = λ k d h. omega (arith, counts n k d (omega arith));
      different = λ i j d before within same. omega (arith, counts n i d (omega arith), counts n j d (omega arith), same);
    }

-- what counts up to the cells in memory is the goal
pub goal_stored : (grid : ShapeModel) (n : ℕ) (tiles : List ℕ) → IsShape grid → n ≡ cell_count grid → tiles ≡ range_with_len 0 n ++ replicate (25 - n) 0 → IsStored (record { shape = grid; tiles = tiles })
goal_stored grid n tiles sides same all =
    let whole : tiles ≡ range_with_len 0 (cell_count grid) ++ replicate (25 - cell_count grid) 0 = all ∙ ap (λ (k : ℕ). range_with_len 0 k ++ replicate (25 - k) 0) same in
    let parts = filled_parts (cell_count grid) (range_with_len 0 (cell_count grid)) tiles (length-range_with_len 0 (cell_count grid)) whole in
    record { board = subst IsBoard (λ i. record { grid = grid; tiles = sym parts.0 i }) (goal_board grid sides); unused = parts.1 }

-- face cost is a cost rule
pub face_is_rule : (grid : ShapeModel) → IsShape grid → cell_count grid ≤ 25 → AreWeights (face_rule grid)
face_is_rule grid sides few =
    let n : ℕ = cell_count grid in
    record {
      sides = sides;
      one_each = length-range_with_len 0 n;
      blank = counts n 0 0 (cells_above grid sides);
      low = λ tile above below. omega (arith, counts n tile 0 below);
      high = λ tile below. omega (arith, counts n tile 0 below);
    }

pub face_stored : (grid : ShapeModel) (n : ℕ) (entries : List ℕ) → IsShape grid → n ≡ cell_count grid → n ≤ 25 → entries ≡ range_with_len 0 n ++ replicate (25 - n) 0 → cost.IsStored (record { shape = grid; weights = entries })
face_stored grid n entries sides same few all =
    let whole : entries ≡ range_with_len 0 (cell_count grid) ++ replicate (25 - cell_count grid) 0 = all ∙ ap (λ (k : ℕ). range_with_len 0 k ++ replicate (25 - k) 0) same in
    let parts = filled_parts (cell_count grid) (range_with_len 0 (cell_count grid)) entries (length-range_with_len 0 (cell_count grid)) whole in
    record { rule = subst AreWeights (λ i. record { grid = grid; weights = sym parts.0 i }) (face_is_rule grid sides (omega arith)); unused = parts.1 }

-- a 0 and then ones
ones : ℕ → List ℕ
ones n = 0 ∷ replicate n 1

-- each tile weighs 1
ones_weigh : (n tile : ℕ) → 0 < tile → tile < suc n → get_or (ones n) tile 0 ≡ 1
unfolding ones
ones_weigh n zero above below = absurd (omega arith)
ones_weigh n (suc tile) above below = get_or-replicate n tile 1 0 (omega arith)

at_most_one : (n tile : ℕ) → tile < suc n → get_or (ones n) tile 0 ≤ 1
unfolding ones
at_most_one n zero below = omega arith
at_most_one n (suc tile) below = omega (arith, get_or-replicate {A = ℕ} n tile 1 0 (omega arith))

length-ones : (n : ℕ) → 0 < n → length (ones (n - 1)) ≡ n
unfolding ones
length-ones n some = omega (arith, length-replicate {A = ℕ} (n - 1) 1)

-- unit cost is a cost rule
unit_is_rule : (grid : ShapeModel) → IsShape grid → AreWeights (unit_rule grid)
unfolding ones
unit_is_rule grid sides =
    let n : ℕ = cell_count grid in
    let some = cells_above grid sides in
    record {
      sides = sides;
      one_each = length-ones n some;
      blank = refl;
      low = λ tile above below. omega (arith, ones_weigh (n - 1) tile above (omega arith));
      high = λ tile below. omega (arith, at_most_one (n - 1) tile (omega arith));
    }

-- the next weight of an array that was filled up to a tile
pub ones_more : (tile : ℕ) (entries : List ℕ) → 1 ≤ tile → tile < 25 → entries ≡ (0 ∷ replicate (tile - 1) 1) ++ replicate (25 - tile) 0 → set entries tile 1 ≡ (0 ∷ replicate (tile + 1 - 1) 1) ++ replicate (25 - (tile + 1)) 0
unfolding ones
ones_more tile entries some within filled =
    let next : tile + 1 - 1 ≡ tile - 1 + 1 = omega arith in
    ap (λ (ws : List ℕ). set ws tile 1) filled
    ∙ filled_more 25 tile (0 ∷ replicate (tile - 1) 1) 1 (length-ones tile some) within
    ∙ ap (λ (ws : List ℕ). (0 ∷ ws) ++ replicate (25 - (tile + 1)) 0) (replicate_more (tile - 1) 1 ∙ ap (λ (k : ℕ). replicate k 1) (sym next))

pub unit_stored : (grid : ShapeModel) (n : ℕ) (entries : List ℕ) → IsShape grid → n ≡ cell_count grid → entries ≡ (0 ∷ replicate (n - 1) 1) ++ replicate (25 - n) 0 → cost.IsStored (record { shape = grid; weights = entries })
unfolding ones
unit_stored grid n entries sides same all =
    let whole : entries ≡ (unit_rule grid).weights ++ replicate (25 - cell_count grid) 0 = all ∙ ap (λ (k : ℕ). (0 ∷ replicate (k - 1) 1) ++ replicate (25 - k) 0) same in
    let parts = filled_parts (cell_count grid) (unit_rule grid).weights entries (length-ones (cell_count grid) (cells_above grid sides)) whole in
    record { rule = subst AreWeights (λ i. record { grid = grid; weights = sym parts.0 i }) (unit_is_rule grid sides); unused = parts.1 }
