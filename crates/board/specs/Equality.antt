-- What `==` answers of shapes, boards, cost rules and moves: whether they are the same.
use Rattle.std.specs.Prelude.{ℕ, ◌≡◌, ◌==◌, ◌&&◌, Bool}
use Rattle.std.specs.Bool.{Decides}
use Rattle.std.specs.Cmp.{IsEquivalence, decided}
use Rattle.std.specs.Str.{bytes_eq}
use Rattle.std.proofs.Common.{◌∙◌, ap, sym, refl, zero, suc}
use Rattle.std.proofs.lemmas.Bool.Decides.{Decides-and, Decides-like, Decides-eqb}
use Rattle.std.proofs.lemmas.Slice.Eq.{bytes_eq-Decides}
use Rattle.board.specs.declared.moves.Move.{Move}
use Rattle.board.specs.declared.moves.Move.TheVariants.{U, L, R, D}
use Rattle.board.specs.Shapes.{ShapeModel}
use Rattle.board.specs.Boards.{BoardModel}
use Rattle.board.specs.Weights.{WeightsModel}

-- they have the same rows and columns
abbrev pub grid_eq : ShapeModel → ShapeModel → Bool
grid_eq a b = a.rows == b.rows && a.cols == b.cols

-- they have the same grid and the same tiles
abbrev pub position_eq : BoardModel → BoardModel → Bool
position_eq a b = grid_eq a.grid b.grid && bytes_eq a.tiles b.tiles

-- they have the same grid and the same weights
abbrev pub rule_eq : WeightsModel → WeightsModel → Bool
rule_eq a b = grid_eq a.grid b.grid && bytes_eq a.weights b.weights

-- a number for each move
abbrev pub number_of : Move → ℕ
number_of U = 0
number_of L = 1
number_of R = 2
number_of D = 3

-- they are the same move
abbrev pub move_eq : Move → Move → Bool
move_eq a b = number_of a == number_of b

-- the move with a number
move_at : ℕ → Move
move_at zero = U
move_at (suc zero) = L
move_at (suc (suc zero)) = R
move_at (suc (suc (suc k))) = D

move_at-number_of : (m : Move) → move_at (number_of m) ≡ m
unfolding move_at
move_at-number_of U = refl
move_at-number_of L = refl
move_at-number_of R = refl
move_at-number_of D = refl

pub moves_Decide : (a b : Move) → Decides (move_eq a b) (a ≡ b)
moves_Decide a b = Decides-like _ same (ap number_of) (Decides-eqb _ _)
  where
    same : number_of a ≡ number_of b → a ≡ b
    same e = sym (move_at-number_of a) ∙ ap move_at e ∙ move_at-number_of b

pub move_eq-laws : IsEquivalence move_eq
move_eq-laws = decided move_eq moves_Decide

pub grids_Decide : (a b : ShapeModel) → Decides (grid_eq a b) (a ≡ b)
grids_Decide a b = Decides-like _ same (λ e. (ap (λ (g : ShapeModel). g.rows) e, ap (λ (g : ShapeModel). g.cols) e)) (Decides-and _ _ (Decides-eqb _ _) (Decides-eqb _ _))
  where
    same : (a.rows ≡ b.rows) × (a.cols ≡ b.cols) → a ≡ b
    same p = λ i. record { rows = p.0 i; cols = p.1 i }

pub positions_Decide : (a b : BoardModel) → Decides (position_eq a b) (a ≡ b)
positions_Decide a b = Decides-like _ same (λ e. (ap (λ (p : BoardModel). p.grid) e, ap (λ (p : BoardModel). p.tiles) e)) (Decides-and _ _ (grids_Decide _ _) (bytes_eq-Decides _ _))
  where
    same : (a.grid ≡ b.grid) × (a.tiles ≡ b.tiles) → a ≡ b
    same p = λ i. record { grid = p.0 i; tiles = p.1 i }

pub rules_Decide : (a b : WeightsModel) → Decides (rule_eq a b) (a ≡ b)
rules_Decide a b = Decides-like _ same (λ e. (ap (λ (p : WeightsModel). p.grid) e, ap (λ (p : WeightsModel). p.weights) e)) (Decides-and _ _ (grids_Decide _ _) (bytes_eq-Decides _ _))
  where
    same : (a.grid ≡ b.grid) × (a.weights ≡ b.weights) → a ≡ b
    same p = λ i. record { grid = p.0 i; weights = p.1 i }

pub grid_eq-laws : IsEquivalence grid_eq
grid_eq-laws = decided grid_eq grids_Decide

pub position_eq-laws : IsEquivalence position_eq
position_eq-laws = decided position_eq positions_Decide

pub rule_eq-laws : IsEquivalence rule_eq
rule_eq-laws = decided rule_eq rules_Decide
