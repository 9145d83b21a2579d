use Rattle.std.proofs.Common.{◌≡◌, ℕ, suc, zero, ◌<◌, eqb, [], ◌∷◌, get_or, refl, sym, ap, subst, inl, arith, Some, Option, lit<, lit≤}
use Rattle.std.specs.Prelude.{Contains, unwrap_or}
use Rattle.std.specs.List.{IsDistinct}
use Rattle.std.proofs.lemmas.Bool.Decides.{Decides-eqb}
use Rattle.std.proofs.lemmas.List.Elements.{All-from_recursion}
use Rattle.std.proofs.lemmas.Map.Made.{AllPairs-from_IsDistinct}
use Rattle.board.specs.declared.moves.Move.{Move}
use Rattle.board.specs.declared.moves.Move.TheVariants.{U, L, R, D}
use Rattle.board.specs.Boards.{BoardModel, IsBoard, goal_of}
use Rattle.board.specs.Weights.{unit_rule}
use Rattle.board.specs.Moves.{Moves, successor}
use Rattle.board.specs.Worked.{grid_of, two_by_two}
use Rattle.board.proofs.NeighbourLemmas.{successor_moves}
use Rattle.board.proofs.worked.one_row.Goals as goal

start : BoardModel
start = two_by_two 1 0 2 3

distinct : IsDistinct eqb (1 ∷ 0 ∷ 2 ∷ 3 ∷ [])
unfolding IsDistinct
distinct = ((refl, (refl, (refl, tt))), ((refl, (refl, tt)), ((refl, tt), (tt, tt))))

is_board : IsBoard start
unfolding start
is_board = record {
  sides = record { rows_low = lit≤ tt; rows_high = lit≤ tt; cols_low = lit≤ tt; cols_high = lit≤ tt };
  one_each = refl;
  in_range = All-from_recursion (λ t. t < 4) (1 ∷ 0 ∷ 2 ∷ 3 ∷ []) (lit< tt, (lit< tt, (lit< tt, (lit< tt, tt))));
  different = AllPairs-from_IsDistinct Decides-eqb (1 ∷ 0 ∷ 2 ∷ 3 ∷ []) distinct;
}

only_row : (r : BoardModel) (g : ℕ) → Contains {X = BoardModel × ℕ} ((start, 0) ∷ []) (r, g) → (start ≡ r) × (0 ≡ g)
only_row r g (zero, inside, is) = (ap (λ p. p.0) is, ap (λ p. p.1) is)
only_row r g (suc k, inside, is) = absurd (omega arith)

costs_one : (m : Move) (r' : BoardModel) (c : ℕ) → successor (unit_rule (grid_of 2 2)) start m ≡ Some (r', c) → c ≡ 1
unfolding start
costs_one U r' c is = cc
costs_one L r' c is = sym (ap (λ (o : Option (BoardModel × ℕ)). (unwrap_or o (start, 0)).1) is)
costs_one R r' c is = cc
costs_one D r' c is = sym (ap (λ (o : Option (BoardModel × ℕ)). (unwrap_or o (start, 0)).1) is)

pub returns : goal.returns
unfolding start
returns c = record {
  start = inl (0, (0, lit< tt, refl), omega arith);
  no_goal = λ g has. let e = (only_row (goal_of (grid_of 2 2)) g has).0 in let f : 1 ≡ 0 = ap (λ (p : BoardModel). get_or p.tiles 0 0) e in omega arith;
  closed = λ r g has m r' k moves.
      let row = only_row r g has in
      let one = costs_one m r' k ((successor_moves (unit_rule (grid_of 2 2)) start m r' k is_board).1 (subst (λ x. Moves (unit_rule (grid_of 2 2)) x m r' k) (sym row.0) moves)) in
      inl (omega arith);
}
