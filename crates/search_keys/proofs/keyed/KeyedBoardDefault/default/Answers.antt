use Rattle.std.proofs.Common.{rules, ◌≡◌, refl, sym, arith}
use Rattle.board.specs.Shapes.{ShapeModel}
use Rattle.board.specs.Boards.{goal_of}
use Rattle.board.proofs.GoalLemmas.{goal_board}
use Rattle.pattern_index.specs.Sparse.{sparse_of}
use Rattle.search_keys.specs.SearchKeys.{search_key, HasSearchKey}
use Rattle.search_keys.proofs.SearchKeyLemmas.{key_read, keyed_as}
use Rattle.search_keys.proofs.keyed.KeyedBoardDefault.default.Goals as goal

abbrev smallest : ShapeModel
smallest = record { rows = 2; cols = 2 }

-- its search key, computed
key_is : search_key (goal_of smallest) ≡ 12816
unfolding sparse_of
key_is = refl

is_key : (shape : ShapeModel) → shape ≡ smallest → HasSearchKey shape 12816 (goal_of smallest)
is_key shape is = record {
  board = goal_board smallest (record { rows_low = omega arith; rows_high = omega arith; cols_low = omega arith; cols_high = omega arith });
  sides = sym is;
  packed = key_is;
}

pub invariant_of-result : goal.invariant_of-result
invariant_of-result c = keyed_as _ _ (is_key c.unwrap.result (search rules))

pub returns : goal.returns
returns c = key_read _ _ (is_key c.unwrap.result (search rules))
