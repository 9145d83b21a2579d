use Rattle.std.proofs.Common.{ℕ, List, [], ◌∷◌, refl, lit<}
use Rattle.board.specs.Boards.{BoardModel}
use Rattle.board.specs.Worked.{grid_of}
use Rattle.board.proofs.worked.two_left.Goals as goal

three_by_three : List ℕ → BoardModel
three_by_three tiles = record { grid = grid_of 3 3; tiles = tiles }

pub returns : goal.returns
unfolding three_by_three
returns c = ((three_by_three (1 ∷ 0 ∷ 2 ∷ 3 ∷ 4 ∷ 5 ∷ 6 ∷ 7 ∷ 8 ∷ []), 1, 1, record { cell = 1; towards = (lit< tt, refl, refl); after = refl; cost = refl }, (three_by_three (0 ∷ 1 ∷ 2 ∷ 3 ∷ 4 ∷ 5 ∷ 6 ∷ 7 ∷ 8 ∷ []), 1, 0, record { cell = 0; towards = (lit< tt, refl, refl); after = refl; cost = refl }, (refl, refl), refl), refl), (three_by_three (1 ∷ 0 ∷ 2 ∷ 3 ∷ 4 ∷ 5 ∷ 6 ∷ 7 ∷ 8 ∷ []), 2, 1, record { cell = 1; towards = (lit< tt, refl, refl); after = refl; cost = refl }, (three_by_three (0 ∷ 1 ∷ 2 ∷ 3 ∷ 4 ∷ 5 ∷ 6 ∷ 7 ∷ 8 ∷ []), 1, 0, record { cell = 0; towards = (lit< tt, refl, refl); after = refl; cost = refl }, (refl, refl), refl), refl))
