use Rattle.std.proofs.Common.{refl, lit<}
use Rattle.board.specs.Worked.{two_by_two}
use Rattle.board.proofs.worked.six_round.Goals as goal

pub returns : goal.returns
returns c = ((two_by_two 3 0 1 2, 1, 5, record { cell = 1; towards = (lit< tt, refl, refl); after = refl; cost = refl }, (two_by_two 0 3 1 2, 1, 4, record { cell = 0; towards = (lit< tt, refl, refl); after = refl; cost = refl }, (two_by_two 1 3 0 2, 1, 3, record { cell = 2; towards = (lit< tt, refl, refl); after = refl; cost = refl }, (two_by_two 1 3 2 0, 1, 2, record { cell = 3; towards = (lit< tt, refl, refl); after = refl; cost = refl }, (two_by_two 1 0 2 3, 1, 1, record { cell = 1; towards = (lit< tt, refl, refl); after = refl; cost = refl }, (two_by_two 0 1 2 3, 1, 0, record { cell = 0; towards = (lit< tt, refl, refl); after = refl; cost = refl }, (refl, refl), refl), refl), refl), refl), refl), refl), (two_by_two 3 2 0 1, 1, 11, record { cell = 2; towards = (lit< tt, refl, refl); after = refl; cost = refl }, (two_by_two 0 2 3 1, 3, 8, record { cell = 0; towards = (lit< tt, refl, refl); after = refl; cost = refl }, (two_by_two 2 0 3 1, 2, 6, record { cell = 1; towards = (lit< tt, refl, refl); after = refl; cost = refl }, (two_by_two 2 1 3 0, 1, 5, record { cell = 3; towards = (lit< tt, refl, refl); after = refl; cost = refl }, (two_by_two 2 1 0 3, 3, 2, record { cell = 2; towards = (lit< tt, refl, refl); after = refl; cost = refl }, (two_by_two 0 1 2 3, 2, 0, record { cell = 0; towards = (lit< tt, refl, refl); after = refl; cost = refl }, (refl, refl), refl), refl), refl), refl), refl), refl))
