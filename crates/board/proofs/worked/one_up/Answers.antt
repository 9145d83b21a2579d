use Rattle.std.proofs.Common.{refl, lit<}
use Rattle.board.specs.Worked.{two_by_two}
use Rattle.board.proofs.worked.one_up.Goals as goal

pub returns : goal.returns
returns c = ((two_by_two 0 1 2 3, 1, 0, record { cell = 0; towards = (lit< tt, refl, refl); after = refl; cost = refl }, (refl, refl), refl), (two_by_two 0 1 2 3, 2, 0, record { cell = 0; towards = (lit< tt, refl, refl); after = refl; cost = refl }, (refl, refl), refl))
