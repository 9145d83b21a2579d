use Rattle.std.proofs.Common.{◌≡◌, refl}
use Rattle.board.specs.Boards.{blank_of}
use Rattle.board.specs.Storage.{position_in}
use Rattle.board.proofs.StepLemmas.{blank_found, blank_stands, blank_holds}
use Rattle.board.proofs.boards.Board.blank.Goals as goal

pub unwrap-requires : goal.unwrap-requires
unwrap-requires c = rw (blank_found c.self.inside c.first_zero.result c.self.invariant c.first_zero.ensures) refl

-- what is found is the blank's cell
at : (c : goal.After-unwrap) → c.unwrap.result ≡ blank_of (position_in c.self.inside)
at c = cc (c.unwrap.ensures, blank_found c.self.inside c.first_zero.result c.self.invariant c.first_zero.ensures)

pub returns-clause-value : goal.returns-clause-value
returns-clause-value c = rw (← c.self.view_is) (at c)

pub returns-clause-within : goal.returns-clause-within
returns-clause-within c = rw (← c.self.view_is, at c) (blank_stands (position_in c.self.inside) c.self.invariant.board).0

pub returns-clause-zero : goal.returns-clause-zero
returns-clause-zero c = rw (← c.self.view_is, at c) (blank_holds (position_in c.self.inside) c.self.invariant.board)
