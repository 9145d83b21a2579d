use Rattle.std.proofs.Common.{◌∙◌, ap}
use Rattle.owners.proofs.OwnerLemmas.{one_board}
use Rattle.owners.proofs.spread.Spread.owner_after.Goals as goal

pub returns : goal.returns
returns g c = λ b has. c.owner_by_key.ensures.value ∙ ap (g.Self.Spread.owner_of c.args.self.now c.args.workers) (one_board c.args.moved.shape c.args.moved.key _ b c.of_key-board.ensures has)
