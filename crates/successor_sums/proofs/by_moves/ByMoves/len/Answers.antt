use Rattle.std.proofs.Common.{length, sym, ap, ◌∙◌, arith}
use Rattle.successor_sums.specs.ByMoves.{entries_of}
use Rattle.successor_sums.proofs.EntryLemmas.{first_of-length}
use Rattle.successor_sums.proofs.by_moves.ByMoves.len.Goals as goal

pub returns-clause-value : goal.returns-clause-value
returns-clause-value g c =
    let few = c.self.invariant.few in
    let moves = c.self.invariant.moves in
    let items = c.self.invariant.items in
    sym (first_of-length c.self.inside.count c.self.inside.moves c.self.inside.items (omega (arith, few, moves)) (omega (arith, few, items)))
    ∙ ap length (c.self.invariant.order ∙ ap entries_of c.self.view_is)
