use Rattle.std.proofs.Common.{◌<◌, length, get_or, sym, ap, ◌∙◌, subst}
use Rattle.board.specs.declared.moves.Move.TheVariants.{U}
use Rattle.successor_sums.specs.ByMoves.{entries_of}
use Rattle.successor_sums.proofs.EntryLemmas.{first_of-at}
use Rattle.successor_sums.proofs.by_moves.ByMoves.entry.Goals as goal

pub returns : goal.returns
returns g c = λ d.
    let same = c.self.invariant.order ∙ ap entries_of c.self.view_is in
    ap (λ es. get_or es c.args.place d) (sym same)
    ∙ first_of-at c.self.inside.count c.self.inside.moves c.self.inside.items c.args.place d U c.index-self-place.result (subst (λ es. c.args.place < length es) (sym same) c.requires)
