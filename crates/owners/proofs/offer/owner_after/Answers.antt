use Rattle.std.proofs.Common.{ap, arith}
use Rattle.board.specs.Moves.{blank_exchange}
use Rattle.owners.specs.Terms.{TermsModel}
use Rattle.owners.proofs.offer.owner_after.Goals as goal

pub returns-in-Spread-clause-within : goal.returns-in-Spread-clause-within
returns-in-Spread-clause-within g c =
    let workers = ap (λ (t : TermsModel g.row.S.Denot). t.workers) c.terms.view_is in
    let next = blank_exchange c.requires.0 c.args.moved.slide.from in
    let is = c.owner_after.ensures next c.requires.1.key in
    let below = g.met.S.Spread.owners_are_workers c.terms.inside.owners.now c.terms.inside.workers next c.terms.invariant.some in
    omega (arith, is, below, workers)
