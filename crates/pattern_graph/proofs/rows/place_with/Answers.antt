use Rattle.std.proofs.Common.{sym, ◌∙◌, arith}
use Rattle.std.proofs.lemmas.Bool.{false≢true}
use Rattle.pattern_graph.proofs.RowLemmas.{with_wide, with_small}
use Rattle.pattern_graph.proofs.rows.place_with.Goals as goal

pub place-requires-clause-listing : goal.place-requires-clause-listing
place-requires-clause-listing c = with_wide c.args.regions.now c.args.cells.now c.args.cell c.requires.regions c.told-cells c.requires.listing c.requires.cell
    (λ on. false≢true (sym c.if-stands_on.false ∙ c.stands_on.ensures.1 on))

pub overflow_cast-result : goal.overflow_cast-result
overflow_cast-result c =
    let low = with_small c.args.regions.now c.args.cells.now c.args.cell c.requires.regions c.told-cells c.requires.listing c.requires.cell
    (λ on. false≢true (sym c.if-stands_on.false ∙ c.stands_on.ensures.1 on)) c.place.result c.place.ensures in
    omega (arith, low)
