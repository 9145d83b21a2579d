use Rattle.std.proofs.Common.{refl, sym, ◌∙◌, arith}
use Rattle.std.proofs.lemmas.Bool.{true≢false}
use Rattle.certificate_check.proofs.RowLemmas.{closed_more, not_closed_there}
use Rattle.certificate_check.proofs.successors.are_closed.Goals as goal

pub returns-then-is_some : goal.returns-then-is_some
returns-then-is_some c = (
  (λ e. absurd (true≢false (sym e))),
  (λ closed. absurd (not_closed_there c.args.certificate.now c.args.bound.now c.args.from c.args.end c.rows.place (omega arith) c.rows-test.true c.open_move.result c.open_move.ensures.leaves (sym c.is_some.ensures ∙ c.if-is_some.true) closed)),
)

pub rows-preserved : goal.rows-preserved
rows-preserved c = closed_more c.args.certificate.now c.args.bound.now c.args.from c.rows.place c.rows.invariant (c.open_move.ensures.none (sym c.is_some.ensures ∙ c.if-is_some.false))

pub returns : goal.returns
returns c = ((λ e place m low less. c.rows.invariant place m low (omega arith)), (λ closed. refl))
