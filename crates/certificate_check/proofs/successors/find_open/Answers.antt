use Rattle.std.proofs.Common.{is_some, ap, length, arith}
use Rattle.certificate_check.proofs.RowLemmas.{first_here, closed_more, all_closed}
use Rattle.certificate_check.proofs.successors.find_open.Goals as goal

pub returns-in-Some-clause-first : goal.returns-in-Some-clause-first
returns-in-Some-clause-first c = first_here c.args.certificate.now c.args.bound.now c.rows.place c.in-Some.direction c.in-Some.ensures.leaves c.in-Some.ensures.first c.rows.invariant

pub rows-preserved : goal.rows-preserved
rows-preserved c = closed_more c.args.certificate.now c.args.bound.now 0 c.rows.place c.rows.invariant (c.open_move.ensures.none (ap is_some c.in_default.is))

pub returns-clause-none : goal.returns-clause-none
returns-clause-none c = λ e. let count = ap length c.rows-place-end.ensures in all_closed c.args.certificate.now c.args.bound.now c.rows.place (omega (arith, count, c.rows-test.false)) c.rows.invariant
