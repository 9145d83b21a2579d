use Rattle.std.proofs.Common.{◌-◌, arith}
use Rattle.certificate_check.proofs.RowLemmas.{lower_up_to, not_lower_from}
use Rattle.certificate_check.proofs.lookups.first_before.Goals as goal

pub first_between-requires-clause-lower : goal.first_between-requires-clause-lower
first_between-requires-clause-lower c =
    let first = c.steps.invariant.0 in
    let within = c.steps.invariant.1 in
    lower_up_to c.args.rows.now c.args.key (c.steps.high - c.steps.step) c.index-rows-at.result c.key.result c.requires.sorted (omega (arith, first, within)) c.key.ensures.value c.if-key.true

pub steps-preserved : goal.steps-preserved
steps-preserved c =
    let first = c.steps.invariant.0 in
    let within = c.steps.invariant.1 in
    (omega (arith, first), omega (arith, within), not_lower_from c.args.rows.now c.args.key (c.steps.high - c.steps.step) c.index-rows-at.result c.key.result c.requires.sorted c.key.ensures.value c.if-key.false)
