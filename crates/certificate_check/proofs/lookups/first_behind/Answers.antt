use Rattle.std.proofs.Common.{◌+◌, ◌-◌, arith}
use Rattle.certificate_check.proofs.RowLemmas.{lower_up_to, not_lower_from}
use Rattle.certificate_check.proofs.lookups.first_behind.Goals as goal

pub first_between-requires-clause-not_lower : goal.first_between-requires-clause-not_lower
first_between-requires-clause-not_lower c = not_lower_from c.args.rows.now c.args.key (c.steps.low + (c.steps.step - 1)) c.index-rows-at.result c.key.result c.requires.sorted c.key.ensures.value c.if-key.true

pub steps-preserved : goal.steps-preserved
steps-preserved c =
    let first = c.steps.invariant.0 in
    (omega (arith, first), omega (arith, first), lower_up_to c.args.rows.now c.args.key (c.steps.low + (c.steps.step - 1)) c.index-rows-at.result c.key.result c.requires.sorted (omega (arith, first)) c.key.ensures.value c.if-key.false)
