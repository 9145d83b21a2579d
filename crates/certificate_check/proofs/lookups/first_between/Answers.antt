use Rattle.std.proofs.Common.{◌+◌, ◌-◌, ◌/◌, arith}
use Rattle.certificate_check.proofs.RowLemmas.{lower_up_to, not_lower_from}
use Rattle.certificate_check.proofs.lookups.first_between.Goals as goal

pub halves-preserved-then-key : goal.halves-preserved-then-key
halves-preserved-then-key c =
    let within = c.halves.invariant.1 in
    (omega arith, within, lower_up_to c.args.rows.now c.args.key (c.halves.low + (c.halves.high - c.halves.low) / 2) c.index-rows-middle.result c.key.result c.requires.sorted (omega (arith, within)) c.key.ensures.value c.if-key.true, c.halves.invariant.3)

pub halves-preserved : goal.halves-preserved
halves-preserved c =
    let within = c.halves.invariant.1 in
    (omega arith, omega (arith, within), c.halves.invariant.2, not_lower_from c.args.rows.now c.args.key (c.halves.low + (c.halves.high - c.halves.low) / 2) c.index-rows-middle.result c.key.result c.requires.sorted c.key.ensures.value c.if-key.false)
