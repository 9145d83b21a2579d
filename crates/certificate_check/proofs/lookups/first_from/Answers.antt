use Rattle.certificate_check.proofs.RowLemmas.{lower_up_to, not_lower_from}
use Rattle.certificate_check.proofs.lookups.first_from.Goals as goal

pub first_behind-requires-clause-lower : goal.first_behind-requires-clause-lower
first_behind-requires-clause-lower c = lower_up_to c.args.rows.now c.args.key c.args.near c.index-rows-near.result c.key.result c.requires c.if-near-rows.false c.key.ensures.value c.if-key.true

pub first_before-requires-2-clause-not_lower : goal.first_before-requires-2-clause-not_lower
first_before-requires-2-clause-not_lower c = not_lower_from c.args.rows.now c.args.key c.args.near c.index-rows-near.result c.key.result c.requires c.key.ensures.value c.if-key.false
