use Rattle.certificate_check.proofs.RowLemmas.{reached_within, reached_elsewhere}
use Rattle.certificate_check.proofs.successors.has_row_at.Goals as goal

pub returns-then-key : goal.returns-then-key
returns-then-key c = reached_within c.args.certificate.now c.requires.certificate c.rows-rows.result.now c.args.at c.index-rows-at.result c.key.result c.args.key c.args.cost c.rows-rows.ensures c.if-at-rows.false c.index-rows-at.is c.key.ensures.value c.if-key.true

pub returns-else-key : goal.returns-else-key
returns-else-key c = reached_elsewhere c.args.certificate.now c.requires.certificate c.rows-rows.result.now c.args.at c.index-rows-at.result c.key.result c.args.key c.args.cost c.rows-rows.ensures c.if-at-rows.false c.index-rows-at.is c.key.ensures.value c.if-key.false c.requires.at
