use Rattle.std.proofs.Common.{length, ap}
use Rattle.certificate_check.proofs.RowLemmas.{closed_block}
use Rattle.certificate_check.proofs.parallel.is_closed_block.Goals as goal

pub returns : goal.returns
returns c =
    let block = closed_block c.args.certificate.now c.args.bound.now c.args.block c.min-count.result (length c.rows.result.now) (ap length c.rows.ensures) c.requires.within c.min-count.ensures in
    let rows = c.are_closed.ensures in
    ((λ yes. block.0 (rows.0 yes)), (λ closed. rows.1 (block.1 closed)))
