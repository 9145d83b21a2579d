use Rattle.std.proofs.Common.{◌*◌, ◌≤◌, ◌∙◌, length, None, Some, ap, arith}
use Rattle.rayon.specs.Lists.{range_start, range_end}
use Rattle.rayon.proofs.ToStd.{nat_range-All}
use Rattle.certificate_check.specs.declared.parallel.TheConstants.{BLOCK_ROWS}
use Rattle.certificate_check.proofs.RowLemmas.{blocks_before, closed_blocks, closed_by_blocks, begins_within, last_block}
use Rattle.certificate_check.proofs.parallel.closed_up_to.Goals as goal

pub find_first-found-requires-clause-items : goal.find_first-found-requires-clause-items
find_first-found-requires-clause-items g c κs within =
    let last = last_block c.args.certificate.now c.rows-count.result.now c.with_min_len.result.base.end c.rows-count.ensures (ap range_end c.with_min_len.ensures.base ∙ c.into_par_iter.ensures.1) in
    let inside = nat_range-All (λ i. i * BLOCK_ROWS ≤ length c.args.certificate.now.rows) c.with_min_len.result.base.start c.with_min_len.result.base.end (λ i low high. begins_within (length c.args.certificate.now.rows) i (omega (arith, high, last))) in
    λ k d less p e. (c.requires.certificate, (c.requires.shape, rw e (inside k d less)))

pub overflow_mul-result : goal.overflow_mul-result
overflow_mul-result g c =
    let cert = c.args.certificate.now in
    let last = last_block cert c.rows-count.result.now c.with_min_len.result.base.end c.rows-count.ensures (ap range_end c.with_min_len.ensures.base ∙ c.into_par_iter.ensures.1) in
    let found = c.find_first-found.ensures in
    let before = blocks_before cert c.args.bound.now c.with_min_len.result.base.start c.with_min_len.result.base.end (ap range_start c.with_min_len.ensures.base ∙ c.into_par_iter.ensures.0) last found.0 found.1 found.2 found.3 c.find_first-found.result (Some c.in-Some.block) found.4 c.in-Some.is in
    let within = begins_within (length cert.rows) c.in-Some.block before.0 in
    let count = ap length c.rows-count.ensures in
    omega (arith, within, count)

pub returns-in-Some : goal.returns-in-Some
returns-in-Some g c =
    let cert = c.args.certificate.now in
    let last = last_block cert c.rows-count.result.now c.with_min_len.result.base.end c.rows-count.ensures (ap range_end c.with_min_len.ensures.base ∙ c.into_par_iter.ensures.1) in
    let found = c.find_first-found.ensures in
    let before = blocks_before cert c.args.bound.now c.with_min_len.result.base.start c.with_min_len.result.base.end (ap range_start c.with_min_len.ensures.base ∙ c.into_par_iter.ensures.0) last found.0 found.1 found.2 found.3 c.find_first-found.result (Some c.in-Some.block) found.4 c.in-Some.is in
    closed_blocks cert c.args.bound.now c.in-Some.block before.1

pub returns : goal.returns
returns g c =
    let cert = c.args.certificate.now in
    let last = last_block cert c.rows-count.result.now c.with_min_len.result.base.end c.rows-count.ensures (ap range_end c.with_min_len.ensures.base ∙ c.into_par_iter.ensures.1) in
    let found = c.find_first-found.ensures in
    let before = blocks_before cert c.args.bound.now c.with_min_len.result.base.start c.with_min_len.result.base.end (ap range_start c.with_min_len.ensures.base ∙ c.into_par_iter.ensures.0) last found.0 found.1 found.2 found.3 c.find_first-found.result None found.4 c.in-None.is in
    λ place m low less o.
    let count = ap length c.rows-count.ensures in
    closed_by_blocks cert c.args.bound.now before place m low (omega (arith, less, count)) o
