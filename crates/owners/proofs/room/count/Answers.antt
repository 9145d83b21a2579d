use Rattle.std.proofs.Common.{arith}
use Rattle.owners.proofs.OfferLemmas.{sum_on}
use Rattle.owners.proofs.room.count.Goals as goal

pub offers-preserved : goal.offers-preserved
offers-preserved c =
    let me = c.args.me in
    let to = c.args.to in
    let so_far = c.offers.invariant.value in
    let few = c.offers.invariant.few in
    let value = c.count_one-count.ensures.value in
    let one = c.count_one-count.ensures.few in
    let size = c.len-place-end.ensures.value in
    let within = c.offers-test.true in
    let on = sum_on me to c.args.offers.now c.offers.place c.entry.result c.entry.ensures (omega (arith, size, within)) in
    record { value = omega (arith, so_far, value, on); few = omega (arith, few, one) }
