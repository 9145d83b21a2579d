use Rattle.worker_core.specs.Ahead.{IsFoundAhead, terms_of}
use Rattle.worker_core.proofs.BackLemmas.{all_pushed}
use Rattle.worker_core.proofs.ahead.make_batch.Goals as goal

pub places-preserved : goal.places-preserved
places-preserved g c =
    let items = rw c.if-is_err.ensures.negation at c.push.ensures.items in
    all_pushed (IsFoundAhead g.S.Spread.owner_of (terms_of c.args.context.now)) c.places.batch.items c.push.new.items.items c.write_found.new.found c.places.invariant c.write_found.ensures.found items
