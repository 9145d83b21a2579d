use Rattle.std.proofs.Common.{◌+◌, ◌<◌, List, drop, length, refl, sym, ap, ◌∙◌, subst, arith}
use Rattle.board.specs.declared.moves.Move.{Move}
use Rattle.owners.specs.declared.offer.Offer.{Offer}
use Rattle.owners.proofs.OfferLemmas.{entries_on}
use Rattle.successor_sums.specs.ByMoves.{entries_of}
use Rattle.world_model.specs.Workers.{WorkerState}
use Rattle.worker_core.specs.Expanding.{IsReady, stock, AddsUpBy}
use Rattle.worker_core.specs.Workers.{state_of, packets_of}
use Rattle.worker_core.proofs.ExpandLemmas.{entries_taken, entry_has, entry_offered, offered_in, ready_entries, taken_all}
use Rattle.worker_core.proofs.worker.Worker.take_all.Goals as goal

pub offers-init : goal.offers-init
offers-init g c = record {
  ready = ready_entries c.args.offers.now c.args.context.now.me c.args.context.now.goal.grid c.args.self.now.lists (packets_of c.args.self.now.unsent.items) c.requires;
  state = λ role sum items me offered boards last. taken_all role sum items (state_of c.args.self.now) c.args.offers.now offered;
  guided = λ task guide ends adds is. is;
  workers = refl;
  allowance = refl;
}

pub take-requires-after_bounds : goal.take-requires-after_bounds
take-requires-after_bounds g c κs bounds =
    let size = c.len-place-end.ensures.value in
    let within = c.offers-test.true in
    let offers = c.args.offers.now in
    let on = entries_on offers c.offers.place c.entry-via.result c.entry-via.ensures (omega (arith, size, within)) in (
      offered_in (drop (c.offers.place + 1) (entries_of offers)),
      subst
          (λ (entries : List (Move × Offer)). IsReady c.args.context.now.me c.args.context.now.goal.grid (stock c.offers.self.lists (packets_of c.offers.self.unsent.items)) (offered_in entries))
          on
          c.offers.invariant.ready,
    )

pub offers-preserved : goal.offers-preserved
offers-preserved g c =
    let size = c.len-place-end.ensures.value in
    let test = c.offers-test.true in
    let offers = c.args.offers.now in
    let entry = c.entry-via.result in
    let within : c.offers.place < length (entries_of offers) = omega (arith, size, test) in
    let on = entries_on offers c.offers.place entry c.entry-via.ensures within in
    let rest = drop (c.offers.place + 1) (entries_of offers) in
    let worker = c.offers.self in
    record {
      ready = c.take.ensures.ready (offered_in rest) (subst (λ (entries : List (Move × Offer)). IsReady c.args.context.now.me c.args.context.now.goal.grid (stock worker.lists (packets_of worker.unsent.items)) (offered_in entries)) on c.offers.invariant.ready);
      state = λ role sum items me offered boards last.
          let one = c.take.ensures.state role sum (items entry.0) me (entry_offered role sum items offers c.offers.place entry c.entry-via.ensures within offered) (boards entry.0) (last entry.0) in
          ap (λ (w : WorkerState). entries_taken role items w rest) one
          ∙ ap (λ (entries : List (Move × Offer)). entries_taken role items (state_of worker) entries) (sym on)
          ∙ c.offers.invariant.state role sum items me offered boards last;
      guided = λ task guide ends adds is.
          c.take.ensures.guided task guide ends (entry_has (AddsUpBy guide) offers c.offers.place entry c.entry-via.ensures within adds) (c.offers.invariant.guided task guide ends adds is);
      workers = c.take.ensures.workers ∙ c.offers.invariant.workers;
      allowance = c.take.ensures.allowance ∙ c.offers.invariant.allowance;
    }
