use Rattle.std.proofs.Common.{arith}
use Rattle.std.proofs.lemmas.List.Elements.{All-set}
use Rattle.worker_core.specs.Ahead.{IsFoundAhead, terms_of}
use Rattle.worker_core.proofs.BackLemmas.{adds_up}
use Rattle.worker_core.proofs.ahead.write_upcoming.Goals as goal

pub overflow_sub-count : goal.overflow_sub-count
overflow_sub-count g c = c.places.invariant.some

pub write_found-requires : goal.write_found-requires
write_found-requires g c =
    let guided = c.requires.guided in
    adds_up c.args.context.now guided.0 guided.1 c.args.lists.now guided.2 c.in-Some.next c.in-Some.ensures (omega (arith, c.requires.low, c.if-next-f.false))

pub places-preserved : goal.places-preserved
places-preserved g c = record {
  all = All-set (IsFoundAhead g.S.Spread.owner_of (terms_of c.args.context.now)) c.places.batch.items c.places.count c.write_found.new.found c.write_found.ensures.found c.places.invariant.all;
  some = let some = c.places.invariant.some in omega (arith, some);
}
