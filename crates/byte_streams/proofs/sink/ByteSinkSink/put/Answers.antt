use Rattle.std.proofs.Common.{take, drop, arith, sym, ◌∙◌, refl}
use Rattle.std.proofs.lemmas.Bool.{false≢true}
use Rattle.std.proofs.Math.Seq.{take-add}
use Rattle.std.proofs.lemmas.List.{take_rest}
use Rattle.std.proofs.KnownBytes.{Appends-nil, Appends-trans}
use Rattle.byte_streams.specs.Sink.AreTaken.{by_none, by_one_more}
use Rattle.byte_streams.proofs.SinkLemmas.{PutsBeginning-from_take, StopsAtFailure-from_take}
use Rattle.byte_streams.proofs.sink.ByteSinkSink.put.Goals as goal

pub writes-init : goal.writes-init
writes-init g c =
    record { within = omega arith; unfailed = c.if-self.false; appended = Appends-nil _; taken = by_none }

pub writes-preserved : goal.writes-preserved
writes-preserved g c =
    let bytes = c.args.bytes.now in
    let sent = c.writes.sent in
    let taken = c.in-Ok.taken in
    let both = Appends-trans _ _ _ (take sent bytes) (take taken (drop sent bytes)) c.writes.invariant.appended (rw (take_rest bytes sent) at c.in-Ok.ensures.taken) in
    let longer = by_one_more (take sent bytes) (take taken (drop sent bytes)) _ _ c.writes.invariant.taken (rw (take_rest bytes sent) at c.in-Ok.ensures.takes) in
    record {
      within = omega (arith, c.in-Ok.ensures.bound);
      unfailed = c.writes.invariant.unfailed;
      appended = rw take-add both;
      taken = rw take-add longer;
    }

pub returns-in-Err-clause-writes : goal.returns-in-Err-clause-writes
returns-in-Err-clause-writes g c =
    (PutsBeginning-from_take _ _ c.writes.sent _ c.writes.invariant.appended c.in-Err.ensures.kept, refl, λ failed. absurd (false≢true (sym c.if-self.false ∙ failed)))

pub returns-in-Err-clause-cause : goal.returns-in-Err-clause-cause
returns-in-Err-clause-cause g c unfailed =
    StopsAtFailure-from_take _ _ _ _ _ c.writes.sent _ c.writes-test.true c.writes.invariant.taken c.in-Err.ensures.cause
