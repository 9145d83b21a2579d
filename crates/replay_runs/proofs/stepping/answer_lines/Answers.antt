use Rattle.std.proofs.Common.{Bool, refl, sym, ◌∙◌, inl, inr, subst}
use Rattle.std.proofs.KnownBytes.{Appends-nil}
use Rattle.byte_streams.specs.Streams.{change, from_to}
use Rattle.replay_runs.specs.Replies.{reply_to}
use Rattle.replay_runs.specs.Replies.Reply.{passed_over}
use Rattle.replay_runs.proofs.ReadLemmas.{IsAnswering, IsOneMore, answering_begins, answering_on, answers_fail, over_said}
use Rattle.replay_runs.proofs.stepping.answer_lines.Goals as goal

pub lines-init : goal.lines-init
lines-init g c = record {
  answering = answering_begins (g.S.Source.state c.args.source.now) c.args.reader.now (g.R.Run.world c.args.run.now) (g.K.Sink.state c.args.sink.now);
  unfailed = refl;
  flushed = inr refl;
}

pub lines-preserved-in-PassedOver : goal.lines-preserved-in-PassedOver
lines-preserved-in-PassedOver g c =
    let source = g.S.Source.state in
    let sink = g.K.Sink.state in
    let world = g.R.Run.world in
    let next : IsOneMore (from_to (source c.lines.source) (source c.next_line.new.source)) (from_to c.lines.reader c.next_line.new.self) (from_to (world c.lines.run) (world c.lines.run)) passed_over =
    record { line = c.in-Some.line; read = rw c.in-Some.is at c.in-Ok.ensures; is = over_said c.in-Some.line.kind c.next_line.new.self.kept c.in-PassedOver.is; changes = refl } in
    record {
      answering = answering_on (source c.args.source.now) (source c.lines.source) (source c.next_line.new.source) c.args.reader.now c.lines.reader c.next_line.new.self (world c.args.run.now) (world c.lines.run) (world c.lines.run) (sink c.args.sink.now) (sink c.lines.sink) (sink c.lines.sink) c.lines.said passed_over c.lines.invariant.answering next (Appends-nil (sink c.lines.sink).contents);
      unfailed = c.lines.invariant.unfailed;
      flushed = c.lines.invariant.flushed;
    }

pub returns-in-Err-answer_step-clause-answers : goal.returns-in-Err-answer_step-clause-answers
returns-in-Err-answer_step-clause-answers g c =
    let source = g.S.Source.state in
    let sink = g.K.Sink.state in
    let world = g.R.Run.world in
    let read = rw c.in-Some.is at c.in-Ok.ensures in
    let reply = c.in-Err-answer_step.ensures.reply in
    let done = reply_to c.step_in-step.result reply.0 in
    let is = (rw c.bytes.ensures at c.step_in-step.ensures) reply.0 in
    let next : IsOneMore (from_to (source c.lines.source) (source c.next_line.new.source)) (from_to c.lines.reader c.next_line.new.self) (from_to (world c.lines.run) (world c.answer_step.new.run)) done =
    record { line = c.in-Some.line; read = read; is = is; changes = reply.1 } in
    answers_fail (source c.args.source.now) (source c.lines.source) (source c.next_line.new.source) c.args.reader.now c.lines.reader c.next_line.new.self (world c.args.run.now) (world c.lines.run) (world c.answer_step.new.run) (sink c.args.sink.now) (sink c.lines.sink) (sink c.answer_step.new.sink) c.lines.said done c.lines.invariant.answering next reply.2.0 read.7.0.1 reply.2.1

pub lines-preserved : goal.lines-preserved
lines-preserved g c =
    let source = g.S.Source.state in
    let sink = g.K.Sink.state in
    let world = g.R.Run.world in
    let reply = c.in-Ok-answer_step.ensures.reply in
    let done = reply_to c.step_in-step.result reply.0 in
    let is = (rw c.bytes.ensures at c.step_in-step.ensures) reply.0 in
    let next : IsOneMore (from_to (source c.lines.source) (source c.next_line.new.source)) (from_to c.lines.reader c.next_line.new.self) (from_to (world c.lines.run) (world c.answer_step.new.run)) done =
    record { line = c.in-Some.line; read = rw c.in-Some.is at c.in-Ok.ensures; is = is; changes = reply.1 } in
    let on = answering_on (source c.args.source.now) (source c.lines.source) (source c.next_line.new.source) c.args.reader.now c.lines.reader c.next_line.new.self (world c.args.run.now) (world c.lines.run) (world c.answer_step.new.run) (sink c.args.sink.now) (sink c.lines.sink) (sink c.answer_step.new.sink) c.lines.said done c.lines.invariant.answering next reply.2.0.0 in
    record {
      answering = subst (λ (fine : Bool). IsAnswering (change source c.args.source.now c.next_line.new.source) (from_to c.args.reader.now c.next_line.new.self) (change world c.args.run.now c.answer_step.new.run) (change sink c.args.sink.now c.answer_step.new.sink) fine) (sym reply.2.1) on;
      unfailed = reply.2.0.1.1 ∙ sym reply.2.0.1.0 ∙ c.lines.invariant.unfailed;
      flushed = inl c.in-Ok-answer_step.ensures.last;
    }
