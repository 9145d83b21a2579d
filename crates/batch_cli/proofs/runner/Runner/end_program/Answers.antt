use Rattle.std.proofs.Common.{inl, inr, refl, map, string_bytes}
use Rattle.byte_streams.specs.Streams.{change}
use Rattle.batch_cli.proofs.LawLemmas.{fit_asked, begun_ended, hands_asked}
use Rattle.batch_cli.specs.Programs.{EndsRun, Runs}
use Rattle.batch_cli.proofs.runner.Runner.end_program.Goals as goal

pub command_for-requires-after_bounds : goal.command_for-requires-after_bounds
command_for-requires-after_bounds g c = λ _ _. fit_asked (map string_bytes c.args.words.now) c.in-Ok.request c.in-Ok.ensures.request

pub returns-in-Err-clause-ended : goal.returns-in-Err-clause-ended
returns-in-Err-clause-ended g c = inr (c.in-Err.refusal, c.in-Err.ensures.refusal, (refl, refl), refl)

pub returns : goal.returns
returns g c =
    let source = change g.S.Source.state c.args.source.now c.run-ending.new.source in
    let sink = change g.K.Sink.state c.args.sink.now c.flush_behind.new.sink in
    let ran : EndsRun (Runs c.in-Ok-command_for.command source) sink c.flush_behind.result = record { between = g.K.Sink.state c.run-ending.new.sink; ran = c.run-ending.result; run = c.run-ending.ensures.runs; flush = c.flush_behind.ensures.ended } in
    record {
      ended = inl (c.in-Ok.request, c.in-Ok.ensures.request, c.in-Ok-command_for.ensures.command source sink c.flush_behind.result ran);
      begun = inl (c.flush_behind.ensures.flushed, begun_ended c.in-Ok-command_for.command source sink c.flush_behind.result ran);
      figures = inr (c.in-Ok.request, c.in-Ok.ensures.request, hands_asked _ c.in-Ok.request c.in-Ok-command_for.command source sink ran.between ran.ran c.flush_behind.result c.in-Ok-command_for.ensures.solved c.run-ending.ensures.figures ran.flush);
    }
