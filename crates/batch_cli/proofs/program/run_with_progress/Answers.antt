use Rattle.std.proofs.Common.{map, string_bytes}
use Rattle.byte_streams.specs.Streams.{change}
use Rattle.batch_cli.proofs.LawLemmas.{runs_program}
use Rattle.batch_cli.proofs.program.run_with_progress.Goals as goal

pub returns-clause-run : goal.returns-clause-run
returns-clause-run g c =
    runs_program (change g.S.Source.state c.args.source.now c.end_program-ending.new.source) (change g.K.Sink.state c.args.sink.now c.end_program-ending.new.sink) c.end_program-ending.result c.tell.result c.tell.ensures.told
    (map string_bytes c.args.words.now) (change g.E.Sink.state c.args.errors.now c.tell.new.errors) c.tell.ensures c.end_program-ending.ensures.ended c.end_program-ending.ensures.begun
