use Rattle.byte_streams.specs.Streams.{change}
use Rattle.certificate.proofs.ReaderLemmas.{ended_there, not_ended, end_failed}
use Rattle.certificate.proofs.fields.read_end.Goals as goal

pub returns-in-Ok-None : goal.returns-in-Ok-None
returns-in-Ok-None g c = ended_there (change g.S.Source.state c.args.source.now c.next_byte.new.self) (rw c.in-Ok-None.field-0-is at c.in-Ok-None.ensures)

pub returns-in-Ok-Some : goal.returns-in-Ok-Some
returns-in-Ok-Some g c = not_ended (change g.S.Source.state c.args.source.now c.next_byte.new.self) c.in-Ok-Some.field-0-0 (rw c.in-Ok-Some.field-0-is at c.in-Ok-Some.ensures)

pub returns-in-Err : goal.returns-in-Err
returns-in-Err g c = end_failed (change g.S.Source.state c.args.source.now c.next_byte.new.self) c.in-Err.ensures
