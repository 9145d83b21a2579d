use Rattle.std.proofs.Common.{length, ◌-◌, ◌≡◌, ◌≤◌, false, take}
use Rattle.std.specs.Io.KnownBytes.{Appends}
use Rattle.byte_streams.specs.Sink.{AreTaken}
use Rattle.byte_streams.proofs.sink.ByteSinkSink.put.Given as goal

abbrev pub invariant-writes : goal.invariant-writes
invariant-writes g l = record {
  within : l.sent ≤ length l.bytes;
  unfailed : l.self.has_failed ≡ false;
  appended : Appends (g.W.Writer.contents l.initial.self.writer) (g.W.Writer.contents l.self.writer) (take l.sent l.bytes);
  taken : AreTaken g.W.Writer.write_takes l.initial.self.writer (take l.sent l.bytes) l.self.writer;
}

abbrev pub decreases-writes : goal.decreases-writes
decreases-writes g l = length l.bytes - l.sent
