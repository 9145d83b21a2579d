use Rattle.std.proofs.Common.{◌≡◌, ◌⊎◌, ◌-◌, ◌+◌}
use Rattle.byte_streams.specs.Streams.{change, from_to}
use Rattle.batch_lines.specs.declared.lines.TheConstants.{INPUT_LIMIT}
use Rattle.replay_runs.proofs.ReadLemmas.{IsAnswering}
use Rattle.replay_runs.proofs.stepping.answer_lines.Given as goal

abbrev pub invariant-lines : goal.invariant-lines
invariant-lines g l = record {
  answering : IsAnswering (change g.S.Source.state l.fn.source l.source) (from_to l.fn.reader l.reader) (change g.R.Run.world l.fn.run l.run) (change g.K.Sink.state l.fn.sink l.sink) l.said;
  unfailed : (g.K.Sink.state l.sink).has_failed ≡ (g.K.Sink.state l.fn.sink).has_failed;
  flushed : g.K.Sink.is_flushed l.sink ⊎ (l.sink ≡ l.fn.sink);
}

abbrev pub decreases-lines : goal.decreases-lines
decreases-lines g l = (INPUT_LIMIT + 1) - l.reader.taken
