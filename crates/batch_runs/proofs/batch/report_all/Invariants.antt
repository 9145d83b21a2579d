use Rattle.std.proofs.Common.{◌≡◌, ◌⊎◌, ◌-◌, ◌+◌}
use Rattle.byte_streams.specs.Streams.{change}
use Rattle.batch_lines.specs.Readings.{CountsKnown}
use Rattle.batch_lines.specs.declared.lines.TheConstants.{INPUT_LIMIT}
use Rattle.batch_runs.proofs.BatchLemmas.{IsRunning}
use Rattle.batch_runs.proofs.batch.report_all.Given as goal

abbrev pub invariant-lines : goal.invariant-lines
invariant-lines g l = record {
  running : IsRunning (g.A.Ruled.rules l.fn.solver) (λ id b solved. g.A.Solver.has_stats l.fn.solver b solved × g.A.Solver.has_observed l.fn.solver id solved) (change g.S.Source.state l.fn.source l.source) (change g.K.Sink.state l.fn.sink l.sink) l.reader.lines l.summary;
  taken : CountsKnown (g.S.Source.state l.fn.source).left (g.S.Source.state l.source).left 0 l.reader.taken;
  unfailed : (g.K.Sink.state l.sink).has_failed ≡ (g.K.Sink.state l.fn.sink).has_failed;
  flushed : g.K.Sink.is_flushed l.sink ⊎ (l.sink ≡ l.fn.sink);
  solver : l.answerer ≡ l.fn.solver;
}

abbrev pub decreases-lines : goal.decreases-lines
decreases-lines g l = (INPUT_LIMIT + 1) - l.reader.taken
