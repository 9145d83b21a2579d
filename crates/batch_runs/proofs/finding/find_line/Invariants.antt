use Rattle.std.proofs.Common.{◌-◌, ◌+◌}
use Rattle.byte_streams.specs.Streams.{change}
use Rattle.batch_lines.specs.declared.lines.TheConstants.{INPUT_LIMIT}
use Rattle.batch_runs.proofs.FindingLemmas.{IsSearching}
use Rattle.batch_runs.proofs.finding.find_line.Given as goal

abbrev pub invariant-lines : goal.invariant-lines
invariant-lines g l = IsSearching (change g.S.Source.state l.fn.source l.source) l.reader

abbrev pub decreases-lines : goal.decreases-lines
decreases-lines g l = (INPUT_LIMIT + 1) - l.reader.taken
