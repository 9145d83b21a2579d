use Rattle.std.proofs.Common.{◌≤◌, length}
use Rattle.setup_runs.proofs.ahead.whole_lines.Given as goal

abbrev pub invariant-bytes : goal.invariant-bytes
invariant-bytes l = l.end ≤ length l.held

abbrev pub decreases-bytes : goal.decreases-bytes
decreases-bytes l = l.end
