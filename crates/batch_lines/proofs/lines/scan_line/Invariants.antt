use Rattle.std.proofs.Common.{◌≡◌, ◌≤◌, ◌-◌, ◌+◌}
use Rattle.batch_lines.specs.declared.lines.TheConstants.{INPUT_LIMIT}
use Rattle.batch_lines.proofs.LineLemmas.{IsUnderWay}
use Rattle.batch_lines.proofs.lines.scan_line.Given as goal

abbrev pub invariant-bytes : goal.invariant-bytes
invariant-bytes g l = record {
  way : IsUnderWay (g.S.Source.state l.fn.source).left (g.S.Source.state l.source).left l.fn.taken l.taken l.kept.items l.start l.more;
  before : (g.S.Source.state l.fn.source).has_failed ≡ (g.S.Source.state l.source).has_failed;
  fine : l.fn.taken ≤ INPUT_LIMIT;
}

abbrev pub decreases-bytes : goal.decreases-bytes
decreases-bytes g l = (INPUT_LIMIT + 1) - l.taken
