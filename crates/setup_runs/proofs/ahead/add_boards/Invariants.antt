use Rattle.std.proofs.Common.{All}
use Rattle.setup_runs.specs.Ahead.{HasSides}
use Rattle.setup_runs.proofs.ahead.add_boards.Given as goal

abbrev pub invariant-lines : goal.invariant-lines
invariant-lines l = All (HasSides l.shape) l.boards.items
