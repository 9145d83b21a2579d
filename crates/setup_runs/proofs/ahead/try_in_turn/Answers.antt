use Rattle.std.proofs.Common.{is_ok}
use Rattle.setup_runs.proofs.SolvingLemmas.{tried_more}
use Rattle.setup_runs.proofs.ahead.try_in_turn.Goals as goal

pub returns-then-is_err : goal.returns-then-is_err
returns-then-is_err g c =
    tried_more c.args.shared.now.setup.now c.boards.lane c.push.new.items _ (is_ok c.push.result) c.push.ensures.items c.boards.invariant c.in-Some.ensures

pub boards-preserved : goal.boards-preserved
boards-preserved g c =
    tried_more c.args.shared.now.setup.now c.boards.lane c.push.new.items _ (is_ok c.push.result) c.push.ensures.items c.boards.invariant c.in-Some.ensures
