use Rattle.std.proofs.Common.{All, subst, sym}
use Rattle.std.proofs.lemmas.List.Elements.{All-push}
use Rattle.setup_runs.specs.Ahead.{AreTried}
use Rattle.setup_runs.proofs.SolvingLemmas.{no_tried}
use Rattle.setup_runs.proofs.ahead.new_lanes.Goals as goal

pub threads-preserved : goal.threads-preserved
threads-preserved c setup =
    let added = All-push (AreTried setup) c.threads.lanes.items c.new.result (c.threads.invariant setup) (no_tried setup c.new.result c.new.ensures.items) in
    subst (All (AreTried setup)) (sym c.in_ok-push.ensures.items) added
