use Rattle.std.proofs.Common.{List, ap, ◌∙◌, arith}
use Rattle.std.specs.Prelude.{slice_set}
use Rattle.std.proofs.lemmas.List.{map-set}
use Rattle.std.proofs.lemmas.List.Elements.{All-set}
use Rattle.worker_core.specs.Roles.{IsGuided}
use Rattle.worker_core.specs.Workers.{state_of}
use Rattle.world_model.specs.Workers.{WorkerState}
use Rattle.hda_run.proofs.PartsLemmas.{made_count, W}
use Rattle.hda_run.proofs.opening.workers_with.Goals as goal

pub index_mut-requires : goal.index_mut-requires
index_mut-requires c =
    let count = made_count c.args.workers c.in_ok-all.all.items c.in_ok-all.ensures.states in
    omega (arith, count, c.requires.there, c.in_ok-all.all.ok.0)

pub returns-clause-states : goal.returns-clause-states
returns-clause-states c =
    map-set (λ (w : W). state_of w) c.in_ok-all.all.items c.args.place c.args.first
    ∙ ap (λ (states : List WorkerState). slice_set states c.args.place (state_of c.args.first)) c.in_ok-all.ensures.states

pub returns-clause-guided : goal.returns-clause-guided
returns-clause-guided c = λ task guide leads is.
    All-set (λ (w : W). IsGuided task guide w.lists) c.in_ok-all.all.items c.args.place c.args.first is (c.in_ok-all.ensures.guided task guide leads)
