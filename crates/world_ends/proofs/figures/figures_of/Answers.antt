use Rattle.std.proofs.Common.{rules, ◌≡◌, ◌<◌, ◌≤◌, ◌∙◌, length, refl, sym, ap}
use Rattle.std.specs.Prelude.{get_or}
use Rattle.std.proofs.lemmas.List.{length-map, get_or-map}
use Rattle.worker_core.specs.Workers.{state_of}
use Rattle.world_model.specs.Workers.{WorkerState}
use Rattle.world_ends.specs.Parts.{states_of}
use Rattle.world_ends.proofs.FigureLemmas.{counted_more, as_many}
use Rattle.world_ends.proofs.figures.figures_of.Goals as goal

pub workers-preserved : goal.workers-preserved
workers-preserved g c =
    let workers = c.args.workers.now in
    let worker : WorkerState = state_of c.index-workers-i.result in
    let inside : c.workers.i < length workers = search rules in
    let within : c.workers.i < length (states_of workers) = simp length-map inside in
    let at : get_or (states_of workers) c.workers.i worker ≡ worker = get_or-map state_of workers c.workers.i c.index-workers-i.result worker inside ∙ ap state_of (sym c.index-workers-i.is) in
    let tabled = rw c.lists.ensures at c.len.ensures.table in
    let known = c.len.ensures.len ∙ ap (λ lists. length lists.closed.keys) c.lists.ensures ∙ as_many _ tabled in
    let low_spent : c.expansions.result ≤ 18446744073709551615 = search rules in
    let low_known : c.len.result ≤ 18446744073709551615 = search rules in
    counted_more (states_of workers) c.workers.i worker c.workers.figures _ c.expansions.result c.len.result within at c.expansions.ensures known low_spent low_known refl refl c.workers.invariant
