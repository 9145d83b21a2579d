use Rattle.std.proofs.Common.{◌≡◌, length, Some, None, ap, sym, ◌∙◌, refl}
use Rattle.std.proofs.lemmas.List.{length-map}
use Rattle.world_model.specs.declared.steps.Stop.{Stop}
use Rattle.world_model.specs.declared.steps.Stop.TheVariants.{Quiet, Limit, Memory, Start}
use Rattle.world_model.specs.Books.{BookState}
use Rattle.worker_core.specs.Workers.{state_of}
use Rattle.world_ends.specs.Parts.{states_of}
use Rattle.hda_run.specs.Jobs.{task_in}
use Rattle.thread_runs.proofs.WorldLemmas.{kept_at, kept_quiet, kept_limit}
use Rattle.thread_runs.proofs.looks.is_kept.Goals as goal

pub returns-in_default-clause-kept : goal.returns-in_default-clause-kept
returns-in_default-clause-kept g c = λ w parts is rest.
    let stop : c.args.book.now.stop ≡ None = sym c.stop.ensures.value ∙ c.in_default.is in
    let kept = kept_at (task_in c.args.search.now.job) (g.S.Spread.owner_of c.args.search.now.owners.now) (states_of c.args.workers.now) w parts None (ap (λ (b : BookState). b.stop) is ∙ stop) in
    ((λ yes. absurd (cc yes)), (λ it. absurd (kept.1 it)))

pub returns-in-Memory-clause-kept : goal.returns-in-Memory-clause-kept
returns-in-Memory-clause-kept g c = λ w parts is rest.
    let want = c.in-Memory.field-0 in
    let stop : c.args.book.now.stop ≡ Some (Memory want) = sym c.stop.ensures.value ∙ (c.in-Some.is ∙ ap (λ (s : Stop). Some s) c.in-Memory.is) in
    let kept = kept_at (task_in c.args.search.now.job) (g.S.Spread.owner_of c.args.search.now.owners.now) (states_of c.args.workers.now) w parts (Some (Memory want)) (ap (λ (b : BookState). b.stop) is ∙ stop) in
    ((λ yes. kept.0 tt), (λ it. refl))

pub returns-in-Start-clause-kept : goal.returns-in-Start-clause-kept
returns-in-Start-clause-kept g c = λ w parts is rest.
    let stop : c.args.book.now.stop ≡ Some Start = sym c.stop.ensures.value ∙ (c.in-Some.is ∙ ap (λ (s : Stop). Some s) c.in-Start.is) in
    let kept = kept_at (task_in c.args.search.now.job) (g.S.Spread.owner_of c.args.search.now.owners.now) (states_of c.args.workers.now) w parts (Some Start) (ap (λ (b : BookState). b.stop) is ∙ stop) in
    ((λ yes. absurd (cc yes)), (λ it. absurd (kept.1 it)))

pub returns-in-Quiet-clause-kept : goal.returns-in-Quiet-clause-kept
returns-in-Quiet-clause-kept g c = λ w parts is rest.
    let states = states_of c.args.workers.now in
    let stop : c.args.book.now.stop ≡ Some Quiet = sym c.stop.ensures.value ∙ (c.in-Some.is ∙ ap (λ (s : Stop). Some s) c.in-Quiet.is) in
    let best : c.best.result ≡ w.book.best = c.best.ensures ∙ ap (λ (b : BookState). b.best) (sym is) in
    let kept = kept_quiet (task_in c.args.search.now.job) (g.S.Spread.owner_of c.args.search.now.owners.now) states w parts (ap (λ (b : BookState). b.stop) is ∙ stop) (rest stop) c.best.result best in
    ((λ yes. kept.0 (c.is_quiet.ensures.quiet.0 yes)), (λ it. c.is_quiet.ensures.quiet.1 (kept.1 it)))

pub returns-in-Limit-clause-kept : goal.returns-in-Limit-clause-kept
returns-in-Limit-clause-kept g c = λ w parts is rest.
    let states = states_of c.args.workers.now in
    let stop : c.args.book.now.stop ≡ Some Limit = sym c.stop.ensures.value ∙ (c.in-Some.is ∙ ap (λ (s : Stop). Some s) c.in-Limit.is) in
    let limit : w.book.limit ≡ c.args.search.now.job.limit = ap (λ (b : BookState). b.limit) is ∙ (g.met.C.Tokens.one_limit c.args.book.now.limit c.stop.ensures.allowed ∙ sym c.requires.limit) in
    let count : length states ≡ length c.args.workers.now = length-map c.args.workers.now (λ worker. state_of worker) in
    let kept = kept_limit (task_in c.args.search.now.job) (g.S.Spread.owner_of c.args.search.now.owners.now) states w parts (ap (λ (b : BookState). b.stop) is ∙ stop) (length c.args.workers.now) c.args.search.now.job.limit count limit in
    ((λ yes. kept.0 (c.has_spent.ensures.0 yes)), (λ it. c.has_spent.ensures.1 (kept.1 it)))
