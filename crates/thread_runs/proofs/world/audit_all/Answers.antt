use Rattle.std.proofs.Common.{rules, arith, ◌≡◌, inl, inr, ◌<◌, ◌≤◌, length, get_or, ap, sym, ◌∙◌, subst}
use Rattle.std.specs.Prelude.{slice_get}
use Rattle.std.proofs.Math.Seq.{map-set_same}
use Rattle.std.proofs.lemmas.Bool.Decides.{eqb_tells}
use Rattle.std.proofs.lemmas.List.{length-map}
use Rattle.std.proofs.lemmas.List.Elements.{All-set}
use Rattle.std.proofs.lemmas.Option.{slice_get-get_or}
use Rattle.search_lists.specs.Lists.{SearchListsModel}
use Rattle.world_model.specs.Books.{BookState}
use Rattle.world_model.specs.Workers.{WorkerState}
use Rattle.worker_core.specs.Roles.{IsGuided}
use Rattle.worker_core.specs.Workers.{state_of}
use Rattle.world_ends.specs.Parts.{states_of}
use Rattle.world_ends.proofs.PartLemmas.{state_at}
use Rattle.thread_runs.proofs.TakenLemmas.{some_is}
use Rattle.thread_runs.proofs.world.audit_all.Goals as goal

pub workers-preserved : goal.workers-preserved
workers-preserved g c =
    let states = states_of c.args.workers.now in
    let xs = c.workers.workers in
    let i = c.workers.i in
    let inv = c.workers.invariant in
    let e = c.audit.ensures in
    let within : i < length xs = search rules in
    let d = c.index-workers-i.result in
    let at = state_at xs states i d inv.same within in
    record {
      book = e.book ∙ inv.book;
      same = map-set_same state_of xs i c.audit.new.self d e.state ∙ inv.same;
      guided = λ task guide is.
          let before = inv.guided task guide is in
          All-set (λ worker. IsGuided task guide worker.lists) xs i c.audit.new.self (subst (λ (l : SearchListsModel). IsGuided task guide l) (sym e.keeps.lists) (before i d within)) before;
      bound = λ k worker low here. elim (eqb_tells k i) [
        | inl p ↦ (
            let same : state_of (get_or xs i d) ≡ worker = some_is (state_of (get_or xs i d)) worker (sym at ∙ (ap (slice_get states) (sym p.1) ∙ here)) in
            subst (λ (w : WorkerState). w.purse ≤ c.args.book.now.credit) same (subst (λ (b : BookState). (state_of (get_or xs i d)).purse ≤ b.credit) inv.book e.bound))
        | inr p ↦ inv.bound k worker (omega (arith, low, p.1)) here
      ];
    }

pub returns-clause-bound : goal.returns-clause-bound
returns-clause-bound g c k d low =
    let states = states_of c.args.workers.now in
    let inv = c.workers.invariant in
    let ended : c.workers.i ≡ length c.args.workers.now = search rules in
    let below : k < c.workers.i = omega (arith, low, ended, length-map c.args.workers.now (λ worker. state_of worker)) in
    inv.bound k (get_or states k d) below (slice_get-get_or states k d low)
