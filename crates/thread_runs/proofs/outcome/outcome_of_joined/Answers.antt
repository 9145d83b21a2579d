use Rattle.std.proofs.Common.{arith, ◌≡◌, ◌≢◌, ℕ, ◌+◌, ◌*◌, ◌≤◌, List, Some, length, ap, sym, ◌∙◌, subst, refl}
use Rattle.std.specs.Prelude.{sum_by}
use Rattle.std.specs.Vec.{with_items}
use Rattle.std.proofs.lemmas.List.{length-map, with_items_is}
use Rattle.outcomes.specs.declared.outcome.Want.TheVariants.{Stated}
use Rattle.world_model.specs.declared.limits.TheConstants.{GREATEST_GRANT}
use Rattle.world_model.specs.declared.steps.Stop.TheVariants.{Limit, Memory}
use Rattle.world_model.specs.Workers.{WorkerState}
use Rattle.worker_core.specs.Workers.{state_of}
use Rattle.world_ends.specs.Parts.{states_of}
use Rattle.thread_runs.specs.Worlds.{IsWorldOf}
use Rattle.thread_runs.proofs.WorldLemmas.{joined_is, world_at}
use Rattle.thread_runs.proofs.outcome.outcome_of_joined.Goals as goal

pub outcome_if_kept-found-requires-clause-world : goal.outcome_if_kept-found-requires-clause-world
outcome_if_kept-found-requires-clause-world g c κs within =
    let has = c.in_ok-joined.ensures.world c.args.search.now.job c.args.search.now.owners.now c.requires.joint in
    (has.0, world_at g.S.Spread.owner_of c.args.search.now.job c.args.search.now.owners.now g.M.Ledger.parts c.args.team.book c.join_world.new.book c.in_ok-joined.joined.workers.items c.deref_mut.result.now c.in_ok-joined.joined.ins.items has.0 (sym c.join_world.ensures.book) (sym c.deref_mut.ensures.value) has.1)

pub count_expanded-requires-clause-whole : goal.count_expanded-requires-clause-whole
count_expanded-requires-clause-whole g c κs within =
    let has = c.in_ok-joined.ensures.world c.args.search.now.job c.args.search.now.owners.now c.requires.joint in
    let workers = c.in_ok-joined.joined.workers in
    let new = c.outcome_if_kept-found.new.workers in
    let value = c.deref_mut.ensures.value in
    let same : states_of new ≡ states_of workers.items = c.outcome_if_kept-found.ensures.same ∙ ap (λ ws. states_of ws) value in
    let e = ap (λ (ws : List WorkerState). length ws) same in
    let len : length new ≡ workers.len = omega (arith, e, length-map new (λ worker. state_of worker), length-map workers.items (λ worker. state_of worker), workers.ok.0) in
    let items : (with_items workers new).items ≡ new = with_items_is workers new len in
    ap (λ ws. length ws) items ∙ omega (arith, len, workers.ok.0, has.1.count)

pub returns : goal.returns
returns g c =
    let p = c.args.search.now.job in
    let owner_of = g.S.Spread.owner_of in
    let owners = c.args.search.now.owners.now in
    let n = g.M.Ledger.parts in
    let book = c.join_world.new.book in
    let joined = c.in_ok-joined.joined in
    let has = c.in_ok-joined.ensures.world p owners c.requires.joint in
    let w = has.0 in
    let new = c.outcome_if_kept-found.new.workers in
    let value = c.deref_mut.ensures.value in
    let is : IsWorldOf owner_of p owners n book c.deref_mut.result.now joined.ins.items w =
    world_at owner_of p owners n c.args.team.book book joined.workers.items c.deref_mut.result.now joined.ins.items w (sym c.join_world.ensures.book) (sym value) has.1 in
    let same : states_of new ≡ states_of c.deref_mut.result.now = c.outcome_if_kept-found.ensures.same in
    let e = ap (λ (ws : List WorkerState). length ws) same in
    let e' = ap (λ ws. length ws) value in
    let len : length new ≡ joined.workers.len = omega (arith, e, e', length-map new (λ worker. state_of worker), length-map c.deref_mut.result.now (λ worker. state_of worker), joined.workers.ok.0) in
    let items : (with_items joined.workers new).items ≡ new = with_items_is joined.workers new len in
    let count : length (with_items joined.workers new).items ≡ n = ap (λ ws. length ws) items ∙ omega (arith, len, joined.workers.ok.0, has.1.count) in
    let expanded = c.count_expanded.result in
    let sum : expanded ≡ sum_by (λ worker. worker.expansions) (states_of c.deref_mut.result.now) =
    c.count_expanded.ensures.sum ∙ ap (λ (ws : List WorkerState). sum_by (λ worker. worker.expansions) ws) (ap (λ ws. states_of ws) items ∙ same) in
    let granted : c.into_grants.result ≡ book.granted = c.into_grants.ensures in
    let whole : book.granted ≡ sum_by (λ worker. worker.allowance + worker.expansions) (states_of c.deref_mut.result.now) =
    sym granted ∙ (c.count_expanded.ensures.whole ∙ ap (λ (ws : List WorkerState). sum_by (λ worker. worker.allowance + worker.expansions) ws) (ap (λ ws. states_of ws) items ∙ same)) in
    let within : expanded ≤ book.granted = subst (λ (k : ℕ). expanded ≤ k) granted c.count_expanded.ensures.within in
    let high : book.granted ≤ expanded + GREATEST_GRANT * n =
    subst (λ (k : ℕ). book.granted ≤ expanded + GREATEST_GRANT * k) count (subst (λ (k : ℕ). k ≤ expanded + GREATEST_GRANT * length (with_items joined.workers new).items) granted c.count_expanded.ensures.spent) in
    let limit : book.limit ≡ p.limit = c.stop.ensures.allowed ∙ sym c.requires.limit in
    let at_limit : book.stop ≡ Some Limit → book.granted ≡ book.limit = λ stopped. c.stop.ensures.limit (c.stop.ensures.value ∙ stopped) in
    let no_list : book.stop ≢ Some (Memory Stated) = λ stopped. c.stop.ensures.want Stated (c.stop.ensures.value ∙ stopped) refl in
    let is_joined = joined_is owner_of p owners n book c.deref_mut.result.now joined.ins.items w expanded is limit sum whole within high c.stop.ensures.within at_limit no_list in
    let given = c.outcome_if_kept-found.ensures.given w is in
    record { found = (w, is_joined, given); book = (w, is_joined, has.1.book_is, given) }
