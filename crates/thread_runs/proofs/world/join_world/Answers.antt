use Rattle.std.proofs.Common.{arith, ◌≡◌, ℕ, ◌≤◌, List, Some, length, ap, sym, ◌∙◌, subst}
use Rattle.std.specs.Prelude.{vec_len, All}
use Rattle.std.specs.Vec.{with_items}
use Rattle.std.proofs.lemmas.List.{length-map, with_items_is}
use Rattle.world_model.specs.Workers.{WorkerState}
use Rattle.worker_core.specs.Workers.{state_of}
use Rattle.thread_parts.specs.Rings.{ArePaired, rings_of_outs, rings_of_ins, left_rows}
use Rattle.world_model.specs.declared.steps.Stop.TheVariants.{Quiet}
use Rattle.world_model.specs.Books.{BookState}
use Rattle.world_model.specs.JoinedParts.{world_with}
use Rattle.worker_core.specs.Roles.{guide_of}
use Rattle.world_ends.specs.Parts.{AreWorkersGuided, states_of}
use Rattle.hda_run.specs.Jobs.{task_in}
use Rattle.thread_runs.specs.declared.apart.Joined.{Joined}
use Rattle.thread_runs.specs.Lanes.{by_sender}
use Rattle.thread_runs.specs.Worlds.{parts_in, shared_of_job}
use Rattle.thread_runs.proofs.WorldLemmas.{joined_world}
use Rattle.thread_runs.proofs.world.join_world.Goals as goal

pub tie_all-requires-after_bounds : goal.tie_all-requires-after_bounds
tie_all-requires-after_bounds g c κs within =
    let joint = c.requires.joint in
    let old = c.in_ok-workers.field-0 in
    let apart = c.in_ok-workers.ensures joint.0 joint.1 joint.2 in
    let n : g.C.Tokens.workers ≡ vec_len old.ins = omega (arith, apart.ins, old.ins.ok.0) in
    subst (λ (k : ℕ). ArePaired k (rings_of_outs old.outs.items) (rings_of_ins old.ins.items)) n apart.paired

pub returns-clause-world : goal.returns-clause-world
returns-clause-world g c = λ p owners joint.
    let owner_of = g.S.Spread.owner_of in
    let n = g.C.Tokens.workers in
    let old = c.in_ok-workers.field-0 in
    let apart = c.in_ok-workers.ensures p owners joint in
    let e = c.tie_all.ensures in
    let audit = c.audit_all.ensures in
    let before = c.args.book.now in
    let new : Joined g.row.C.Denot g.row.C-Part.Denot g.row.C-Sum.Denot g.row.C-Ticket.Denot g.row.C-Total.Denot = record { workers = with_items old.workers c.audit_all.new.workers; outs = c.tie_all.new.outs; ins = c.tie_all.new.ins } in
    let count : vec_len old.ins ≡ n = omega (arith, apart.ins, old.ins.ok.0) in
    let value : c.deref_mut.result.now ≡ old.workers.items = c.deref_mut.ensures.value in
    let states : states_of c.audit_all.new.workers ≡ states_of old.workers.items = audit.same ∙ ap (λ ws. states_of ws) value in
    let len : length c.audit_all.new.workers ≡ old.workers.len =
    let e = ap (λ (ws : List WorkerState). length ws) states in
    omega (arith, e, length-map c.audit_all.new.workers (λ worker. state_of worker), length-map old.workers.items (λ worker. state_of worker), old.workers.ok.0) in
    let items : new.workers.items ≡ c.audit_all.new.workers = with_items_is old.workers c.audit_all.new.workers len in
    let guided : AreWorkersGuided (task_in p) (guide_of (task_in p)) new.workers.items =
    subst (λ ws. AreWorkersGuided (task_in p) (guide_of (task_in p)) ws) (sym items)
    (audit.guided (task_in p) (guide_of (task_in p)) (subst (λ ws. AreWorkersGuided (task_in p) (guide_of (task_in p)) ws) (sym value) apart.guided)) in
    let after : c.audit_all.new.book ≡ before = audit.book ∙ e.book in
    let bound : All (λ worker. worker.purse ≤ before.credit) (states_of new.workers.items) =
    subst (λ ws. All (λ worker. worker.purse ≤ before.credit) ws) (sym (ap (λ ws. states_of ws) items ∙ audit.same))
    (subst (λ (b : BookState). All (λ worker. worker.purse ≤ b.credit) (states_of c.deref_mut.result.now)) e.book audit.bound) in
    let credit : before.stop ≡ Some Quiet → before.credit ≡ 0 = λ quiet. ap (λ (b : BookState). b.credit) (sym after) ∙ c.stop.ensures.quiet (c.stop.ensures.value ∙ (ap (λ (b : BookState). b.stop) after ∙ quiet)) in
    let floors : length before.floors ≡ n = sym c.workers.ensures.value ∙ g.met.C.Tokens.one_count c.workers.result c.workers.ensures.allowed in (
      world_with (shared_of_job owner_of p owners n) (parts_in new) before (by_sender n (left_rows new.ins.items)),
      joined_world owner_of p owners n old new apart (ap (λ ws. states_of ws) items ∙ states) guided e.same.sent e.same.received e.same.in_rings
          (λ i j low high. e.tied i j (omega (arith, low, count)) (omega (arith, high, count)))
          c.requires.some before floors bound credit
          (λ quiet i j low high. e.quiet quiet i j (omega (arith, low, count)) (omega (arith, high, count)))
          c.joined_parts_are_sound.ensures,
    )
