use Rattle.std.proofs.Common.{ℕ, inl, inr, refl, sym, ap}
use Rattle.worker_core.specs.Workers.{state_of, with_book}
use Rattle.world_model.specs.BookSteps.{AnnounceStep}
use Rattle.world_model.specs.Turns.{refusal_in, turn}
use Rattle.thread_parts.specs.Parts.{part_state, role_of_part}
use Rattle.thread_parts.proofs.PartLemmas.{with_kept, same_guided, unsent_count, barred, unbarred}
use Rattle.thread_parts.proofs.part.Part.announce.Goals as goal

pub returns-in-Err-clause-step : goal.returns-in-Err-clause-step
returns-in-Err-clause-step g c = barred (AnnounceStep (role_of_part g.S.Spread.owner_of g.C.Tokens.workers c.args.self.now)) (state_of c.args.self.now.worker) c.args.book.now c.in-Err.refusal c.in-Err.ensures.refused

pub returns-clause-step : goal.returns-clause-step
returns-clause-step g c =
    let old = c.args.self.now in
    let n = g.C.Tokens.workers in
    let owner_of = g.S.Spread.owner_of in
    let role = role_of_part owner_of n old in
    let owner = ap (λ (k : ℕ). owner_of old.owners.now k c.keyed_goal-goal.result.now) (sym (unsent_count owner_of n old c.requires)) in
    unbarred (AnnounceStep role) (turn (with_book (state_of old.worker) c.args.book.now) (refusal_in c.announce.result) (with_book (state_of c.announce.new.self) c.announce.new.book))
    c.in_default.ensures.goes_on c.in_default.ensures.purse (c.announce.ensures.step role (record { me = refl; ends = sym c.keyed_goal-goal.ensures.value }) owner)

pub returns-clause-part : goal.returns-clause-part
returns-clause-part g c =
    let old = c.args.self.now in
    let n = g.C.Tokens.workers in
    let owner_of = g.S.Spread.owner_of in
    let role = role_of_part owner_of n old in
    let owner = ap (λ (k : ℕ). owner_of old.owners.now k c.keyed_goal-goal.result.now) (sym (unsent_count owner_of n old c.requires)) in
    let step = c.announce.ensures.step role (record { me = refl; ends = sym c.keyed_goal-goal.ensures.value }) owner in
    with_kept owner_of n old c.requires c.announce.new.self
    (c.steps_are_kept.ensures.book n role (part_state old) c.args.book.now c.announce.new.book (refusal_in c.announce.result) (state_of c.announce.new.self) c.requires.role c.requires.keeps c.in_default.ensures.purse (inr (inl step)))
    (same_guided owner_of n old c.requires c.announce.new.self c.announce.ensures.keeps.lists)
