use Rattle.std.proofs.Common.{inr}
use Rattle.worker_core.specs.Workers.{state_of, with_book}
use Rattle.world_model.specs.BookSteps.{HaltStep}
use Rattle.world_model.specs.Turns.{refusal_in, turn}
use Rattle.thread_parts.specs.Parts.{part_state, role_of_part}
use Rattle.thread_parts.proofs.PartLemmas.{with_kept, same_guided, barred, unbarred}
use Rattle.thread_parts.proofs.part.Part.halt.Goals as goal

pub returns-in-Err-clause-step : goal.returns-in-Err-clause-step
returns-in-Err-clause-step g c = barred (HaltStep c.args.cause) (state_of c.args.self.now.worker) c.args.book.now c.in-Err.refusal c.in-Err.ensures.refused

pub returns-clause-step : goal.returns-clause-step
returns-clause-step g c =
    unbarred (HaltStep c.args.cause) (turn (with_book (state_of c.args.self.now.worker) c.args.book.now) (refusal_in c.halt.result) (with_book (state_of c.halt.new.self) c.halt.new.book))
    c.in_default.ensures.goes_on c.in_default.ensures.purse c.halt.ensures.step

pub returns-clause-part : goal.returns-clause-part
returns-clause-part g c =
    let old = c.args.self.now in
    let n = g.C.Tokens.workers in
    with_kept g.S.Spread.owner_of n old c.requires.holds c.halt.new.self
    (c.steps_are_kept.ensures.book n (role_of_part g.S.Spread.owner_of n old) (part_state old) c.args.book.now c.halt.new.book (refusal_in c.halt.result) (state_of c.halt.new.self) c.requires.holds.role c.requires.holds.keeps c.in_default.ensures.purse (inr (inr (inr (inr (c.args.cause, c.halt.ensures.step))))))
    (same_guided g.S.Spread.owner_of n old c.requires.holds c.halt.new.self c.halt.ensures.keeps.lists)
