use Rattle.std.proofs.Common.{inl}
use Rattle.worker_core.specs.Workers.{state_of}
use Rattle.world_model.specs.Turns.{refusal_in}
use Rattle.thread_parts.specs.Parts.{part_state, role_of_part}
use Rattle.thread_parts.proofs.PartLemmas.{with_kept, same_guided, barred_draw}
use Rattle.thread_parts.proofs.part.Part.draw.Goals as goal

pub draw-requires-clause-counted : goal.draw-requires-clause-counted
draw-requires-clause-counted g c κs within = g.met.C.Tokens.counted c.args.book.now.credit c.args.self.now.worker.purse

pub returns-in-Err-clause-step : goal.returns-in-Err-clause-step
returns-in-Err-clause-step g c = barred_draw (state_of c.args.self.now.worker) c.args.book.now c.in-Err.refusal c.in-Err.ensures.refused

pub returns-clause-part : goal.returns-clause-part
returns-clause-part g c =
    let old = c.args.self.now in
    let n = g.C.Tokens.workers in
    with_kept g.S.Spread.owner_of n old c.requires c.draw.new.self
    (c.steps_are_kept.ensures.book n (role_of_part g.S.Spread.owner_of n old) (part_state old) c.args.book.now c.draw.new.book (refusal_in c.draw.result) (state_of c.draw.new.self) c.requires.role c.requires.keeps c.in_default.ensures.purse (inl c.draw.ensures.step))
    (same_guided g.S.Spread.owner_of n old c.requires c.draw.new.self c.draw.ensures.keeps.lists)
