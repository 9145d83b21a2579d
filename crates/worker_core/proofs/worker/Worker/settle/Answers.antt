use Rattle.std.proofs.Common.{refl}
use Rattle.worker_core.specs.Contexts.{role_from}
use Rattle.worker_core.specs.Workers.{state_of}
use Rattle.worker_core.proofs.GuideLemmas.{last_held, last_taken, drops, settles, settles_not}
use Rattle.worker_core.proofs.worker.Worker.settle.Goals as goal

-- a foreign item is dropped
pub returns-then-is_foreign-clause-step : goal.returns-then-is_foreign-clause-step
returns-then-is_foreign-clause-step g c = λ start.
    let old = c.args.self.now in
    let item = c.in-Some.item.now in
    let role = role_from g.S.Spread.owner_of start c.args.context.now in
    let held = last_taken old.held.items c.deref.result.now c.pop.new.self.items item c.pop.result c.deref.ensures.0 c.in-Some.ensures.value c.pop.ensures.value c.pop.ensures.items in
    drops role (state_of old) c.pop.new.self.items item held _ (c.if-is_foreign.ensures.yes refl start) refl

-- the item's own sides and cost, whatever the start is
pub relax_item-requires-clause-board : goal.relax_item-requires-clause-board
relax_item-requires-clause-board g c = (c.if-is_foreign.ensures.no refl c.args.context.now.goal).0.1

pub relax_item-requires-clause-cost : goal.relax_item-requires-clause-cost
relax_item-requires-clause-cost g c = (c.if-is_foreign.ensures.no refl c.args.context.now.goal).2

-- without memory nothing is taken out
pub returns-in-Err-clause-step : goal.returns-in-Err-clause-step
returns-in-Err-clause-step g c = λ start.
    let old = c.args.self.now in
    let item = c.in-Some.item.now in
    let role = role_from g.S.Spread.owner_of start c.args.context.now in
    let last = last_held old.held.items c.deref.result.now item c.deref.ensures.0 c.in-Some.ensures.value in
    settles_not role (state_of old) last.0 item last.1 _ c.in-Err.refused (c.if-is_foreign.ensures.no refl start) (λ t. record (state_of old) { known = c.in-Err.ensures.err t })

pub returns-in-Err-clause-refused : goal.returns-in-Err-clause-refused
returns-in-Err-clause-refused g c =
    let item = c.in-Some.item.now in
    let last = last_held c.args.self.now.held.items c.deref.result.now item c.deref.ensures.0 c.in-Some.ensures.value in
    (last.0, item, last.1, c.in-Err.ensures.refused)

-- and else it is taken out and relaxed
pub returns-clause-step : goal.returns-clause-step
returns-clause-step g c = λ start.
    let old = c.args.self.now in
    let item = c.in-Some.item.now in
    let role = role_from g.S.Spread.owner_of start c.args.context.now in
    let held = last_taken old.held.items c.deref.result.now c.pop-2.new.self.items item c.pop-2.result c.deref.ensures.0 c.in-Some.ensures.value c.pop-2.ensures.value c.pop-2.ensures.items in
    settles role (state_of old) c.pop-2.new.self.items item held _ (c.if-is_foreign.ensures.no refl start) (λ t. record (state_of old) { held = c.pop-2.new.self.items; known = c.in_default-relax_item.ensures.ok t })
