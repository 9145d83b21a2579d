use Rattle.std.proofs.Common.{◌<◌, ◌≤◌, List, sym, subst, ⊎_elim}
use Rattle.std.proofs.lemmas.Bool.{cases_lt}
use Rattle.outcomes.specs.Outcomes.{Task}
use Rattle.world_model.specs.Outcomes.{IsGiven}
use Rattle.world_model.specs.Workers.{WorkerState}
use Rattle.world_ends.specs.Parts.{task_asked, HasParts}
use Rattle.world_ends.specs.Endings.{EndsWhole}
use Rattle.world_ends.proofs.PartLemmas.{rows_alone, bound_left, bound_rows, rows_lacking}
use Rattle.world_ends.proofs.outcome.outcome_of.Goals as goal

pub returns-in-Ok-rows_for-clause-given : goal.returns-in-Ok-rows_for-clause-given
returns-in-Ok-rows_for-clause-given g c = λ w seen.
    let task = task_asked c.args.asked.now in
    let owner_among = g.S.Spread.owner_of c.args.owners.now in
    let ends = subst (EndsWhole w) c.in-Optimal.is (c.in-Ok.ensures.given w seen) in
    let after = subst (λ (ws : List WorkerState). HasParts task owner_among ws w) (sym c.in-Ok.ensures.same) seen.parts in
    (rows_alone w c.in-Optimal.cost c.in-Optimal.plan c.in-Ok-rows_for.rows (c.in-Ok-rows_for.ensures.rows owner_among w after)).0 ends

pub returns-in-Err-rows_for-clause-given : goal.returns-in-Err-rows_for-clause-given
returns-in-Err-rows_for-clause-given g c = λ w seen.
    let ends = subst (EndsWhole w) c.in-Optimal.is (c.in-Ok.ensures.given w seen) in
    subst (IsGiven w) (sym c.bound_alone-in-Err-rows_for.ensures) (bound_left w c.in-Optimal.cost c.in-Optimal.plan c.in-Err-rows_for.refused ends)

pub returns-in-Unsolvable-clause-given : goal.returns-in-Unsolvable-clause-given
returns-in-Unsolvable-clause-given g c = λ w seen. subst (EndsWhole w) c.in-Unsolvable.is (c.in-Ok.ensures.given w seen)

pub returns-in-Ok-rows_for-2-clause-given : goal.returns-in-Ok-rows_for-2-clause-given
returns-in-Ok-rows_for-2-clause-given g c = λ w seen.
    let task = task_asked c.args.asked.now in
    let owner_among = g.S.Spread.owner_of c.args.owners.now in
    let ends = subst (EndsWhole w) c.in-Bounded.is (c.in-Ok.ensures.given w seen) in
    let after = subst (λ (ws : List WorkerState). HasParts task owner_among ws w) (sym c.in-Ok.ensures.same) seen.parts in
    bound_rows w c.in-Bounded.bound c.in-Bounded.best c.in-Bounded.cause c.in-Ok-rows_for-2.rows (c.in-Ok-rows_for-2.ensures.rows owner_among w after) ends

pub returns-in-Err-rows_for-2-clause-given : goal.returns-in-Err-rows_for-2-clause-given
returns-in-Err-rows_for-2-clause-given g c = λ w seen.
    let ends = subst (EndsWhole w) c.in-Bounded.is (c.in-Ok.ensures.given w seen) in
    let above : w.task.sum w.task.start < c.in-Bounded.bound = subst (λ (t : Task). t.sum t.start < c.in-Bounded.bound) (sym seen.parts.asks)
    (⊎_elim (λ (lt : (task_asked c.args.asked.now).sum (task_asked c.args.asked.now).start < c.in-Bounded.bound). lt) (λ (le : c.in-Bounded.bound ≤ (task_asked c.args.asked.now).sum (task_asked c.args.asked.now).start). absurd (cc (c.in-Err-rows_for-2.ensures.free le))) (cases_lt ((task_asked c.args.asked.now).sum (task_asked c.args.asked.now).start) c.in-Bounded.bound)) in
    subst (IsGiven w) (sym c.bound_alone-in-Err-rows_for-2.ensures) (rows_lacking w c.in-Bounded.bound c.in-Bounded.best c.in-Bounded.cause c.in-Err-rows_for-2.refused above ends)
