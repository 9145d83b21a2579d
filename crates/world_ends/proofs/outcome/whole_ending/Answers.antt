use Rattle.std.proofs.Common.{◌≡◌, List, None, Some, refl, sym, ap, ◌∙◌, subst, ⊎_elim}
use Rattle.world_model.specs.Costs.{lesser}
use Rattle.world_model.specs.Outcomes.{cause_of}
use Rattle.world_model.specs.Workers.{WorkerState}
use Rattle.outcomes.specs.declared.outcome.Ending.{Ending}
use Rattle.world_ends.specs.Parts.{task_asked, states_of, known_in}
use Rattle.world_ends.specs.Endings.{EndsWhole}
use Rattle.world_ends.specs.Plans.{IsTraced}
use Rattle.world_ends.proofs.PartLemmas.{items_are, cost_in, no_plan, no_goal, no_memory, plan_above, plan_least}
use Rattle.world_ends.proofs.outcome.whole_ending.Goals as goal

pub lowest_in-lowest-requires-clause-items : goal.lowest_in-lowest-requires-clause-items
lowest_in-lowest-requires-clause-items g c κs within = λ i worker at.
    items_are (task_asked c.args.asked.now) (g.S.Spread.owner_of c.args.owners.now) (states_of c.args.workers.now) c.requires.world c.requires.parts c.args.asked.now.bound.now.split.grid c.requires.sides i worker at

pub returns-in_default-clause-given : goal.returns-in_default-clause-given
returns-in_default-clause-given g c = λ w seen.
    let task = task_asked c.args.asked.now in
    let owner_among = g.S.Spread.owner_of c.args.owners.now in
    let states = states_of c.args.workers.now in
    let least = c.lowest_in-lowest.ensures.least c.requires.guide c.requires.guided in
    let found : known_in owner_among states task.goal ≡ c.known_of-reached.result = ap (λ (ws : List WorkerState). known_in owner_among ws task.goal) (sym c.lowest_in-lowest.ensures.same) ∙ sym c.known_of-reached.ensures in
    let none : lesser c.lowest_in-lowest.result (cost_in c.known_of-reached.result) ≡ None = sym c.floor_of.ensures ∙ c.in_default.is in
    no_plan task owner_among states w seen.parts c.args.snapshot.lanes c.lowest_in-lowest.result seen.lanes least c.known_of-reached.result found none

pub returns-in_default-reached-clause-given : goal.returns-in_default-reached-clause-given
returns-in_default-reached-clause-given g c = λ w seen.
    let task = task_asked c.args.asked.now in
    let owner_among = g.S.Spread.owner_of c.args.owners.now in
    let states = states_of c.args.workers.now in
    let least = c.lowest_in-lowest.ensures.least c.requires.guide c.requires.guided in
    let found : known_in owner_among states task.goal ≡ c.known_of-reached.result = ap (λ (ws : List WorkerState). known_in owner_among ws task.goal) (sym c.lowest_in-lowest.ensures.same) ∙ sym c.known_of-reached.ensures in
    let some : lesser c.lowest_in-lowest.result (cost_in c.known_of-reached.result) ≡ Some c.in-Some.floor = sym c.floor_of.ensures ∙ c.in-Some.is in
    let given = no_goal task owner_among states w seen.parts c.args.snapshot.lanes c.lowest_in-lowest.result seen.lanes least c.known_of-reached.result found c.in-Some.floor c.bound_of-bound.result c.args.snapshot.stop (cause_of c.args.snapshot.stop) some c.bound_of-bound.ensures seen.stop refl c.in_default-reached.is in
    subst (λ (ending : Ending). EndsWhole w ending) (sym c.without_plan.ensures) given

pub returns-in-Err-clause-lacking : goal.returns-in-Err-clause-lacking
returns-in-Err-clause-lacking g c = λ w parts laned.
    let task = task_asked c.args.asked.now in
    let owner_among = g.S.Spread.owner_of c.args.owners.now in
    let states = states_of c.args.workers.now in
    let least = c.lowest_in-lowest.ensures.least c.requires.guide c.requires.guided in
    let found : known_in owner_among states task.goal ≡ c.known_of-reached.result = ap (λ (ws : List WorkerState). known_in owner_among ws task.goal) (sym c.lowest_in-lowest.ensures.same) ∙ sym c.known_of-reached.ensures in
    let some : lesser c.lowest_in-lowest.result (cost_in c.known_of-reached.result) ≡ Some c.in-Some.floor = sym c.floor_of.ensures ∙ c.in-Some.is in
    no_memory task owner_among states w parts c.args.snapshot.lanes c.lowest_in-lowest.result laned least c.known_of-reached.result found c.in-Some.floor c.bound_of-bound.result c.in-Some-reached.known some c.bound_of-bound.ensures c.in-Some-reached.is

pub returns-in-Ok-clause-given : goal.returns-in-Ok-clause-given
returns-in-Ok-clause-given g c = λ w seen.
    let task = task_asked c.args.asked.now in
    let owner_among = g.S.Spread.owner_of c.args.owners.now in
    let states = states_of c.args.workers.now in
    let least = c.lowest_in-lowest.ensures.least c.requires.guide c.requires.guided in
    let found : known_in owner_among states task.goal ≡ c.known_of-reached.result = ap (λ (ws : List WorkerState). known_in owner_among ws task.goal) (sym c.lowest_in-lowest.ensures.same) ∙ sym c.known_of-reached.ensures in
    let some : lesser c.lowest_in-lowest.result (cost_in c.known_of-reached.result) ≡ Some c.in-Some.floor = sym c.floor_of.ensures ∙ c.in-Some.is in
    let traced = subst (λ (ws : List WorkerState). IsTraced task owner_among ws c.in-Some-reached.known.cost c.in-Ok.found.0 c.in-Ok.found.1.items) c.lowest_in-lowest.ensures.same c.in-Ok.ensures.plan in
    ⊎_elim
    (λ optimal. subst (λ (ending : Ending). EndsWhole w ending) (sym optimal.1)
    (plan_least task owner_among states w seen.parts c.args.snapshot.lanes c.lowest_in-lowest.result seen.lanes least c.known_of-reached.result found c.in-Some.floor c.bound_of-bound.result c.in-Some-reached.known c.in-Ok.found some c.bound_of-bound.ensures c.in-Some-reached.is traced optimal.0))
    (λ above. subst (λ (ending : Ending). EndsWhole w ending) (sym above.1)
    (plan_above task owner_among states w seen.parts c.args.snapshot.lanes c.lowest_in-lowest.result seen.lanes least c.known_of-reached.result found c.in-Some.floor c.bound_of-bound.result c.args.snapshot.stop (cause_of c.args.snapshot.stop) c.in-Some-reached.known c.in-Ok.found some c.bound_of-bound.ensures seen.stop refl c.in-Some-reached.is traced above.0))
    c.with_plan.ensures
