use Rattle.std.proofs.Common.{◌≡◌, ◌∙◌, refl, sym, ap, subst, inl, inr, arith}
use Rattle.board.specs.Weights.{WeightsModel, AreWeights}
use Rattle.board.specs.Classes.{SameClass}
use Rattle.outcomes.specs.Outcomes.{Answers}
use Rattle.outcomes.specs.declared.outcome.Outcome.TheVariants.{Optimal, Unsolvable}
use Rattle.outcomes.specs.declared.outcome.Why.TheVariants.{Parity}
use Rattle.lower_bound.specs.Tables.{BoundModel, IsTables}
use Rattle.certificate.specs.Certificates.{CertificateModel, AreCostsOf, IsCertificate}
use Rattle.certificate_check.specs.Refusals.{IsProved, IsFirstRefusal}
use Rattle.hda_run.specs.declared.faults.WorldFault.{WorldFault}
use Rattle.hda_run.specs.declared.faults.WorldFault.TheVariants as world
use Rattle.hda_run.specs.Jobs.{task_in}
use Rattle.hda_run.specs.Worlds.{IsWorkerCount}
use Rattle.checked_runs.specs.declared.faults.CheckedFault.{CheckedFault}
use Rattle.checked_runs.specs.declared.faults.CheckedFault.TheVariants.{WorkerCount, Refused}
use Rattle.checked_runs.specs.Certificates.{certificate_in}
use Rattle.checked_runs.proofs.OutcomeLemmas.{stated, alike, certificate_is, proved_with, solved_again, nothing_claimed, one_refusal, no_fault, fault_alike, outcome_alike}
use Rattle.checked_runs.proofs.solving.solve_checked.Goals as goal

pub returns-in_default : goal.returns-in_default
returns-in_default g c = record {
  count = fault_alike WorldFault CheckedFault c.in-Ok.outcome world.WorkerCount WorkerCount (¬ IsWorkerCount c.args.workers) c.in-Ok.ensures.count;
  parity = λ few. outcome_alike WorldFault CheckedFault c.in-Ok.outcome (Unsolvable Parity) (¬ SameClass c.args.job.start c.args.job.goal) (c.in-Ok.ensures.parity few);
  run = λ same. inl (c.in-Ok.ensures.run same);
  answers = c.in-Ok.ensures.answers;
  kept = c.in-Ok.ensures.kept;
  accepted = nothing_claimed c.args.job c.args.tables.now c.in-Ok.outcome c.in_default.not-Optimal;
  refused = λ refusal is. absurd (no_fault CheckedFault c.in-Ok.outcome (Refused refusal) is);
  sure = λ good refusal is. no_fault CheckedFault c.in-Ok.outcome (Refused refusal) is;
}

pub returns-in-Err-groups-clause-run : goal.returns-in-Err-groups-clause-run
returns-in-Err-groups-clause-run g c same =
    let solved = rw c.in-Optimal.is at (c.in-Ok.ensures.run same) in
    inr (c.in-Optimal.cost, c.in-Optimal.plan, c.in-Optimal.rows, c.in-Err-groups.refused, solved, refl)

pub accepted-requires-clause-certificate : goal.accepted-requires-clause-certificate
accepted-requires-clause-certificate g c =
    let p = c.args.job in
    let made = c.in-Optimal in
    let goal_is : c.goal-goal.result.now ≡ p.goal = c.goal-goal.ensures.value in
    let tables_is : c.bound.result.now ≡ p.tables = c.bound.ensures.value in
    let there : IsTables p.tables = subst IsTables tables_is c.partition.ensures.tables in
    let sides : p.tables.split.grid ≡ p.goal.grid = subst (λ (t : BoundModel). t.split.grid ≡ p.goal.grid) tables_is c.bound.ensures.sides in
    let answers : Answers (task_in p) (Optimal made.cost made.plan made.rows) = rw made.is at c.in-Ok.ensures.answers in
    let costs : AreCostsOf p.goal.grid p.rule = record { rule = subst AreWeights c.weights.ensures.value c.shape.ensures.rule; sides = sym (ap (λ (r : WeightsModel). r.grid) c.weights.ensures.value) ∙ c.weights.ensures.sides } in
    let is = certificate_is p made.cost made.plan made.rows answers c.goal-goal.ensures.task c.keys_are_in_order.ensures there sides costs (omega (arith, made.rows.small)) in
    let same = stated p c.shape.result c.weights.result.now c.in-Ok-groups.groups c.start-start.result.now c.goal-goal.result.now made.cost made.plan.items made.rows.items
    (c.shape.ensures.value ∙ c.weights.ensures.sides) c.weights.ensures.value (c.in-Ok-groups.ensures ∙ c.partition.ensures.value ∙ ap (λ (t : BoundModel). t.split) tables_is) c.start-start.ensures goal_is in
    subst IsCertificate (sym same) is

pub returns-in-Ok-accepted-clause-run : goal.returns-in-Ok-accepted-clause-run
returns-in-Ok-accepted-clause-run g c apart =
    let p = c.args.job in
    let made = c.in-Optimal in
    let back = c.in-Ok-accepted.field-0 in
    let solved = rw made.is at (c.in-Ok.ensures.run apart) in
    let part = c.in-Ok-accepted.ensures.same in
    let same = alike p made.cost back.cost made.plan.items back.plan.items made.rows.items back.rows.items (sym part.cost) (sym part.plan) (sym part.rows) in
    inl (solved_again p made.cost back.cost made.plan back.plan made.rows back.rows same g.S.Spread.owner_of c.args.spread.now c.args.workers solved)

pub returns-in-Err-accepted-clause-refused : goal.returns-in-Err-accepted-clause-refused
returns-in-Err-accepted-clause-refused g c refusal is =
    let p = c.args.job in
    let made = c.in-Optimal in
    let goal_is : c.goal-goal.result.now ≡ p.goal = c.goal-goal.ensures.value in
    let tables_is : c.bound.result.now ≡ p.tables = c.bound.ensures.value in
    let same = stated p c.shape.result c.weights.result.now c.in-Ok-groups.groups c.start-start.result.now c.goal-goal.result.now made.cost made.plan.items made.rows.items
    (c.shape.ensures.value ∙ c.weights.ensures.sides) c.weights.ensures.value (c.in-Ok-groups.ensures ∙ c.partition.ensures.value ∙ ap (λ (t : BoundModel). t.split) tables_is) c.start-start.ensures goal_is in
    let answers : Answers (task_in p) (Optimal made.cost made.plan made.rows) = rw made.is at c.in-Ok.ensures.answers in
    let together : SameClass p.start p.goal = c.plans_keep_the_class.ensures.plans p.rule p.start made.plan.items p.goal made.cost c.goal-goal.ensures.task.start answers.0 in
    let solved = rw made.is at (c.in-Ok.ensures.run together) in
    let first : IsFirstRefusal (certificate_in p made.cost made.plan.items made.rows.items) c.args.tables.now c.in-Err-accepted.refusal = subst (λ (s : CertificateModel). IsFirstRefusal s c.args.tables.now c.in-Err-accepted.refusal) same c.in-Err-accepted.ensures.refused in
    (made.cost, made.plan, made.rows, solved, subst (IsFirstRefusal (certificate_in p made.cost made.plan.items made.rows.items) c.args.tables.now) (one_refusal c.in-Err-accepted.refusal refusal is) first)

pub returns-in-Err-accepted-clause-sure : goal.returns-in-Err-accepted-clause-sure
returns-in-Err-accepted-clause-sure g c good refusal is =
    let p = c.args.job in
    let made = c.in-Optimal in
    let goal_is : c.goal-goal.result.now ≡ p.goal = c.goal-goal.ensures.value in
    let tables_is : c.bound.result.now ≡ p.tables = c.bound.ensures.value in
    let same = stated p c.shape.result c.weights.result.now c.in-Ok-groups.groups c.start-start.result.now c.goal-goal.result.now made.cost made.plan.items made.rows.items
    (c.shape.ensures.value ∙ c.weights.ensures.sides) c.weights.ensures.value (c.in-Ok-groups.ensures ∙ c.partition.ensures.value ∙ ap (λ (t : BoundModel). t.split) tables_is) c.start-start.ensures goal_is in
    let answers : Answers (task_in p) (Optimal made.cost made.plan made.rows) = rw made.is at c.in-Ok.ensures.answers in
    let proved : IsProved (certificate_in p made.cost made.plan.items made.rows.items) c.args.tables.now = proved_with p made.cost made.plan made.rows answers c.goal-goal.ensures.task c.args.tables.now good in
    let accepted = c.in-Err-accepted.ensures.accepted.1 (subst (λ (s : CertificateModel). IsProved s c.args.tables.now) (sym same) proved) in
    absurd (cc accepted)
