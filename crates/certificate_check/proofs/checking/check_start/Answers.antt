use Rattle.std.proofs.Common.{sym, ap, subst, ◌∙◌}
use Rattle.std.proofs.lemmas.Bool.{true≢false}
use Rattle.board.specs.Boards.{BoardModel}
use Rattle.pattern_index.specs.Partitions.{PartitionModel}
use Rattle.certificate_check.specs.declared.refusals.Refusal.TheVariants.{StartUnproved, GoalRow}
use Rattle.certificate_check.specs.Refusals.{HasRowAt}
use Rattle.certificate_check.proofs.RefusalLemmas.{unproved_start, first_start, first_goal, refused_up_to}
use Rattle.certificate_check.proofs.RowLemmas.{one_row}
use Rattle.certificate_check.proofs.checking.check_start.Goals as goal

pub returns-then-not-is_start_proved : goal.returns-then-not-is_start_proved
returns-then-not-is_start_proved c =
    let cert = c.args.certificate.now in
    let t = c.args.bound.now in
    let cause = unproved_start cert t (λ start. true≢false (sym (c.is_start_proved.ensures.1 start) ∙ c.if-not-is_start_proved.true)) in
    refused_up_to cert t StartUnproved (first_start cert t c.requires.plan c.requires.fit cause.0 cause.1)

pub returns-in-Some : goal.returns-in-Some
returns-in-Some c =
    let cert = c.args.certificate.now in
    let t = c.args.bound.now in
    let place = c.in-Some.place in
    let has : HasRowAt cert cert.goal place = subst (λ (b : BoardModel). HasRowAt cert b place) c.goal.ensures ((c.find_row.ensures.found place).0 c.in-Some.is) in
    refused_up_to cert t (GoalRow place)
    (first_goal cert t c.requires.plan c.requires.fit (c.is_start_proved.ensures.0 c.if-not-is_start_proved.false) place has (λ p other. one_row cert c.shape.ensures.certificate cert.goal place p has other))

pub returns : goal.returns
returns c =
    let cert = c.args.certificate.now in
    record {
      up_to = record {
        plan = c.requires.plan;
        fit = c.requires.fit;
        start = c.is_start_proved.ensures.0 c.if-not-is_start_proved.false;
        no_goal = λ p has. c.in_default.not-Some p ((c.find_row.ensures.found p).1 (subst (λ (b : BoardModel). HasRowAt cert b p) (sym c.goal.ensures) has));
      };
      refused = tt;
      shape = ap (λ (s : PartitionModel). s.grid) c.requires.fit.groups ∙ c.shape.ensures.certificate.groups.sides;
    }
