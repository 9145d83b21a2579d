use Rattle.std.proofs.Common.{◌≡◌, ℕ, not, sym, ap, ◌∙◌, subst}
use Rattle.board.specs.Boards.{BoardModel}
use Rattle.board.specs.Equality.{position_eq}
use Rattle.board.specs.Plans.{Leads}
use Rattle.certificate_check.proofs.RefusalLemmas.{led_as, stuck_as, same_end, other_end, first_illegal, first_end, first_cost}
use Rattle.certificate_check.proofs.plan.check_moves.Goals as goal

pub returns-in-Err-clause-refused : goal.returns-in-Err-clause-refused
returns-in-Err-clause-refused c = λ tables. first_illegal c.args.certificate.now tables c.args.plan.now c.in-Err.place c.requires.plan (stuck_as c.args.certificate.now c.costs.result c.start.result c.args.plan.now c.in-Err.place c.costs.ensures c.start.ensures ((c.follow.ensures.stuck c.in-Err.place).0 c.in-Err.is))

pub returns-in-Ok-clause-refused : goal.returns-in-Ok-clause-refused
returns-in-Ok-clause-refused c = λ tables.
    let end = c.in-Ok.end in
    first_end c.args.certificate.now tables c.args.plan.now end.0 end.1 c.requires.plan (led_as c.args.certificate.now c.costs.result c.start.result c.args.plan.now end.0 end.1 c.costs.ensures c.start.ensures ((c.follow.ensures.led end.0 end.1).0 c.in-Ok.is)) (other_end end.0 c.args.certificate.now.goal c.goal.result c.ne.result c.ne.ensures c.if-ne.true c.goal.ensures)

pub returns-in-Ok-2-clause-refused : goal.returns-in-Ok-2-clause-refused
returns-in-Ok-2-clause-refused c = λ tables.
    let end = c.in-Ok-2.end in
    let leads = led_as c.args.certificate.now c.costs.result c.start.result c.args.plan.now end.0 end.1 c.costs.ensures c.start.ensures ((c.follow.ensures.led end.0 end.1).0 c.in-Ok-2.is) in
    let at_goal : end.0 ≡ c.args.certificate.now.goal = same_end end.0 c.args.certificate.now.goal c.goal.result c.ne.result (c.ne.ensures ∙ ap (λ (x : BoardModel × ℕ). not (position_eq x.0 c.goal.result)) c.in-Ok-2.end-is) c.if-ne.false c.goal.ensures in
    first_cost c.args.certificate.now tables c.args.plan.now end.1 c.requires.plan (subst (λ (b : BoardModel). Leads c.args.certificate.now.costs c.args.certificate.now.start c.args.plan.now b end.1) at_goal leads) (λ e. c.if-end-from.true (ap (λ (x : BoardModel × ℕ). x.1) c.in-Ok-2.end-is ∙ e ∙ sym c.requires.cost ∙ sym c.from.ensures))
