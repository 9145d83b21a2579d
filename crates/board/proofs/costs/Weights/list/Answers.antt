use Rattle.std.proofs.Common.{◌≡◌, Err, ap, sym, subst}
use Rattle.board.specs.Faults.{IsFirstWeightsFault}
use Rattle.board.proofs.WeightLemmas.{rule_has_no_fault, one_fault}
use Rattle.board.proofs.costs.Weights.list.Goals as goal

pub returns-in-Err-clause-accepted : goal.returns-in-Err-clause-accepted
returns-in-Err-clause-accepted c = ((λ e. absurd (cc)), (λ rule. absurd (rule_has_no_fault c.args.shape c.args.listed.now rule c.in-Err.fault c.in-Err.ensures.fault)))

pub returns-in-Err-clause-fault : goal.returns-in-Err-clause-fault
returns-in-Err-clause-fault c = λ fault. (
  (λ e. let same : c.in-Err.fault ≡ fault = cc in subst (IsFirstWeightsFault c.args.shape c.args.listed.now) same c.in-Err.ensures.fault),
  (λ first. ap Err (sym (one_fault c.args.shape c.args.listed.now c.in-Err.fault fault c.in-Err.ensures.fault first))),
)

pub returns-clause-fault : goal.returns-clause-fault
returns-clause-fault c = λ fault. ((λ e. absurd (cc)), (λ first. absurd (rule_has_no_fault c.args.shape c.args.listed.now c.in_default.ensures.sound fault first)))
