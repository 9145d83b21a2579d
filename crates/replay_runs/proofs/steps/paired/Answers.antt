use Rattle.std.proofs.Common.{ℕ, List, ◌∙◌, ap, codes}
use Rattle.std.proofs.lemmas.Bool.{false≢true}
use lib.Pointwise.{pointwise}
use lib.Dec.{eqb}
use Rattle.replay_runs.specs.Steps.{IsNumberWord}
use Rattle.replay_runs.proofs.StepLemmas.{send_said, deliver_said, none_said}
use Rattle.replay_runs.proofs.steps.paired.Goals as goal

pub returns-in_default : goal.returns-in_default
returns-in_default c =
    let unsaid : (n : ℕ) → ¬ IsNumberWord c.as_bytes.result.now n = λ n said. c.in_default.not-Some n ((c.number_of.ensures n).1 said) in
    none_said c.args.verb.now c.args.word.now c.args.worker (λ e. false≢true (c.if-eq.ensures ∙ ap (λ (v : List ℕ). pointwise eqb v (codes "halt")) e)) (rw c.as_bytes.ensures.value at unsaid)

pub returns-in-send : goal.returns-in-send
returns-in-send c = send_said c.args.verb.now c.args.word.now c.args.worker c.in-Some.other c.in-send.is (rw c.as_bytes.ensures.value at ((c.number_of.ensures c.in-Some.other).0 c.in-Some.is))

pub returns-in-deliver : goal.returns-in-deliver
returns-in-deliver c = deliver_said c.args.verb.now c.args.word.now c.args.worker c.in-Some.other c.in-deliver.is (rw c.as_bytes.ensures.value at ((c.number_of.ensures c.in-Some.other).0 c.in-Some.is))
