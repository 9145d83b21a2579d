use Rattle.std.proofs.Common.{refl, inr}
use Rattle.std.proofs.lemmas.Result.{IfOk-weaker}
use Rattle.certificate_runs.specs.Checking.{IsJudgementBy, IsRefusedReport, verdict_output}
use Rattle.certificate_runs.proofs.checking.judge.Goals as goal

pub returns-in-Err : goal.returns-in-Err
returns-in-Err g c =
    IfOk-weaker c.refuse.result (λ verdict. IsRefusedReport c.code.result.now (verdict_output verdict)) (λ verdict. IsJudgementBy c.args.bound.now c.args.certificate.now (verdict_output verdict))
    (λ verdict refused. inr (c.in-Err.refusal, (c.in-Err.ensures.refused c.in-Err.refusal).0 refl, rw c.code.ensures at refused)) c.refuse.ensures
