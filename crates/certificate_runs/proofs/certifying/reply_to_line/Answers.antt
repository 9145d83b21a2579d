use Rattle.std.proofs.lemmas.Result.{IfOk-weaker, IfErr-weaker}
use Rattle.batch_runs.specs.declared.report.NoReport.{NoReport}
use Rattle.std.proofs.Common.{◌≡◌}
use Rattle.certificate_runs.specs.declared.faults.CertifyFault.TheVariants.{Memory}
use Rattle.certificate_runs.specs.Certifying.{IsCertifyReply, IsRefusalReply, HasNoReply}
use Rattle.certificate_runs.proofs.CertifyLemmas.{refused_line, due_long, report_lacks}
use Rattle.certificate_runs.proofs.certifying.reply_to_line.Goals as goal

pub returns-in_default-clause-reply : goal.returns-in_default-clause-reply
returns-in_default-clause-reply g c =
    let split = (g.A.Prover.setup c.args.prover.now).tables.split in
    let rules = g.A.ProofRuled.rules c.args.prover.now in
    IfOk-weaker c.refuse.result (IsRefusalReply c.code.result.now c.args.line.number) (IsCertifyReply split rules c.args.line c.args.bytes.now)
    (λ reply refused. refused_line split rules c.args.line.number c.args.line.kind c.args.bytes.now reply c.requires.kind c.in_default.not-Within (rw c.code.ensures at refused)) c.refuse.ensures.refusal

pub returns-in_default-clause-lacking : goal.returns-in_default-clause-lacking
returns-in_default-clause-lacking g c =
    let rules = g.A.ProofRuled.rules c.args.prover.now in
    IfErr-weaker c.refuse.result (λ fault. (lacking : NoReport) × (fault ≡ Memory lacking)) (HasNoReply rules c.args.line c.args.bytes.now)
    (λ fault lacks. report_lacks rules c.args.line c.args.bytes.now fault (due_long rules c.args.line.kind c.args.bytes.now c.requires.kind c.in_default.not-Within) lacks) c.refuse.ensures.lacking
