use Rattle.std.proofs.Common.{ℕ, List, Result, Ok, Err, refl, sym, subst, inr}
use Rattle.byte_streams.specs.Streams.{change}
use Rattle.certificate.specs.Certificates.{CertificateModel}
use Rattle.certificate.specs.declared.faults.ReadFault.{ReadFault}
use Rattle.certificate.specs.declared.faults.ReadFault.TheVariants.{Format}
use Rattle.certificate_runs.specs.Outputs.{Output}
use Rattle.certificate_runs.specs.Checking.{IsJudgement, IsJudgementBy, IsRefusedReport}
use Rattle.certificate_runs.proofs.CertifyLemmas.{checked}
use Rattle.certificate_runs.proofs.checking.check_source.Goals as goal

pub returns-in-Ok-judge : goal.returns-in-Ok-judge
returns-in-Ok-judge g c =
    let source = change g.S.Source.state c.args.source.now c.read.new.source in
    let sink = change g.K.Sink.state c.args.sink.now c.put_verdict.new.sink in
    let read : Result CertificateModel ReadFault = Ok c.in-Ok.certificate in
    let output : Output = record { text = c.as_str.result.now; status = c.in-Ok-judge.status } in
    let bound = c.in-Ok-build_for.bound in
    let judgement : IsJudgement c.in-Ok.certificate output = (bound, c.in-Ok-build_for.ensures.built, subst (λ (text : List ℕ). IsJudgementBy bound c.in-Ok.certificate (record { text = text; status = c.in-Ok-judge.status })) (sym c.as_str.ensures.value) c.in-Ok-judge.ensures) in
    checked source sink read output c.put_verdict.result c.in-Ok.ensures judgement c.put_verdict.ensures

pub returns-in-Ok-refuse : goal.returns-in-Ok-refuse
returns-in-Ok-refuse g c =
    let source = change g.S.Source.state c.args.source.now c.read.new.source in
    let sink = change g.K.Sink.state c.args.sink.now c.put_verdict-in-Ok-refuse.new.sink in
    let read : Result CertificateModel ReadFault = Err (Format c.in-Err-Format.fault) in
    let output : Output = record { text = c.as_str-in-Ok-refuse.result.now; status = c.in-Ok-refuse.status } in
    let refused : IsRefusedReport c.code.result.now output = subst (λ (text : List ℕ). IsRefusedReport c.code.result.now (record { text = text; status = c.in-Ok-refuse.status })) (sym c.as_str-in-Ok-refuse.ensures.value) c.in-Ok-refuse.ensures in
    checked source sink read output c.put_verdict-in-Ok-refuse.result (rw c.in-Err-Format.field-0-is at c.in-Err-Format.ensures) (rw c.code.ensures at refused) c.put_verdict-in-Ok-refuse.ensures

pub returns-in-Ok : goal.returns-in-Ok
returns-in-Ok g c =
    let read : Result CertificateModel ReadFault = Ok c.in-Ok.certificate in
    (read, c.in-Ok.ensures, (inr (c.in-Ok.certificate, refl), refl))

pub returns-in-Ok-build_for : goal.returns-in-Ok-build_for
returns-in-Ok-build_for g c =
    let read : Result CertificateModel ReadFault = Ok c.in-Ok.certificate in
    (read, c.in-Ok.ensures, (tt, refl))

pub returns-in-Err-Format : goal.returns-in-Err-Format
returns-in-Err-Format g c =
    let read : Result CertificateModel ReadFault = Err (Format c.in-Err-Format.fault) in
    (read, rw c.in-Err-Format.field-0-is at c.in-Err-Format.ensures, (tt, refl))
