use Rattle.std.proofs.Common.{◌≡◌, Result, Ok, Err, refl, sym, subst, inl, inr}
use Rattle.byte_streams.specs.Streams.{change}
use Rattle.certificate.specs.Certificates.{CertificateModel}
use Rattle.certificate.specs.declared.faults.ReadFault.{ReadFault}
use Rattle.certificate.specs.declared.faults.ReadFault.TheVariants.{Format}
use Rattle.certificate.specs.Faults.{format_code}
use Rattle.certificate_runs.specs.Outputs.{Output}
use Rattle.certificate_runs.specs.Showing.{IsDrawn}
use Rattle.drawings.specs.Drawings.{IsDrawing}
use Rattle.certificate_runs.proofs.EndLemmas.{shown, refusal_shown}
use Rattle.certificate_runs.proofs.showing.show_source.Goals as goal

pub returns-in-Ok-draw : goal.returns-in-Ok-draw
returns-in-Ok-draw g c =
    let source = change g.S.Source.state c.args.source.now c.read.new.source in
    let sink = change g.K.Sink.state c.args.sink.now c.put_output.new.sink in
    let read : Result CertificateModel ReadFault = Ok c.in-Ok.certificate in
    let output : Output = record { text = c.as_slice.result.now; status = 0 } in
    let drawn : IsDrawn c.args.style c.in-Ok.certificate output = record { leads = c.in-Ok-check_plan.ensures.leads; drawn = subst (IsDrawing c.args.style c.in-Ok.certificate) (sym c.as_slice.ensures.value) c.in-Ok-draw.ensures; well = refl } in
    shown c.args.style source sink read c.in-Ok.ensures output c.put_output.result (inl drawn) c.put_output.ensures

pub returns-in-Ok : goal.returns-in-Ok
returns-in-Ok g c =
    let source = change g.S.Source.state c.args.source.now c.read.new.source in
    let sink = change g.K.Sink.state c.args.sink.now c.put_refusal.new.sink in
    let read : Result CertificateModel ReadFault = Ok c.in-Ok.certificate in
    refusal_shown c.args.style source sink read c.in-Ok.ensures c.code.result.now c.put_refusal.result (λ output refused. inr (c.in-Err.refusal, c.in-Err.ensures.refused, rw c.code.ensures at refused)) c.put_refusal.ensures

pub returns-in-Err-Format : goal.returns-in-Err-Format
returns-in-Err-Format g c =
    let source = change g.S.Source.state c.args.source.now c.read.new.source in
    let sink = change g.K.Sink.state c.args.sink.now c.put_refusal-in-Err-Format.new.sink in
    let read : Result CertificateModel ReadFault = Err (Format c.in-Err-Format.fault) in
    let code : c.code-in-Err-Format.result.now ≡ format_code c.in-Err-Format.fault = rw c.in-Err-Format.field-0-is at c.code-in-Err-Format.ensures in
    refusal_shown c.args.style source sink read (rw c.in-Err-Format.field-0-is at c.in-Err-Format.ensures) c.code-in-Err-Format.result.now c.put_refusal-in-Err-Format.result (λ output refused. rw code at refused) c.put_refusal-in-Err-Format.ensures
