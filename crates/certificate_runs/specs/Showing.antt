-- What is written of a certificate that is drawn, and the status of that.
use Rattle.std.specs.Prelude.{ℕ, ◌≡◌, ◌⊎◌, List, Result, Ok, Err}
use Rattle.byte_streams.specs.Streams.{SourceState, SinkState, Change}
use Rattle.byte_streams.specs.Sink.{WritesAll, FailsWriting}
use Rattle.certificate.specs.declared.faults.ReadFault.{ReadFault}
use Rattle.certificate.specs.declared.faults.ReadFault.TheVariants.{Format, Failed, NoMemory}
use Rattle.certificate.specs.Certificates.{CertificateModel}
use Rattle.certificate.specs.Sources.{ReadsCertificate}
use Rattle.certificate.specs.Faults.{format_code}
use Rattle.certificate_check.specs.declared.refusals.Refusal.{Refusal}
use Rattle.certificate_check.specs.Refusals.{ItsPlanLeads, IsFirstRefusal, refusal_code}
use Rattle.drawings.specs.declared.drawing.Style.{Style}
use Rattle.drawings.specs.Drawings.{IsDrawing}
use Rattle.lower_bound.specs.Tables.{BoundModel}
use Rattle.memory.specs.declared.OutOfMemory.{OutOfMemory}
use Rattle.certificate_runs.specs.Outputs.{Output, IsUntouched}
use Rattle.certificate_runs.specs.Checking.{IsRefusedReport}
use Rattle.certificate_runs.specs.declared.faults.CheckFault.{CheckFault}
use Rattle.certificate_runs.specs.declared.faults.CheckFault.TheVariants.{CertificateRead, CertificateMemory, Write, Memory}

-- the plan leads from the start to the goal at its cost, or none is claimed, and the certificate is drawn with the status 0
pub record IsDrawn (style : Style) (c : CertificateModel) (output : Output) : Type 0 where
  pub leads : ItsPlanLeads c
  pub drawn : IsDrawing style c output.text
  pub well : output.status ≡ 0

-- the plan does not lead so, and the cause, which is the first against the certificate with any tables, is reported with the status 5
abbrev pub IsMisled : CertificateModel → Output → Type 0
IsMisled c output = (refusal : Refusal) × ((tables : BoundModel) → IsFirstRefusal c tables refusal) × IsRefusedReport (refusal_code refusal) output

-- the line of a fault with this code is written; or writing failed, and a beginning of it is written; or memory was refused for it, and nothing is written
abbrev pub PutsRefusal : List ℕ → Change SinkState → Result ℕ CheckFault → Type 0
PutsRefusal code sink (Ok status) = (output : Output) × IsRefusedReport code output × WritesAll sink output.text × (status ≡ output.status)
PutsRefusal code sink (Err Write) = (output : Output) × IsRefusedReport code output × FailsWriting sink output.text
PutsRefusal code sink (Err (Memory lacking)) = IsUntouched sink
PutsRefusal code sink (Err CertificateRead) = ⊥
PutsRefusal code sink (Err (CertificateMemory refused)) = ⊥

-- what is shown of what was read: a drawing of a certificate, or the fault of its plan, or the first fault of the bytes; nothing where the
-- source failed or memory was refused
abbrev pub IsShowOutput : Style → Result CertificateModel ReadFault → Output → Type 0
IsShowOutput style (Ok c) output = IsDrawn style c output ⊎ IsMisled c output
IsShowOutput style (Err (Format fault)) output = IsRefusedReport (format_code fault) output
IsShowOutput style (Err Failed) output = ⊥
IsShowOutput style (Err (NoMemory refused)) output = ⊥

-- a report is due of what was read, with the status 5: of a plan that does not lead, or of a fault of the bytes
abbrev pub IsRefusalDue : Style → Result CertificateModel ReadFault → Type 0
IsRefusalDue style read = (output : Output) × IsShowOutput style read output × (output.status ≡ 5)

-- memory was refused for the certificate, or for the drawing of the one that was read, whose plan leads
abbrev pub LacksDrawing : Result CertificateModel ReadFault → OutOfMemory → Type 0
LacksDrawing read refused = (read ≡ Err (NoMemory refused)) ⊎ ((c : CertificateModel) × (read ≡ Ok c) × ItsPlanLeads c)

-- How the run ends after this was read. What is to be shown is written; or writing failed, and a beginning of it is written; or memory was
-- refused for a report that is due, or for a drawing, and nothing is written. Where there is nothing to show, the answer says why, and nothing
-- is written.
abbrev pub EndsShow : Style → Result CertificateModel ReadFault → Change SinkState → Result ℕ CheckFault → Type 0
EndsShow style read sink (Ok status) = (output : Output) × IsShowOutput style read output × WritesAll sink output.text × (status ≡ output.status)
EndsShow style read sink (Err Write) = (output : Output) × IsShowOutput style read output × FailsWriting sink output.text
EndsShow style read sink (Err (Memory lacking)) = IsRefusalDue style read × IsUntouched sink
EndsShow style read sink (Err CertificateRead) = (read ≡ Err Failed) × IsUntouched sink
EndsShow style read sink (Err (CertificateMemory refused)) = LacksDrawing read refused × IsUntouched sink

-- a certificate is read of the source, and the run ends so
abbrev pub Shows : Style → Change SourceState → Change SinkState → Result ℕ CheckFault → Type 0
Shows style source sink result = (read : Result CertificateModel ReadFault) × ReadsCertificate source read × EndsShow style read sink result
