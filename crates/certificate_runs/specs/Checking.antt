-- What is written of a certificate that is checked, and the status of that.
use Rattle.std.specs.Prelude.{ℕ, ◌≡◌, ◌⊎◌, String, List, Option, Some, None, IsSome, Result, Ok, Err, string_bytes, ⊤}
use Rattle.std.specs.declared.alloc.Global.{Global}
use Rattle.byte_streams.specs.Streams.{SourceState, SinkState, Change}
use Rattle.byte_streams.specs.Sink.{WritesAll, FailsWriting}
use Rattle.serde_json.specs.Data.{Data}
use Rattle.board.specs.declared.moves.Move.{Move}
use Rattle.board.specs.Plans.{NothingBelow, IsLeast}
use Rattle.batch_runs.specs.Reports.{accepted_data, accepted_bound_data, refused_certificate_data, report_text}
use Rattle.certificate.specs.declared.faults.ReadFault.{ReadFault}
use Rattle.certificate.specs.declared.faults.ReadFault.TheVariants.{Format, Failed, NoMemory}
use Rattle.certificate.specs.Certificates.{CertificateModel}
use Rattle.certificate.specs.Sources.{ReadsCertificate}
use Rattle.certificate.specs.Faults.{format_code}
use Rattle.certificate_check.specs.declared.refusals.Refusal.{Refusal}
use Rattle.certificate_check.specs.Refusals.{IsProved, IsFirstRefusal, refusal_code}
use Rattle.memory.specs.declared.OutOfMemory.{OutOfMemory}
use Rattle.lower_bound.specs.Tables.{BoundModel}
use Rattle.certificate_runs.specs.Outputs.{Output, IsUntouched}
use Rattle.certificate_runs.specs.Built.{AreBuiltFor}
use Rattle.certificate_runs.specs.declared.faults.CheckFault.{CheckFault}
use Rattle.certificate_runs.specs.declared.faults.CheckFault.TheVariants.{CertificateRead, CertificateMemory, Write, Memory}

-- the report of an accepted certificate: of a plan's cost, or of a bound
abbrev pub claim_data : Option (List Move) → ℕ → Data
claim_data (Some plan) cost = accepted_data cost
claim_data None bound = accepted_bound_data bound

-- The rows prove with the sums of these tables what is claimed, so that no plan costs less, and a claimed plan is least. That is reported
-- with the status 0.
pub record IsAccepted (c : CertificateModel) (tables : BoundModel) (output : Output) : Type 0 where
  pub proved : IsProved c tables
  pub below : NothingBelow c.costs c.start c.goal c.cost
  pub least : IsSome c.plan → IsLeast c.costs c.start c.goal c.cost
  pub written : output ≡ record { text = report_text (claim_data c.plan c.cost); status = 0 }

-- a fault with this code is reported with the status 5
abbrev pub IsRefusedReport : List ℕ → Output → Type 0
IsRefusedReport code output = output ≡ record { text = report_text (refused_certificate_data code); status = 5 }

-- a certificate is accepted with these tables, or refused for the first cause
abbrev pub IsJudgementBy : BoundModel → CertificateModel → Output → Type 0
IsJudgementBy tables c output = IsAccepted c tables output ⊎ ((refusal : Refusal) × IsFirstRefusal c tables refusal × IsRefusedReport (refusal_code refusal) output)

-- the same with the tables of its groups
abbrev pub IsJudgement : CertificateModel → Output → Type 0
IsJudgement c output = (tables : BoundModel) × AreBuiltFor c tables × IsJudgementBy tables c output

-- the verdict on what was read: a certificate is judged, and a fault of the bytes refused; there is none where the source failed or memory
-- was refused
abbrev pub IsVerdictOutput : Result CertificateModel ReadFault → Output → Type 0
IsVerdictOutput (Ok c) output = IsJudgement c output
IsVerdictOutput (Err (Format fault)) output = IsRefusedReport (format_code fault) output
IsVerdictOutput (Err Failed) output = ⊥
IsVerdictOutput (Err (NoMemory refused)) output = ⊥

-- a certificate or a fault of the bytes was read
abbrev pub HasVerdict : Result CertificateModel ReadFault → Type 0
HasVerdict (Ok c) = ⊤
HasVerdict (Err (Format fault)) = ⊤
HasVerdict (Err Failed) = ⊥
HasVerdict (Err (NoMemory refused)) = ⊥

-- a line and its status, as they are to be written
abbrev pub verdict_output : String Global × ℕ → Output
verdict_output verdict = record { text = string_bytes verdict.0; status = verdict.1 }

-- the line is written whole, and its status answered; or the sink has failed
abbrev pub PutsVerdict : Change SinkState → Output → Result ℕ CheckFault → Type 0
PutsVerdict sink output (Ok status) = WritesAll sink output.text × (status ≡ output.status)
PutsVerdict sink output (Err fault) = FailsWriting sink output.text × (fault ≡ Write)

-- memory was refused for the certificate, or for the tables of the one that was read
abbrev pub WantsMemory : Result CertificateModel ReadFault → OutOfMemory → Type 0
WantsMemory read refused = (read ≡ Err (NoMemory refused)) ⊎ ((c : CertificateModel) × (read ≡ Ok c))

-- How the run ends after this was read. The verdict on it is written; or writing failed, and a beginning of it is written; or memory was
-- refused for it, and nothing is written. Where there is no verdict, the answer says why, and nothing is written.
abbrev pub EndsCheck : Result CertificateModel ReadFault → Change SinkState → Result ℕ CheckFault → Type 0
EndsCheck read sink (Ok status) = (output : Output) × IsVerdictOutput read output × WritesAll sink output.text × (status ≡ output.status)
EndsCheck read sink (Err Write) = (output : Output) × IsVerdictOutput read output × FailsWriting sink output.text
EndsCheck read sink (Err (Memory lacking)) = HasVerdict read × IsUntouched sink
EndsCheck read sink (Err CertificateRead) = (read ≡ Err Failed) × IsUntouched sink
EndsCheck read sink (Err (CertificateMemory refused)) = WantsMemory read refused × IsUntouched sink

-- a certificate is read of the source, and the run ends so
abbrev pub Checks : Change SourceState → Change SinkState → Result ℕ CheckFault → Type 0
Checks source sink result = (read : Result CertificateModel ReadFault) × ReadsCertificate source read × EndsCheck read sink result
