-- What a reader of a certificate, or of a verdict on one, may believe.
use Rattle.std.specs.Prelude.{ℕ, ◌≡◌, ◌⊎◌, List, [], ◌∷◌, ◌++◌, Option, Some, None, Result, Ok, IfOk, IfSome, codes}
use Rattle.serde_json.specs.Data.{Data}
use Rattle.byte_streams.specs.Streams.{SourceState, SinkState, Change}
use Rattle.byte_streams.specs.Sink.{Puts, PutsNone}
use Rattle.board.specs.declared.moves.Move.{Move}
use Rattle.board.specs.Boards.{BoardModel}
use Rattle.board.specs.Plans.{Leads, NothingBelow, IsLeast}
use Rattle.pattern_index.specs.Partitions.{PartitionModel}
use Rattle.memory.specs.declared.OutOfMemory.{OutOfMemory}
use Rattle.outcomes.specs.Outcomes.{Task}
use Rattle.outcomes.specs.declared.outcome.Cause.TheVariants.{Memory}
use Rattle.outcomes.specs.declared.outcome.Want.TheVariants.{Refused}
use Rattle.outcomes.specs.declared.outcome.Outcome.TheVariants.{Bounded}
use Rattle.batch_runs.specs.ReportReadings.{Reads, SaysText, SaysNumber, HasStatus}
use Rattle.batch_runs.specs.Reports.{refused_certificate_data, report_text}
use Rattle.certificate.specs.Certificates.{CertificateModel, upgraded}
use Rattle.certificate.specs.declared.certificate.Version.TheVariants.{Two}
use Rattle.certificate.specs.Spellings.{spelling}
use Rattle.certificate.specs.Readings.{certificate, IsFirstFormatFault}
use Rattle.certificate.specs.Faults.{format_code}
use Rattle.certificate.specs.declared.faults.FormatFault.{FormatFault}
use Rattle.certificate_check.specs.Refusals.{IsProved, ItsPlanLeads, IsFirstRefusal, refusal_code}
use Rattle.drawings.specs.declared.drawing.Style.{Style}
use Rattle.drawings.specs.Drawings.{IsDrawing}
use Rattle.certificate_check.specs.declared.refusals.Refusal.{Refusal}
use Rattle.batch_runs.specs.Batches.{AreAll, AreFirst}
use Rattle.batch_runs.specs.Meanings.{questions, Names, IsReply}
use Rattle.batch_runs.specs.Headline.{TellsTheTruth}
use Rattle.lower_bound.specs.Tables.{BoundModel}
use Rattle.certificate_runs.specs.Built.{AreBuiltFor}
use Rattle.certificate_runs.specs.Rules.{ProofRules, report_rules}
use Rattle.certificate_runs.specs.declared.faults.CertifyFault.{CertifyFault}
use Rattle.certificate_runs.specs.declared.faults.CheckFault.{CheckFault}
use Rattle.certificate_runs.specs.declared.faults.UpgradeFault.{UpgradeFault}

-- ---- a line in, a certificate out

-- a certificate claims of a task a plan that leads from the start to the goal at its cost, and no plan costs less; or a bound, and no plan costs less
abbrev pub ClaimsTruly : Task → ℕ → Option (List Move) → Type 0
ClaimsTruly task cost (Some plan) = Leads task.rule task.start plan task.goal cost × IsLeast task.rule task.start task.goal cost
ClaimsTruly task bound None = NothingBelow task.rule task.start task.goal bound

-- The bytes, read again, are this certificate of version 2, which names these groups, and claims something true of this task. Its rows prove
-- it with the sums of the groups' tables, so whoever builds these accepts it.
pub record CertifiesTruly (split : PartitionModel) (task : Task) (c : CertificateModel) (bytes : List ℕ) : Type 0 where
  pub read : certificate bytes ≡ Ok (c, [])
  pub version : c.version ≡ Two
  pub groups : c.groups ≡ split
  pub start : c.start ≡ task.start
  pub goal : c.goal ≡ task.goal
  pub costs : c.costs ≡ task.rule
  pub claim : ClaimsTruly task c.cost c.plan
  pub proved : (tables : BoundModel) → AreBuiltFor c tables → IsProved c tables

-- where the output says a bound, the line names a board that may be answered by this bound without rows and without a plan, since memory was refused
abbrev pub BoundsLackRows : ProofRules → List ℕ → List ℕ → Type 0
BoundsLackRows rules line output =
    (d : Data) → IsReply output 0 d → HasStatus d (codes "bounded")
    → (id : List ℕ) × (b : BoardModel) × (bound : ℕ) × (refused : OutOfMemory) × Names rules.grid line id b × SaysNumber d (codes "bound") bound × rules.allows b (Some (Bounded bound None (Memory (Refused refused)) None))

-- Where all of these lines are passed over, nothing is written. Else one alone is not, and the output is a certificate of the board that it
-- names, with these groups, or a report that tells the truth of it, and says no bound that has rows.
pub data AnswersFirst (split : PartitionModel) (rules : ProofRules) (lines : List (List ℕ)) (output : List ℕ) : Type 0 where
  by_none : questions 1 lines ≡ [] → output ≡ [] → AnswersFirst split rules lines output
  by_certificate : (n : ℕ) (line id : List ℕ) (b : BoardModel) (c : CertificateModel) → questions 1 lines ≡ (n, line) ∷ [] → Names rules.grid line id b → CertifiesTruly split (rules.task b) c output → AnswersFirst split rules lines output
  by_report : (n : ℕ) (line : List ℕ) → questions 1 lines ≡ (n, line) ∷ [] → TellsTheTruth (report_rules rules) lines output → BoundsLackRows rules line output → AnswersFirst split rules lines output

-- this was written for the first lines of the input; where it is nothing, these are all of its lines
pub record WritesAnswer (split : PartitionModel) (rules : ProofRules) (source : Change SourceState) (sink : Change SinkState) : Type 0 where
  pub lines : List (List ℕ)
  pub output : List ℕ
  pub first : AreFirst source.before.left lines
  pub put : Puts sink output
  pub answer : AnswersFirst split rules lines output
  pub silent : output ≡ [] → AreAll source.before.left lines

-- a run that ends well wrote such an answer
abbrev pub IsTrueAnswer : PartitionModel → ProofRules → Change SourceState → Change SinkState → Result ℕ CertifyFault → Type 0
IsTrueAnswer split rules source sink result = IfOk result (λ status. WritesAnswer split rules source sink)

-- ---- a certificate in, a verdict out

-- the input is refused by a fault with this code: by the first fault of its bytes, or by the first cause against the certificate that it is,
-- with the tables of its groups
abbrev pub IsCertificateRefusedBy : List ℕ → List ℕ → Type 0
IsCertificateRefusedBy input code =
    ((fault : FormatFault) × IsFirstFormatFault input fault × (code ≡ format_code fault)) ⊎ ((c : CertificateModel) × (tables : BoundModel) × (refusal : Refusal) × (certificate input ≡ Ok (c, [])) × AreBuiltFor c tables × IsFirstRefusal c tables refusal × (code ≡ refusal_code refusal))

-- the cost of a plan is said, at which it leads from the start to the goal, and no plan costs less; or a bound is said, and no plan costs less
abbrev pub SaysOf : CertificateModel → Option (List Move) → Data → Type 0
SaysOf c (Some plan) d = SaysNumber d (codes "cost") c.cost × Leads c.costs c.start plan c.goal c.cost × IsLeast c.costs c.start c.goal c.cost
SaysOf c None d = SaysNumber d (codes "bound") c.cost × NothingBelow c.costs c.start c.goal c.cost

-- the input is a certificate, and this is said of what it claims
abbrev pub SaysClaim : List ℕ → Data → Type 0
SaysClaim input d = (c : CertificateModel) × (certificate input ≡ Ok (c, [])) × SaysOf c c.plan d

-- what is said of the input is true
pub record IsTrueVerdict (input : List ℕ) (d : Data) : Type 0 where
  pub status : HasStatus d (codes "accepted") ⊎ HasStatus d (codes "refused")
  pub accepted : HasStatus d (codes "accepted") → SaysClaim input d
  pub refused : HasStatus d (codes "refused") → (code : List ℕ) × SaysText d (codes "fault") code × IsCertificateRefusedBy input code

-- one line was written, which is read as JSON and says the truth of the input
pub record WritesVerdict (sink : Change SinkState) (input : List ℕ) : Type 0 where
  pub line : List ℕ
  pub value : Data
  pub put : Puts sink (line ++ 10 ∷ [])
  pub json : Reads line value
  pub truth : IsTrueVerdict input value

-- a run that ends well wrote such a line, where the input is known
abbrev pub IsTrueCheck : Change SourceState → Change SinkState → Result ℕ CheckFault → Type 0
IsTrueCheck source sink result = IfOk result (λ status. IfSome source.before.left (WritesVerdict sink))

-- ---- a certificate in, the same in version 2 out

-- the input is a certificate, and its spelling in version 2 was written, with the status 0; or it is none, and nothing was written, with the status 5
abbrev pub WritesUpgrade : Change SinkState → ℕ → List ℕ → Type 0
WritesUpgrade sink status input =
    ((c : CertificateModel) × (certificate input ≡ Ok (c, [])) × Puts sink (spelling (upgraded c)) × (status ≡ 0))
    ⊎ ((fault : FormatFault) × IsFirstFormatFault input fault × PutsNone sink × (status ≡ 5))

-- a run that ends well did so, where the input is known
abbrev pub IsTrueUpgrade : Change SourceState → Change SinkState → Result ℕ UpgradeFault → Type 0
IsTrueUpgrade source sink result = IfOk result (λ status. IfSome source.before.left (WritesUpgrade sink status))

-- ---- a certificate in, a drawing out

-- This is the code of what is wrong with the input. Its bytes have a first fault, or its plan does not lead from its start to its goal at its
-- cost, which is the first cause against the certificate with any tables.
abbrev pub IsMistaken : List ℕ → List ℕ → Type 0
IsMistaken input code =
    ((fault : FormatFault) × IsFirstFormatFault input fault × (code ≡ format_code fault)) ⊎ ((c : CertificateModel) × (refusal : Refusal) × (certificate input ≡ Ok (c, [])) × ((tables : BoundModel) → IsFirstRefusal c tables refusal) × (code ≡ refusal_code refusal))

-- The input is a certificate, whose plan leads if there is one, and its drawing was written, with the status 0. Or something is wrong with the
-- input, and the report of that was written, with the status 5.
abbrev pub WritesShow : Style → Change SinkState → ℕ → List ℕ → Type 0
WritesShow style sink status input =
    ((c : CertificateModel) × (drawing : List ℕ) × (certificate input ≡ Ok (c, [])) × ItsPlanLeads c × IsDrawing style c drawing × Puts sink drawing × (status ≡ 0))
    ⊎ ((code : List ℕ) × IsMistaken input code × Puts sink (report_text (refused_certificate_data code)) × (status ≡ 5))

-- a run that ends well did so, where the input is known
abbrev pub IsTrueShow : Style → Change SourceState → Change SinkState → Result ℕ CheckFault → Type 0
IsTrueShow style source sink result = IfOk result (λ status. IfSome source.before.left (WritesShow style sink status))
