-- The laws of the definitions. Each is the contract of a function that does nothing.
use Rattle.std.specs.Prelude.{ℕ, ◌≡◌, ◌≢◌, ◌≤◌, ◌⊎◌, ◌↔◌, true, false, List, [], ◌∷◌, ◌++◌, length, Option, None, Some, IsSome, Result, Ok, Err, Vec, codes}
use Rattle.std.specs.declared.alloc.Global.{Global}
use Rattle.batch_runs.specs.declared.report.NoReport.{NoReport}
use Rattle.board.specs.declared.moves.Move.{Move}
use Rattle.outcomes.specs.declared.outcome.Cause.{Cause}
use Rattle.outcomes.specs.declared.outcome.Ending.{Ending}
use Rattle.outcomes.specs.declared.outcome.Ending.TheVariants.{Optimal, Unsolvable, Bounded}
use Rattle.outcomes.specs.declared.outcome.Outcome.{Outcome}
use Rattle.outcomes.specs.declared.outcome.Outcome.TheVariants as outcome
use Rattle.outcomes.specs.declared.outcome.Why.{Why}
use Rattle.outcomes.specs.declared.outcome.Cause.TheVariants.{Memory}
use Rattle.outcomes.specs.declared.outcome.Want.TheVariants.{Refused}
use Rattle.outcomes.specs.Endings.{without_rows}
use Rattle.outcomes.specs.Outcomes.{Task, StandsAlone}
use Rattle.memory.specs.declared.OutOfMemory.{OutOfMemory}
use Rattle.serde_json.specs.Data.{Data}
use Rattle.batch_runs.specs.ReportReadings.{Reads, SaysText, SaysNumber, HasStatus}
use Rattle.batch_runs.specs.Reports.{accepted_data, accepted_bound_data, refused_certificate_data, report_text}
use Rattle.batch_lines.specs.Words.{IsEntry}
use Rattle.batch_lines.specs.Lines.{lines_of}
use Rattle.batch_lines.specs.declared.lines.TheConstants.{INPUT_LIMIT}
use Rattle.batch_lines.specs.declared.lines.Line.{Line}
use Rattle.byte_streams.specs.Streams.{SourceState, SinkState, Change}
use Rattle.batch_runs.specs.Batches.{AnswersLine}
use Rattle.batch_runs.specs.Batches.Answer.{answered}
use Rattle.batch_runs.specs.Meanings.{questions, Names, IsReply}
use Rattle.batch_runs.specs.Headline.{TellsTheTruth}
use Rattle.pattern_index.specs.Partitions.{PartitionModel}
use Rattle.certificate_runs.specs.Headline.{AnswersFirst, CertifiesTruly, IsTrueAnswer, BoundsLackRows, IsTrueVerdict, SaysClaim, IsCertificateRefusedBy, IsTrueCheck, IsTrueUpgrade, IsMistaken, IsTrueShow}
use Rattle.board.specs.Boards.{BoardModel}
use Rattle.board.specs.Plans.{Leads, NothingBelow, IsLeast}
use Rattle.certificate.specs.Certificates.{CertificateModel, upgraded}
use Rattle.certificate.specs.Spellings.{spelling}
use Rattle.certificate.specs.Sources.{ReadsCertificate}
use Rattle.certificate.specs.Faults.{format_code}
use Rattle.certificate.specs.declared.certificate.Version.TheVariants.{Two}
use Rattle.certificate_check.specs.Refusals.{IsProved, ItsPlanLeads, IsFirstRefusal, refusal_code}
use Rattle.certificate_check.specs.declared.refusals.Refusal.{Refusal}
use Rattle.drawings.specs.declared.drawing.Style.{Style}
use Rattle.drawings.specs.Drawings.{IsDrawing}
use Rattle.lower_bound.specs.Tables.{BoundModel}
use Rattle.certificate.specs.Readings.{certificate, IsFirstFormatFault, HasNoFault}
use Rattle.certificate.specs.declared.faults.FormatFault.{FormatFault}
use Rattle.certificate.specs.declared.faults.FormatFault.TheVariants.{Truncated}
use Rattle.certificate.specs.declared.faults.ReadFault.{ReadFault}
use Rattle.certificate.specs.declared.faults.ReadFault.TheVariants.{Format}
use Rattle.certificate_runs.specs.Rules.{ProofRules, ProvesTruly, rows_of, report_rules}
use Rattle.certificate_runs.specs.Built.{AreBuiltFor}
use Rattle.certificate_runs.specs.Outputs.{Output}
use Rattle.certificate_runs.specs.Certifying.{Replies, Claims, NeedsReport, HasNoReply, HasFirst, IsCertificateFor, certificate_output}
use Rattle.certificate_runs.specs.Checking.{Checks, EndsCheck, IsVerdictOutput}
use Rattle.certificate_runs.specs.declared.faults.CertifyFault.{CertifyFault}
use Rattle.certificate_runs.specs.declared.faults.CertifyFault.TheVariants as certify
use Rattle.certificate_runs.specs.declared.faults.CheckFault.{CheckFault}
use Rattle.certificate_runs.specs.declared.faults.CheckFault.TheVariants as check
use Rattle.certificate_runs.specs.Showing.{EndsShow, Shows}
use Rattle.certificate_runs.specs.Upgrading.{Upgrades}
use Rattle.certificate_runs.specs.declared.faults.UpgradeFault.{UpgradeFault}
use Rattle.certificate_runs.specs.declared.faults.UpgradeFault.TheVariants as upgrade

-- a run that writes a certificate and ends by another fault than one of writing leaves the sink as it was
abbrev pub OtherFaultsLeaveTheSink : ProofRules → Type 0
OtherFaultsLeaveTheSink rules =
    (split : PartitionModel) (source : Change SourceState) (sink : Change SinkState) (fault : CertifyFault) → fault ≢ certify.Write → fault ≢ certify.CertificateWrite → Replies split rules source sink (Err fault) → sink.after ≡ sink.before

-- and so does one that checks a certificate
abbrev pub OtherFaultsWriteNoVerdict : Type 0
OtherFaultsWriteNoVerdict = (source : Change SourceState) (sink : Change SinkState) (fault : CheckFault) → fault ≢ check.Write → Checks source sink (Err fault) → sink.after ≡ sink.before

-- where nothing is written for lines, none of them asks for an answer
abbrev pub SilenceIsUnasked : ProofRules → Type 0
SilenceIsUnasked rules = (split : PartitionModel) (lines : List (List ℕ)) → AnswersFirst split rules lines [] → questions 1 lines ≡ []

-- and where none of them asks, nothing is written for them
abbrev pub UnaskedLinesAreSilent : ProofRules → Type 0
UnaskedLinesAreSilent rules = (split : PartitionModel) (lines : List (List ℕ)) (output : List ℕ) → questions 1 lines ≡ [] → AnswersFirst split rules lines output → output ≡ []

-- where a line asks, an output whose first line is no JSON is a certificate that says the truth of the board that the line names
abbrev pub CertificatesAnswerTheQuestion : ProofRules → Type 0
CertificatesAnswerTheQuestion rules =
    (split : PartitionModel) (lines : List (List ℕ)) (output : List ℕ) (n : ℕ) (line : List ℕ)
    → ((d : Data) → ¬ IsReply output 0 d)
    → questions 1 lines ≡ (n, line) ∷ []
    → AnswersFirst split rules lines output
    → (id : List ℕ) × (b : BoardModel) × (c : CertificateModel) × Names rules.grid line id b × CertifiesTruly split (rules.task b) c output

-- and an output that is no certificate is a report that tells the truth of that line, and says no bound that has rows
abbrev pub ReportsAnswerTheQuestion : ProofRules → Type 0
ReportsAnswerTheQuestion rules =
    (split : PartitionModel) (lines : List (List ℕ)) (output : List ℕ) (n : ℕ) (line : List ℕ)
    → ((c : CertificateModel) → certificate output ≢ Ok (c, []))
    → questions 1 lines ≡ (n, line) ∷ []
    → AnswersFirst split rules lines output
    → TellsTheTruth (report_rules rules) lines output × BoundsLackRows rules line output

-- where the input is known and the sink was empty, a run that ends well leaves an answer to the input's first lines
abbrev pub FirstLinesAreAnswered : ProofRules → Type 0
FirstLinesAreAnswered rules =
    (split : PartitionModel) (source : Change SourceState) (sink : Change SinkState) (status : ℕ) (input : List ℕ)
    → source.before.left ≡ Some input
    → sink.before.contents ≡ Some []
    → IsTrueAnswer split rules source sink (Ok status)
    → (lines more : List (List ℕ)) × (output : List ℕ) × (lines_of input ≡ lines ++ more) × (sink.after.contents ≡ Some output) × AnswersFirst split rules lines output

-- and where it leaves nothing, no line of the input asks for an answer
abbrev pub SilentRunsAreUnasked : ProofRules → Type 0
SilentRunsAreUnasked rules =
    (split : PartitionModel) (source : Change SourceState) (sink : Change SinkState) (status : ℕ) (input : List ℕ)
    → source.before.left ≡ Some input
    → sink.before.contents ≡ Some []
    → sink.after.contents ≡ Some []
    → IsTrueAnswer split rules source sink (Ok status)
    → questions 1 (lines_of input) ≡ []

-- no answer that names a least plan is reported: its certificate is written
abbrev pub LeastPlansAreCertified : Type 0
LeastPlansAreCertified = (id : List ℕ) (cost : ℕ) (plan : Vec Move Global) → ¬ NeedsReport (answered id (Optimal cost plan))

-- nor is one that names a bound, except one without a plan, where memory was refused
abbrev pub BoundsAreCertified : Type 0
BoundsAreCertified =
    (id : List ℕ) (bound : ℕ) (best : Option (ℕ × Vec Move Global)) (cause : Cause) → NeedsReport (answered id (Bounded bound best cause)) → StandsAlone best cause

-- a bound is reported only where the line names a board that may be answered by this bound without rows
abbrev pub ReportedBoundsLackRows : ProofRules → Type 0
ReportedBoundsLackRows rules =
    (line id : List ℕ) (bound : ℕ) (best : Option (ℕ × Vec Move Global)) (cause : Cause)
    → AnswersLine (report_rules rules) line (answered id (Bounded bound best cause))
    → (b : BoardModel) × Names rules.grid line id b × rules.allows b (Some (outcome.Bounded bound best cause None))

-- and where each outcome that a board may be answered by has rows, no ending is reported of it
abbrev pub OutcomesWithRowsAreCertified : ProofRules → Type 0
OutcomesWithRowsAreCertified rules =
    (line id name : List ℕ) (b : BoardModel) (ending : Ending)
    → Names rules.grid line id b
    → ((given : Outcome) → rules.allows b (Some given) → IsSome (rows_of given))
    → ¬ AnswersLine (report_rules rules) line (answered name ending)

-- a certificate that claims what an ending says claims its plan at its cost, or its bound and no plan; none claims that there is no plan
abbrev pub ClaimsAreOfEndings : Type 0
ClaimsAreOfEndings =
    ((c : CertificateModel) (cost : ℕ) (plan : Vec Move Global) → Claims c (Optimal cost plan) → (c.cost ≡ cost) × (c.plan ≡ Some plan.items))
    × ((c : CertificateModel) (why : Why) → ¬ Claims c (Unsolvable why))
    × ((c : CertificateModel) (bound : ℕ) (best : Option (ℕ × Vec Move Global)) (cause : Cause) → Claims c (Bounded bound best cause) → (c.cost ≡ bound) × (c.plan ≡ None))

-- the status is 0 exactly where a plan is claimed, and 1 exactly where none is, but a bound
abbrev pub StatusesTellClaims : Type 0
StatusesTellClaims = (c : CertificateModel) → ((certificate_output c).status ≡ 0 ↔ IsSome c.plan) × ((certificate_output c).status ≡ 1 ↔ (c.plan ≡ None))

-- a certificate was read, or a fault of the bytes
abbrev pub IsReadOrFaulty : Result CertificateModel ReadFault → Type 0
IsReadOrFaulty read = ((c : CertificateModel) × (read ≡ Ok c)) ⊎ ((fault : FormatFault) × (read ≡ Err (Format fault)))

-- a verdict is given on these alone
abbrev pub VerdictsAreOnWhatWasRead : Type 0
VerdictsAreOnWhatWasRead = (read : Result CertificateModel ReadFault) (output : Output) → IsVerdictOutput read output → IsReadOrFaulty read

-- and memory is refused for a verdict on these alone
abbrev pub WantsAreForVerdicts : Type 0
WantsAreForVerdicts = (read : Result CertificateModel ReadFault) (sink : Change SinkState) (lacking : NoReport) → EndsCheck read sink (Err (check.Memory lacking)) → IsReadOrFaulty read

-- a certificate for a line claims what an outcome says that the board may be answered by, and has this outcome's rows
abbrev pub CertificatesAreOfOutcomes : ProofRules → Type 0
CertificatesAreOfOutcomes rules =
    (split : PartitionModel) (bytes : List ℕ) (c : CertificateModel)
    → IsCertificateFor split rules bytes c
    → (id : List ℕ) × (b : BoardModel) × (given : Outcome) × IsEntry rules.grid bytes id b × rules.allows b (Some given) × Claims c (without_rows given) × (rows_of given ≡ Some c.rows)

-- where a certificate that answers a task claims a plan, the plan leads from the task's start to its goal at the stated cost, and no plan costs less
abbrev pub CertifiedPlansAreLeast : Type 0
CertifiedPlansAreLeast =
    (split : PartitionModel) (task : Task) (c : CertificateModel) (bytes : List ℕ) (plan : List Move)
    → CertifiesTruly split task c bytes
    → c.plan ≡ Some plan
    → Leads task.rule task.start plan task.goal c.cost × IsLeast task.rule task.start task.goal c.cost

-- where it claims none, no plan of the task costs less than it states
abbrev pub CertifiedBoundsAreBelow : Type 0
CertifiedBoundsAreBelow =
    (split : PartitionModel) (task : Task) (c : CertificateModel) (bytes : List ℕ)
    → CertifiesTruly split task c bytes
    → c.plan ≡ None
    → NothingBelow task.rule task.start task.goal c.cost

-- the bytes are this certificate and nothing else; it is of version 2, has these groups, and is of the task's start, goal and costs
abbrev pub CertificatesAreOfTasks : Type 0
CertificatesAreOfTasks =
    (split : PartitionModel) (task : Task) (c : CertificateModel) (bytes : List ℕ)
    → CertifiesTruly split task c bytes
    → (certificate bytes ≡ Ok (c, [])) × (c.version ≡ Two) × (c.groups ≡ split) × (c.start ≡ task.start) × (c.goal ≡ task.goal) × (c.costs ≡ task.rule)

-- and its rows prove it with any tables that are built for its groups
abbrev pub CertificatesAreProved : Type 0
CertificatesAreProved =
    (split : PartitionModel) (task : Task) (c : CertificateModel) (bytes : List ℕ) (tables : BoundModel) → CertifiesTruly split task c bytes → AreBuiltFor c tables → IsProved c tables

-- V3 may be reported of a board only where the rules allow that memory is refused for it
abbrev pub WantsAreOfRules : ProofRules → Type 0
WantsAreOfRules rules = (b : BoardModel) → (report_rules rules).allows b None → rules.allows b None

-- memory is refused for the groups of a certificate only where the line names a board that may be answered by an outcome with rows
abbrev pub GroupsAreWantedForRows : ProofRules → Type 0
GroupsAreWantedForRows rules =
    (line : Line) (bytes : List ℕ) (wanting : OutOfMemory)
    → HasNoReply rules line bytes (certify.GroupsMemory wanting)
    → (id : List ℕ) × (b : BoardModel) × (given : Outcome) × IsEntry rules.grid bytes id b × rules.allows b (Some given) × IsSome (rows_of given)

-- where an output says a bound, its board may be answered by it without rows and without a plan, since memory was refused
abbrev pub SaidBoundsLackRows : ProofRules → Type 0
SaidBoundsLackRows rules =
    (line output : List ℕ) (d : Data)
    → BoundsLackRows rules line output
    → IsReply output 0 d
    → HasStatus d (codes "bounded")
    → (id : List ℕ) × (b : BoardModel) × (bound : ℕ) × (refused : OutOfMemory) × Names rules.grid line id b × SaysNumber d (codes "bound") bound × rules.allows b (Some (outcome.Bounded bound None (Memory (Refused refused)) None))

-- where it is true of an input that this cost is accepted, the input is a certificate, whose plan leads to the goal at this cost, and no plan costs less
abbrev pub AcceptedCostsAreLeast : Type 0
AcceptedCostsAreLeast =
    (input : List ℕ) (cost : ℕ)
    → IsTrueVerdict input (accepted_data cost)
    → (c : CertificateModel) × (plan : List Move) × (certificate input ≡ Ok (c, [])) × (c.plan ≡ Some plan) × Leads c.costs c.start plan c.goal cost × IsLeast c.costs c.start c.goal cost

-- where it is true that this bound is accepted, the input is a certificate without a plan, and no plan costs less
abbrev pub AcceptedBoundsAreBelow : Type 0
AcceptedBoundsAreBelow =
    (input : List ℕ) (bound : ℕ)
    → IsTrueVerdict input (accepted_bound_data bound)
    → (c : CertificateModel) × (certificate input ≡ Ok (c, [])) × (c.plan ≡ None) × NothingBelow c.costs c.start c.goal bound

-- and where it is true that an input is refused with this code, its first fault, or the first cause against its certificate, has this code
abbrev pub RefusedInputsHaveTheFault : Type 0
RefusedInputsHaveTheFault = (input code : List ℕ) → IsTrueVerdict input (refused_certificate_data code) → IsCertificateRefusedBy input code

-- what is true of an input accepts it, and says what it claims; or it refuses it, and says the code of the fault by which it is refused
abbrev pub VerdictsAcceptOrRefuse : Type 0
VerdictsAcceptOrRefuse =
    (input : List ℕ) (d : Data)
    → IsTrueVerdict input d
    → (HasStatus d (codes "accepted") × SaysClaim input d) ⊎ (HasStatus d (codes "refused") × ((code : List ℕ) × SaysText d (codes "fault") code × IsCertificateRefusedBy input code))

-- an input with a first fault is refused only with this fault's code
abbrev pub FaultyInputsHaveTheirCode : Type 0
FaultyInputsHaveTheirCode = (input code : List ℕ) (fault : FormatFault) → IsFirstFormatFault input fault → IsCertificateRefusedBy input code → code ≡ format_code fault

-- the first cause against a certificate with these tables has this code
pub record HasFirstCause (c : CertificateModel) (tables : BoundModel) (code : List ℕ) : Type 0 where
  pub refusal : Refusal
  pub first : IsFirstRefusal c tables refusal
  pub told : code ≡ refusal_code refusal

-- with the tables of its groups the first cause against it has this code
pub record HasCause (c : CertificateModel) (code : List ℕ) : Type 0 where
  pub tables : BoundModel
  pub built : AreBuiltFor c tables
  pub cause : HasFirstCause c tables code

-- an input that is a certificate is refused only with the code of the first cause against it, with the tables of its groups
abbrev pub RefusedCertificatesHaveACause : Type 0
RefusedCertificatesHaveACause = (input code : List ℕ) (c : CertificateModel) → certificate input ≡ Ok (c, []) → IsCertificateRefusedBy input code → HasCause c code

-- what is wrong with an input that is to be drawn has the code of the first fault of its bytes
abbrev pub MistakenInputsHaveTheirCode : Type 0
MistakenInputsHaveTheirCode = (input code : List ℕ) (fault : FormatFault) → IsFirstFormatFault input fault → IsMistaken input code → code ≡ format_code fault

-- or of the first cause against the certificate that it is, with any tables
abbrev pub MistakenCertificatesHaveACause : Type 0
MistakenCertificatesHaveACause =
    (input code : List ℕ) (c : CertificateModel) (tables : BoundModel) → certificate input ≡ Ok (c, []) → IsMistaken input code → HasFirstCause c tables code

-- where the input is known and the sink was empty, a check that ends well leaves there one line with its line feed, which is read as JSON and
-- says the truth of the input
abbrev pub VerdictsAreWritten : Type 0
VerdictsAreWritten =
    (source : Change SourceState) (sink : Change SinkState) (status : ℕ) (input : List ℕ)
    → source.before.left ≡ Some input
    → sink.before.contents ≡ Some []
    → IsTrueCheck source sink (Ok status)
    → (line : List ℕ) × (d : Data) × (sink.after.contents ≡ Some (line ++ 10 ∷ [])) × Reads line d × IsTrueVerdict input d

-- an upgrade that ends well leaves there the spelling of the certificate in version 2, with the status 0, or nothing, with the status 5
abbrev pub UpgradesAreWritten : Type 0
UpgradesAreWritten =
    (source : Change SourceState) (sink : Change SinkState) (status : ℕ) (input : List ℕ)
    → source.before.left ≡ Some input
    → sink.before.contents ≡ Some []
    → IsTrueUpgrade source sink (Ok status)
    → ((c : CertificateModel) × (certificate input ≡ Ok (c, [])) × (sink.after.contents ≡ Some (spelling (upgraded c))) × (status ≡ 0))
    ⊎ ((fault : FormatFault) × IsFirstFormatFault input fault × (sink.after.contents ≡ Some []) × (status ≡ 5))

-- and a run that draws leaves there the drawing of the certificate, with the status 0, or the report of what is wrong, with the status 5
abbrev pub DrawingsAreWritten : Type 0
DrawingsAreWritten =
    (style : Style) (source : Change SourceState) (sink : Change SinkState) (status : ℕ) (input : List ℕ)
    → source.before.left ≡ Some input
    → sink.before.contents ≡ Some []
    → IsTrueShow style source sink (Ok status)
    → ((c : CertificateModel) × (drawing : List ℕ) × (certificate input ≡ Ok (c, [])) × ItsPlanLeads c × IsDrawing style c drawing × (sink.after.contents ≡ Some drawing) × (status ≡ 0))
    ⊎ ((code : List ℕ) × IsMistaken input code × (sink.after.contents ≡ Some (report_text (refused_certificate_data code))) × (status ≡ 5))

-- a run that draws and ends by another fault than one of writing leaves the sink as it was
abbrev pub OtherFaultsDrawNothing : Type 0
OtherFaultsDrawNothing = (style : Style) (source : Change SourceState) (sink : Change SinkState) (fault : CheckFault) → fault ≢ check.Write → Shows style source sink (Err fault) → sink.after ≡ sink.before

-- and so does one that upgrades
abbrev pub OtherFaultsUpgradeNothing : Type 0
OtherFaultsUpgradeNothing = (source : Change SourceState) (sink : Change SinkState) (fault : UpgradeFault) → fault ≢ upgrade.CertificateWrite → Upgrades source sink (Err fault) → sink.after ≡ sink.before

-- where the input is known and the sink was empty, a check whose line can't be written leaves a beginning of a line that is read as JSON and
-- says the truth of the input
abbrev pub EarlyVerdictsBegin : Type 0
EarlyVerdictsBegin =
    (source : Change SourceState) (sink : Change SinkState) (input : List ℕ)
    → source.before.left ≡ Some input
    → sink.before.contents ≡ Some []
    → Checks source sink (Err check.Write)
    → (line written unwritten : List ℕ) × (d : Data) × (sink.after.contents ≡ Some written) × (line ++ 10 ∷ [] ≡ written ++ unwritten) × Reads line d × IsTrueVerdict input d

-- an upgrade that can't be written leaves a beginning of the spelling of the certificate in version 2
abbrev pub EarlyUpgradesBegin : Type 0
EarlyUpgradesBegin =
    (source : Change SourceState) (sink : Change SinkState) (input : List ℕ)
    → source.before.left ≡ Some input
    → sink.before.contents ≡ Some []
    → Upgrades source sink (Err upgrade.CertificateWrite)
    → (c : CertificateModel) × (written unwritten : List ℕ) × (certificate input ≡ Ok (c, [])) × (sink.after.contents ≡ Some written) × (spelling (upgraded c) ≡ written ++ unwritten)

-- and a run that draws leaves a beginning of the drawing of the certificate, or of the report of what is wrong
abbrev pub EarlyDrawingsBegin : Type 0
EarlyDrawingsBegin =
    (style : Style) (source : Change SourceState) (sink : Change SinkState) (input : List ℕ)
    → source.before.left ≡ Some input
    → sink.before.contents ≡ Some []
    → Shows style source sink (Err check.Write)
    → (output written unwritten : List ℕ) × (sink.after.contents ≡ Some written) × (output ≡ written ++ unwritten)
    × (((c : CertificateModel) × (certificate input ≡ Ok (c, [])) × ItsPlanLeads c × IsDrawing style c output) ⊎ ((code : List ℕ) × IsMistaken input code × (output ≡ report_text (refused_certificate_data code))))

-- memory is refused for a report of a known input only where something is wrong with it, and for the drawing of what was read only where its plan leads
abbrev pub DrawingsLackTheirOwn : Type 0
DrawingsLackTheirOwn =
    ((style : Style) (source : Change SourceState) (sink : Change SinkState) (lacking : NoReport) (input : List ℕ)
    → source.before.left ≡ Some input → Shows style source sink (Err (check.Memory lacking)) → (code : List ℕ) × IsMistaken input code)
    × ((style : Style) (sink : Change SinkState) (refused : OutOfMemory) (c : CertificateModel) → EndsShow style (Ok c) sink (Err (check.CertificateMemory refused)) → ItsPlanLeads c)

-- memory is refused for a report of the first line only where something may be reported of the board that the line names, if it names one
abbrev pub ReportsLackTheirOwn : ProofRules → Type 0
ReportsLackTheirOwn rules =
    (split : PartitionModel) (source : Change SourceState) (sink : Change SinkState) (lacking : NoReport)
    → Replies split rules source sink (Err (certify.Memory lacking))
    → (first : HasFirst source) × ((id : List ℕ) (b : BoardModel) → Names rules.grid first.line id b → (ending : Option Ending) × (report_rules rules).allows b ending)

-- Where the input is known and the sink was empty, a run whose certificate can't be written leaves a beginning of it. The certificate is one of
-- the board that the board line names: the first line that isn't passed over.
abbrev pub EarlyCertificatesBegin : ProofRules → Type 0
EarlyCertificatesBegin rules =
    (split : PartitionModel) (source : Change SourceState) (sink : Change SinkState) (input : List ℕ)
    → source.before.left ≡ Some input
    → sink.before.contents ≡ Some []
    → Replies split rules source sink (Err certify.CertificateWrite)
    → (lines more : List (List ℕ)) × (n : ℕ) × (line id written unwritten : List ℕ) × (b : BoardModel) × (c : CertificateModel)
    × (lines_of input ≡ lines ++ more) × (questions 1 lines ≡ (n, line) ∷ []) × Names rules.grid line id b × (sink.after.contents ≡ Some written)
    × CertifiesTruly split (rules.task b) c (written ++ unwritten)

-- and one whose report can't be written leaves a beginning of a report that tells the truth of that line
abbrev pub EarlyReportsBegin : ProofRules → Type 0
EarlyReportsBegin rules =
    ProvesTruly rules
    → (split : PartitionModel) (source : Change SourceState) (sink : Change SinkState) (input : List ℕ)
    → source.before.left ≡ Some input
    → sink.before.contents ≡ Some []
    → Replies split rules source sink (Err certify.Write)
    → (lines more : List (List ℕ)) × (n : ℕ) × (line written unwritten : List ℕ)
    × (lines_of input ≡ lines ++ more) × (questions 1 lines ≡ (n, line) ∷ []) × (sink.after.contents ≡ Some written)
    × TellsTheTruth (report_rules rules) lines (written ++ unwritten)

-- The status is 0 where nothing is written since no line asks, where a certificate claims a plan, and where a report says that there is none.
-- It is 1 where a certificate claims a bound, and where a report says a bound or refuses the line.
abbrev pub StatusTellsOutput : List (List ℕ) → List ℕ → ℕ → Type 0
StatusTellsOutput lines output status =
    ((questions 1 lines ≡ []) × (output ≡ []) × (status ≡ 0))
    ⊎ ((c : CertificateModel) × (certificate output ≡ Ok (c, [])) × (status ≡ 0 ↔ IsSome c.plan) × (status ≡ 1 ↔ (c.plan ≡ None)))
    ⊎ ((d : Data) × IsReply output 0 d × ((HasStatus d (codes "unsolvable") × (status ≡ 0)) ⊎ ((HasStatus d (codes "bounded") ⊎ HasStatus d (codes "refused")) × (status ≡ 1))))

-- where the input is known and the sink was empty, the status of a run that ends well says so of what the sink holds
abbrev pub AnswerStatusesTell : ProofRules → Type 0
AnswerStatusesTell rules =
    (split : PartitionModel) (source : Change SourceState) (sink : Change SinkState) (status : ℕ) (input : List ℕ)
    → source.before.left ≡ Some input
    → sink.before.contents ≡ Some []
    → Replies split rules source sink (Ok status)
    → (lines more : List (List ℕ)) × (output : List ℕ) × (lines_of input ≡ lines ++ more) × (sink.after.contents ≡ Some output) × StatusTellsOutput lines output status

-- the line that a check of a known input leaves says `accepted` with the status 0, or `refused` with the status 5
abbrev pub VerdictStatusesTell : Type 0
VerdictStatusesTell =
    (source : Change SourceState) (sink : Change SinkState) (status : ℕ) (input : List ℕ)
    → source.before.left ≡ Some input
    → sink.before.contents ≡ Some []
    → Checks source sink (Ok status)
    → (line : List ℕ) × (d : Data) × (sink.after.contents ≡ Some (line ++ 10 ∷ [])) × Reads line d
    × ((HasStatus d (codes "accepted") × (status ≡ 0)) ⊎ (HasStatus d (codes "refused") × (status ≡ 5)))

-- where a check ends with the status 0, whatever the source is, a certificate was read of it that is proved with the tables of its groups; no
-- plan costs less than it states, and a claimed plan is least
abbrev pub ChecksAcceptWhatIsProved : Type 0
ChecksAcceptWhatIsProved =
    (source : Change SourceState) (sink : Change SinkState)
    → Checks source sink (Ok 0)
    → (c : CertificateModel) × (tables : BoundModel) × ReadsCertificate source (Ok c) × AreBuiltFor c tables × IsProved c tables
    × NothingBelow c.costs c.start c.goal c.cost
    × (IsSome c.plan → IsLeast c.costs c.start c.goal c.cost)

-- and where it ends with another status, a fault of the bytes was read, or a certificate that is refused with the tables of its groups
abbrev pub ChecksRefuseForACause : Type 0
ChecksRefuseForACause =
    (source : Change SourceState) (sink : Change SinkState) (status : ℕ)
    → status ≢ 0
    → Checks source sink (Ok status)
    → ((fault : FormatFault) × ReadsCertificate source (Err (Format fault)))
    ⊎ ((c : CertificateModel) × (tables : BoundModel) × (refusal : Refusal) × ReadsCertificate source (Ok c) × AreBuiltFor c tables × IsFirstRefusal c tables refusal)

-- a check accepts a certificate that says the truth of a task as a run that answers a line writes it
abbrev pub CertificatesAreAccepted : Type 0
CertificatesAreAccepted =
    (split : PartitionModel) (task : Task) (c : CertificateModel) (source : Change SourceState) (sink : Change SinkState) (status : ℕ) (input : List ℕ)
    → CertifiesTruly split task c input
    → source.before.left ≡ Some input
    → Checks source sink (Ok status)
    → status ≡ 0

-- and a run that draws draws it
abbrev pub CertificatesAreDrawn : Type 0
CertificatesAreDrawn =
    (split : PartitionModel) (task : Task) (c : CertificateModel) (style : Style) (source : Change SourceState) (sink : Change SinkState) (status : ℕ) (input : List ℕ)
    → CertifiesTruly split task c input
    → source.before.left ≡ Some input
    → Shows style source sink (Ok status)
    → status ≡ 0

-- and where the sink was empty, one that upgrades leaves the same bytes there
abbrev pub CertificatesAreKept : Type 0
CertificatesAreKept =
    (split : PartitionModel) (task : Task) (c : CertificateModel) (source : Change SourceState) (sink : Change SinkState) (status : ℕ) (input : List ℕ)
    → CertifiesTruly split task c input
    → source.before.left ≡ Some input
    → sink.before.contents ≡ Some []
    → Upgrades source sink (Ok status)
    → (sink.after.contents ≡ Some input) × (status ≡ 0)

-- the two together: what a run that answers a line writes is taken by the other runs as it is
pub record CertificatesAreTakenAsWritten : Type 0 where
  pub drawn : CertificatesAreDrawn
  pub kept : CertificatesAreKept

-- these are the bytes that were taken of a source, and those that are left
abbrev pub HasTaken : Change SourceState → List ℕ → List ℕ → Type 0
HasTaken source bytes left = (source.before.left ≡ Some (bytes ++ left)) × (source.after.left ≡ Some left)

-- A run over a certificate says that memory was refused for it only where the bytes that were taken have no fault, except that they may be cut
-- off. One that upgrades takes memory only for reading, so they are cut off.
pub record MemoryHidesNoFault : Type 0 where
  pub checks : (source : Change SourceState) (sink : Change SinkState) (refused : OutOfMemory) (bytes left : List ℕ) → HasTaken source bytes left → Checks source sink (Err (check.CertificateMemory refused)) → HasNoFault certificate bytes
  pub shows : (style : Style) (source : Change SourceState) (sink : Change SinkState) (refused : OutOfMemory) (bytes left : List ℕ) → HasTaken source bytes left → Shows style source sink (Err (check.CertificateMemory refused)) → HasNoFault certificate bytes
  pub upgrades : (source : Change SourceState) (sink : Change SinkState) (refused : OutOfMemory) (bytes left : List ℕ) → HasTaken source bytes left → Upgrades source sink (Err (upgrade.CertificateMemory refused)) → IsFirstFormatFault bytes Truncated

-- a run over a certificate says that it can't be read exactly where the source has failed
abbrev pub FailedCertificatesAreTold : Type 0
FailedCertificatesAreTold =
    ((source : Change SourceState) (sink : Change SinkState) (result : Result ℕ CheckFault) → Checks source sink result → result ≡ Err check.CertificateRead ↔ (source.after.has_failed ≡ true))
    × ((style : Style) (source : Change SourceState) (sink : Change SinkState) (result : Result ℕ CheckFault) → Shows style source sink result → result ≡ Err check.CertificateRead ↔ (source.after.has_failed ≡ true))
    × ((source : Change SourceState) (sink : Change SinkState) (result : Result ℕ UpgradeFault) → Upgrades source sink result → result ≡ Err upgrade.CertificateRead ↔ (source.after.has_failed ≡ true))

-- a run whose output can't be written leaves a sink that has failed, and no other run lets it fail
abbrev pub FailedVerdictsAreTold : Type 0
FailedVerdictsAreTold =
    ((source : Change SourceState) (sink : Change SinkState) → Checks source sink (Err check.Write) → sink.after.has_failed ≡ true)
    × ((source : Change SourceState) (sink : Change SinkState) (result : Result ℕ CheckFault) → result ≢ Err check.Write → Checks source sink result → sink.after.has_failed ≡ sink.before.has_failed)
    × ((style : Style) (source : Change SourceState) (sink : Change SinkState) → Shows style source sink (Err check.Write) → sink.after.has_failed ≡ true)
    × ((style : Style) (source : Change SourceState) (sink : Change SinkState) (result : Result ℕ CheckFault) → result ≢ Err check.Write → Shows style source sink result → sink.after.has_failed ≡ sink.before.has_failed)
    × ((source : Change SourceState) (sink : Change SinkState) → Upgrades source sink (Err upgrade.CertificateWrite) → sink.after.has_failed ≡ true)
    × ((source : Change SourceState) (sink : Change SinkState) (result : Result ℕ UpgradeFault) → result ≢ Err upgrade.CertificateWrite → Upgrades source sink result → sink.after.has_failed ≡ sink.before.has_failed)

-- a run that answers a line says that the input can't be read where the source has failed; it says so of an input within the limit only there
abbrev pub FailedLinesAreTold : ProofRules → Type 0
FailedLinesAreTold rules =
    ((split : PartitionModel) (source : Change SourceState) (sink : Change SinkState) (input : List ℕ)
    → source.before.left ≡ Some input → length input ≤ INPUT_LIMIT → Replies split rules source sink (Err certify.Read) → source.after.has_failed ≡ true)
    × ((split : PartitionModel) (source : Change SourceState) (sink : Change SinkState) (result : Result ℕ CertifyFault) → result ≢ Err certify.Read → Replies split rules source sink result → source.after.has_failed ≡ false)

-- where its reply can't be written the sink has failed, and no other run lets it fail
abbrev pub FailedRepliesAreTold : ProofRules → Type 0
FailedRepliesAreTold rules =
    ((split : PartitionModel) (source : Change SourceState) (sink : Change SinkState) (fault : CertifyFault)
    → (fault ≡ certify.Write) ⊎ (fault ≡ certify.CertificateWrite) → Replies split rules source sink (Err fault) → sink.after.has_failed ≡ true)
    × ((split : PartitionModel) (source : Change SourceState) (sink : Change SinkState) (result : Result ℕ CertifyFault)
    → result ≢ Err certify.Write → result ≢ Err certify.CertificateWrite → Replies split rules source sink result → sink.after.has_failed ≡ sink.before.has_failed)

-- where some line of a known input asks, a run that ends well takes the lines up to the first such line, and leaves those behind it
abbrev pub NothingBehindIsTaken : ProofRules → Type 0
NothingBehindIsTaken rules =
    (split : PartitionModel) (source : Change SourceState) (sink : Change SinkState) (status : ℕ) (input rest : List ℕ)
    → source.before.left ≡ Some input
    → source.after.left ≡ Some rest
    → questions 1 (lines_of input) ≢ []
    → Replies split rules source sink (Ok status)
    → (lines : List (List ℕ)) × (n : ℕ) × (line : List ℕ) × (lines_of input ≡ lines ++ lines_of rest) × (questions 1 lines ≡ (n, line) ∷ [])
