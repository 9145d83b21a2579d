-- What is written for the first line of an input that isn't passed over: a certificate, or a report.
use Rattle.std.specs.Prelude.{ℕ, ◌≡◌, ◌⊎◌, ◌+◌, ◌≤◌, List, length, Option, None, Some, Result, Ok, Err, IfSome, IsSome, string_bytes, ⊤}
use Rattle.byte_streams.specs.Streams.{SourceState, SinkState, Change}
use Rattle.byte_streams.specs.Sink.{WritesAll, FailsWriting}
use Rattle.board.specs.declared.moves.Move.{Move}
use Rattle.board.specs.Boards.{BoardModel}
use Rattle.board.specs.declared.costs.TheConstants.{GREATEST_COST}
use Rattle.board.specs.Plans.{Leads, NothingBelow}
use Rattle.batch_lines.specs.Lines.{without_return, line_kind_of}
use Rattle.batch_lines.specs.Words.{IsEntry, IsFirstEntryFault}
use Rattle.batch_lines.specs.declared.words.EntryFault.{EntryFault}
use Rattle.batch_lines.specs.declared.lines.LineKind.{LineKind}
use Rattle.batch_lines.specs.declared.lines.Line.{Line}
use Rattle.batch_lines.specs.declared.lines.LineKind.TheVariants.{PassedOver, TooLong, Within}
use Rattle.certificate.specs.declared.certificate.Version.TheVariants.{Two}
use Rattle.certificate.specs.Certificates.{CertificateModel, IsCertificate}
use Rattle.certificate.specs.Spellings.{spelling}
use Rattle.certificate_check.specs.Refusals.{ItsPlanLeads, IsProved}
use Rattle.pattern_index.specs.Partitions.{PartitionModel}
use Rattle.outcomes.specs.declared.outcome.Ending.{Ending}
use Rattle.outcomes.specs.declared.outcome.Ending.TheVariants.{Optimal, Unsolvable, Bounded}
use Rattle.outcomes.specs.declared.outcome.Outcome.{Outcome}
use Rattle.outcomes.specs.Endings.{without_rows}
use Rattle.outcomes.specs.Outcomes.{Task, AreRowsOf, IsAboveSums, StandsAlone}
use Rattle.batch_runs.specs.Batches.{Answer, AnswersKind, TakesSome, IsReadable, answer_text, with_answer, no_lines, status_of_counts}
use Rattle.batch_runs.specs.Batches.Answer.{passed_over, refused, answered}
use Rattle.batch_runs.specs.FirstLines.{FindsFirst, PassesAll, LosesFirst}
use Rattle.batch_runs.specs.Setups.{SetupModel, task_of_setup}
use Rattle.lower_bound.specs.Tables.{BoundModel}
use Rattle.certificate_runs.specs.Outputs.{Output, IsUntouched}
use Rattle.certificate_runs.specs.Rules.{ProofRules, ProvesTruly, MayReport, rows_of, report_rules}
use Rattle.certificate_runs.specs.Built.{AreBuiltFor}
use Rattle.certificate_runs.specs.declared.certifying.Made.{Made}
use Rattle.certificate_runs.specs.declared.certifying.Made.TheVariants.{Certificate, Plain}
use Rattle.certificate_runs.specs.declared.certifying.Reply.{Reply}
use Rattle.certificate_runs.specs.declared.certifying.Reply.TheVariants.{Certified, Reported}
use Rattle.certificate_runs.specs.declared.faults.CertifyFault.{CertifyFault}
use Rattle.certificate_runs.specs.declared.faults.CertifyFault.TheVariants.{Read, Write, Memory, GroupsMemory, CertificateWrite}

-- these rules are of a prover of the setup's boards, whose outcomes answer what is asked
pub record AreRulesFor (setup : SetupModel) (rules : ProofRules) : Type 0 where
  pub grid : rules.grid ≡ setup.goal.grid
  pub task : rules.task ≡ task_of_setup setup
  pub truthful : ProvesTruly rules

-- A certificate that answers this task with these groups. Its plan, if it claims one, leads from the start to the goal at its cost, and no
-- plan costs less than it states. Its rows prove that with the sums of the groups' tables, whoever builds them.
pub record IsCertificateOf (split : PartitionModel) (task : Task) (c : CertificateModel) : Type 0 where
  pub sides : c.grid ≡ task.goal.grid
  pub costs : c.costs ≡ task.rule
  pub groups : c.groups ≡ split
  pub start : c.start ≡ task.start
  pub goal : c.goal ≡ task.goal
  pub certificate : IsCertificate c
  pub version : c.version ≡ Two
  pub leads : ItsPlanLeads c
  pub below : NothingBelow c.costs c.start c.goal c.cost
  pub proved : (tables : BoundModel) → AreBuiltFor c tables → IsProved c tables

-- what an outcome that answers the task says of its plan and cost, or of its bound, and of its rows; none of it is above what a certificate can state
pub record IsAnswerOf (task : Task) (cost : ℕ) (plan : Option (List Move)) (listed : List (BoardModel × ℕ)) : Type 0 where
  pub leads : IfSome plan (λ plan. Leads task.rule task.start plan task.goal cost × (cost ≤ GREATEST_COST) × (length plan ≤ GREATEST_COST))
  pub below : NothingBelow task.rule task.start task.goal cost
  pub low : (most : ℕ) → IsAboveSums task most → cost ≤ GREATEST_COST + most
  pub rows : AreRowsOf task listed cost

-- it claims what the ending says: the plan at its cost, or the bound
abbrev pub Claims : CertificateModel → Ending → Type 0
Claims c (Optimal cost plan) = (c.cost ≡ cost) × (c.plan ≡ Some plan.items)
Claims c (Unsolvable why) = ⊥
Claims c (Bounded bound best cause) = (c.cost ≡ bound) × (c.plan ≡ None)

-- a certificate of the board that these bytes name, which claims what an outcome says that it may be answered by, and has the rows of this outcome
abbrev pub IsCertificateFor : PartitionModel → ProofRules → List ℕ → CertificateModel → Type 0
IsCertificateFor split rules bytes c =
    (id : List ℕ) × (b : BoardModel) × (given : Outcome) × IsEntry rules.grid bytes id b × rules.allows b (Some given) × Claims c (without_rows given) × (rows_of given ≡ Some c.rows) × IsCertificateOf split (rules.task b) c

-- what it says can be certified: it has rows, as a plan of least cost or a bound
abbrev pub IsCertifiable : Outcome → Type 0
IsCertifiable given = IsSome (rows_of given)

-- the bytes name a board that may be answered by such an outcome
abbrev pub NamesCertifiable : ProofRules → List ℕ → Type 0
NamesCertifiable rules bytes = (id : List ℕ) × (b : BoardModel) × (given : Outcome) × IsEntry rules.grid bytes id b × rules.allows b (Some given) × IsCertifiable given

-- an ending for which there is no certificate: there is no plan, or a bound without a plan, since memory was refused
abbrev pub IsUncertified : Ending → Type 0
IsUncertified (Optimal cost plan) = ⊥
IsUncertified (Unsolvable why) = ⊤
IsUncertified (Bounded bound best cause) = StandsAlone best cause

-- what becomes of an outcome: a certificate of what it says, or the ending that has none
abbrev pub IsMadeOf : PartitionModel → Task → Outcome → Made → Type 0
IsMadeOf split task given (Certificate c) = Claims c (without_rows given) × (rows_of given ≡ Some c.rows) × IsCertificateOf split task c
IsMadeOf split task given (Plain ending) = (ending ≡ without_rows given) × (rows_of given ≡ None) × IsUncertified ending

-- ---- what is written for a line

-- 0 for a certificate of a plan, 1 for one of a bound
abbrev pub claim_status : Option (List Move) → ℕ
claim_status (Some plan) = 0
claim_status None = 1

-- a certificate and its status
abbrev pub certificate_output : CertificateModel → Output
certificate_output c = record { text = spelling c; status = claim_status c.plan }

-- the certificate of the board that these bytes name, with its status
abbrev pub Certifies : PartitionModel → ProofRules → List ℕ → Output → Type 0
Certifies split rules bytes output = (c : CertificateModel) × IsCertificateFor split rules bytes c × (output ≡ certificate_output c)

-- an answer for which there is no certificate
abbrev pub NeedsReport : Answer → Type 0
NeedsReport passed_over = ⊤
NeedsReport (refused code) = ⊤
NeedsReport (answered id ending) = IsUncertified ending

-- the report of the answer to line n, with the status of a batch of this line alone
abbrev pub report_of : ℕ → Answer → Output
report_of n answer = record { text = answer_text n answer; status = status_of_counts (with_answer no_lines answer) }

-- the report of a line with these bytes, as in a batch, where there is no certificate for the answer
abbrev pub ReportsLine : ProofRules → Line → List ℕ → Output → Type 0
ReportsLine rules line bytes output = (answer : Answer) × AnswersKind (report_rules rules) line.kind bytes answer × NeedsReport answer × (output ≡ report_of line.number answer)

-- the certificate or the report of a line with these bytes
abbrev pub CertifiesLine : PartitionModel → ProofRules → Line → List ℕ → Output → Type 0
CertifiesLine split rules line bytes output = ((line.kind ≡ Within) × Certifies split rules bytes output) ⊎ ReportsLine rules line bytes output

-- the same of what is to be written
abbrev pub IsCertifyReply : PartitionModel → ProofRules → Line → List ℕ → Reply → Type 0
IsCertifyReply split rules line bytes (Certified c) = (line.kind ≡ Within) × IsCertificateFor split rules bytes c
IsCertifyReply split rules line bytes (Reported text status) = ReportsLine rules line bytes (record { text = string_bytes text; status = status })

-- a report is due for a line of this kind with these bytes: it can't be read, or it has a fault, or its board may be answered without rows
abbrev pub IsReportDue : ProofRules → LineKind → List ℕ → Type 0
IsReportDue rules PassedOver bytes = ⊥
IsReportDue rules TooLong bytes = ⊤
IsReportDue rules Within bytes =
    ((fault : EntryFault) × IsFirstEntryFault rules.grid bytes fault) ⊎ ((id : List ℕ) × (b : BoardModel) × (ending : Option Ending) × IsEntry rules.grid bytes id b × MayReport rules b ending)

-- why there is none: memory was refused for the report that is due, or for the groups of a certificate
abbrev pub HasNoReply : ProofRules → Line → List ℕ → CertifyFault → Type 0
HasNoReply rules line bytes Read = ⊥
HasNoReply rules line bytes Write = ⊥
HasNoReply rules line bytes (Memory lacking) = IsReportDue rules line.kind bytes
HasNoReply rules line bytes (GroupsMemory wanting) = (line.kind ≡ Within) × NamesCertifiable rules bytes
HasNoReply rules line bytes CertificateWrite = ⊥

-- what is written of a reply, and its status
abbrev pub reply_output : Reply → Output
reply_output (Certified c) = certificate_output c
reply_output (Reported text status) = record { text = string_bytes text; status = status }

-- the fault of writing a reply
abbrev pub write_fault : Reply → CertifyFault
write_fault (Certified c) = CertificateWrite
write_fault (Reported text status) = Write

-- a reply is written whole, and its status answered; or the sink has failed
abbrev pub PutsReply : Change SinkState → Reply → Result ℕ CertifyFault → Type 0
PutsReply sink reply (Ok status) = WritesAll sink (reply_output reply).text × (status ≡ (reply_output reply).status)
PutsReply sink reply (Err fault) = FailsWriting sink (reply_output reply).text × (fault ≡ write_fault reply)

-- the report of line n, which is refused by a fault with this code
abbrev pub IsRefusalReply : List ℕ → ℕ → Reply → Type 0
IsRefusalReply code n reply = reply_output reply ≡ report_of n (refused code)

-- ---- the first line that isn't passed over

-- it is found behind some lines that are passed over, and nothing behind it is taken
pub record HasFirst (source : Change SourceState) : Type 0 where
  pub passed : List (List ℕ)
  pub line : List ℕ
  pub finds : FindsFirst source passed line

-- its number, and what is to be done with it
abbrev pub first_line : (source : Change SourceState) → HasFirst source → Line
first_line source first = record { number = length first.passed + 1; kind = line_kind_of first.line }

-- ---- how the run ends

-- this is written for the first line
abbrev pub RepliesToFirst : PartitionModel → ProofRules → Change SourceState → Output → Type 0
RepliesToFirst split rules source output = (first : HasFirst source) × CertifiesLine split rules (first_line source first) (without_return first.line) output

abbrev pub ReportsFirstBoard : ProofRules → Change SourceState → Output → Type 0
ReportsFirstBoard rules source output = (first : HasFirst source) × ReportsLine rules (first_line source first) (without_return first.line) output

abbrev pub CertifiesFirst : PartitionModel → ProofRules → Change SourceState → Output → Type 0
CertifiesFirst split rules source output = (first : HasFirst source) × (line_kind_of first.line ≡ Within) × Certifies split rules (without_return first.line) output

-- there is no reply to the first line, by this fault
abbrev pub LacksReply : ProofRules → Change SourceState → CertifyFault → Type 0
LacksReply rules source fault = (first : HasFirst source) × HasNoReply rules (first_line source first) (without_return first.line) fault

-- How the run ends. All lines are passed over, and nothing is written; or the first other one is replied to. Else the line was lost, or memory
-- was refused, and nothing was written; or writing failed.
abbrev pub EndsReplying : PartitionModel → ProofRules → Change SourceState → Change SinkState → Result ℕ CertifyFault → Type 0
EndsReplying split rules source sink (Ok status) =
    IsReadable source × ((PassesAll source × IsUntouched sink × (status ≡ 0)) ⊎ ((output : Output) × RepliesToFirst split rules source output × WritesAll sink output.text × (status ≡ output.status)))
EndsReplying split rules source sink (Err Read) = LosesFirst source × IsUntouched sink
EndsReplying split rules source sink (Err Write) = IsReadable source × ((output : Output) × ReportsFirstBoard rules source output × FailsWriting sink output.text)
EndsReplying split rules source sink (Err (Memory lacking)) = IsReadable source × LacksReply rules source (Memory lacking) × IsUntouched sink
EndsReplying split rules source sink (Err (GroupsMemory wanting)) = IsReadable source × LacksReply rules source (GroupsMemory wanting) × IsUntouched sink
EndsReplying split rules source sink (Err CertificateWrite) = IsReadable source × ((output : Output) × CertifiesFirst split rules source output × FailsWriting sink output.text)

-- some bytes were taken, from the front, and the run ends so
abbrev pub Replies : PartitionModel → ProofRules → Change SourceState → Change SinkState → Result ℕ CertifyFault → Type 0
Replies split rules source sink result = TakesSome source × EndsReplying split rules source sink result
