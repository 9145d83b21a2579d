-- What a reader of the program's output may believe.
use Rattle.std.specs.Prelude.{ℕ, ◌≡◌, ◌<◌, ◌⊎◌, List, [], Ok, IfSome, string_bytes}
use Rattle.byte_streams.specs.Streams.{SourceState, SinkState, Change}
use Rattle.byte_streams.specs.Sink.{Puts}
use Rattle.memory.specs.declared.OutOfMemory.{OutOfMemory}
use Rattle.clap.specs.Words.{Text}
use Rattle.board.specs.Boards.{BoardModel}
use Rattle.board_lists.specs.Lines.{lines_text}
use Rattle.board_lists.specs.Lists.{AreChosen}
use Rattle.board.specs.Plans.{Leads, NothingBelow, IsLeast}
use Rattle.certificate.specs.Certificates.{CertificateModel}
use Rattle.certificate.specs.Readings.{certificate}
use Rattle.batch_runs.specs.Headline.{WritesTruth, BeginsTruth}
use Rattle.batch_runs.specs.Setups.{SetupModel}
use Rattle.certificate_runs.specs.Headline.{WritesAnswer, WritesVerdict, IsCertificateRefusedBy, WritesUpgrade, WritesShow}
use Rattle.certificate_runs.specs.Checking.{claim_data}
use Rattle.batch_runs.specs.Reports.{refused_certificate_data, report_text}
use Rattle.drawings.specs.declared.drawing.Style.{Style}
use Rattle.replay_runs.specs.Replays.{Jobs, WritesNothing, WritesRefusal, WritesPlay}
use Rattle.replay_runs.specs.Openings.{setup_jobs}
use Rattle.setup_runs.specs.Solving.{rules_of, certifying_rules_of}
use Rattle.command_line.specs.declared.faults.NoRequest.{NoRequest}
use Rattle.command_line.specs.declared.requests.Request.{Request}
use Rattle.command_line.specs.declared.requests.Request.TheVariants.{Solve, Certify, Check, Draw, Upgrade, Replay, Boards, Help, Version}
use Rattle.command_line.specs.Faults.{refusal_status}
use Rattle.command_line.specs.Requests.{WordsAsk, WordsFail}
use Rattle.batch_cli.specs.Setups.{IsSetupOf, IsDefaultSetup}
use Rattle.batch_cli.specs.declared.endings.Ending.{Ending}
use Rattle.batch_cli.specs.Endings.{Tells, HasNotBegun}
use Rattle.batch_cli.specs.Programs.{IsUnused, EndsBy}

-- For some default setup a beginning was written of an output that tells the truth of the first lines of the input. With the status 0 or 1 an
-- output was written that tells the truth of all lines. With 0 none of them is bounded or refused.
abbrev pub IsTrue : ℕ → Change SourceState → Change SinkState → Type 0
IsTrue status source sink =
    (setup : SetupModel) × IsDefaultSetup setup × BeginsTruth (rules_of setup) source sink × (status < 2 → WritesTruth (rules_of setup) source sink status)

-- The input is a certificate, no plan from its start to its goal costs less than it states, and where it states a plan, that leads there at
-- its cost, which is the least. The report of this cost, or of this bound, was written.
abbrev pub StatesTruth : Change SinkState → List ℕ → Type 0
StatesTruth sink input =
    (c : CertificateModel)
    × (certificate input ≡ Ok (c, []))
    × NothingBelow c.costs c.start c.goal c.cost
    × IfSome c.plan (λ plan. Leads c.costs c.start plan c.goal c.cost × IsLeast c.costs c.start c.goal c.cost)
    × Puts sink (report_text (claim_data c.plan c.cost))

-- a true verdict on the input was written with the status 0 or 5; with 0 it states the truth, with 5 it is refused, and the report says this
pub record JudgesTruly (status : ℕ) (sink : Change SinkState) (input : List ℕ) : Type 0 where
  pub verdict : (status ≡ 0) ⊎ (status ≡ 5) → WritesVerdict sink input
  pub accepted : status ≡ 0 → StatesTruth sink input
  pub refused : status ≡ 5 → (code : List ℕ) × IsCertificateRefusedBy input code × Puts sink (report_text (refused_certificate_data code))

-- with the status 0 the input is a certificate, and its spelling in version 2 was written; with 5 it is none, and nothing was written
abbrev pub UpgradesTruly : ℕ → Change SinkState → List ℕ → Type 0
UpgradesTruly status sink input = (status ≡ 0) ⊎ (status ≡ 5) → WritesUpgrade sink status input

-- with the status 0 the input is a certificate whose plan leads, if there is one, and its drawing was written; with 5 its first fault was reported
abbrev pub DrawsTruly : Style → ℕ → Change SinkState → List ℕ → Type 0
DrawsTruly style status sink input = (status ≡ 0) ⊎ (status ≡ 5) → WritesShow style sink status input

-- the answers to a board line and to the lines of steps behind it were written, as the status says
abbrev pub WritesReplay : Jobs → Change SourceState → Change SinkState → ℕ → Type 0
WritesReplay jobs source sink status = WritesNothing source sink status ⊎ WritesRefusal jobs source sink status ⊎ WritesPlay jobs source sink status

-- What is written for a request is true. Reports of boards are true as in a run without arguments, for a setup that the options say. A
-- certificate, a verdict, a drawing, an upgrade, a replay, a list of boards and a text are true where the run ends well.
abbrev pub IsTrueOf : Request → ℕ → Change SourceState → Change SinkState → Type 0
IsTrueOf (Solve o) status source sink =
    (setup : SetupModel) × IsSetupOf o setup × BeginsTruth (rules_of setup) source sink × (status < 2 → WritesTruth (rules_of setup) source sink status)
IsTrueOf (Certify o) status source sink = (setup : SetupModel) × IsSetupOf o setup × (status < 2 → WritesAnswer setup.tables.split (certifying_rules_of setup) source sink)
IsTrueOf Check status source sink = IfSome source.before.left (JudgesTruly status sink)
IsTrueOf (Draw style) status source sink = IfSome source.before.left (DrawsTruly style status sink)
IsTrueOf Upgrade status source sink = IfSome source.before.left (UpgradesTruly status sink)
IsTrueOf (Replay o) status source sink = (setup : SetupModel) × IsSetupOf o setup × (status < 2 → WritesReplay (setup_jobs setup) source sink status)
IsTrueOf (Boards l) status source sink = status ≡ 0 → (boards : List BoardModel) × AreChosen l.goal l.choice boards × Puts sink (lines_text 1 boards)
IsTrueOf (Help text) status source sink = status ≡ 0 → Puts sink (string_bytes text)
IsTrueOf (Version text) status source sink = status ≡ 0 → Puts sink (string_bytes text)

-- What arguments ask for is answered truly, or memory was refused for its tables. Or they ask for nothing, as the status says. Where nothing is
-- answered, nothing is read or written.
abbrev pub IsTrueBy : List Text → ℕ → Change SourceState → Change SinkState → Type 0
IsTrueBy words status source sink =
    ((request : Request) × WordsAsk words request × (IsTrueOf request status source sink ⊎ (OutOfMemory × (status ≡ 4) × IsUnused source sink)))
    ⊎ ((refusal : NoRequest) × WordsFail words refusal × (status ≡ refusal_status refusal) × IsUnused source sink)

-- A run of the program with these arguments: what it did to its streams, and its exit status. `Flushed` says that the sink is flushed at the end
-- or has failed, `Untouched` that neither the source nor the sink was used. Just a run that has not begun leaves them so.
pub record RunsProgram (words : List Text) (source : Change SourceState) (sink errors : Change SinkState) (status : ℕ) (Flushed Untouched : Type 0) : Type 0 where
  pub ended : (ending : Ending) × Tells errors ending status × EndsBy words source sink ending × ((Flushed × (¬ HasNotBegun ending)) ⊎ (HasNotBegun ending × Untouched))
  pub truth : IsTrueBy words status source sink
  pub batch : words ≡ [] → (Flushed × IsTrue status source sink) ⊎ (OutOfMemory × (status ≡ 4) × Untouched)
  pub flushed : Flushed ⊎ Untouched
