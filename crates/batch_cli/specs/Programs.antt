-- What the program does for arguments, and how it ends.
use Rattle.std.specs.Prelude.{ℕ, ◌≡◌, ◌⊎◌, List, Result, Ok, Err, ⊤, Bool, true, false, string_bytes}
use Rattle.byte_streams.specs.Streams.{SourceState, SinkState, Change, from_to}
use Rattle.byte_streams.specs.Sink.{Writes, Flushes}
use Rattle.byte_streams.specs.declared.sink.WriteFailed.{WriteFailed}
use Rattle.memory.specs.declared.OutOfMemory.{OutOfMemory}
use Rattle.clap.specs.Words.{Text}
use Rattle.board_lists.specs.Lists.{AreChosen, MayBeListed, ListsBoards}
use Rattle.command_line.specs.declared.requests.Listing.{Listing}
use Rattle.batch_runs.specs.declared.batch.Summary.{Summary}
use Rattle.batch_runs.specs.declared.faults.LinesFault.{LinesFault}
use Rattle.batch_runs.specs.Batches.{ReportsLines}
use Rattle.batch_runs.specs.Stats.{HandsFigures}
use Rattle.batch_runs.specs.declared.stats.Stats.{Stats}
use Rattle.batch_runs.specs.Setups.{SetupModel}
use Rattle.certificate_runs.specs.declared.faults.CertifyFault.{CertifyFault}
use Rattle.certificate_runs.specs.declared.faults.CheckFault.{CheckFault}
use Rattle.certificate_runs.specs.declared.faults.UpgradeFault.{UpgradeFault}
use Rattle.certificate_runs.specs.Certifying.{Replies}
use Rattle.certificate_runs.specs.Checking.{Checks}
use Rattle.certificate_runs.specs.Showing.{Shows as ShowsCertificate}
use Rattle.certificate_runs.specs.Upgrading.{Upgrades}
use Rattle.drawings.specs.declared.drawing.Style.{Style}
use Rattle.replay_runs.specs.Replays.{Replays}
use Rattle.replay_runs.specs.Openings.{setup_jobs}
use Rattle.setup_runs.specs.Solving.{rules_of, certifying_rules_of, HasStats}
use Rattle.command_line.specs.declared.faults.NoRequest.{NoRequest}
use Rattle.command_line.specs.declared.requests.Options.{Options}
use Rattle.command_line.specs.declared.requests.Request.{Request}
use Rattle.command_line.specs.declared.requests.Request.TheVariants.{Solve, Certify, Check, Draw, Upgrade, Replay, Boards, Help, Version}
use Rattle.command_line.specs.Requests.{WordsAsk, WordsFail}
use Rattle.batch_cli.specs.declared.faults.BatchFault.{BatchFault}
use Rattle.batch_cli.specs.declared.faults.BatchFault.TheVariants.{Write}
use Rattle.batch_cli.specs.declared.commands.Command.{Command}
use Rattle.batch_cli.specs.declared.commands.Command.TheVariants as command
use Rattle.batch_cli.specs.declared.endings.Ending.{Ending}
use Rattle.batch_cli.specs.declared.endings.Ending.TheVariants.{Refused, NoMemory, Ran, Answered, Shown, Faulted}
use Rattle.batch_cli.specs.Faults.{of_lines, of_certify, of_check, of_upgrade}
use Rattle.batch_cli.specs.Setups.{IsSetupOf}

-- nothing was read or written
abbrev pub IsUnused : Change SourceState → Change SinkState → Type 0
IsUnused source sink = (source.after ≡ source.before) × (sink.after ≡ sink.before)

-- ---- runs

-- how the program ends after a run: well, by what the run answers, or by the run's fault
abbrev pub ending_of : {A E : Type 0} → (A → Ending) → (E → BatchFault) → Result A E → Ending
ending_of well early (Ok answer) = well answer
ending_of well early (Err fault) = Faulted (early fault)

-- boards of a setup are solved, and reported line by line
abbrev pub SolvesLines : Change SourceState → SetupModel → Change SinkState → Ending → Type 0
SolvesLines source setup sink ending = (result : Result Summary LinesFault) × ReportsLines (rules_of setup) source sink result × (ending ≡ ending_of Ran of_lines result)

-- the first board is solved, and its certificate is written
abbrev pub CertifiesOne : Change SourceState → SetupModel → Change SinkState → Ending → Type 0
CertifiesOne source setup sink ending = (result : Result ℕ CertifyFault) × Replies setup.tables.split (certifying_rules_of setup) source sink result × (ending ≡ ending_of Answered of_certify result)

-- a certificate is checked
abbrev pub Judges : Change SourceState → Change SinkState → Ending → Type 0
Judges source sink ending = (result : Result ℕ CheckFault) × Checks source sink result × (ending ≡ ending_of Answered of_check result)

-- a certificate is drawn
abbrev pub Draws : Change SourceState → Style → Change SinkState → Ending → Type 0
Draws source style sink ending = (result : Result ℕ CheckFault) × ShowsCertificate style source sink result × (ending ≡ ending_of Answered of_check result)

-- a certificate is written in version 2
abbrev pub Rewrites : Change SourceState → Change SinkState → Ending → Type 0
Rewrites source sink ending = (result : Result ℕ UpgradeFault) × Upgrades source sink result × (ending ≡ ending_of Answered of_upgrade result)

-- steps are taken one by one
abbrev pub TakesSteps : Change SourceState → SetupModel → Change SinkState → Ending → Type 0
TakesSteps source setup sink ending = (result : Result ℕ LinesFault) × Replays (setup_jobs setup) source sink result × (ending ≡ ending_of Answered of_lines result)

-- boards are listed
abbrev pub ListsClass : Listing → Change SinkState → Ending → Type 0
ListsClass l sink ending = (result : Result (Unit {0}) WriteFailed) × ListsBoards (AreChosen l.goal l.choice) sink result × (ending ≡ ending_of (λ done. Shown) (λ failed. Write) result)

-- a text is written
abbrev pub ShowsText : List ℕ → Change SinkState → Ending → Type 0
ShowsText text sink ending = (result : Result (Unit {0}) WriteFailed) × Writes sink text result × (ending ≡ ending_of (λ done. Shown) (λ failed. Write) result)

-- ---- and the flush behind them

-- how the program ends after the flush behind a run: the first fault decides
abbrev pub after_flush : Ending → Result (Unit {0}) WriteFailed → Ending
after_flush ending (Ok done) = ending
after_flush (Faulted fault) (Err failed) = Faulted fault
after_flush _ (Err failed) = Faulted Write

-- the sink is flushed
abbrev pub FlushesBehind : Ending → Change SinkState → Ending → Type 0
FlushesBehind ran sink ending = (flushed : Result (Unit {0}) WriteFailed) × Flushes sink flushed × (ending ≡ after_flush ran flushed)

-- a run, and then the flush of the sink
pub record EndsRun (runs : Change SinkState → Ending → Type 0) (sink : Change SinkState) (ending : Ending) : Type 0 where
  pub between : SinkState
  pub ran : Ending
  pub run : runs (from_to sink.before between) ran
  pub flush : FlushesBehind ran (from_to between sink.after) ending

-- a growth was refused for the tables, before anything was read or written
abbrev pub LacksTables : Change SourceState → Change SinkState → Ending → Type 0
LacksTables source sink ending = (refused : OutOfMemory) × IsUnused source sink × (ending ≡ NoMemory refused)

-- such a run of a setup that the options say, or being out of memory for its tables
abbrev pub EndsSetup : Options → (SetupModel → Change SinkState → Ending → Type 0) → Change SourceState → Change SinkState → Ending → Type 0
EndsSetup o runs source sink ending = ((setup : SetupModel) × IsSetupOf o setup × EndsRun (runs setup) sink ending) ⊎ LacksTables source sink ending

-- ---- arguments

-- how the program ends for what arguments ask for
abbrev pub EndsRequest : Request → Change SourceState → Change SinkState → Ending → Type 0
EndsRequest (Solve o) source sink ending = EndsSetup o (SolvesLines source) source sink ending
EndsRequest (Certify o) source sink ending = EndsSetup o (CertifiesOne source) source sink ending
EndsRequest Check source sink ending = EndsRun (Judges source) sink ending
EndsRequest (Draw style) source sink ending = EndsRun (Draws source style) sink ending
EndsRequest Upgrade source sink ending = EndsRun (Rewrites source) sink ending
EndsRequest (Replay o) source sink ending = EndsSetup o (TakesSteps source) source sink ending
EndsRequest (Boards l) source sink ending = (source.after ≡ source.before) × EndsRun (ListsClass l) sink ending
EndsRequest (Help text) source sink ending = (source.after ≡ source.before) × EndsRun (ShowsText (string_bytes text)) sink ending
EndsRequest (Version text) source sink ending = (source.after ≡ source.before) × EndsRun (ShowsText (string_bytes text)) sink ending

-- How the program ends: as what the arguments ask for ends; or they ask for nothing, and nothing is read or written.
abbrev pub EndsBy : List Text → Change SourceState → Change SinkState → Ending → Type 0
EndsBy words source sink ending =
    ((request : Request) × WordsAsk words request × EndsRequest request source sink ending)
    ⊎ ((refusal : NoRequest) × WordsFail words refusal × IsUnused source sink × (ending ≡ Refused refusal))

-- ---- commands, ready to run

-- a whole class is listed only where it may be
abbrev pub CanRun : Command → Type 0
CanRun (command.List l) = MayBeListed l.goal.grid l.choice
CanRun _ = ⊤

-- a run of a command, without the flush that follows it
abbrev pub Runs : Command → Change SourceState → Change SinkState → Ending → Type 0
Runs (command.Solve setup progress stats) source sink ending = SolvesLines source setup sink ending
Runs (command.Certify setup progress) source sink ending = CertifiesOne source setup sink ending
Runs command.Check source sink ending = Judges source sink ending
Runs (command.Draw style) source sink ending = Draws source style sink ending
Runs command.Upgrade source sink ending = Rewrites source sink ending
Runs (command.Replay setup) source sink ending = TakesSteps source setup sink ending
Runs (command.List l) source sink ending = (source.after ≡ source.before) × ListsClass l sink ending
Runs (command.Show text) source sink ending = (source.after ≡ source.before) × ShowsText (string_bytes text) sink ending

-- a run of the command, and the flush that follows it, end what is requested
abbrev pub ServesRequest : Request → Command → Type 0
ServesRequest request command = (source : Change SourceState) (sink : Change SinkState) (ending : Ending) → EndsRun (Runs command source) sink ending → EndsRequest request source sink ending

-- what is requested ends without memory, where nothing is read or written
abbrev pub EndsWithoutMemory : Request → OutOfMemory → Type 0
EndsWithoutMemory request lacking = (source : Change SourceState) (sink : Change SinkState) → IsUnused source sink → EndsRequest request source sink (NoMemory lacking)

-- ---- what is printed beside the output

-- whether progress is asked for
abbrev pub asks_progress : Request → Bool
asks_progress (Solve o) = o.progress
asks_progress (Certify o) = o.progress
asks_progress _ = false

-- whether figures are
abbrev pub asks_stats : Request → Bool
asks_stats (Solve o) = o.stats
asks_stats _ = false

-- whether a command prints progress
abbrev pub prints_progress : Command → Bool
prints_progress (command.Solve setup progress stats) = progress
prints_progress (command.Certify setup progress) = progress
prints_progress _ = false

-- whether it prints figures
abbrev pub prints_stats : Command → Bool
prints_stats (command.Solve setup progress stats) = stats
prints_stats _ = false

-- progress and figures are printed exactly where they are asked for
abbrev pub PrintsAsAsked : Request → Command → Type 0
PrintsAsAsked request command = (prints_progress command ≡ asks_progress request) × (prints_stats command ≡ asks_stats request)

-- ---- figures that are asked for

-- Figures of each line that a run has answered were handed over with its id. Where they were asked for, they were taken so.
abbrev pub HandsLines : (List ℕ → Stats → Type 0) → SetupModel → Bool → Change SourceState → Change SinkState → Type 0
HandsLines taken setup stats source sink = HandsFigures (rules_of setup) (λ id b solved. HasStats setup b solved × (stats ≡ true → taken id solved.stats)) source.before.left sink

-- so it is in a run of a command that solves lines
abbrev pub HandsRun : (List ℕ → Stats → Type 0) → Command → Change SourceState → Change SinkState → Type 0
HandsRun taken (command.Solve setup progress stats) source sink = HandsLines taken setup stats source sink
HandsRun taken _ source sink = ⊤

-- and for what arguments ask for
abbrev pub HandsAsked : (List ℕ → Stats → Type 0) → Request → Change SourceState → Change SinkState → Type 0
HandsAsked taken (Solve o) source sink = (setup : SetupModel) × IsSetupOf o setup × HandsLines taken setup o.stats source sink
HandsAsked taken _ source sink = ⊤

-- where lines are to be solved, the command solves them for a setup of the options, and hands figures over as they say
abbrev pub SolvesAsked : Request → Command → Type 0
SolvesAsked (Solve o) (command.Solve setup progress stats) = IsSetupOf o setup × (stats ≡ o.stats)
SolvesAsked (Solve o) _ = ⊥
SolvesAsked _ _ = ⊤

-- such figures for what some arguments ask for, or nothing was read or written
abbrev pub HandsBy : (List ℕ → Stats → Type 0) → List Text → Change SourceState → Change SinkState → Type 0 → Type 0
HandsBy taken words source sink Untouched = Untouched ⊎ ((request : Request) × WordsAsk words request × HandsAsked taken request source sink)
