-- What the program leaves in an empty output, and what of its message in the error stream.
use Rattle.std.proofs.Common.{◌≡◌, ◌∙◌, Bool, true, false, List, [], ◌∷◌, Option, None, Some, inl, inr, sym, ap, subst, map, arith, codes, ℕ, ◌≢◌, Result, Ok, Err, refl, ◌⊎◌, ◌<◌, append-nil, string_bytes, ◌++◌}
use Rattle.std.specs.Io.KnownBytes.{Appends, Keeps}
use Rattle.std.proofs.lemmas.Bool.{true≢false, eqb-true}
use Rattle.std.proofs.Common.{All, cond, ◌==◌, ◌&&◌, ◌↔◌}
use Rattle.batch_runs.proofs.BatchLemmas.{run_true, outputs_true, beginnings_true, figures_belong, counts_of_reports}
use Rattle.batch_runs.specs.FirstLines.{IsPassedOver}
use Rattle.batch_runs.specs.Laws.{count_status}
use Rattle.certificate_runs.specs.Laws.{StatusTellsOutput}
use Rattle.certificate_runs.proofs.EndLemmas.{answer_statuses, failed_certificates, failed_verdicts}
use Rattle.batch_runs.specs.Stats.{HandsFigures}
use Rattle.batch_runs.specs.declared.stats.Stats.{Stats}
use Rattle.batch_runs.specs.declared.stats.Solved.{Solved}
use Rattle.setup_runs.specs.Solving.{rules_of, certifying_rules_of, HasStats}
use Rattle.batch_cli.specs.Laws.{IsAsAsked, IsSeenIn, SolvedBeginningsTellTheTruth, SolvedStatusesTell, CertifiedStatusesTell, EndingsAreSeen, WellEndedRunsAreFlushed, FiguresAreTaken, MessagesAreBegun, OutputsTellTheTruth, SolvedOutputsTellTheTruth, CertificatesAnswerTheFirst, AcceptedInputsAreTrue, DefaultSetupsAreKorfs, RunsWithoutArgumentsAreTrue, BegunOutputsTellTheTruth, ListsAreWritten, TextsAreWritten, RefusedInputsAreFaulty, DrawnInputsAreCertificates, UndrawnInputsAreMistaken, UpgradesAreSpelled, IsReplayOf, ReplaysAreAnswered}
use Rattle.std.specs.Prelude.{IfSome, IsSome, ⊤}
use Rattle.std.proofs.KnownBytes.{Appends-kept, Keeps-trans}
use Rattle.clap.specs.Words.{Text, Row, Kinds, first_of}
use Rattle.memory.specs.declared.OutOfMemory.{OutOfMemory}
use Rattle.board.specs.Shapes.{ShapeModel}
use Rattle.board.specs.Weights.{WeightsModel, unit_rule}
use Rattle.board.specs.Boards.{BoardModel, goal_of}
use Rattle.board.specs.declared.moves.Move.{Move}
use Rattle.board.specs.Plans.{Leads, IsLeast}
use Rattle.pattern_index.specs.Partitions.{PartitionModel}
use Rattle.lower_bound.specs.Tables.{BoundModel}
use Rattle.table_sets.specs.Built.{AreTrueTables, AreBuilt, AreBuiltFolded}
use Rattle.byte_streams.specs.Streams.{SinkState, Change, SourceState, from_to}
use Rattle.byte_streams.specs.Sink.{PutsNone, Flushes, Puts, Writes}
use Rattle.byte_streams.specs.declared.sink.WriteFailed.{WriteFailed}
use Rattle.batch_lines.specs.Defaults.{default_groups}
use Rattle.certificate.specs.Certificates.{CertificateModel, upgraded}
use Rattle.certificate.specs.Spellings.{spelling}
use Rattle.certificate.specs.Readings.{certificate, IsFirstFormatFault}
use Rattle.certificate.specs.declared.faults.FormatFault.{FormatFault}
use Rattle.batch_runs.specs.Reports.{refused_certificate_data, report_text}
use Rattle.batch_lines.specs.Lines.{lines_of}
use Rattle.replay_runs.specs.Replays.{IsEnd}
use Rattle.replay_runs.specs.Stepping.{output_of}
use Rattle.certificate.specs.declared.faults.ReadFault.{ReadFault}
use Rattle.certificate.specs.declared.faults.ReadFault.TheVariants.{Format, Failed, NoMemory as NoMemoryToRead}
use Rattle.certificate.specs.Faults.{format_code}
use Rattle.certificate.specs.Sources.{TellsOfInput}
use Rattle.certificate.proofs.LawLemmas.{spelled_read}
use Rattle.certificate_check.specs.Refusals.{refusal_code}
use Rattle.batch_runs.specs.Setups.{SetupModel}
use Rattle.batch_runs.specs.Batches.{Rules, IsTruthful, ReportsLines, IsTooLong, HasFailed, AreAll, AreFirst}
use Rattle.batch_runs.specs.Headline.{WritesTruth, BeginsTruth, IsTrueRun}
use Rattle.batch_runs.specs.declared.batch.Summary.{Summary}
use Rattle.batch_runs.specs.declared.faults.LinesFault.{LinesFault}
use Rattle.certificate_runs.specs.declared.faults.CertifyFault.{CertifyFault}
use Rattle.certificate_runs.specs.declared.faults.CheckFault.{CheckFault}
use Rattle.certificate_runs.specs.declared.faults.UpgradeFault.{UpgradeFault}
use Rattle.certificate_runs.specs.Rules.{ProofRules, ProvesTruly}
use Rattle.certificate_runs.specs.Outputs.{Output}
use Rattle.certificate_runs.specs.Certifying.{Replies}
use Rattle.certificate_runs.specs.Checking.{Checks, IsVerdictOutput, claim_data}
use Rattle.certificate_runs.specs.Showing.{Shows as ShowsCertificate}
use Rattle.certificate_runs.specs.Upgrading.{Upgrades}
use Rattle.command_line.specs.Faults.{refusal_status}
use Rattle.certificate_runs.specs.Headline.{WritesAnswer, WritesVerdict, IsCertificateRefusedBy, WritesUpgrade, IsTrueUpgrade, WritesShow, IsTrueShow}
use Rattle.certificate_runs.proofs.EndLemmas.{show_true}
use Rattle.drawings.specs.declared.drawing.Style.{Style}
use Rattle.certificate_runs.proofs.HeadlineLemmas.{answer_true, check_true, upgrade_true}
use Rattle.replay_runs.specs.Replays.{Jobs, Replays}
use Rattle.replay_runs.specs.Openings.{setup_jobs}
use Rattle.board_lists.specs.Lines.{lines_text}
use Rattle.board_lists.specs.Lists.{AreChosen, ListsBoards}
use Rattle.command_line.specs.declared.requests.Listing.{Listing}
use Rattle.command_line.specs.declared.requests.Options.{Options}
use Rattle.command_line.specs.declared.requests.Request.{Request}
use Rattle.command_line.specs.declared.requests.Request.TheVariants.{Solve, Certify, Check, Draw, Upgrade, Replay, Boards, Help, Version}
use Rattle.command_line.specs.Requests.{AreCostsSaid, AreGroupsSaid, AreOptions, AsksRun, AsksText, AreDefaults, WordsAsk, WordsFail}
use Rattle.command_line.specs.declared.faults.NoRequest.{NoRequest}
use Rattle.command_line.specs.declared.faults.NoRequest.TheVariants.{Usage, Goal, Costs, Groups, NoListing, Memory, NoMatch}
use Rattle.batch_cli.specs.Setups.{AreOptionsFit, IsRequestFit, AreTablesFor, IsSetupOf, IsDefaultSetup, small_grid}
use Rattle.batch_cli.specs.declared.faults.BatchFault.{BatchFault}
use Rattle.batch_cli.specs.declared.faults.BatchFault.TheVariants as broken
use Rattle.batch_cli.specs.declared.endings.Ending.{Ending}
use Rattle.batch_cli.specs.declared.endings.Ending.TheVariants.{NoTexts, Refused, NoMemoryToStart, NoMemory, Ran, Answered, Shown, Faulted}
use Rattle.batch_cli.specs.declared.commands.Command.{Command}
use Rattle.batch_cli.specs.declared.commands.Command.TheVariants as command
use Rattle.batch_cli.specs.Endings.{status_of, HasNotBegun, Tells as ReportsEnding}
use Rattle.batch_cli.specs.Programs.{ending_of, after_flush, FlushesBehind, IsUnused, HandsLines, HandsRun, HandsAsked, SolvesAsked, SolvesLines, CertifiesOne, Judges, Draws, Rewrites, TakesSteps, ListsClass, ShowsText, EndsRun, EndsRequest, EndsBy, Runs}
use Rattle.batch_cli.specs.declared.faults.BatchFault.TheVariants.{Write}
use Rattle.batch_cli.specs.Faults.{of_lines, of_certify, of_check, of_upgrade}
use Rattle.batch_cli.specs.Headline.{IsTrue, IsTrueOf, IsTrueBy, RunsProgram, JudgesTruly, StatesTruth, DrawsTruly, UpgradesTruly, WritesReplay}
use Rattle.batch_lines.specs.declared.group_faults.GroupsFault.TheVariants as groups
use Rattle.batch_runs.specs.declared.faults.LinesFault.TheVariants as lines
use Rattle.certificate_runs.specs.declared.faults.CertifyFault.TheVariants as certify
use Rattle.certificate_runs.specs.declared.faults.UpgradeFault.TheVariants as upgrade
use Rattle.certificate_runs.specs.declared.faults.CheckFault.TheVariants as check

pub outputs : OutputsTellTheTruth
outputs source sink status input known empty well (setup, is, begun, written) =
    let held = outputs_true (rules_of setup) source sink status input known empty (written well) in
    (setup, is, held.0, held.1, held.2, held.3)

-- the tables that are built for groups are of these groups, and all folded or all whole, as asked
abbrev AreAsAsked : Bool → PartitionModel → WeightsModel → BoardModel → BoundModel → Type 0
AreAsAsked fold split rule goal tables =
    (tables.split ≡ split) × (fold ≡ true → (tables.lookups ≡ []) × AreBuiltFolded split rule goal tables) × (fold ≡ false → (tables.folds ≡ []) × AreBuilt split rule goal tables)

tables_asked : (fold : Bool) (split : PartitionModel) (rule : WeightsModel) (goal : BoardModel) (tables : BoundModel) → AreTablesFor fold split rule goal tables → AreAsAsked fold split rule goal tables
tables_asked true split rule goal tables are = (are.groups, (λ yes. (are.folded, are)), (λ never. absurd (true≢false never)))
tables_asked false split rule goal tables are = (are.groups, (λ never. absurd (true≢false (sym never))), (λ yes. (are.whole, are)))

-- a setup of options is as they ask for it
as_asked : (o : Options) (setup : SetupModel) → IsSetupOf o setup → IsAsAsked o setup
as_asked o setup is =
    let built : AreTablesFor o.fold o.groups o.costs setup.goal setup.tables = subst (λ (rule : WeightsModel). AreTablesFor o.fold o.groups rule setup.goal setup.tables) is.rule is.tables in
    let tables = tables_asked o.fold o.groups o.costs o.goal setup.tables (subst (λ (goal : BoardModel). AreTablesFor o.fold o.groups o.costs goal setup.tables) is.goal built) in
    record { goal = is.goal; rule = is.rule; limit = is.limit; workers = is.workers; spread = is.spread; groups = tables.0; folded = tables.1; whole = tables.2 }

pub asked_outputs : SolvedOutputsTellTheTruth
asked_outputs o source sink status input known empty well (setup, is, begun, written) =
    let held = outputs_true (rules_of setup) source sink status input known empty (written well) in
    (setup, as_asked o setup is, held.0, held.1, held.2, held.3)

pub asked_beginnings : SolvedBeginningsTellTheTruth
asked_beginnings o source sink status input known empty (setup, is, begun, written) =
    let b = beginnings_true (rules_of setup) source sink input known empty begun in
    (setup, as_asked o setup is, b.0, b.1, b.2, b.3, b.4, b.5, b.6)

appended : (after : Option (List ℕ)) (held sent : List ℕ) → Appends (Some held) after sent → after ≡ Some (held ++ sent)
appended None held sent put = absurd put
appended (Some contents) held sent put = λ i. Some (put i)

written_whole : (sink : Change SinkState) (output : List ℕ) → sink.before.contents ≡ Some [] → Puts sink output → sink.after.contents ≡ Some output
written_whole sink output empty puts =
    let put : Appends (Some []) sink.after.contents output = rw empty at puts in
    appended sink.after.contents [] output put

pub begun : MessagesAreBegun
begun errors ending status held known tells =
    let put : Appends (Some held) errors.after.contents tells.begun.sent = rw known at tells.begun.put in
    (tells.begun.sent, tells.begun.unsent, tells.begun.parts, appended errors.after.contents held tells.begun.sent put)

pub asked_certificates : CertificatesAnswerTheFirst
asked_certificates o source sink status input known empty well (setup, is, written) =
    let answer = written well in
    let first : AreFirst (Some input) answer.lines = rw known at answer.first in
    let put : Appends (Some []) sink.after.contents answer.output = rw empty at answer.put in
    (setup, as_asked o setup is, answer.lines, first.0, answer.output, first.1, appended sink.after.contents [] answer.output put, answer.answer, (λ nothing. subst (λ (left : Option (List ℕ)). AreAll left answer.lines) known (answer.silent nothing)))

pub accepted_inputs : AcceptedInputsAreTrue
accepted_inputs source sink input known truth =
    let judged : JudgesTruly 0 sink input = subst (λ (left : Option (List ℕ)). IfSome left (JudgesTruly 0 sink)) known truth in
    let states = judged.accepted refl in
    let c = states.0 in (
      c,
      states.1,
      states.2,
      (λ plan is. (subst (λ (p : Option (List Move)). IfSome p (λ it. Leads c.costs c.start it c.goal c.cost × IsLeast c.costs c.start c.goal c.cost)) is states.3).0),
      (λ empty. written_whole sink (report_text (claim_data c.plan c.cost)) empty states.4),
    )

pub refused_inputs : RefusedInputsAreFaulty
refused_inputs source sink input known truth =
    let judged : JudgesTruly 5 sink input = subst (λ (left : Option (List ℕ)). IfSome left (JudgesTruly 5 sink)) known truth in
    let by = judged.refused refl in
    (by.0, by.1, λ empty. written_whole sink (report_text (refused_certificate_data by.0)) empty by.2)

pub begun_outputs : BegunOutputsTellTheTruth
begun_outputs source sink status input known empty (setup, is, begun, written) =
    let b = beginnings_true (rules_of setup) source sink input known empty begun in
    (setup, is, b.0, b.1, b.2, b.3, b.4, b.5, b.6)

pub boards_written : ListsAreWritten
boards_written l source sink empty truth = let all = truth refl in (all.0, all.1, written_whole sink (lines_text 1 all.0) empty all.2)

pub text_written : TextsAreWritten
text_written text source sink empty (inl truth) = written_whole sink (string_bytes text) empty (truth refl)
text_written text source sink empty (inr truth) = written_whole sink (string_bytes text) empty (truth refl)

zero_or_five : (status : ℕ) → status ≡ 0 → status ≡ 5 → ⊥
zero_or_five status none five = absurd (omega (arith, none, five))

pub inputs_drawn : DrawnInputsAreCertificates
inputs_drawn style source sink input known empty truth =
    let drawn : DrawsTruly style 0 sink input = subst (λ (left : Option (List ℕ)). IfSome left (DrawsTruly style 0 sink)) known truth in
    elim (drawn (inl refl)) [
      | inl it ↦ (it.0, it.1, it.2, it.3, it.4, written_whole sink it.1 empty it.5)
      | inr it ↦ absurd (zero_or_five 0 refl it.3)
    ]

pub inputs_undrawn : UndrawnInputsAreMistaken
inputs_undrawn style source sink input known empty truth =
    let drawn : DrawsTruly style 5 sink input = subst (λ (left : Option (List ℕ)). IfSome left (DrawsTruly style 5 sink)) known truth in
    elim (drawn (inr refl)) [
      | inl it ↦ absurd (zero_or_five 5 it.6 refl)
      | inr it ↦ (it.0, it.1, written_whole sink (report_text (refused_certificate_data it.0)) empty it.2)
    ]

kept : (after : Option (List ℕ)) (held : List ℕ) → Keeps (Some held) after → after ≡ Some held
kept None held same = absurd same
kept (Some contents) held same = λ i. Some (same i)

upgraded_well : (source : Change SourceState) (sink : Change SinkState) (input : List ℕ) → source.before.left ≡ Some input → sink.before.contents ≡ Some [] → IsTrueOf Upgrade 0 source sink → (c : CertificateModel) × (certificate input ≡ Ok (c, [])) × (sink.after.contents ≡ Some (spelling (upgraded c)))
upgraded_well source sink input known empty truth =
    let done : UpgradesTruly 0 sink input = subst (λ (left : Option (List ℕ)). IfSome left (UpgradesTruly 0 sink)) known truth in
    elim (done (inl refl)) [
      | inl it ↦ (it.0, it.1, written_whole sink (spelling (upgraded it.0)) empty it.2)
      | inr it ↦ absurd (zero_or_five 0 refl it.3)
    ]

not_upgraded : (source : Change SourceState) (sink : Change SinkState) (input : List ℕ) → source.before.left ≡ Some input → sink.before.contents ≡ Some [] → IsTrueOf Upgrade 5 source sink → (fault : FormatFault) × IsFirstFormatFault input fault × (sink.after.contents ≡ Some [])
not_upgraded source sink input known empty truth =
    let done : UpgradesTruly 5 sink input = subst (λ (left : Option (List ℕ)). IfSome left (UpgradesTruly 5 sink)) known truth in
    elim (done (inr refl)) [
      | inl it ↦ absurd (zero_or_five 5 it.3 refl)
      | inr it ↦ (it.0, it.1, kept sink.after.contents [] (subst (λ (o : Option (List ℕ)). Keeps o sink.after.contents) empty it.2))
    ]

pub upgrades_spelled : UpgradesAreSpelled
upgrades_spelled source sink input known empty = (upgraded_well source sink input known empty, not_upgraded source sink input known empty)

replay_of : (jobs : Jobs) (source : Change SourceState) (sink : Change SinkState) (status : ℕ) (input : List ℕ) → source.before.left ≡ Some input → sink.before.contents ≡ Some [] → WritesReplay jobs source sink status → (output : List ℕ) × (sink.after.contents ≡ Some output) × IsReplayOf jobs source input output status
replay_of jobs source sink status input known empty (inl (lines, all, passed, put, told)) =
    let whole : lines_of input ≡ lines = subst (λ (left : Option (List ℕ)). AreAll left lines) known all in
    ([], written_whole sink [] empty put, inl (subst (λ (ls : List (List ℕ)). All IsPassedOver ls) (sym whole) passed, refl, told))
replay_of jobs source sink status input known empty (inr (inl (output, refuses, put, told))) = (output, written_whole sink output empty put, inr (inl (refuses, told)))
replay_of jobs source sink status input known empty (inr (inr (lines, id, replies, outcome, all, end, put, told))) =
    let whole : lines_of input ≡ lines = subst (λ (left : Option (List ℕ)). AreAll left lines) known all in
    let same : IsEnd jobs (lines_of input) id replies outcome = subst (λ (ls : List (List ℕ)). IsEnd jobs ls id replies outcome) (sym whole) end in
    (output_of replies id outcome, written_whole sink (output_of replies id outcome) empty put, inr (inr (id, replies, outcome, same, refl, told)))

pub replays_answered : ReplaysAreAnswered
replays_answered o source sink status input known empty well (setup, is, written) =
    let answer = replay_of (setup_jobs setup) source sink status input known empty (written well) in
    (setup, as_asked o setup is, answer.0, answer.1, answer.2)

pub default_setups : DefaultSetupsAreKorfs
default_setups setup is =
    let of_rule : AreTrueTables setup.tables.split.groups (unit_rule small_grid) setup.goal setup.tables.lookups = subst (λ (rule : WeightsModel). AreTrueTables setup.tables.split.groups rule setup.goal setup.tables.lookups) is.rule is.tables in
    let of_goal : AreTrueTables setup.tables.split.groups (unit_rule small_grid) (goal_of small_grid) setup.tables.lookups = subst (λ (goal : BoardModel). AreTrueTables setup.tables.split.groups (unit_rule small_grid) goal setup.tables.lookups) is.goal of_rule in
    (ap (λ (b : BoardModel). b.tiles) is.goal, is.rule, is.groups, is.limit, is.workers, is.spread, ap (λ (b : BoardModel). b.grid) is.goal, of_goal, is.whole)

-- ---- What arguments ask for, and that what the program writes is true.

-- ---- what arguments ask for is fit, and without arguments it is the default

-- groups that are said are of the shape that is said
groups_sides : (grid : ShapeModel) (text : Option Text) (split : PartitionModel) → AreGroupsSaid grid text split → split.grid ≡ grid
groups_sides grid None split said = said.0
groups_sides grid (Some text) split said = said.0

-- so are the costs
costs_sides : (grid : ShapeModel) (text : Option Text) (rule : WeightsModel) → AreCostsSaid grid text rule → rule.grid ≡ grid
costs_sides grid None rule said = ap (λ (r : WeightsModel). r.grid) said
costs_sides grid (Some text) rule (inl unit) = ap (λ (r : WeightsModel). r.grid) unit.1
costs_sides grid (Some text) rule (inr (inl face)) = ap (λ (r : WeightsModel). r.grid) face.1
costs_sides grid (Some text) rule (inr (inr weights)) = ap (λ (r : WeightsModel). r.grid) weights.listed

fit_options : (rows : List Row) (o : Options) → AreOptions rows o → AreOptionsFit o
fit_options rows o options = record { costs = costs_sides o.goal.grid (first_of (codes "cost") rows) o.costs options.costs; sides = groups_sides o.goal.grid (first_of (codes "groups") rows) o.groups options.groups; some = options.workers.some; few = options.workers.few }

fit_defaults : (o : Options) → AreDefaults o → AreOptionsFit o
fit_defaults o defaults = record { costs = ap (λ (r : WeightsModel). r.grid) defaults.costs ∙ sym (ap (λ (b : BoardModel). b.grid) defaults.goal); sides = defaults.groups.0; some = omega (arith, defaults.workers); few = omega (arith, defaults.workers) }

fit_text : (faults : Kinds) (request : Request) → AsksText faults request → IsRequestFit request
fit_text faults (Solve o) never = absurd never
fit_text faults (Certify o) never = absurd never
fit_text faults Check never = tt
fit_text faults (Draw style) never = tt
fit_text faults Upgrade never = tt
fit_text faults (Replay o) never = absurd never
fit_text faults (Boards l) never = absurd never
fit_text faults (Help text) asked = tt
fit_text faults (Version text) asked = tt

fit_run : (subcommand : Option (Text × List Row)) (request : Request) → AsksRun subcommand request → IsRequestFit request
fit_run None request never = absurd never
fit_run (Some p) (Solve o) asked = fit_options p.1 o asked.1
fit_run (Some p) (Certify o) asked = fit_options p.1 o asked.1
fit_run (Some p) Check asked = tt
fit_run (Some p) (Draw style) asked = tt
fit_run (Some p) Upgrade asked = tt
fit_run (Some p) (Replay o) asked = fit_options p.1 o asked.1
fit_run (Some p) (Boards l) asked = asked.1.small
fit_run (Some p) (Help text) asked = tt
fit_run (Some p) (Version text) asked = tt

-- what arguments ask for is fit
pub fit_asked : (words : List Text) (request : Request) → WordsAsk words request → IsRequestFit request
fit_asked [] (Solve o) defaults = fit_defaults o defaults
fit_asked [] (Certify o) never = absurd never
fit_asked [] Check never = tt
fit_asked [] (Draw style) never = tt
fit_asked [] Upgrade never = tt
fit_asked [] (Replay o) never = absurd never
fit_asked [] (Boards l) never = absurd never
fit_asked [] (Help text) never = tt
fit_asked [] (Version text) never = tt
fit_asked (word ∷ words) request (program, is, inl text) = fit_text _ request text
fit_asked (word ∷ words) request (program, is, inr run) = fit_run _ request run.1

-- the setup of the default options is a default setup
pub default_setup : (o : Options) (setup : SetupModel) → AreDefaults o → IsSetupOf o setup → IsDefaultSetup setup
default_setup o setup defaults is =
    let grid = ap (λ (b : BoardModel). b.grid) defaults.goal in
    let built : AreBuilt o.groups setup.rule setup.goal setup.tables = subst (λ (f : Bool). AreTablesFor f o.groups setup.rule setup.goal setup.tables) defaults.fold is.tables in
    record {
      goal = is.goal ∙ defaults.goal;
      rule = is.rule ∙ defaults.costs;
      groups = ap (λ (s : PartitionModel). map (λ g. g.tiles) s.groups) built.groups ∙ defaults.groups.1 ∙ ap default_groups grid;
      tables = subst (λ (s : PartitionModel). AreTrueTables s.groups setup.rule setup.goal setup.tables.lookups) (sym built.groups) built.each;
      whole = built.whole;
      limit = is.limit ∙ defaults.limit;
      workers = is.workers ∙ defaults.workers;
      spread = is.spread ∙ defaults.spread;
    }

-- what is true of a run without arguments, where a memory was refused for tables or groups
without_request : (source : Change SourceState) (sink : Change SinkState) (status : ℕ) → OutOfMemory → status ≡ 4 → (request : Request) → WordsAsk [] request → IsTrueOf request status source sink ⊎ (OutOfMemory × (status ≡ 4) × IsUnused source sink) → IsTrue status source sink ⊎ (OutOfMemory × (status ≡ 4) × IsUnused source sink)
without_request source sink status refused four (Solve o) defaults (inl (setup, is, begun, written)) = inl (setup, default_setup o setup defaults is, begun, written)
without_request source sink status refused four (Solve o) defaults (inr lacks) = inr lacks
without_request source sink status refused four (Certify o) never truth = absurd never
without_request source sink status refused four Check never truth = absurd never
without_request source sink status refused four (Draw style) never truth = absurd never
without_request source sink status refused four Upgrade never truth = absurd never
without_request source sink status refused four (Replay o) never truth = absurd never
without_request source sink status refused four (Boards l) never truth = absurd never
without_request source sink status refused four (Help text) never truth = absurd never
without_request source sink status refused four (Version text) never truth = absurd never

without_words : (source : Change SourceState) (sink : Change SinkState) (status : ℕ) → OutOfMemory → status ≡ 4 → IsTrueBy [] status source sink → IsTrue status source sink ⊎ (OutOfMemory × (status ≡ 4) × IsUnused source sink)
without_words source sink status refused four (inl (request, asks, truth)) = without_request source sink status refused four request asks truth
without_words source sink status refused four (inr (refusal, fails, told, unused)) = inr (refused, four, unused)

pub without_arguments : RunsWithoutArgumentsAreTrue
without_arguments source sink errors status ran = elim (ran.batch refl) [
  | inl it ↦ inl it.1
  | inr it ↦ without_words source sink status it.0 it.1 ran.truth
]

-- ---- how the program ends after a run and the flush behind it

-- a flush writes nothing
flush_none : (sink : Change SinkState) (flushed : Result (Unit {0}) WriteFailed) → Flushes sink flushed → PutsNone sink
flush_none sink (Ok done) flush = flush.0
flush_none sink (Err failed) flush = flush.0

pub behind_none : (ran : Ending) (sink : Change SinkState) (ending : Ending) → FlushesBehind ran sink ending → PutsNone sink
behind_none ran sink ending behind = flush_none sink behind.0 behind.1

-- a flush changes the ending only to a fault with the status 3
unchanged : (ran : Ending) (flushed : Result (Unit {0}) WriteFailed) → status_of (after_flush ran flushed) ≢ 3 → after_flush ran flushed ≡ ran
unchanged ran (Ok done) other = refl
unchanged NoTexts (Err failed) other = absurd (other refl)
unchanged (Refused refusal) (Err failed) other = absurd (other refl)
unchanged NoMemoryToStart (Err failed) other = absurd (other refl)
unchanged (NoMemory refused) (Err failed) other = absurd (other refl)
unchanged (Ran counts) (Err failed) other = absurd (other refl)
unchanged (Answered status) (Err failed) other = absurd (other refl)
unchanged Shown (Err failed) other = absurd (other refl)
unchanged (Faulted fault) (Err failed) other = refl

-- so any other status is that of the run
pub status_ran : (ran : Ending) (sink : Change SinkState) (ending : Ending) (status : ℕ) → FlushesBehind ran sink ending → status ≡ status_of ending → status ≢ 3 → status ≡ status_of ran
status_ran ran sink ending status (flushed, flush, is) told other =
    let after = told ∙ ap status_of is in
    after ∙ ap status_of (unchanged ran flushed (λ e. other (after ∙ e)))

-- nor does the program end as one that has not begun
begun_flushed : (ran : Ending) (flushed : Result (Unit {0}) WriteFailed) → ¬ HasNotBegun ran → ¬ HasNotBegun (after_flush ran flushed)
begun_flushed ran (Ok done) begun = begun
begun_flushed NoTexts (Err failed) begun = λ idle. idle
begun_flushed (Refused refusal) (Err failed) begun = λ idle. idle
begun_flushed NoMemoryToStart (Err failed) begun = λ idle. idle
begun_flushed (NoMemory refused) (Err failed) begun = λ idle. idle
begun_flushed (Ran counts) (Err failed) begun = λ idle. idle
begun_flushed (Answered status) (Err failed) begun = λ idle. idle
begun_flushed Shown (Err failed) begun = λ idle. idle
begun_flushed (Faulted fault) (Err failed) begun = λ idle. idle

begun_run : {A E : Type 0} (well : A → Ending) (early : E → BatchFault) (result : Result A E) → ((a : A) → ¬ HasNotBegun (well a)) → ¬ HasNotBegun (ending_of well early result)
begun_run well early (Ok a) begun = begun a
begun_run well early (Err fault) begun = λ idle. idle

begun_command : (command : Command) (source : Change SourceState) (sink : Change SinkState) (ending : Ending) → Runs command source sink ending → ¬ HasNotBegun ending
begun_command (command.Solve setup progress stats) source sink ending (result, run, is) = λ idle. begun_run Ran of_lines result (λ counts never. never) (subst HasNotBegun is idle)
begun_command (command.Certify setup progress) source sink ending (result, run, is) = λ idle. begun_run Answered of_certify result (λ status never. never) (subst HasNotBegun is idle)
begun_command command.Check source sink ending (result, run, is) = λ idle. begun_run Answered of_check result (λ status never. never) (subst HasNotBegun is idle)
begun_command (command.Draw style) source sink ending (result, run, is) = λ idle. begun_run Answered of_check result (λ status never. never) (subst HasNotBegun is idle)
begun_command command.Upgrade source sink ending (result, run, is) = λ idle. begun_run Answered of_upgrade result (λ status never. never) (subst HasNotBegun is idle)
begun_command (command.Replay setup) source sink ending (result, run, is) = λ idle. begun_run Answered of_lines result (λ status never. never) (subst HasNotBegun is idle)
begun_command (command.List l) source sink ending (unread, (result, run, is)) = λ idle. begun_run (λ done. Shown) (λ failed. Write) result (λ done never. never) (subst HasNotBegun is idle)
begun_command (command.Show text) source sink ending (unread, (result, run, is)) = λ idle. begun_run (λ done. Shown) (λ failed. Write) result (λ done never. never) (subst HasNotBegun is idle)

pub begun_ended : (command : Command) (source : Change SourceState) (sink : Change SinkState) (ending : Ending) → EndsRun (Runs command source) sink ending → ¬ HasNotBegun ending
begun_ended command source sink ending ended = λ idle. begun_flushed ended.ran ended.flush.0 (begun_command command source (from_to sink.before ended.between) ended.ran ended.run) (subst HasNotBegun ended.flush.2 idle)

-- ---- figures that were handed over stay so behind a flush

HandsFigures-kept : (rules : Rules) (handed : List ℕ → BoardModel → Solved → Type 0) (input : Option (List ℕ)) (a b c : SinkState) → HandsFigures rules handed input (from_to a b) → PutsNone (from_to b c) → HandsFigures rules handed input (from_to a c)
HandsFigures-kept rules handed input a b c hands kept = record {
  lines = hands.lines;
  answers = hands.answers;
  few = hands.few;
  first = hands.first;
  answered = hands.answered;
  begun = record { sent = hands.begun.sent; unsent = hands.begun.unsent; parts = hands.begun.parts; put = Appends-kept a.contents b.contents c.contents hands.begun.sent hands.begun.put kept };
  figures = hands.figures;
}

-- what a command hands over is what its request asks for
pub hands_asked : (taken : List ℕ → Stats → Type 0) (request : Request) (command : Command) (source : Change SourceState) (sink : Change SinkState) (between : SinkState) (ran ending : Ending) → SolvesAsked request command → HandsRun taken command source (from_to sink.before between) → FlushesBehind ran (from_to between sink.after) ending → HandsAsked taken request source sink
hands_asked taken (Solve o) (command.Solve setup progress stats) source sink between ran ending (is, same) hands flush =
    let kept = HandsFigures-kept (rules_of setup) (λ id b solved. HasStats setup b solved × (stats ≡ true → taken id solved.stats)) source.before.left sink.before between sink.after hands (behind_none ran (from_to between sink.after) ending flush) in
    (setup, is, subst (λ (asked : Bool). HandsLines taken setup asked source sink) same kept)
hands_asked taken (Solve o) (command.Certify setup progress) source sink between ran ending never hands flush = absurd never
hands_asked taken (Solve o) command.Check source sink between ran ending never hands flush = absurd never
hands_asked taken (Solve o) (command.Draw style) source sink between ran ending never hands flush = absurd never
hands_asked taken (Solve o) command.Upgrade source sink between ran ending never hands flush = absurd never
hands_asked taken (Solve o) (command.Replay setup) source sink between ran ending never hands flush = absurd never
hands_asked taken (Solve o) (command.List l) source sink between ran ending never hands flush = absurd never
hands_asked taken (Solve o) (command.Show text) source sink between ran ending never hands flush = absurd never
hands_asked taken (Certify o) command source sink between ran ending solves hands flush = tt
hands_asked taken Check command source sink between ran ending solves hands flush = tt
hands_asked taken (Draw style) command source sink between ran ending solves hands flush = tt
hands_asked taken Upgrade command source sink between ran ending solves hands flush = tt
hands_asked taken (Replay o) command source sink between ran ending solves hands flush = tt
hands_asked taken (Boards l) command source sink between ran ending solves hands flush = tt
hands_asked taken (Help text) command source sink between ran ending solves hands flush = tt
hands_asked taken (Version text) command source sink between ran ending solves hands flush = tt

-- where the input is known and the output was empty, each report has figures that were taken with its id
pub figures_taken : (taken : List ℕ → Stats → Type 0) → FiguresAreTaken taken
figures_taken taken o source sink input asked known empty (setup, is, hands) =
    let handed : List ℕ → BoardModel → Solved → Type 0 = λ id b solved. HasStats setup b solved × (o.stats ≡ true → taken id solved.stats) in
    let belong = figures_belong (rules_of setup) handed input sink empty (subst (λ (left : Option (List ℕ)). HandsFigures (rules_of setup) handed left sink) known hands) in
    (setup, as_asked o setup is, belong.0, belong.1, belong.2, λ k id ending reply. (let it = belong.3 k id ending reply in (it.0, it.1, it.2, it.3, it.4, it.5, it.6.0, it.6.1 asked, it.7)))

-- ---- what the program writes is true: what was written stays behind a flush

BeginsTruth-kept : (rules : Rules) (source : Change SourceState) (a b c : SinkState) → BeginsTruth rules source (from_to a b) → PutsNone (from_to b c) → BeginsTruth rules source (from_to a c)
BeginsTruth-kept rules source a b c some kept = record {
  lines = some.lines;
  output = some.output;
  first = some.first;
  begun = record { sent = some.begun.sent; unsent = some.begun.unsent; parts = some.begun.parts; put = Appends-kept a.contents b.contents c.contents some.begun.sent some.begun.put kept };
  truth = some.truth;
}

WritesTruth-kept : (rules : Rules) (source : Change SourceState) (a b c : SinkState) (status : ℕ) → WritesTruth rules source (from_to a b) status → PutsNone (from_to b c) → WritesTruth rules source (from_to a c) status
WritesTruth-kept rules source a b c status all kept = record { lines = all.lines; output = all.output; all = all.all; put = Appends-kept a.contents b.contents c.contents all.output all.put kept; truth = all.truth; settled = all.settled }

WritesAnswer-kept : (split : PartitionModel) (rules : ProofRules) (source : Change SourceState) (a b c : SinkState) → WritesAnswer split rules source (from_to a b) → PutsNone (from_to b c) → WritesAnswer split rules source (from_to a c)
WritesAnswer-kept split rules source a b c all kept = record { lines = all.lines; output = all.output; first = all.first; put = Appends-kept a.contents b.contents c.contents all.output all.put kept; answer = all.answer; silent = all.silent }

WritesVerdict-kept : (a b c : SinkState) (input : List ℕ) → WritesVerdict (from_to a b) input → PutsNone (from_to b c) → WritesVerdict (from_to a c) input
WritesVerdict-kept a b c input all kept = record { line = all.line; value = all.value; put = Appends-kept a.contents b.contents c.contents _ all.put kept; json = all.json; truth = all.truth }

WritesUpgrade-kept : (a b c : SinkState) (status : ℕ) (input : List ℕ) → WritesUpgrade (from_to a b) status input → PutsNone (from_to b c) → WritesUpgrade (from_to a c) status input
WritesUpgrade-kept a b c status input (inl (cert, read, put, is)) kept = inl (cert, read, Appends-kept a.contents b.contents c.contents _ put kept, is)
WritesUpgrade-kept a b c status input (inr (fault, first, none, is)) kept = inr (fault, first, Keeps-trans a.contents b.contents c.contents none kept, is)

WritesReplay-kept : (jobs : Jobs) (source : Change SourceState) (a b c : SinkState) (status : ℕ) → WritesReplay jobs source (from_to a b) status → PutsNone (from_to b c) → WritesReplay jobs source (from_to a c) status
WritesReplay-kept jobs source a b c status (inl (lines, all, over, put, is)) kept = inl (lines, all, over, Appends-kept a.contents b.contents c.contents _ put kept, is)
WritesReplay-kept jobs source a b c status (inr (inl (output, refuses, put, is))) kept = inr (inl (output, refuses, Appends-kept a.contents b.contents c.contents _ put kept, is))
WritesReplay-kept jobs source a b c status (inr (inr (lines, id, replies, outcome, all, end, put, is))) kept = inr (inr (lines, id, replies, outcome, all, end, Appends-kept a.contents b.contents c.contents _ put kept, is))

-- ---- boards

AreFirst-all : (input : Option (List ℕ)) (lines : List (List ℕ)) → AreAll input lines → AreFirst input lines
AreFirst-all None lines all = tt
AreFirst-all (Some bytes) lines all = ([], all ∙ sym (append-nil lines))

-- all is a beginning
truth_begun : (rules : Rules) (source : Change SourceState) (sink : Change SinkState) (result : Result Summary LinesFault) → IsTrueRun rules source sink result → BeginsTruth rules source sink
truth_begun rules source sink (Ok counts) all = record {
  lines = all.lines;
  output = all.output;
  first = AreFirst-all source.before.left all.lines all.all;
  begun = record { sent = all.output; unsent = []; parts = sym (append-nil all.output); put = all.put };
  truth = all.truth;
}
truth_begun rules source sink (Err fault) some = some

-- only a run that is reported whole ends well
whole : (rules : Rules) (source : Change SourceState) (sink : Change SinkState) (result : Result Summary LinesFault) (status : ℕ) → status ≡ status_of (ending_of Ran of_lines result) → status < 2 → IsTrueRun rules source sink result → WritesTruth rules source sink status
whole rules source sink (Ok counts) status told fine all = subst (WritesTruth rules source sink) (sym told) all
whole rules source sink (Err lines.Read) status told fine some = absurd (omega (arith, told))
whole rules source sink (Err lines.Write) status told fine some = absurd (omega (arith, told))
whole rules source sink (Err (lines.Memory lacking)) status told fine some = absurd (omega (arith, told))

truthful : (setup : SetupModel) → IsTruthful (rules_of setup)
truthful setup = λ b ending allowed. allowed.0

truthful_certifying : (setup : SetupModel) → ProvesTruly (certifying_rules_of setup)
truthful_certifying setup b outcome allowed = allowed.0

module _ (source : Change SourceState) (sink : Change SinkState) (ending : Ending) (status : ℕ) (told : status ≡ status_of ending) where
  solved : (setup : SetupModel) → EndsRun (SolvesLines source setup) sink ending → BeginsTruth (rules_of setup) source sink × (status < 2 → WritesTruth (rules_of setup) source sink status)
  solved setup ended =
      let rules = rules_of setup in
      let first = from_to sink.before ended.between in
      let result = ended.run.0 in
      let ran = run_true rules (truthful setup) source first result ended.run.1 in
      let last = from_to ended.between sink.after in
      let kept = behind_none ended.ran last ending ended.flush in (
        BeginsTruth-kept rules source sink.before ended.between sink.after (truth_begun rules source first result ran) kept,
        λ fine.
            let is = status_ran ended.ran last ending status ended.flush told (λ three. omega (arith, fine, three)) ∙ ap status_of ended.run.2 in
            WritesTruth-kept rules source sink.before ended.between sink.after status (whole rules source first result status is fine ran) kept,
      )

-- ---- statuses of endings

-- a fault ends the program with the status 3 or 4
fault_status : (fault : BatchFault) → (status_of (Faulted fault) ≡ 3) ⊎ (status_of (Faulted fault) ≡ 4)
fault_status broken.Read = inl refl
fault_status broken.Write = inl refl
fault_status (broken.Memory lacking) = inr refl
fault_status (broken.GroupsMemory refused) = inr refl
fault_status broken.CertificateRead = inl refl
fault_status (broken.CertificateMemory refused) = inr refl
fault_status broken.CertificateWrite = inl refl

-- so it is not one that says that all went well
faulted : (status : ℕ) {n : ℕ} → (status < 2) ⊎ (status ≡ 5) → (n ≡ 3) ⊎ (n ≡ 4) → status ≡ n → ⊥
faulted status (inl low) (inl three) is = absurd (omega (arith, low, three, is))
faulted status (inl low) (inr four) is = absurd (omega (arith, low, four, is))
faulted status (inr five) (inl three) is = absurd (omega (arith, five, three, is))
faulted status (inr five) (inr four) is = absurd (omega (arith, five, four, is))

-- a refusal of arguments has the status 2 or 4
refused_status : (refusal : NoRequest) → (refusal_status refusal ≡ 2) ⊎ (refusal_status refusal ≡ 4)
refused_status (Usage text) = inl refl
refused_status (Goal fault) = inl refl
refused_status (Costs fault) = inl refl
refused_status (Groups (groups.NoGroup fault)) = inl refl
refused_status (Groups (groups.NoPartition fault)) = inl refl
refused_status (Groups (groups.Memory lacking)) = inr refl
refused_status (NoListing fault) = inl refl
refused_status (Memory error) = inr refl
refused_status NoMatch = inr refl

not_well : (status : ℕ) {n : ℕ} → (status < 2) ⊎ (status ≡ 5) → (n ≡ 2) ⊎ (n ≡ 4) → status ≡ n → ⊥
not_well status (inl low) (inl two) is = absurd (omega (arith, low, two, is))
not_well status (inl low) (inr four) is = absurd (omega (arith, low, four, is))
not_well status (inr five) (inl two) is = absurd (omega (arith, five, two, is))
not_well status (inr five) (inr four) is = absurd (omega (arith, five, four, is))

-- what has not begun ends with neither of these
idle_status : (ending : Ending) (status : ℕ) → (status < 2) ⊎ (status ≡ 5) → status ≡ status_of ending → HasNotBegun ending → ⊥
idle_status NoTexts status well told idle = not_well status well (inl refl) told
idle_status (Refused refusal) status well told idle = not_well status well (refused_status refusal) told
idle_status NoMemoryToStart status well told idle = not_well status well (inr refl) told
idle_status (NoMemory refused) status well told idle = not_well status well (inr refl) told
idle_status (Ran counts) status well told idle = absurd idle
idle_status (Answered n) status well told idle = absurd idle
idle_status Shown status well told idle = absurd idle
idle_status (Faulted f) status well told idle = absurd idle

not_failed : (IsFlushed : Type 0) (sink : SinkState) → IsFlushed ⊎ HasFailed sink → sink.has_failed ≡ false → IsFlushed
not_failed IsFlushed sink (inl flushed) good = flushed
not_failed IsFlushed sink (inr failed) good = absurd (true≢false (sym failed ∙ good))

-- ---- statuses of what is solved or certified

both : (x y : Bool) → cond {A = ℕ} (x && y) 0 1 ≡ 0 → (x ≡ true) × (y ≡ true)
both true true e = (refl, refl)
both true false e = absurd (omega (arith, e))
both false y e = absurd (omega (arith, e))

-- the status is 0 just where both counts are
zero_counts : (m n : ℕ) → (cond {A = ℕ} (m == 0 && n == 0) 0 1 ≡ 0) ↔ ((m ≡ 0) × (n ≡ 0))
zero_counts m n = (
  (λ e. let zeros = both (m == 0) (n == 0) e in (eqb-true m 0 zeros.0, eqb-true n 0 zeros.1)),
  (λ zeros i. cond {A = ℕ} (zeros.0 i == 0 && zeros.1 i == 0) 0 1),
)

-- an output is left, and the status is 0 just where none of its lines is bounded or refused
abbrev IsCounted : Change SinkState → ℕ → Type 0
IsCounted sink status =
    (output : List ℕ) × (sink.after.contents ≡ Some output) × ((status ≡ 0) ↔ ((count_status (codes "bounded") output ≡ 0) × (count_status (codes "refused") output ≡ 0)))

counted : (rules : Rules) (source : Change SourceState) (sink : Change SinkState) (result : Result Summary LinesFault) (status : ℕ) → status ≡ status_of (ending_of Ran of_lines result) → status < 2 → sink.before.contents ≡ Some [] → ReportsLines rules source sink result → IsCounted sink status
counted rules source sink (Ok counts) status told fine empty reports =
    let c = counts_of_reports rules source sink counts empty reports in
    let zero = zero_counts counts.bounded counts.refused in (
      c.0,
      c.1,
      ((λ none. let z = zero.0 (sym told ∙ none) in (sym c.4 ∙ z.0, sym c.5 ∙ z.1)), (λ none. told ∙ zero.1 (c.4 ∙ none.0, c.5 ∙ none.1))),
    )
counted rules source sink (Err lines.Read) status told fine empty reports = absurd (omega (arith, told, fine))
counted rules source sink (Err lines.Write) status told fine empty reports = absurd (omega (arith, told, fine))
counted rules source sink (Err (lines.Memory lacking)) status told fine empty reports = absurd (omega (arith, told, fine))

-- what was left stays behind a flush
kept_behind : (between after : SinkState) (output : List ℕ) → between.contents ≡ Some output → PutsNone (from_to between after) → after.contents ≡ Some output
kept_behind between after output left none = kept after.contents output (subst (λ (o : Option (List ℕ)). Keeps o after.contents) left none)

pub solved_status : SolvedStatusesTell
solved_status o source sink errors ending status empty (inl (setup, is, ended)) tells fine =
    let last = from_to ended.between sink.after in
    let told = status_ran ended.ran last ending status ended.flush tells.told (λ three. omega (arith, fine, three)) ∙ ap status_of ended.run.2 in
    let c = counted (rules_of setup) source (from_to sink.before ended.between) ended.run.0 status told fine empty ended.run.1 in
    (c.0, kept_behind ended.between sink.after c.0 c.1 (behind_none ended.ran last ending ended.flush), c.2)
solved_status o source sink errors ending status empty (inr (lacking, unused, is)) tells fine = let four : status ≡ 4 = tells.told ∙ ap status_of is in absurd (omega (arith, four, fine))

-- an output is left for the first lines of the input, and the status says so of it
abbrev IsSaid : Change SinkState → List ℕ → ℕ → Type 0
IsSaid sink input status =
    (lines more : List (List ℕ)) × (output : List ℕ) × (lines_of input ≡ lines ++ more) × (sink.after.contents ≡ Some output) × StatusTellsOutput lines output status

said : (split : PartitionModel) (rules : ProofRules) (source : Change SourceState) (sink : Change SinkState) (result : Result ℕ CertifyFault) (status : ℕ) (input : List ℕ) → source.before.left ≡ Some input → sink.before.contents ≡ Some [] → status ≡ status_of (ending_of Answered of_certify result) → status < 2 → Replies split rules source sink result → IsSaid sink input status
said split rules source sink (Ok n) status input known empty told fine replies =
    let a = answer_statuses rules split source sink n input known empty replies in
    (a.0, a.1, a.2, a.3, a.4, subst (StatusTellsOutput a.0 a.2) (sym told) a.5)
said split rules source sink (Err certify.Read) status input known empty told fine replies = absurd (omega (arith, told, fine))
said split rules source sink (Err certify.Write) status input known empty told fine replies = absurd (omega (arith, told, fine))
said split rules source sink (Err (certify.Memory lacking)) status input known empty told fine replies = absurd (omega (arith, told, fine))
said split rules source sink (Err (certify.GroupsMemory wanting)) status input known empty told fine replies = absurd (omega (arith, told, fine))
said split rules source sink (Err certify.CertificateWrite) status input known empty told fine replies = absurd (omega (arith, told, fine))

pub certified_status : CertifiedStatusesTell
certified_status o source sink errors ending status input known empty (inl (setup, is, ended)) tells fine =
    let last = from_to ended.between sink.after in
    let told = status_ran ended.ran last ending status ended.flush tells.told (λ three. omega (arith, fine, three)) ∙ ap status_of ended.run.2 in
    let a = said setup.tables.split (certifying_rules_of setup) source (from_to sink.before ended.between) ended.run.0 status input known empty told fine ended.run.1 in
    (a.0, a.1, a.2, a.3, kept_behind ended.between sink.after a.2 a.4 (behind_none ended.ran last ending ended.flush), a.5)
certified_status o source sink errors ending status input known empty (inr (lacking, unused, is)) tells fine = let four : status ≡ 4 = tells.told ∙ ap status_of is in absurd (omega (arith, four, fine))

-- ---- what endings say of the streams

-- what the ending of a run says of them before the flush
abbrev IsRanIn : Ending → Change SourceState → SinkState → Type 0
IsRanIn NoTexts source sink = ⊥
IsRanIn (Refused refusal) source sink = ⊥
IsRanIn NoMemoryToStart source sink = ⊥
IsRanIn (NoMemory refused) source sink = ⊥
IsRanIn (Ran counts) source sink = source.after.has_failed ≡ false
IsRanIn (Answered status) source sink = source.after.has_failed ≡ false
IsRanIn Shown source sink = ⊤
IsRanIn (Faulted broken.Read) source sink = (source.after.has_failed ≡ true) ⊎ IsTooLong source.before.left
IsRanIn (Faulted broken.Write) source sink = sink.has_failed ≡ true
IsRanIn (Faulted (broken.Memory lacking)) source sink = source.after.has_failed ≡ false
IsRanIn (Faulted (broken.GroupsMemory refused)) source sink = source.after.has_failed ≡ false
IsRanIn (Faulted broken.CertificateRead) source sink = source.after.has_failed ≡ true
IsRanIn (Faulted (broken.CertificateMemory refused)) source sink = source.after.has_failed ≡ false
IsRanIn (Faulted broken.CertificateWrite) source sink = sink.has_failed ≡ true

-- a flush passes on only what did not fail before it
flushed_on : {P : Type 0} (sink : Change SinkState) (done : Unit {0}) → sink.before.has_failed ≡ true → Flushes {E = WriteFailed} sink (Ok done) → P
flushed_on sink done failed flush = absurd (true≢false (sym failed ∙ flush.1.0))

seen_behind : (source : Change SourceState) (a b c : SinkState) (ran : Ending) (flushed : Result (Unit {0}) WriteFailed) → IsRanIn ran source b → Flushes (from_to b c) flushed → IsSeenIn (after_flush ran flushed) source (from_to a c)
seen_behind source a b c NoTexts flushed never flush = absurd never
seen_behind source a b c (Refused refusal) flushed never flush = absurd never
seen_behind source a b c NoMemoryToStart flushed never flush = absurd never
seen_behind source a b c (NoMemory refused) flushed never flush = absurd never
seen_behind source a b c (Ran counts) (Ok done) seen flush = (seen, flush.1.1)
seen_behind source a b c (Ran counts) (Err failed) seen flush = flush.1
seen_behind source a b c (Answered status) (Ok done) seen flush = (seen, flush.1.1)
seen_behind source a b c (Answered status) (Err failed) seen flush = flush.1
seen_behind source a b c Shown (Ok done) seen flush = flush.1.1
seen_behind source a b c Shown (Err failed) seen flush = flush.1
seen_behind source a b c (Faulted broken.Read) (Ok done) seen flush = seen
seen_behind source a b c (Faulted broken.Read) (Err failed) seen flush = seen
seen_behind source a b c (Faulted broken.Write) (Ok done) seen flush = flushed_on (from_to b c) done seen flush
seen_behind source a b c (Faulted broken.Write) (Err failed) seen flush = flush.1
seen_behind source a b c (Faulted (broken.Memory lacking)) (Ok done) seen flush = seen
seen_behind source a b c (Faulted (broken.Memory lacking)) (Err failed) seen flush = seen
seen_behind source a b c (Faulted (broken.GroupsMemory refused)) (Ok done) seen flush = seen
seen_behind source a b c (Faulted (broken.GroupsMemory refused)) (Err failed) seen flush = seen
seen_behind source a b c (Faulted broken.CertificateRead) (Ok done) seen flush = seen
seen_behind source a b c (Faulted broken.CertificateRead) (Err failed) seen flush = seen
seen_behind source a b c (Faulted (broken.CertificateMemory refused)) (Ok done) seen flush = seen
seen_behind source a b c (Faulted (broken.CertificateMemory refused)) (Err failed) seen flush = seen
seen_behind source a b c (Faulted broken.CertificateWrite) (Ok done) seen flush = flushed_on (from_to b c) done seen flush
seen_behind source a b c (Faulted broken.CertificateWrite) (Err failed) seen flush = flush.1

seen_ended : (runs : Change SinkState → Ending → Type 0) (source : Change SourceState) (sink : Change SinkState) (ending : Ending) → ((b : SinkState) (ran : Ending) → runs (from_to sink.before b) ran → IsRanIn ran source b) → EndsRun runs sink ending → IsSeenIn ending source sink
seen_ended runs source sink ending seen ended =
    let flush = ended.flush in
    subst (λ (e : Ending). IsSeenIn e source sink) (sym flush.2) (seen_behind source sink.before ended.between sink.after ended.ran flush.0 (seen ended.between ended.ran ended.run) flush.1)

lines_seen : (rules : Rules) (source : Change SourceState) (sink : Change SinkState) (result : Result Summary LinesFault) → ReportsLines rules source sink result → IsRanIn (ending_of Ran of_lines result) source sink.after
lines_seen rules source sink (Ok counts) reports = reports.1
lines_seen rules source sink (Err lines.Read) reports = reports.0.lost.cause
lines_seen rules source sink (Err lines.Write) reports = reports.2
lines_seen rules source sink (Err (lines.Memory lacking)) reports = reports.1

certificate_seen : (split : PartitionModel) (rules : ProofRules) (source : Change SourceState) (sink : Change SinkState) (result : Result ℕ CertifyFault) → Replies split rules source sink result → IsRanIn (ending_of Answered of_certify result) source sink.after
certificate_seen split rules source sink (Ok n) replies = replies.1.0
certificate_seen split rules source sink (Err certify.Read) replies = replies.1.0.1.cause
certificate_seen split rules source sink (Err certify.Write) replies = replies.1.1.2.1
certificate_seen split rules source sink (Err (certify.Memory lacking)) replies = replies.1.0
certificate_seen split rules source sink (Err (certify.GroupsMemory wanting)) replies = replies.1.0
certificate_seen split rules source sink (Err certify.CertificateWrite) replies = replies.1.1.2.1

replay_seen : (jobs : Jobs) (source : Change SourceState) (sink : Change SinkState) (result : Result ℕ LinesFault) → Replays jobs source sink result → IsRanIn (ending_of Answered of_lines result) source sink.after
replay_seen jobs source sink (Ok n) replays = replays.1
replay_seen jobs source sink (Err lines.Read) replays = replays.0.1.cause
replay_seen jobs source sink (Err lines.Write) replays = replays.2
replay_seen jobs source sink (Err (lines.Memory lacking)) replays = replays.1

-- whether a certificate cannot be read
abbrev is_unread : Result ℕ CheckFault → Bool
is_unread (Ok n) = false
is_unread (Err check.CertificateRead) = true
is_unread (Err (check.CertificateMemory refused)) = false
is_unread (Err check.Write) = false
is_unread (Err (check.Memory lacking)) = false

-- a source whose failure would be answered has not failed
readable : (failed : Bool) (result : Result ℕ CheckFault) → is_unread result ≡ false → (failed ≡ true → result ≡ Err check.CertificateRead) → failed ≡ false
readable true result other told = absurd (true≢false (sym (ap is_unread (told refl)) ∙ other))
readable false result other told = refl

abbrev is_not_upgraded : Result ℕ UpgradeFault → Bool
is_not_upgraded (Ok n) = false
is_not_upgraded (Err upgrade.CertificateRead) = true
is_not_upgraded (Err (upgrade.CertificateMemory refused)) = false
is_not_upgraded (Err upgrade.CertificateWrite) = false

upgradable : (failed : Bool) (result : Result ℕ UpgradeFault) → is_not_upgraded result ≡ false → (failed ≡ true → result ≡ Err upgrade.CertificateRead) → failed ≡ false
upgradable true result other told = absurd (true≢false (sym (ap is_not_upgraded (told refl)) ∙ other))
upgradable false result other told = refl

check_seen : (source : Change SourceState) (sink : Change SinkState) (result : Result ℕ CheckFault) → Checks source sink result → IsRanIn (ending_of Answered of_check result) source sink.after
check_seen source sink (Ok n) checks = readable source.after.has_failed (Ok n) refl (failed_certificates.0 source sink (Ok n) checks).1
check_seen source sink (Err check.CertificateRead) checks = (failed_certificates.0 source sink (Err check.CertificateRead) checks).0 refl
check_seen source sink (Err (check.CertificateMemory refused)) checks = readable source.after.has_failed (Err (check.CertificateMemory refused)) refl (failed_certificates.0 source sink (Err (check.CertificateMemory refused)) checks).1
check_seen source sink (Err check.Write) checks = failed_verdicts.0 source sink checks
check_seen source sink (Err (check.Memory lacking)) checks = readable source.after.has_failed (Err (check.Memory lacking)) refl (failed_certificates.0 source sink (Err (check.Memory lacking)) checks).1

show_seen : (style : Style) (source : Change SourceState) (sink : Change SinkState) (result : Result ℕ CheckFault) → ShowsCertificate style source sink result → IsRanIn (ending_of Answered of_check result) source sink.after
show_seen style source sink (Ok n) shows = readable source.after.has_failed (Ok n) refl (failed_certificates.1 style source sink (Ok n) shows).1
show_seen style source sink (Err check.CertificateRead) shows = (failed_certificates.1 style source sink (Err check.CertificateRead) shows).0 refl
show_seen style source sink (Err (check.CertificateMemory refused)) shows = readable source.after.has_failed (Err (check.CertificateMemory refused)) refl (failed_certificates.1 style source sink (Err (check.CertificateMemory refused)) shows).1
show_seen style source sink (Err check.Write) shows = failed_verdicts.2 style source sink shows
show_seen style source sink (Err (check.Memory lacking)) shows = readable source.after.has_failed (Err (check.Memory lacking)) refl (failed_certificates.1 style source sink (Err (check.Memory lacking)) shows).1

upgrade_seen : (source : Change SourceState) (sink : Change SinkState) (result : Result ℕ UpgradeFault) → Upgrades source sink result → IsRanIn (ending_of Answered of_upgrade result) source sink.after
upgrade_seen source sink (Ok n) upgrades = upgradable source.after.has_failed (Ok n) refl (failed_certificates.2 source sink (Ok n) upgrades).1
upgrade_seen source sink (Err upgrade.CertificateRead) upgrades = (failed_certificates.2 source sink (Err upgrade.CertificateRead) upgrades).0 refl
upgrade_seen source sink (Err (upgrade.CertificateMemory refused)) upgrades = upgradable source.after.has_failed (Err (upgrade.CertificateMemory refused)) refl (failed_certificates.2 source sink (Err (upgrade.CertificateMemory refused)) upgrades).1
upgrade_seen source sink (Err upgrade.CertificateWrite) upgrades = failed_verdicts.4 source sink upgrades

list_seen : (IsSuch : List BoardModel → Type 0) (source : Change SourceState) (sink : Change SinkState) (result : Result (Unit {0}) WriteFailed) → ListsBoards IsSuch sink result → IsRanIn (ending_of (λ done. Shown) (λ failed. Write) result) source sink.after
list_seen IsSuch source sink (Ok done) lists = tt
list_seen IsSuch source sink (Err failed) lists = lists.failed

text_seen : (text : List ℕ) (source : Change SourceState) (sink : Change SinkState) (result : Result (Unit {0}) WriteFailed) → Writes sink text result → IsRanIn (ending_of (λ done. Shown) (λ failed. Write) result) source sink.after
text_seen text source sink (Ok done) writes = tt
text_seen text source sink (Err failed) writes = writes.1

-- the same by the ending of a run
seen_by : (source : Change SourceState) (sink : SinkState) (ran is : Ending) → ran ≡ is → IsRanIn is source sink → IsRanIn ran source sink
seen_by source sink ran is same seen = subst (λ (e : Ending). IsRanIn e source sink) (sym same) seen

seen_request : (request : Request) (source : Change SourceState) (sink : Change SinkState) (ending : Ending) → EndsRequest request source sink ending → IsSeenIn ending source sink
seen_request (Solve o) source sink ending (inl (setup, is, run)) = seen_ended (SolvesLines source setup) source sink ending (λ b ran it. seen_by source b ran _ it.2 (lines_seen (rules_of setup) source (from_to sink.before b) it.0 it.1)) run
seen_request (Solve o) source sink ending (inr (lacking, unused, is)) = subst (λ (e : Ending). IsSeenIn e source sink) (sym is) unused
seen_request (Certify o) source sink ending (inl (setup, is, run)) = seen_ended (CertifiesOne source setup) source sink ending (λ b ran it. seen_by source b ran _ it.2 (certificate_seen setup.tables.split (certifying_rules_of setup) source (from_to sink.before b) it.0 it.1)) run
seen_request (Certify o) source sink ending (inr (lacking, unused, is)) = subst (λ (e : Ending). IsSeenIn e source sink) (sym is) unused
seen_request Check source sink ending run = seen_ended (Judges source) source sink ending (λ b ran it. seen_by source b ran _ it.2 (check_seen source (from_to sink.before b) it.0 it.1)) run
seen_request (Draw style) source sink ending run = seen_ended (Draws source style) source sink ending (λ b ran it. seen_by source b ran _ it.2 (show_seen style source (from_to sink.before b) it.0 it.1)) run
seen_request Upgrade source sink ending run = seen_ended (Rewrites source) source sink ending (λ b ran it. seen_by source b ran _ it.2 (upgrade_seen source (from_to sink.before b) it.0 it.1)) run
seen_request (Replay o) source sink ending (inl (setup, is, run)) = seen_ended (TakesSteps source setup) source sink ending (λ b ran it. seen_by source b ran _ it.2 (replay_seen (setup_jobs setup) source (from_to sink.before b) it.0 it.1)) run
seen_request (Replay o) source sink ending (inr (lacking, unused, is)) = subst (λ (e : Ending). IsSeenIn e source sink) (sym is) unused
seen_request (Boards l) source sink ending (unread, run) = seen_ended (ListsClass l) source sink ending (λ b ran it. seen_by source b ran _ it.2 (list_seen (AreChosen l.goal l.choice) source (from_to sink.before b) it.0 it.1)) run
seen_request (Help text) source sink ending (unread, run) = seen_ended (ShowsText (string_bytes text)) source sink ending (λ b ran it. seen_by source b ran _ it.2 (text_seen (string_bytes text) source (from_to sink.before b) it.0 it.1)) run
seen_request (Version text) source sink ending (unread, run) = seen_ended (ShowsText (string_bytes text)) source sink ending (λ b ran it. seen_by source b ran _ it.2 (text_seen (string_bytes text) source (from_to sink.before b) it.0 it.1)) run

pub endings_seen : EndingsAreSeen
endings_seen words source sink ending (inl (request, asks, ends)) = seen_request request source sink ending ends
endings_seen words source sink ending (inr (refusal, fails, unused, is)) = subst (λ (e : Ending). IsSeenIn e source sink) (sym is) unused

-- an ending with such a status comes behind a run, and the sink has not failed
well_ended : (source : Change SourceState) (sink : Change SinkState) (ending : Ending) (status : ℕ) → (status < 2) ⊎ (status ≡ 5) → status ≡ status_of ending → (¬ HasNotBegun ending) → IsSeenIn ending source sink → sink.after.has_failed ≡ false
well_ended source sink NoTexts status well told ran seen = absurd seen
well_ended source sink (Refused refusal) status well told ran seen = absurd (ran tt)
well_ended source sink NoMemoryToStart status well told ran seen = absurd seen
well_ended source sink (NoMemory refused) status well told ran seen = absurd (ran tt)
well_ended source sink (Ran counts) status well told ran seen = seen.1
well_ended source sink (Answered n) status well told ran seen = seen.1
well_ended source sink Shown status well told ran seen = seen
well_ended source sink (Faulted f) status well told ran seen = absurd (faulted status well (fault_status f) told)

pub well_flushed : (IsFlushed : Type 0) → WellEndedRunsAreFlushed IsFlushed
well_flushed IsFlushed words source sink errors status well ran = elim (ran.ended.3) [
  | inl it ↦ let good = well_ended source sink ran.ended.0 status well ran.ended.1.told it.1 (endings_seen words source sink ran.ended.0 ran.ended.2) in (not_failed IsFlushed sink.after it.0 good, good)
  | inr it ↦ absurd (idle_status ran.ended.0 status well ran.ended.1.told it.0)
]

-- ---- a certificate

answered : (split : PartitionModel) (rules : ProofRules) → ProvesTruly rules → (source : Change SourceState) (sink : Change SinkState) (result : Result ℕ CertifyFault) (status : ℕ) → status ≡ status_of (ending_of Answered of_certify result) → status < 2 → Replies split rules source sink result → WritesAnswer split rules source sink
answered split rules truthful source sink (Ok n) status told fine replies = answer_true split rules truthful source sink (Ok n) replies
answered split rules truthful source sink (Err certify.Read) status told fine replies = absurd (omega (arith, told))
answered split rules truthful source sink (Err certify.Write) status told fine replies = absurd (omega (arith, told))
answered split rules truthful source sink (Err (certify.Memory lacking)) status told fine replies = absurd (omega (arith, told))
answered split rules truthful source sink (Err (certify.GroupsMemory wanting)) status told fine replies = absurd (omega (arith, told))
answered split rules truthful source sink (Err certify.CertificateWrite) status told fine replies = absurd (omega (arith, told))

module _ (source : Change SourceState) (sink : Change SinkState) (ending : Ending) (status : ℕ) (told : status ≡ status_of ending) where
  certified : (setup : SetupModel) → EndsRun (CertifiesOne source setup) sink ending → status < 2 → WritesAnswer setup.tables.split (certifying_rules_of setup) source sink
  certified setup ended fine =
      let last = from_to ended.between sink.after in
      let is = status_ran ended.ran last ending status ended.flush told (λ three. omega (arith, fine, three)) ∙ ap status_of ended.run.2 in
      WritesAnswer-kept setup.tables.split (certifying_rules_of setup) source sink.before ended.between sink.after
      (answered setup.tables.split (certifying_rules_of setup) (truthful_certifying setup) source (from_to sink.before ended.between) ended.run.0 status is fine ended.run.1)
      (behind_none ended.ran last ending ended.flush)

-- ---- a verdict

-- what a verdict with this status says of the input
abbrev Judged : ℕ → Change SinkState → List ℕ → Type 0
Judged status sink input =
    WritesVerdict sink input × (status ≡ 0 → StatesTruth sink input) × (status ≡ 5 → (code : List ℕ) × IsCertificateRefusedBy input code × Puts sink (report_text (refused_certificate_data code)))

-- this output was written
put_output : (sink : Change SinkState) (output : Output) (text : List ℕ) (status : ℕ) → Puts sink output.text → output ≡ record { text = text; status = status } → Puts sink text
put_output sink output text status put is = subst (Puts sink) (ap (λ (o : Output). o.text) is) put

-- where a plan is stated, it leads, and its cost is the least
stated_plan : (plan : Option (List Move)) (P : List Move → Type 0) (L : Type 0) → IfSome plan P → (IsSome plan → L) → IfSome plan (λ moves. P moves × L)
stated_plan None P L leads least = tt
stated_plan (Some moves) P L leads least = (leads, least refl)

verdict_judged : (read : Result CertificateModel ReadFault) (sink : Change SinkState) (input : List ℕ) (output : Output) (status : ℕ) → TellsOfInput read input → IsVerdictOutput read output → status ≡ output.status → Puts sink output.text → WritesVerdict sink input → Judged status sink input
verdict_judged (Ok c) sink input output status tells (tables, built, inl accepted) is put written = (
  written,
  λ zero. (c, spelled_read input c tells, accepted.below, stated_plan c.plan (λ plan. Leads c.costs c.start plan c.goal c.cost) (IsLeast c.costs c.start c.goal c.cost) accepted.proved.plan accepted.least, put_output sink output (report_text (claim_data c.plan c.cost)) 0 put accepted.written),
  λ five. let given = ap (λ (o : Output). o.status) accepted.written in absurd (omega (arith, is, five, given)),
)
verdict_judged (Ok c) sink input output status tells (tables, built, inr (refusal, first, refused)) is put written = (
  written,
  λ zero. let given = ap (λ (o : Output). o.status) refused in absurd (omega (arith, is, zero, given)),
  λ five. (refusal_code refusal, inr (c, tables, refusal, spelled_read input c tells, built, first, refl), put_output sink output (report_text (refused_certificate_data (refusal_code refusal))) 5 put refused),
)
verdict_judged (Err (Format fault)) sink input output status tells refused is put written = (
  written,
  λ zero. let given = ap (λ (o : Output). o.status) refused in absurd (omega (arith, is, zero, given)),
  λ five. (format_code fault, inl (fault, tells, refl), put_output sink output (report_text (refused_certificate_data (format_code fault))) 5 put refused),
)
verdict_judged (Err Failed) sink input output status tells never is put written = absurd never
verdict_judged (Err (NoMemoryToRead refused)) sink input output status tells never is put written = absurd never

known : (input : Option (List ℕ)) (read : Result CertificateModel ReadFault) (sink : Change SinkState) (output : Output) (status : ℕ) → IfSome input (TellsOfInput read) → IsVerdictOutput read output → status ≡ output.status → Puts sink output.text → IfSome input (WritesVerdict sink) → IfSome input (Judged status sink)
known None read sink output status tells verdict is put written = tt
known (Some input) read sink output status tells verdict is put written = verdict_judged read sink input output status tells verdict is put written

judged : (source : Change SourceState) (sink : Change SinkState) (result : Result ℕ CheckFault) (status : ℕ) → status ≡ status_of (ending_of Answered of_check result) → (status ≡ 0) ⊎ (status ≡ 5) → Checks source sink result → IfSome source.before.left (Judged status sink)
judged source sink (Ok n) status told well checks =
    let output = checks.2.0 in
    known source.before.left checks.0 sink output status checks.1.tells checks.2.1 (told ∙ checks.2.3) checks.2.2.0 (check_true source sink (Ok n) checks)
judged source sink (Err check.CertificateRead) status told (inl zero) checks = absurd (omega (arith, told, zero))
judged source sink (Err check.CertificateRead) status told (inr five) checks = absurd (omega (arith, told, five))
judged source sink (Err (check.CertificateMemory refused)) status told (inl zero) checks = absurd (omega (arith, told, zero))
judged source sink (Err (check.CertificateMemory refused)) status told (inr five) checks = absurd (omega (arith, told, five))
judged source sink (Err check.Write) status told (inl zero) checks = absurd (omega (arith, told, zero))
judged source sink (Err check.Write) status told (inr five) checks = absurd (omega (arith, told, five))
judged source sink (Err (check.Memory lacking)) status told (inl zero) checks = absurd (omega (arith, told, zero))
judged source sink (Err (check.Memory lacking)) status told (inr five) checks = absurd (omega (arith, told, five))

StatesTruth-kept : (a b c : SinkState) (input : List ℕ) → StatesTruth (from_to a b) input → PutsNone (from_to b c) → StatesTruth (from_to a c) input
StatesTruth-kept a b c input (cert, read, below, plan, put) kept = (cert, read, below, plan, Appends-kept a.contents b.contents c.contents _ put kept)

Judged-kept : (input : Option (List ℕ)) (a b c : SinkState) (status : ℕ) → ((status ≡ 0) ⊎ (status ≡ 5) → IfSome input (Judged status (from_to a b))) → PutsNone (from_to b c) → IfSome input (JudgesTruly status (from_to a c))
Judged-kept None a b c status all kept = tt
Judged-kept (Some input) a b c status all kept = record {
  verdict = λ well. WritesVerdict-kept a b c input (all well).0 kept;
  accepted = λ zero. StatesTruth-kept a b c input ((all (inl zero)).1 zero) kept;
  refused = λ five. (let by = (all (inr five)).2 five in (by.0, by.1, Appends-kept a.contents b.contents c.contents _ by.2 kept));
}

other_than_3 : (status : ℕ) → (status ≡ 0) ⊎ (status ≡ 5) → status ≢ 3
other_than_3 status (inl zero) three = absurd (omega (arith, zero, three))
other_than_3 status (inr five) three = absurd (omega (arith, five, three))

module _ (source : Change SourceState) (sink : Change SinkState) (ending : Ending) (status : ℕ) (told : status ≡ status_of ending) where
  checked : EndsRun (Judges source) sink ending → IfSome source.before.left (JudgesTruly status sink)
  checked ended =
      let last = from_to ended.between sink.after in
      Judged-kept source.before.left sink.before ended.between sink.after status
      (λ well. judged source (from_to sink.before ended.between) ended.run.0 status (status_ran ended.ran last ending status ended.flush told (other_than_3 status well) ∙ ap status_of ended.run.2) well ended.run.1)
      (behind_none ended.ran last ending ended.flush)

-- ---- a drawing

drawn_by : (style : Style) (source : Change SourceState) (sink : Change SinkState) (result : Result ℕ CheckFault) (status : ℕ) → status ≡ status_of (ending_of Answered of_check result) → (status ≡ 0) ⊎ (status ≡ 5) → IsTrueShow style source sink result → IfSome source.before.left (WritesShow style sink status)
drawn_by style source sink (Ok n) status told well truth = subst (λ (k : ℕ). IfSome source.before.left (WritesShow style sink k)) (sym told) truth
drawn_by style source sink (Err check.CertificateRead) status told (inl zero) truth = absurd (omega (arith, told, zero))
drawn_by style source sink (Err check.CertificateRead) status told (inr five) truth = absurd (omega (arith, told, five))
drawn_by style source sink (Err (check.CertificateMemory refused)) status told (inl zero) truth = absurd (omega (arith, told, zero))
drawn_by style source sink (Err (check.CertificateMemory refused)) status told (inr five) truth = absurd (omega (arith, told, five))
drawn_by style source sink (Err check.Write) status told (inl zero) truth = absurd (omega (arith, told, zero))
drawn_by style source sink (Err check.Write) status told (inr five) truth = absurd (omega (arith, told, five))
drawn_by style source sink (Err (check.Memory lacking)) status told (inl zero) truth = absurd (omega (arith, told, zero))
drawn_by style source sink (Err (check.Memory lacking)) status told (inr five) truth = absurd (omega (arith, told, five))

WritesShow-kept : (style : Style) (a b c : SinkState) (status : ℕ) (input : List ℕ) → WritesShow style (from_to a b) status input → PutsNone (from_to b c) → WritesShow style (from_to a c) status input
WritesShow-kept style a b c status input (inl (cert, drawing, read, leads, draws, put, is)) kept = inl (cert, drawing, read, leads, draws, Appends-kept a.contents b.contents c.contents drawing put kept, is)
WritesShow-kept style a b c status input (inr (code, mistaken, put, is)) kept = inr (code, mistaken, Appends-kept a.contents b.contents c.contents _ put kept, is)

Drawn-kept : (style : Style) (input : Option (List ℕ)) (a b c : SinkState) (status : ℕ) → ((status ≡ 0) ⊎ (status ≡ 5) → IfSome input (WritesShow style (from_to a b) status)) → PutsNone (from_to b c) → IfSome input (DrawsTruly style status (from_to a c))
Drawn-kept style None a b c status all kept = tt
Drawn-kept style (Some input) a b c status all kept = λ well. WritesShow-kept style a b c status input (all well) kept

module _ (source : Change SourceState) (sink : Change SinkState) (ending : Ending) (status : ℕ) (told : status ≡ status_of ending) where
  drawn : (style : Style) → EndsRun (Draws source style) sink ending → IfSome source.before.left (DrawsTruly style status sink)
  drawn style ended =
      let last = from_to ended.between sink.after in
      let first = from_to sink.before ended.between in
      Drawn-kept style source.before.left sink.before ended.between sink.after status
      (λ well. drawn_by style source first ended.run.0 status (status_ran ended.ran last ending status ended.flush told (other_than_3 status well) ∙ ap status_of ended.run.2) well (show_true style source first ended.run.0 ended.run.1))
      (behind_none ended.ran last ending ended.flush)

-- ---- an upgrade

upgraded_by : (source : Change SourceState) (sink : Change SinkState) (result : Result ℕ UpgradeFault) (status : ℕ) → status ≡ status_of (ending_of Answered of_upgrade result) → (status ≡ 0) ⊎ (status ≡ 5) → IsTrueUpgrade source sink result → IfSome source.before.left (WritesUpgrade sink status)
upgraded_by source sink (Ok n) status told well truth = subst (λ (k : ℕ). IfSome source.before.left (WritesUpgrade sink k)) (sym told) truth
upgraded_by source sink (Err upgrade.CertificateRead) status told (inl zero) truth = absurd (omega (arith, told, zero))
upgraded_by source sink (Err upgrade.CertificateRead) status told (inr five) truth = absurd (omega (arith, told, five))
upgraded_by source sink (Err (upgrade.CertificateMemory refused)) status told (inl zero) truth = absurd (omega (arith, told, zero))
upgraded_by source sink (Err (upgrade.CertificateMemory refused)) status told (inr five) truth = absurd (omega (arith, told, five))
upgraded_by source sink (Err upgrade.CertificateWrite) status told (inl zero) truth = absurd (omega (arith, told, zero))
upgraded_by source sink (Err upgrade.CertificateWrite) status told (inr five) truth = absurd (omega (arith, told, five))

Upgraded-kept : (input : Option (List ℕ)) (a b c : SinkState) (status : ℕ) → ((status ≡ 0) ⊎ (status ≡ 5) → IfSome input (WritesUpgrade (from_to a b) status)) → PutsNone (from_to b c) → IfSome input (UpgradesTruly status (from_to a c))
Upgraded-kept None a b c status all kept = tt
Upgraded-kept (Some input) a b c status all kept = λ well. WritesUpgrade-kept a b c status input (all well) kept

module _ (source : Change SourceState) (sink : Change SinkState) (ending : Ending) (status : ℕ) (told : status ≡ status_of ending) where
  rewritten : EndsRun (Rewrites source) sink ending → IfSome source.before.left (UpgradesTruly status sink)
  rewritten ended =
      let last = from_to ended.between sink.after in
      let first = from_to sink.before ended.between in
      Upgraded-kept source.before.left sink.before ended.between sink.after status
      (λ well. upgraded_by source first ended.run.0 status (status_ran ended.ran last ending status ended.flush told (other_than_3 status well) ∙ ap status_of ended.run.2) well (upgrade_true source first ended.run.0 ended.run.1))
      (behind_none ended.ran last ending ended.flush)

-- ---- a replay, and a text

stepped : (jobs : Jobs) (source : Change SourceState) (sink : Change SinkState) (result : Result ℕ LinesFault) (status : ℕ) → status ≡ status_of (ending_of Answered of_lines result) → status < 2 → Replays jobs source sink result → WritesReplay jobs source sink status
stepped jobs source sink (Ok n) status told fine replays = subst (WritesReplay jobs source sink) (sym told) replays.0
stepped jobs source sink (Err lines.Read) status told fine replays = absurd (omega (arith, told))
stepped jobs source sink (Err lines.Write) status told fine replays = absurd (omega (arith, told))
stepped jobs source sink (Err (lines.Memory lacking)) status told fine replays = absurd (omega (arith, told))

put_text : (text : List ℕ) (sink : Change SinkState) (result : Result (Unit {0}) WriteFailed) (status : ℕ) → status ≡ status_of (ending_of (λ done. Shown) (λ failed. Write) result) → status ≡ 0 → Writes sink text result → Puts sink text
put_text text sink (Ok done) status told zero writes = writes.0
put_text text sink (Err failed) status told zero writes = absurd (omega (arith, told, zero))

put_list : (l : Listing) (sink : Change SinkState) (result : Result (Unit {0}) WriteFailed) (status : ℕ) → status ≡ status_of (ending_of (λ done. Shown) (λ failed. Write) result) → status ≡ 0 → ListsBoards (AreChosen l.goal l.choice) sink result → (boards : List BoardModel) × AreChosen l.goal l.choice boards × Puts sink (lines_text 1 boards)
put_list l sink (Ok done) status told zero lists = (lists.boards, lists.such, lists.written.0)
put_list l sink (Err failed) status told zero lists = absurd (omega (arith, told, zero))

module _ (source : Change SourceState) (sink : Change SinkState) (ending : Ending) (status : ℕ) (told : status ≡ status_of ending) where
  replayed : (setup : SetupModel) → EndsRun (TakesSteps source setup) sink ending → status < 2 → WritesReplay (setup_jobs setup) source sink status
  replayed setup ended fine =
      let last = from_to ended.between sink.after in
      let is = status_ran ended.ran last ending status ended.flush told (λ three. omega (arith, fine, three)) ∙ ap status_of ended.run.2 in
      WritesReplay-kept (setup_jobs setup) source sink.before ended.between sink.after status
      (stepped (setup_jobs setup) source (from_to sink.before ended.between) ended.run.0 status is fine ended.run.1)
      (behind_none ended.ran last ending ended.flush)

  shown : (text : List ℕ) → EndsRun (ShowsText text) sink ending → status ≡ 0 → Puts sink text
  shown text ended zero =
      let last = from_to ended.between sink.after in
      let is = status_ran ended.ran last ending status ended.flush told (λ three. omega (arith, zero, three)) ∙ ap status_of ended.run.2 in
      Appends-kept sink.before.contents ended.between.contents sink.after.contents text (put_text text (from_to sink.before ended.between) ended.run.0 status is zero ended.run.1) (behind_none ended.ran last ending ended.flush)

  listed : (l : Listing) → EndsRun (ListsClass l) sink ending → status ≡ 0 → (boards : List BoardModel) × AreChosen l.goal l.choice boards × Puts sink (lines_text 1 boards)
  listed l ended zero =
      let last = from_to ended.between sink.after in
      let is = status_ran ended.ran last ending status ended.flush told (λ three. omega (arith, zero, three)) ∙ ap status_of ended.run.2 in
      let list = put_list l (from_to sink.before ended.between) ended.run.0 status is zero ended.run.1 in
      (list.0, list.1, Appends-kept sink.before.contents ended.between.contents sink.after.contents (lines_text 1 list.0) list.2 (behind_none ended.ran last ending ended.flush))

  -- ---- what arguments ask for

  request_true : (request : Request) → EndsRequest request source sink ending → IsTrueOf request status source sink ⊎ (OutOfMemory × (status ≡ 4) × IsUnused source sink)
  request_true (Solve o) (inl (setup, is, run)) = let all = solved source sink ending status told setup run in inl (setup, is, all.0, all.1)
  request_true (Solve o) (inr (lacking, unused, is)) = inr (lacking, told ∙ ap status_of is, unused)
  request_true (Certify o) (inl (setup, is, run)) = inl (setup, is, certified source sink ending status told setup run)
  request_true (Certify o) (inr (lacking, unused, is)) = inr (lacking, told ∙ ap status_of is, unused)
  request_true Check run = inl (checked source sink ending status told run)
  request_true (Draw style) run = inl (drawn source sink ending status told style run)
  request_true Upgrade run = inl (rewritten source sink ending status told run)
  request_true (Replay o) (inl (setup, is, run)) = inl (setup, is, replayed setup run)
  request_true (Replay o) (inr (lacking, unused, is)) = inr (lacking, told ∙ ap status_of is, unused)
  request_true (Boards l) (unread, run) = inl (listed l run)
  request_true (Help text) (unread, run) = inl (shown (string_bytes text) run)
  request_true (Version text) (unread, run) = inl (shown (string_bytes text) run)

  words_true : (words : List Text) → EndsBy words source sink ending → IsTrueBy words status source sink
  words_true words (inl (request, asks, ends)) = inl (request, asks, request_true request ends)
  words_true words (inr (refusal, fails, unused, is)) = inr (refusal, fails, told ∙ ap status_of is, unused)

  -- ---- no arguments

  -- a batch of a default setup was run, or memory was refused for its groups or tables
  abbrev BatchOrNone : Type 0
  BatchOrNone = ((¬ HasNotBegun ending) × IsTrue status source sink) ⊎ (HasNotBegun ending × OutOfMemory × (status ≡ 4))

  default_true : (request : Request) → WordsAsk [] request → EndsRequest request source sink ending → BatchOrNone
  default_true (Solve o) defaults (inl (setup, is, run)) =
      let all = solved source sink ending status told setup run in
      inl (begun_ended (command.Solve setup false false) source sink ending run, (setup, default_setup o setup defaults is, all.0, all.1))
  default_true (Solve o) defaults (inr (lacking, unused, is)) = inr (subst HasNotBegun (sym is) tt, lacking, told ∙ ap status_of is)
  default_true (Certify o) never ends = absurd never
  default_true Check never ends = absurd never
  default_true (Draw style) never ends = absurd never
  default_true Upgrade never ends = absurd never
  default_true (Replay o) never ends = absurd never
  default_true (Boards l) never ends = absurd never
  default_true (Help text) never ends = absurd never
  default_true (Version text) never ends = absurd never

  default_refused : (refusal : NoRequest) → WordsFail [] refusal → ending ≡ Refused refusal → BatchOrNone
  default_refused (Usage text) never is = absurd never
  default_refused (Goal fault) never is = absurd never
  default_refused (Costs fault) never is = absurd never
  default_refused (Groups (groups.NoGroup fault)) never is = absurd never
  default_refused (Groups (groups.NoPartition fault)) never is = absurd never
  default_refused (Groups (groups.Memory lacking)) refused is = inr (subst HasNotBegun (sym is) tt, lacking, told ∙ ap status_of is)
  default_refused (NoListing fault) never is = absurd never
  default_refused (Memory error) never is = absurd never
  default_refused NoMatch never is = absurd never

  none_true : EndsBy [] source sink ending → BatchOrNone
  none_true (inl (request, asks, ends)) = default_true request asks ends
  none_true (inr (refusal, fails, unused, is)) = default_refused refusal fails is

  -- ---- what the program's contract says

  -- A command was run, and the sink flushed behind it or failed; or nothing was begun.
  abbrev pub IsEnded : Type 0 → Type 0 → Type 0
  IsEnded Flushed Untouched = (Flushed × (¬ HasNotBegun ending)) ⊎ (HasNotBegun ending × Untouched)

  flushed_or_not : {Flushed Untouched : Type 0} → IsEnded Flushed Untouched → Flushed ⊎ Untouched
  flushed_or_not (inl (flushed, ran)) = inl flushed
  flushed_or_not (inr (idle, untouched)) = inr untouched

  untouched : {Flushed Untouched : Type 0} → IsEnded Flushed Untouched → HasNotBegun ending → Untouched
  untouched (inl (flushed, ran)) idle = absurd (ran idle)
  untouched (inr (never, kept)) idle = kept

  batch_true : {Flushed Untouched : Type 0} → BatchOrNone → IsEnded Flushed Untouched → (Flushed × IsTrue status source sink) ⊎ (OutOfMemory × (status ≡ 4) × Untouched)
  batch_true (inl (ran, all)) (inl (flushed, same)) = inl (flushed, all)
  batch_true (inl (ran, all)) (inr (idle, kept)) = absurd (ran idle)
  batch_true (inr (idle, lacking, four)) ended = inr (lacking, four, untouched ended idle)

  pub runs_program : {Flushed Untouched : Type 0} → (words : List Text) (errors : Change SinkState) → ReportsEnding errors ending status → EndsBy words source sink ending → IsEnded Flushed Untouched → RunsProgram words source sink errors status Flushed Untouched
  runs_program words errors tells ends ended = record {
    ended = (ending, tells, ends, ended);
    truth = words_true words ends;
    batch = λ none. batch_true (none_true (subst (λ (w : List Text). EndsBy w source sink ending) none ends)) ended;
    flushed = flushed_or_not ended;
  }
