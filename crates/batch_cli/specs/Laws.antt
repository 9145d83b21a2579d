-- The laws of the definitions. Each is the contract of a function that does nothing.
use Rattle.std.specs.Prelude.{ℕ, Bool, ◌≡◌, ◌≤◌, ◌<◌, ◌⊎◌, ◌↔◌, ⊤, true, false, List, [], ◌∷◌, ◌++◌, Ok, Some, All, map, String, string_bytes, codes}
use Rattle.std.specs.declared.alloc.Global.{Global}
use Rattle.byte_streams.specs.Streams.{SourceState, SinkState, Change}
use Rattle.clap.specs.Words.{Text}
use Rattle.memory.specs.declared.OutOfMemory.{OutOfMemory}
use Rattle.board.specs.declared.moves.Move.{Move}
use Rattle.board.specs.Boards.{BoardModel, goal_of}
use Rattle.board.specs.Plans.{Leads}
use Rattle.board.specs.Weights.{unit_rule}
use Rattle.certificate.specs.Certificates.{CertificateModel}
use Rattle.certificate.specs.Readings.{certificate}
use Rattle.board_lists.specs.Lines.{lines_text}
use Rattle.board_lists.specs.Lists.{AreChosen}
use Rattle.certificate.specs.Certificates.{upgraded}
use Rattle.certificate.specs.Spellings.{spelling}
use Rattle.certificate.specs.Readings.{IsFirstFormatFault}
use Rattle.certificate.specs.declared.faults.FormatFault.{FormatFault}
use Rattle.certificate_check.specs.Refusals.{ItsPlanLeads}
use Rattle.certificate_runs.specs.Headline.{AnswersFirst, IsCertificateRefusedBy, IsMistaken}
use Rattle.certificate_runs.specs.Laws.{StatusTellsOutput}
use Rattle.certificate_runs.specs.Checking.{claim_data}
use Rattle.drawings.specs.Drawings.{IsDrawing}
use Rattle.drawings.specs.declared.drawing.Style.{Style}
use Rattle.outcomes.specs.Endings.{without_rows}
use Rattle.outcomes.specs.declared.outcome.Outcome.{Outcome}
use Rattle.outcomes.specs.declared.outcome.Ending.{Ending as LineEnding}
use Rattle.batch_runs.specs.declared.stats.Stats.{Stats}
use Rattle.batch_runs.specs.declared.stats.Solved.{Solved}
use Rattle.batch_runs.specs.declared.setup.SpreadKind.TheVariants.{Zobrist}
use Rattle.batch_runs.specs.Batches.{HasFailed, IsTooLong}
use Rattle.batch_runs.specs.FirstLines.{IsPassedOver}
use Rattle.batch_runs.specs.Laws.{count_status}
use Rattle.batch_runs.specs.Reports.{refused_certificate_data, report_text, outcome_data}
use Rattle.replay_runs.specs.Openings.{setup_jobs}
use Rattle.replay_runs.specs.Replays.{Jobs, IsEnd, RefusesFirst}
use Rattle.replay_runs.specs.Replies.{Reply, are_fine, replay_status_of}
use Rattle.replay_runs.specs.Stepping.{output_of}
use Rattle.command_line.specs.declared.requests.Listing.{Listing}
use Rattle.command_line.specs.declared.requests.Options.{Options}
use Rattle.command_line.specs.declared.requests.Request.TheVariants.{Solve, Certify, Check, Draw, Upgrade, Replay, Boards, Help, Version}
use Rattle.batch_lines.specs.Lines.{lines_of, without_return}
use Rattle.batch_lines.specs.Words.{IsEntry}
use Rattle.batch_runs.specs.Meanings.{AreAllDecided, IsQuestion, IsReply}
use Rattle.batch_runs.specs.Headline.{TellsTheTruth}
use Rattle.batch_cli.specs.declared.endings.Ending.{Ending}
use Rattle.batch_cli.specs.declared.endings.Ending.TheVariants.{NoTexts, Refused, NoMemoryToStart, NoMemory, Ran, Answered, Shown, Faulted}
use Rattle.batch_cli.specs.declared.faults.BatchFault.TheVariants.{Read, Write, Memory, GroupsMemory, CertificateRead, CertificateMemory, CertificateWrite}
use Rattle.batch_cli.specs.Endings.{Tells, message_of}
use Rattle.batch_cli.specs.Setups.{IsDefaultSetup, small_grid}
use Rattle.batch_cli.specs.Headline.{IsTrue, IsTrueOf, RunsProgram}
use Rattle.batch_cli.specs.Programs.{PrintsAsAsked, HandsAsked, EndsBy, EndsRequest, IsUnused}
use Rattle.batch_cli.specs.declared.commands.Command.TheVariants as command
use Rattle.batch_runs.specs.Setups.{SetupModel}
use Rattle.setup_runs.specs.Solving.{rules_of, certifying_rules_of, HasStats}
use Rattle.table_sets.specs.Built.{AreTrueTables, AreBuilt, AreBuiltFolded}

-- to a stream that has not failed since, the message is written whole
abbrev pub MessagesAreWhole : Type 0
MessagesAreWhole =
    (errors : Change SinkState) (ending : Ending) (status : ℕ) (held : List ℕ) → errors.before.contents ≡ Some held → errors.after.has_failed ≡ false → Tells errors ending status → errors.after.contents ≡ Some (held ++ message_of ending)

-- whatever becomes of the stream, what is written there is a beginning of the message
abbrev pub MessagesAreBegun : Type 0
MessagesAreBegun =
    (errors : Change SinkState) (ending : Ending) (status : ℕ) (held : List ℕ)
    → errors.before.contents ≡ Some held
    → Tells errors ending status
    → (sent unsent : List ℕ) × (message_of ending ≡ sent ++ unsent) × (errors.after.contents ≡ Some (held ++ sent))

-- Where the input is known and the output was empty, what the sink holds after the status 0 or 1 tells the truth of all of the input's lines,
-- for some default setup. After 0 none of them is bounded or refused.
abbrev pub OutputsTellTheTruth : Type 0
OutputsTellTheTruth =
    (source : Change SourceState) (sink : Change SinkState) (status : ℕ) (input : List ℕ)
    → source.before.left ≡ Some input
    → sink.before.contents ≡ Some []
    → status < 2
    → IsTrue status source sink
    → (setup : SetupModel) × IsDefaultSetup setup × (output : List ℕ) × (sink.after.contents ≡ Some output) × TellsTheTruth (rules_of setup) (lines_of input) output × (status ≡ 0 → AreAllDecided output)

-- The setup has the goal, costs, limit, workers and spread of the options. Its tables are those of the options' groups for this goal and these
-- costs: folded where the options say so, and else whole.
pub record IsAsAsked (o : Options) (setup : SetupModel) : Type 0 where
  pub goal : setup.goal ≡ o.goal
  pub rule : setup.rule ≡ o.costs
  pub limit : setup.limit ≡ o.limit
  pub workers : setup.workers ≡ o.workers
  pub spread : setup.spread ≡ o.spread
  pub groups : setup.tables.split ≡ o.groups
  pub folded : o.fold ≡ true → (setup.tables.lookups ≡ []) × AreBuiltFolded o.groups o.costs o.goal setup.tables
  pub whole : o.fold ≡ false → (setup.tables.folds ≡ []) × AreBuilt o.groups o.costs o.goal setup.tables

-- so it is of what `solve` leaves for options, with a setup as they ask for it
abbrev pub SolvedOutputsTellTheTruth : Type 0
SolvedOutputsTellTheTruth =
    (o : Options) (source : Change SourceState) (sink : Change SinkState) (status : ℕ) (input : List ℕ)
    → source.before.left ≡ Some input
    → sink.before.contents ≡ Some []
    → status < 2
    → IsTrueOf (Solve o) status source sink
    → (setup : SetupModel) × IsAsAsked o setup × (output : List ℕ) × (sink.after.contents ≡ Some output)
    × TellsTheTruth (rules_of setup) (lines_of input) output × (status ≡ 0 → AreAllDecided output)

-- Whatever the status, what it leaves begins what tells the truth of the input's first lines, with such a setup.
abbrev pub SolvedBeginningsTellTheTruth : Type 0
SolvedBeginningsTellTheTruth =
    (o : Options) (source : Change SourceState) (sink : Change SinkState) (status : ℕ) (input : List ℕ)
    → source.before.left ≡ Some input
    → sink.before.contents ≡ Some []
    → IsTrueOf (Solve o) status source sink
    → (setup : SetupModel) × IsAsAsked o setup
    × (lines more : List (List ℕ)) × (written unwritten : List ℕ) × (lines_of input ≡ lines ++ more) × (sink.after.contents ≡ Some written) × TellsTheTruth (rules_of setup) lines (written ++ unwritten)

-- And what it leaves where a certificate is asked for answers the first board of the input, with a setup of the same kind. Where it leaves
-- nothing, the answered lines are all of the input's.
abbrev pub CertificatesAnswerTheFirst : Type 0
CertificatesAnswerTheFirst =
    (o : Options) (source : Change SourceState) (sink : Change SinkState) (status : ℕ) (input : List ℕ)
    → source.before.left ≡ Some input
    → sink.before.contents ≡ Some []
    → status < 2
    → IsTrueOf (Certify o) status source sink
    → (setup : SetupModel) × IsAsAsked o setup
    × (lines more : List (List ℕ)) × (output : List ℕ) × (lines_of input ≡ lines ++ more) × (sink.after.contents ≡ Some output)
    × AnswersFirst setup.tables.split (certifying_rules_of setup) lines output × (output ≡ [] → lines_of input ≡ lines)

-- Where `check` of a known input ends with the status 0, the input is a certificate: no plan costs less than it states, and a plan that it
-- states leads to the goal at its cost. An output that was empty has just the report of this cost, or of this bound.
abbrev pub AcceptedInputsAreTrue : Type 0
AcceptedInputsAreTrue =
    (source : Change SourceState) (sink : Change SinkState) (input : List ℕ)
    → source.before.left ≡ Some input
    → IsTrueOf Check 0 source sink
    → (c : CertificateModel) × (certificate input ≡ Ok (c, []))
    × ((plan : List Move) (cost : ℕ) → Leads c.costs c.start plan c.goal cost → c.cost ≤ cost)
    × ((plan : List Move) → c.plan ≡ Some plan → Leads c.costs c.start plan c.goal c.cost)
    × (sink.before.contents ≡ Some [] → sink.after.contents ≡ Some (report_text (claim_data c.plan c.cost)))

-- A default setup has the goal of 3 by 3 with the blank first and the tiles in order, and unit cost. It has the whole tables of two groups of
-- tiles for these, no limit, and one worker, and boards are spread by a hash of all tiles.
abbrev pub DefaultSetupsAreKorfs : Type 0
DefaultSetupsAreKorfs =
    (setup : SetupModel)
    → IsDefaultSetup setup
    → (setup.goal.tiles ≡ 0 ∷ 1 ∷ 2 ∷ 3 ∷ 4 ∷ 5 ∷ 6 ∷ 7 ∷ 8 ∷ [])
    × (setup.rule ≡ unit_rule small_grid)
    × (map (λ g. g.tiles) setup.tables.split.groups ≡ (1 ∷ 2 ∷ 3 ∷ 4 ∷ []) ∷ (5 ∷ 6 ∷ 7 ∷ 8 ∷ []) ∷ [])
    × (setup.limit ≡ 18446744073709551615)
    × (setup.workers ≡ 1)
    × (setup.spread ≡ Zobrist)
    × (setup.goal.grid ≡ small_grid)
    × AreTrueTables setup.tables.split.groups (unit_rule small_grid) (goal_of small_grid) setup.tables.lookups
    × (setup.tables.folds ≡ [])

-- a command prints what its options ask for
abbrev pub OptionsArePrinted : Type 0
OptionsArePrinted =
    (o : Options) (setup : SetupModel) (progress stats : Bool)
    → (PrintsAsAsked (Solve o) (command.Solve setup progress stats) → (progress ≡ o.progress) × (stats ≡ o.stats))
    × (PrintsAsAsked (Certify o) (command.Certify setup progress) → progress ≡ o.progress)

-- a run without arguments is true, or memory was refused before anything was read or written, with the status 4
abbrev pub RunsWithoutArgumentsAreTrue : Type 0
RunsWithoutArgumentsAreTrue =
    (source : Change SourceState) (sink errors : Change SinkState) (status : ℕ)
    → RunsProgram [] source sink errors status ⊤ ⊤
    → IsTrue status source sink ⊎ (OutOfMemory × (status ≡ 4) × IsUnused source sink)

-- Where the input is known and the output was empty, what the sink holds begins what tells the truth of the input's first lines, whatever the
-- status.
abbrev pub BegunOutputsTellTheTruth : Type 0
BegunOutputsTellTheTruth =
    (source : Change SourceState) (sink : Change SinkState) (status : ℕ) (input : List ℕ)
    → source.before.left ≡ Some input
    → sink.before.contents ≡ Some []
    → IsTrue status source sink
    → (setup : SetupModel) × IsDefaultSetup setup
    × (lines more : List (List ℕ)) × (written unwritten : List ℕ) × (lines_of input ≡ lines ++ more) × (sink.after.contents ≡ Some written) × TellsTheTruth (rules_of setup) lines (written ++ unwritten)

-- with the status 0 an output that was empty has just the lines of the boards that were chosen
abbrev pub ListsAreWritten : Type 0
ListsAreWritten = (l : Listing) (source : Change SourceState) (sink : Change SinkState) → sink.before.contents ≡ Some [] → IsTrueOf (Boards l) 0 source sink → (boards : List BoardModel) × AreChosen l.goal l.choice boards × (sink.after.contents ≡ Some (lines_text 1 boards))

-- or the text that was asked for
abbrev pub TextsAreWritten : Type 0
TextsAreWritten =
    (text : String Global) (source : Change SourceState) (sink : Change SinkState)
    → sink.before.contents ≡ Some []
    → IsTrueOf (Help text) 0 source sink ⊎ IsTrueOf (Version text) 0 source sink
    → sink.after.contents ≡ Some (string_bytes text)

-- where `check` of a known input ends with the status 5, the input is refused for a cause, and an output that was empty has just the report of it
abbrev pub RefusedInputsAreFaulty : Type 0
RefusedInputsAreFaulty =
    (source : Change SourceState) (sink : Change SinkState) (input : List ℕ)
    → source.before.left ≡ Some input
    → IsTrueOf Check 5 source sink
    → (code : List ℕ) × IsCertificateRefusedBy input code × (sink.before.contents ≡ Some [] → sink.after.contents ≡ Some (report_text (refused_certificate_data code)))

-- where `show` of a known input ends with the status 0, the input is a certificate whose plan leads to its goal, if it has one, and an output
-- that was empty has just its drawing
abbrev pub DrawnInputsAreCertificates : Type 0
DrawnInputsAreCertificates =
    (style : Style) (source : Change SourceState) (sink : Change SinkState) (input : List ℕ)
    → source.before.left ≡ Some input
    → sink.before.contents ≡ Some []
    → IsTrueOf (Draw style) 0 source sink
    → (c : CertificateModel) × (drawing : List ℕ) × (certificate input ≡ Ok (c, [])) × ItsPlanLeads c × IsDrawing style c drawing × (sink.after.contents ≡ Some drawing)

-- with the status 5 something is wrong with the input, and the output is the report of that
abbrev pub UndrawnInputsAreMistaken : Type 0
UndrawnInputsAreMistaken =
    (style : Style) (source : Change SourceState) (sink : Change SinkState) (input : List ℕ)
    → source.before.left ≡ Some input
    → sink.before.contents ≡ Some []
    → IsTrueOf (Draw style) 5 source sink
    → (code : List ℕ) × IsMistaken input code × (sink.after.contents ≡ Some (report_text (refused_certificate_data code)))

-- Where `upgrade` of a known input ends with the status 0, the input is a certificate, and an output that was empty has just its spelling in
-- version 2. With the status 5 the input's bytes have a first fault, and the output is still empty.
abbrev pub UpgradesAreSpelled : Type 0
UpgradesAreSpelled =
    (source : Change SourceState) (sink : Change SinkState) (input : List ℕ)
    → source.before.left ≡ Some input
    → sink.before.contents ≡ Some []
    → (IsTrueOf Upgrade 0 source sink → (c : CertificateModel) × (certificate input ≡ Ok (c, [])) × (sink.after.contents ≡ Some (spelling (upgraded c))))
    × (IsTrueOf Upgrade 5 source sink → (fault : FormatFault) × IsFirstFormatFault input fault × (sink.after.contents ≡ Some []))

-- A known input of a replay has no board, since each of its lines is passed over, and is answered by nothing. Or its first board is refused,
-- with the status 1. Or all its lines are a board and its steps, to which the output replies before it reports an outcome, and the status is
-- that of both.
abbrev pub IsReplayOf : Jobs → Change SourceState → List ℕ → List ℕ → ℕ → Type 0
IsReplayOf jobs source input output status =
    (All IsPassedOver (lines_of input) × (output ≡ []) × (status ≡ 0))
    ⊎ (RefusesFirst jobs source output × (status ≡ 1))
    ⊎ ((id : List ℕ) × (replies : List Reply) × (outcome : Outcome) × IsEnd jobs (lines_of input) id replies outcome × (output ≡ output_of replies id outcome)
    × (status ≡ replay_status_of (are_fine replies) (without_rows outcome)))

-- where `replay` of a known input ends with the status 0 or 1, an output that was empty has just the answer of a replay with a setup as the
-- options ask for it
abbrev pub ReplaysAreAnswered : Type 0
ReplaysAreAnswered =
    (o : Options) (source : Change SourceState) (sink : Change SinkState) (status : ℕ) (input : List ℕ)
    → source.before.left ≡ Some input
    → sink.before.contents ≡ Some []
    → status < 2
    → IsTrueOf (Replay o) status source sink
    → (setup : SetupModel) × IsAsAsked o setup × (output : List ℕ) × (sink.after.contents ≡ Some output) × IsReplayOf (setup_jobs setup) source input output status

-- Where `solve` is asked for figures, the input is known and the output was empty, each report of an ending has figures that were taken with
-- its id. They are those of a run for the board that the report's line names, with a setup as the options ask for it, and the run ends so.
abbrev pub FiguresAreTaken : (List ℕ → Stats → Type 0) → Type 0
FiguresAreTaken taken =
    (o : Options) (source : Change SourceState) (sink : Change SinkState) (input : List ℕ)
    → o.stats ≡ true
    → source.before.left ≡ Some input
    → sink.before.contents ≡ Some []
    → HandsAsked taken (Solve o) source sink
    → (setup : SetupModel) × IsAsAsked o setup × (written unwritten : List ℕ) × (sink.after.contents ≡ Some written)
    × ((k : ℕ) (id : List ℕ) (ending : LineEnding)
    → IsReply (written ++ unwritten) k (outcome_data id ending)
    → (n : ℕ) × (line : List ℕ) × (b : BoardModel) × (solved : Solved)
    × IsQuestion (lines_of input) k n line × IsEntry setup.goal.grid (without_return line) id b
    × HasStats setup b solved × taken id solved.stats × (outcome_data id solved.ending ≡ outcome_data id ending))

-- ---- statuses, and what endings say of the streams

-- Where the output was empty, and `solve` ends with the status 0 or 1, it ends with 0 just where no line of the output says a bound or a refusal.
abbrev pub SolvedStatusesTell : Type 0
SolvedStatusesTell =
    (o : Options) (source : Change SourceState) (sink errors : Change SinkState) (ending : Ending) (status : ℕ)
    → sink.before.contents ≡ Some []
    → EndsRequest (Solve o) source sink ending
    → Tells errors ending status
    → status < 2
    → (output : List ℕ) × (sink.after.contents ≡ Some output)
    × ((status ≡ 0) ↔ ((count_status (codes "bounded") output ≡ 0) × (count_status (codes "refused") output ≡ 0)))

-- where a certificate is asked for and the input is known too, the status says whether it claims a plan or a bound, or what is reported
abbrev pub CertifiedStatusesTell : Type 0
CertifiedStatusesTell =
    (o : Options) (source : Change SourceState) (sink errors : Change SinkState) (ending : Ending) (status : ℕ) (input : List ℕ)
    → source.before.left ≡ Some input
    → sink.before.contents ≡ Some []
    → EndsRequest (Certify o) source sink ending
    → Tells errors ending status
    → status < 2
    → (lines more : List (List ℕ)) × (output : List ℕ) × (lines_of input ≡ lines ++ more) × (sink.after.contents ≡ Some output) × StatusTellsOutput lines output status

-- What an ending says of the streams. Where arguments are refused, or memory for tables, nothing was read or written. Where the run ends well,
-- neither stream has failed. A stream is named only where it has failed, or the input is longer than it may be.
abbrev pub IsSeenIn : Ending → Change SourceState → Change SinkState → Type 0
IsSeenIn NoTexts source sink = ⊥
IsSeenIn (Refused refusal) source sink = IsUnused source sink
IsSeenIn NoMemoryToStart source sink = ⊥
IsSeenIn (NoMemory refused) source sink = IsUnused source sink
IsSeenIn (Ran counts) source sink = (source.after.has_failed ≡ false) × (sink.after.has_failed ≡ false)
IsSeenIn (Answered status) source sink = (source.after.has_failed ≡ false) × (sink.after.has_failed ≡ false)
IsSeenIn Shown source sink = sink.after.has_failed ≡ false
IsSeenIn (Faulted Read) source sink = (source.after.has_failed ≡ true) ⊎ IsTooLong source.before.left
IsSeenIn (Faulted Write) source sink = sink.after.has_failed ≡ true
IsSeenIn (Faulted (Memory lacking)) source sink = source.after.has_failed ≡ false
IsSeenIn (Faulted (GroupsMemory refused)) source sink = source.after.has_failed ≡ false
IsSeenIn (Faulted CertificateRead) source sink = source.after.has_failed ≡ true
IsSeenIn (Faulted (CertificateMemory refused)) source sink = source.after.has_failed ≡ false
IsSeenIn (Faulted CertificateWrite) source sink = sink.after.has_failed ≡ true

-- each ending is seen in the streams
abbrev pub EndingsAreSeen : Type 0
EndingsAreSeen = (words : List Text) (source : Change SourceState) (sink : Change SinkState) (ending : Ending) → EndsBy words source sink ending → IsSeenIn ending source sink

-- Where the program ends with the status 0, 1 or 5, its sink is flushed, and has not failed.
abbrev pub WellEndedRunsAreFlushed : Type 0 → Type 0
WellEndedRunsAreFlushed IsFlushed =
    (words : List Text) (source : Change SourceState) (sink errors : Change SinkState) (status : ℕ)
    → (status < 2) ⊎ (status ≡ 5)
    → RunsProgram words source sink errors status (IsFlushed ⊎ HasFailed sink.after) (IsUnused source sink)
    → IsFlushed × (sink.after.has_failed ≡ false)
