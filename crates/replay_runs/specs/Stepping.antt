-- What the lines after the board line do, and the report at their end.
use Rattle.std.specs.Prelude.{ℕ, ◌≡◌, ◌⊎◌, List, ◌++◌, Bool, Result, Ok, Err}
use Rattle.byte_streams.specs.Streams.{SourceState, SinkState, Change, from_to}
use Rattle.byte_streams.specs.Sink.{Puts, PutsBeginning}
use Rattle.outcomes.specs.declared.outcome.Outcome.{Outcome}
use Rattle.outcomes.specs.Endings.{without_rows}
use Rattle.batch_runs.specs.ReportReadings.{HasSmallNumbers}
use Rattle.batch_runs.specs.Reports.{outcome_data, report_text}
use Rattle.world_model.specs.Worlds.{WorldState}
use Rattle.world_model.specs.Steps.{IsRun}
use Rattle.world_model.specs.Outcomes.{IsGiven}
use Rattle.batch_runs.specs.Batches.{AreAll, AreFirst, LosesLine, IsReadable, HasFailed, KeepsFailure}
use Rattle.batch_runs.specs.declared.faults.LinesFault.{LinesFault}
use Rattle.batch_runs.specs.declared.faults.LinesFault.TheVariants.{Read, Write, Memory}
use Rattle.replay_runs.specs.Replies.{Reply, RepliesToEach, steps_of, replies_text, are_fine, replay_status_of}

-- the lines are replied to, and the steps that they say lead from one world to the other
pub record IsReplied (world : Change WorldState) (later : List (List ℕ)) (replies : List Reply) : Type 0 where
  pub each : RepliesToEach later replies
  pub run : IsRun world.before (steps_of replies) world.after

-- the outcome that a world gives, whose numbers a report can tell
abbrev pub IsReportOf : WorldState → Outcome → Type 0
IsReportOf w outcome = IsGiven w outcome × HasSmallNumbers (without_rows outcome)

-- the replies, and then the report of the outcome by this id, without its rows
abbrev pub output_of : List Reply → List ℕ → Outcome → List ℕ
output_of replies id outcome = replies_text replies ++ report_text (outcome_data id (without_rows outcome))

-- Behind the lines before all later ones were read, and the replies to them written; or a line was lost behind them; or writing failed.
abbrev pub RepliesToLines : Change SourceState → List (List ℕ) → Change WorldState → Change SinkState → Result Bool LinesFault → Type 0
RepliesToLines source lines world sink (Ok fine) =
    (later : List (List ℕ)) × (replies : List Reply) × AreAll source.before.left (lines ++ later) × IsReplied world later replies
    × Puts sink (replies_text replies) × (fine ≡ are_fine replies) × IsReadable source × KeepsFailure sink
RepliesToLines source lines world sink (Err Read) =
    (later : List (List ℕ)) × (replies : List Reply) × LosesLine source (lines ++ later) × IsReplied world later replies × Puts sink (replies_text replies) × KeepsFailure sink
RepliesToLines source lines world sink (Err Write) =
    (later : List (List ℕ)) × (replies : List Reply) × AreFirst source.before.left (lines ++ later) × IsReplied world later replies
    × PutsBeginning sink (replies_text replies) × IsReadable source × HasFailed sink.after
RepliesToLines source lines world sink (Err (Memory lacking)) = ⊥

-- Then the report was written, of an outcome that the world gives; or memory was refused for it. A fault before it is that of a line.
abbrev pub Finishes : Change SourceState → List (List ℕ) → WorldState → List ℕ → Change SinkState → Result ℕ LinesFault → Type 0
Finishes source lines w id sink (Ok status) =
    (later : List (List ℕ)) × (replies : List Reply) × (end : WorldState) × (outcome : Outcome) × AreAll source.before.left (lines ++ later)
    × IsReplied (from_to w end) later replies × IsReportOf end outcome × Puts sink (output_of replies id outcome)
    × (status ≡ replay_status_of (are_fine replies) (without_rows outcome)) × IsReadable source × KeepsFailure sink
Finishes source lines w id sink (Err Read) =
    (later : List (List ℕ)) × (replies : List Reply) × (end : WorldState) × LosesLine source (lines ++ later) × IsReplied (from_to w end) later replies
    × Puts sink (replies_text replies) × KeepsFailure sink
Finishes source lines w id sink (Err Write) =
    ((later : List (List ℕ)) × (replies : List Reply) × (end : WorldState) × AreFirst source.before.left (lines ++ later)
    × IsReplied (from_to w end) later replies × PutsBeginning sink (replies_text replies) × IsReadable source × HasFailed sink.after)
    ⊎ ((later : List (List ℕ)) × (replies : List Reply) × (end : WorldState) × (outcome : Outcome) × AreAll source.before.left (lines ++ later)
    × IsReplied (from_to w end) later replies × IsReportOf end outcome × PutsBeginning sink (output_of replies id outcome) × IsReadable source × HasFailed sink.after)
Finishes source lines w id sink (Err (Memory lacking)) =
    (later : List (List ℕ)) × (replies : List Reply) × (end : WorldState) × AreAll source.before.left (lines ++ later)
    × IsReplied (from_to w end) later replies × Puts sink (replies_text replies) × IsReadable source × KeepsFailure sink
