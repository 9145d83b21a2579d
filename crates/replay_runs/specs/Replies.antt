-- What is replied to the lines after the board line, which say steps.
use Rattle.std.specs.Prelude.{ℕ, ◌≡◌, ◌&&◌, List, [], ◌∷◌, ◌++◌, Bool, true, false, Option, None, Some, Result, Ok, Err, IsUtf8, codes, if◌then◌else◌, ⊤}
use Rattle.byte_streams.specs.Streams.{SinkState, Change}
use Rattle.byte_streams.specs.Sink.{WritesAll, FailsWriting}
use Rattle.byte_streams.specs.declared.sink.WriteFailed.{WriteFailed}
use Rattle.batch_lines.specs.Lines.{without_return, line_kind_of}
use Rattle.batch_lines.specs.Words.{words_of}
use Rattle.batch_lines.specs.declared.lines.LineKind.{LineKind}
use Rattle.batch_lines.specs.declared.lines.LineKind.TheVariants.{PassedOver, Within, TooLong}
use Rattle.outcomes.specs.declared.outcome.Ending.{Ending}
use Rattle.outcomes.specs.declared.outcome.Ending.TheVariants.{Optimal, Unsolvable, Bounded}
use Rattle.world_model.specs.declared.steps.Refusal.{Refusal}
use Rattle.world_model.specs.declared.steps.Step.{Step}
use Rattle.world_model.specs.Turns.{turn}
use Rattle.world_model.specs.Worlds.{WorldState}
use Rattle.world_model.specs.Steps.{Next}
use Rattle.replay_runs.specs.Answers.{answer_word}
use Rattle.replay_runs.specs.Steps.{SaysStep}

-- a line is passed over; or it says no step; or it says this one, which is refused so, or isn't refused
pub data Reply : Type 0 where
  passed_over : Reply
  no_step : Reply
  taken : (step : Step) → (refusal : Option Refusal) → Reply

-- a text whose words say the step
abbrev pub TextSays : List ℕ → Step → Type 0
TextSays bytes step = IsUtf8 bytes × SaysStep (words_of bytes) step

-- the reply to a text
abbrev pub RepliesToText : List ℕ → Reply → Type 0
RepliesToText bytes passed_over = ⊥
RepliesToText bytes no_step = (step : Step) → ¬ TextSays bytes step
RepliesToText bytes (taken step refusal) = TextSays bytes step

-- the reply to a line of this kind with these bytes
abbrev pub RepliesToKind : LineKind → List ℕ → Reply → Type 0
RepliesToKind PassedOver bytes reply = reply ≡ passed_over
RepliesToKind TooLong bytes reply = reply ≡ no_step
RepliesToKind Within bytes reply = RepliesToText bytes reply

-- the reply to a line
abbrev pub RepliesTo : List ℕ → Reply → Type 0
RepliesTo line reply = RepliesToKind (line_kind_of line) (without_return line) reply

-- a reply to each of the lines, in their order
abbrev pub RepliesToEach : List (List ℕ) → List Reply → Type 0
RepliesToEach [] [] = ⊤
RepliesToEach [] (reply ∷ replies) = ⊥
RepliesToEach (line ∷ lines) [] = ⊥
RepliesToEach (line ∷ lines) (reply ∷ replies) = RepliesTo line reply × RepliesToEach lines replies

-- the steps that were said, with their answers
abbrev pub steps_of : List Reply → List (Step × Option Refusal)
steps_of [] = []
steps_of (passed_over ∷ replies) = steps_of replies
steps_of (no_step ∷ replies) = steps_of replies
steps_of (taken step refusal ∷ replies) = (step, refusal) ∷ steps_of replies

-- a word on a line of its own
abbrev pub line_of : List ℕ → List ℕ
line_of word = word ++ 10 ∷ []

-- what is written of a reply
abbrev pub reply_text : Reply → List ℕ
reply_text passed_over = []
reply_text no_step = line_of (codes "B4")
reply_text (taken step refusal) = line_of (answer_word refusal)

-- and of one after the other
abbrev pub replies_text : List Reply → List ℕ
replies_text [] = []
replies_text (reply ∷ replies) = reply_text reply ++ replies_text replies

-- whether the line said a step, or was passed over
abbrev pub is_fine : Reply → Bool
is_fine passed_over = true
is_fine no_step = false
is_fine (taken step refusal) = true

-- whether each was so
abbrev pub are_fine : List Reply → Bool
are_fine [] = true
are_fine (reply ∷ replies) = is_fine reply && are_fine replies

-- the status: 1 for a bound, and where some line said no step
abbrev pub replay_status_of : Bool → Ending → ℕ
replay_status_of fine (Optimal cost plan) = if fine then 0 else 1
replay_status_of fine (Unsolvable why) = if fine then 0 else 1
replay_status_of fine (Bounded bound best cause) = 1

-- ---- one line

-- the world after a reply: a step was taken, or nothing has changed
abbrev pub Changes : Change WorldState → Reply → Type 0
Changes world passed_over = world.after ≡ world.before
Changes world no_step = world.after ≡ world.before
Changes world (taken step refusal) = Next step (turn world.before refusal world.after)

-- the reply to a line that says this step, or none, where the step is refused so, or isn't refused
abbrev pub reply_to : Option Step → Option Refusal → Reply
reply_to None refusal = no_step
reply_to (Some step) refusal = taken step refusal

-- the text is written, and this is the answer; or the sink has failed
abbrev pub WritesLine : Change SinkState → List ℕ → Bool → Result Bool WriteFailed → Type 0
WritesLine sink text fine (Ok told) = WritesAll sink text × (told ≡ fine)
WritesLine sink text fine (Err failure) = FailsWriting sink text

-- the reply is written, and the answer is whether it and those before it are fine; or the sink has failed
abbrev pub WritesReply : Change SinkState → Reply → Bool → Result Bool WriteFailed → Type 0
WritesReply sink reply fine result = WritesLine sink (reply_text reply) (is_fine reply && fine) result

-- ---- a law: the contract of a function without effect

-- where a text says a step, the reply to it is that this step was taken, or refused
abbrev pub StepsAreTaken : List ℕ → Type 0
StepsAreTaken bytes = (step : Step) (reply : Reply) → TextSays bytes step → RepliesToText bytes reply → (refusal : Option Refusal) × (reply ≡ taken step refusal)
