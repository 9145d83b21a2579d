-- The terms of the main theorem: what the lines of an input ask, and what a line of the output says.
use Rattle.std.specs.Prelude.{ℕ, ◌≡◌, ◌+◌, ◌⊎◌, List, [], ◌∷◌, slice_get, Bool, not, if◌then◌else◌, Option, Some, codes}
use Rattle.serde_json.specs.Data.{Data}
use Rattle.board.specs.Shapes.{ShapeModel}
use Rattle.board.specs.Boards.{BoardModel}
use Rattle.board.specs.Plans.{Leads, IsLeast, NothingBelow}
use Rattle.board.specs.declared.moves.Move.{Move}
use Rattle.batch_lines.specs.Lines.{lines_of, without_return, is_passed_over, line_kind_of}
use Rattle.batch_lines.specs.Words.{IsEntry, IsFirstEntryFault, entry_code}
use Rattle.batch_lines.specs.declared.words.EntryFault.{EntryFault}
use Rattle.batch_lines.specs.declared.lines.LineKind.TheVariants.{Within, TooLong}
use Rattle.outcomes.specs.Outcomes.{Task, IsBestPlan, AllowsWhy, AllowsCause}
use Rattle.outcomes.specs.Words.{why_word, cause_word}
use Rattle.outcomes.specs.declared.outcome.Why.{Why}
use Rattle.outcomes.specs.declared.outcome.Cause.{Cause}
use Rattle.batch_runs.specs.Reports.{letters_of, best_data}
use Rattle.batch_runs.specs.ReportReadings.{Reads, Says, SaysText, SaysNumber, HasStatus}

-- ---- what the lines of an input ask

-- a line asks for an answer: it isn't passed over
abbrev pub asks : List ℕ → Bool
asks line = not (is_passed_over (without_return line))

-- the lines that ask, with their numbers, where the first of all lines has number n
abbrev pub questions : ℕ → List (List ℕ) → List (ℕ × List ℕ)
questions n [] = []
questions n (line ∷ lines) = if asks line then (n, line) ∷ questions (n + 1) lines else questions (n + 1) lines

-- the k-th of the lines that ask, counted from 0, is this one, which has number n
abbrev pub IsQuestion : List (List ℕ) → ℕ → ℕ → List ℕ → Type 0
IsQuestion lines k n line = slice_get (questions 1 lines) k ≡ Some (n, line)

-- the line names this board by this id: it is within the limit, and its words are the id and the tiles of the board
abbrev pub Names : ShapeModel → List ℕ → List ℕ → BoardModel → Type 0
Names grid line id b = (line_kind_of line ≡ Within) × IsEntry grid (without_return line) id b

-- the line has a fault with this code: it is too long, or this is the first fault of its words
abbrev pub HasFault : ShapeModel → List ℕ → List ℕ → Type 0
HasFault grid line code =
    ((line_kind_of line ≡ TooLong) × (code ≡ codes "E12")) ⊎ ((line_kind_of line ≡ Within) × ((fault : EntryFault) × IsFirstEntryFault grid (without_return line) fault × (code ≡ entry_code fault)))

-- ---- what a line of the output says

-- the k-th line of the output, counted from 0, is read as this value
abbrev pub IsReply : List ℕ → ℕ → Data → Type 0
IsReply output k d = (line : List ℕ) × (slice_get (lines_of output) k ≡ Some line) × Reads line d

-- a cost and a plan: the plan leads to the goal at this cost, and no plan costs less
abbrev pub SaysLeast : Task → Data → Type 0
SaysLeast task d =
    (cost : ℕ) × (plan : List Move)
    × SaysNumber d (codes "cost") cost
    × SaysText d (codes "plan") (letters_of plan)
    × Leads task.rule task.start plan task.goal cost
    × IsLeast task.rule task.start task.goal cost

-- no plan leads to the goal, for a reason that is true
abbrev pub SaysNone : Task → Data → Type 0
SaysNone task d =
    ((plan : List Move) (cost : ℕ) → ¬ Leads task.rule task.start plan task.goal cost)
    × ((why : Why) × SaysText d (codes "why") (why_word why) × AllowsWhy task why)

-- a bound, and no plan costs less, for a cause that is true; and a plan that leads to the goal at its cost, or none
abbrev pub SaysBound : Task → Data → Type 0
SaysBound task d =
    (bound : ℕ) × (best : Option (ℕ × List Move)) × (cause : Cause)
    × SaysNumber d (codes "bound") bound
    × Says d (codes "best") (best_data best)
    × SaysText d (codes "cause") (cause_word cause)
    × NothingBelow task.rule task.start task.goal bound
    × IsBestPlan task bound best
    × AllowsCause bound cause

-- line n is refused by a fault with this code
abbrev pub SaysRefused : Data → List ℕ → ℕ → Type 0
SaysRefused d code n = HasStatus d (codes "refused") × SaysText d (codes "fault") code × SaysNumber d (codes "line") n

-- each line of the output says a least plan, or that there is none
abbrev pub AreAllDecided : List ℕ → Type 0
AreAllDecided output = (k : ℕ) (d : Data) → IsReply output k d → HasStatus d (codes "optimal") ⊎ HasStatus d (codes "unsolvable")
