-- The laws of joined worlds. Each is the contract of a function that does nothing.
use Rattle.std.specs.Prelude.{ℕ, ◌≡◌, ◌≢◌, ◌⊎◌, ◌+◌, ◌*◌, ◌≤◌, ◌<◌, length, sum_by, Option, None, Some}
use Rattle.board.specs.Boards.{BoardModel}
use Rattle.board.specs.Rows.{IsLowerBound}
use Rattle.outcomes.specs.declared.outcome.Want.{Want}
use Rattle.outcomes.specs.declared.outcome.Want.TheVariants.{Stated}
use Rattle.outcomes.specs.Outcomes.{Task}
use Rattle.world_model.specs.declared.limits.TheConstants.{GREATEST_GRANT}
use Rattle.world_model.specs.declared.parts.Item.{Item}
use Rattle.world_model.specs.declared.steps.Stop.TheVariants.{Quiet, Limit, Memory, Start}
use Rattle.world_model.specs.Books.{BookState}
use Rattle.world_model.specs.Credit.{expansion_count, packet_count, purse_total}
use Rattle.world_model.specs.Openings.{Job}
use Rattle.world_model.specs.Quiet.{IsKept}
use Rattle.world_model.specs.Worlds.{WorldState, IsUnderWay}
use Rattle.hda_run.specs.Jobs.{JobModel}
use Rattle.hda_run.specs.Worlds.{job_of}
use Rattle.thread_runs.specs.Threads.{IsJoined, GivesIfKept, IsFoundWithBook}

-- a joined world has as many workers as the job says, and each board has the owner that the job says, one of them
abbrev pub BoardsHaveOwners : Type 0
BoardsHaveOwners = (job : Job) (w : WorldState) (b : BoardModel) → IsJoined job w → (w.owner b ≡ job.owner b) × (w.owner b < length w.workers) × (length w.workers ≡ job.count)

-- a joined world has expanded no more boards than its book allows
abbrev pub JoinedLimitsAreKept : Type 0
JoinedLimitsAreKept = (job : Job) (w : WorldState) → IsJoined job w → expansion_count w ≤ w.book.limit

-- where it was halted for the limit, its book has granted all of that, and its workers have expanded it except at most one grant for each
abbrev pub LimitsAreSpent : Type 0
LimitsAreSpent =
    (job : Job) (w : WorldState)
    → IsJoined job w
    → w.book.stop ≡ Some Limit
    → (w.book.granted ≡ w.book.limit) × (w.book.limit ≤ expansion_count w + GREATEST_GRANT * length w.workers)

-- Whatever stopped it, what its book has granted is what its workers have expanded, and what they have left to expand: at most one grant
-- for each worker.
abbrev pub GrantsAreCounted : Type 0
GrantsAreCounted =
    (job : Job) (w : WorldState)
    → IsJoined job w
    → (w.book.granted ≡ expansion_count w + sum_by (λ worker. worker.allowance) w.workers)
    × (sum_by (λ worker. worker.allowance) w.workers ≤ GREATEST_GRANT * length w.workers)

-- where it is quiet, no purse has anything, and no packet is in a lane
abbrev pub QuietHasNoCredit : Type 0
QuietHasNoCredit = (job : Job) (w : WorldState) → IsJoined job w → w.book.stop ≡ Some Quiet → purse_total w + packet_count w ≡ 0

-- nor is an item under way to any worker: none is held, unsent, or in a lane
abbrev pub QuietIsStill : Type 0
QuietIsStill = (job : Job) (w : WorldState) → IsJoined job w → w.book.stop ≡ Some Quiet → (to : ℕ) (item : Item) → ¬ IsUnderWay w to item

module _ {X : Type 0} (gives : WorldState → X → Type 0) (answers : Task → X → Type 0) where
  -- what a joined world that is kept gives answers the job, where its sums are lower bounds
  abbrev pub JoinedWorldsAnswer : Type 0
  JoinedWorldsAnswer =
      (job : Job) (w : WorldState) (answer : X)
      → IsJoined job w
      → IsKept w
      → IsLowerBound job.task.rule job.task.sum job.task.goal
      → gives w answer
      → answers job.task answer

module _ {X : Type 0} (gives : WorldState → X → Type 0) where
  -- an answer is found of a world that is kept, and gives it; and none of one that isn't
  abbrev pub KeptWorldsAloneGive : Type 0
  KeptWorldsAloneGive = (w : WorldState) → ((answer : X) → GivesIfKept gives w (Some answer) → IsKept w × gives w answer) × (GivesIfKept gives w None → ¬ IsKept w)

module _ {S X : Type 0} (gives : WorldState → X → Type 0) (owner_of : S → ℕ → BoardModel → ℕ) where
  -- By what the shared book says, nothing is found where the run went on still, or where a thread could not be started. Where memory was
  -- refused, something is.
  abbrev pub BooksSayWhatIsFound : Type 0
  BooksSayWhatIsFound =
      (p : JobModel) (owners : S) (n : ℕ) (book : BookState) (found : Option X)
      → IsFoundWithBook gives owner_of p owners n book found
      → ((book.stop ≡ None) ⊎ (book.stop ≡ Some Start) → found ≡ None)
      × ((want : Want) → book.stop ≡ Some (Memory want) → found ≢ None)

  -- What n threads find is given by a kept world of their joined workers, with the shared book. It has expanded what that book granted,
  -- except at most one grant for each of them.
  abbrev pub FindingsSpendTheirGrants : Type 0
  FindingsSpendTheirGrants =
      (p : JobModel) (owners : S) (n : ℕ) (book : BookState) (it : X)
      → IsFoundWithBook gives owner_of p owners n book (Some it)
      → (w : WorldState) × IsJoined (job_of owner_of p owners n) w × (w.book ≡ book) × IsKept w × gives w it × (length w.workers ≡ n)
      × (expansion_count w ≤ book.granted) × (book.granted ≤ expansion_count w + GREATEST_GRANT * n)

-- no list of steps stopped it
abbrev pub NoListStopsThreads : Type 0
NoListStopsThreads = (job : Job) (w : WorldState) → IsJoined job w → w.book.stop ≢ Some (Memory Stated)
