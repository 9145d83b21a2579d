-- Runs by threads.
use Rattle.std.specs.Prelude.{ℕ, ◌≡◌, ◌≢◌, ◌+◌, ◌*◌, ◌≤◌, length, sum_by, Option, None, Some, List, map, slice_get}
use Rattle.board.specs.Boards.{BoardModel}
use Rattle.outcomes.specs.declared.outcome.Want.TheVariants.{Stated}
use Rattle.world_model.specs.declared.limits.TheConstants.{GREATEST_GRANT}
use Rattle.world_model.specs.declared.steps.Stop.TheVariants.{Quiet, Limit, Memory}
use Rattle.world_model.specs.Books.{BookState}
use Rattle.world_model.specs.Credit.{expansion_count}
use Rattle.world_model.specs.Openings.{Job}
use Rattle.world_model.specs.Quiet.{IsKept}
use Rattle.world_model.specs.Shapes.{IsShaped}
use Rattle.world_model.specs.Soundness.{IsSound}
use Rattle.world_model.specs.Worlds.{WorldState}
use Rattle.hda_run.specs.Jobs.{JobModel}
use Rattle.hda_run.specs.Worlds.{job_of}
use Rattle.thread_runs.specs.Worlds.{AreAtRest}
use Rattle.thread_parts.specs.Rings.{ArePaired}
use Rattle.thread_parts.specs.Parts.{SealedModel}

-- The world of a job's workers, when all were joined. It is shaped and sound. Where it is quiet, all is at rest. What its book has granted
-- was expanded, except what workers have left of it, at most one grant for each. At most the limit was expanded. Where it was halted for
-- the limit, all of that is granted, and spent except at most one grant for each worker. No list of steps stopped it.
pub record IsJoined (job : Job) (w : WorldState) : Type 0 where
  pub task : w.task ≡ job.task
  pub owners : (b : BoardModel) → w.owner b ≡ job.owner b
  pub count : length w.workers ≡ job.count
  pub limit : w.book.limit ≡ job.limit
  pub shaped : IsShaped w
  pub sound : IsSound w
  pub at_quiet : w.book.stop ≡ Some Quiet → AreAtRest w
  pub granted : w.book.granted ≡ sum_by (λ worker. worker.allowance + worker.expansions) w.workers
  pub spent : w.book.granted ≤ expansion_count w + GREATEST_GRANT * job.count
  pub within_limit : expansion_count w ≤ job.limit
  pub at_limit : w.book.stop ≡ Some Limit → (w.book.granted ≡ job.limit) × (job.limit ≤ expansion_count w + GREATEST_GRANT * job.count)
  pub no_list : w.book.stop ≢ Some (Memory Stated)

-- What is found of a world: where it is kept, what it gives; where it isn't, nothing.
abbrev pub GivesIfKept : {X : Type 0} → (WorldState → X → Type 0) → WorldState → Option X → Type 0
GivesIfKept gives w None = ¬ IsKept w
GivesIfKept gives w (Some answer) = IsKept w × gives w answer

-- What n threads find: their joined workers make a world, and this is found of it.
abbrev pub IsFoundByThreads : {S X : Type 0} → (WorldState → X → Type 0) → (S → ℕ → BoardModel → ℕ) → JobModel → S → ℕ → Option X → Type 0
IsFoundByThreads gives owner_of p owners n found = (w : WorldState) × IsJoined (job_of owner_of p owners n) w × GivesIfKept gives w found

-- The same, where the book that the threads shared, and left so, is that of the world. So it says why the run stopped.
abbrev pub IsFoundWithBook : {S X : Type 0} → (WorldState → X → Type 0) → (S → ℕ → BoardModel → ℕ) → JobModel → S → ℕ → BookState → Option X → Type 0
IsFoundWithBook gives owner_of p owners n book found = (w : WorldState) × IsJoined (job_of owner_of p owners n) w × (w.book ≡ book) × GivesIfKept gives w found

-- the parts of n workers that share a problem and own boards alike, each at its place, with both ends of each ring between them
pub record IsJoint {S : Type 0} (p : JobModel) (owners : S) (n : ℕ) (faces : List (SealedModel S)) : Type 0 where
  pub count : length faces ≡ n
  pub jobs : (i : ℕ) (face : SealedModel S) → slice_get faces i ≡ Some face → face.job ≡ p
  pub spreads : (i : ℕ) (face : SealedModel S) → slice_get faces i ≡ Some face → face.owners ≡ owners
  pub places : (i : ℕ) (face : SealedModel S) → slice_get faces i ≡ Some face → face.me ≡ i
  pub paired : ArePaired n (map (λ face. face.outs) faces) (map (λ face. face.ins) faces)
