-- The world of joined workers, and of what is left in their rings.
use Rattle.std.specs.Prelude.{ℕ, ◌≡◌, List, [], ◌∷◌, Vec, length, Some, slice_get}
use Rattle.std.specs.declared.alloc.Global.{Global}
use Rattle.board.specs.Boards.{BoardModel}
use Rattle.thread_parts.specs.Rings.{ReceiverModel, ArePaired, rings_of_outs, rings_of_ins, sent_rows, received_rows, left_rows}
use Rattle.world_model.specs.declared.steps.Stop.TheVariants.{Quiet}
use Rattle.world_model.specs.Books.{BookState}
use Rattle.world_model.specs.Credit.{packet_count}
use Rattle.world_model.specs.Quiet.{IsAtRest}
use Rattle.world_model.specs.Workers.{WorkerState, Lane}
use Rattle.world_model.specs.Worlds.{WorldState, IsWorker}
use Rattle.world_model.specs.ThreadParts.{PartState, IsRole, Keeps}
use Rattle.world_model.specs.JoinedParts.{Shared, role_in}
use Rattle.worker_core.specs.declared.worker.Worker.{Worker}
use Rattle.worker_core.specs.Roles.{guide_of}
use Rattle.world_ends.specs.Parts.{HasParts, AreWorkersGuided, states_of}
use Rattle.hda_run.specs.Jobs.{JobModel, task_in}
use Rattle.thread_runs.specs.declared.apart.Joined.{Joined}
use Rattle.thread_runs.specs.Lanes.{AreOfWidth, by_sender}

-- what n workers share: the task, and who owns which board among n
abbrev pub shared_of_job : {S : Type 0} → (S → ℕ → BoardModel → ℕ) → JobModel → S → ℕ → Shared
shared_of_job owner_of p owners n = record { task = task_in p; owner = owner_of owners n }

-- workers, with what each sent and received
abbrev pub parts_with : List WorkerState → List (List Lane) → List (List Lane) → List PartState
parts_with [] sent received = []
parts_with (worker ∷ workers) [] received = []
parts_with (worker ∷ workers) (out ∷ sent) [] = []
parts_with (worker ∷ workers) (out ∷ sent) (into ∷ received) = record { worker = worker; sent = out; received = into } ∷ parts_with workers sent received

-- no packet is in a lane, and each worker is at rest
pub record AreAtRest (w : WorldState) : Type 0 where
  pub lanes : packet_count w ≡ 0
  pub workers : (i : ℕ) (worker : WorkerState) → IsWorker w i worker → IsAtRest worker

module _ {C D E K G : Type 0} where
  -- the parts that were taken apart
  abbrev pub parts_in : Joined C D E K G → List PartState
  parts_in joined = parts_with (states_of joined.workers.items) (sent_rows joined.outs.items) (received_rows joined.ins.items)

  -- The workers of n parts that were taken apart, and the ends of their rings. Each worker keeps, with what it sent and received, what a
  -- part keeps.
  pub record AreTakenApart {S : Type 0} (owner_of : S → ℕ → BoardModel → ℕ) (p : JobModel) (owners : S) (n : ℕ) (joined : Joined C D E K G) : Type 0 where
    pub workers : length joined.workers.items ≡ n
    pub outs : length joined.outs.items ≡ n
    pub ins : length joined.ins.items ≡ n
    pub roles : (i : ℕ) (part : PartState) → slice_get (parts_in joined) i ≡ Some part → IsRole n (role_in (shared_of_job owner_of p owners n) i)
    pub keep : (i : ℕ) (part : PartState) → slice_get (parts_in joined) i ≡ Some part → Keeps n (role_in (shared_of_job owner_of p owners n) i) part
    pub guided : AreWorkersGuided (task_in p) (guide_of (task_in p)) joined.workers.items
    pub paired : ArePaired n (rings_of_outs joined.outs.items) (rings_of_ins joined.ins.items)

  -- The world is that of n workers of joined threads, with this book and with what is left in their rings. Where the book is quiet, all is
  -- at rest.
  pub record IsWorldOf {S : Type 0} (owner_of : S → ℕ → BoardModel → ℕ) (p : JobModel) (owners : S) (n : ℕ) (book : BookState) (workers : List (Worker C D E K G)) (ins : List (Vec ReceiverModel Global)) (w : WorldState) : Type 0 where
    pub count : length workers ≡ n
    pub parts : HasParts (task_in p) (owner_of owners) (states_of workers) w
    pub guided : AreWorkersGuided (task_in p) (guide_of (task_in p)) workers
    pub book_is : w.book ≡ book
    pub widths : AreOfWidth n ins
    pub lanes : w.lanes ≡ by_sender n (left_rows ins)
    pub at_quiet : book.stop ≡ Some Quiet → AreAtRest w
