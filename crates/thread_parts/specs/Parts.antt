-- What contracts see of a part.
use Rattle.std.specs.Prelude.{ℕ, ◌≡◌, List}
use Rattle.board.specs.Boards.{BoardModel}
use Rattle.thread_parts.specs.Rings.{Ring, out_rings, in_rings, sent_lanes, received_lanes}
use Rattle.world_model.specs.PartChanges.{part_with_worker}
use Rattle.world_model.specs.ThreadParts.{PartState, IsRole, Keeps}
use Rattle.world_model.specs.Workers.{Role, WorkerState}
use Rattle.owners.specs.Terms.{TermsModel}
use Rattle.worker_core.specs.Ahead.{AreFoundAhead}
use Rattle.worker_core.specs.Expanding.{role_by}
use Rattle.worker_core.specs.Roles.{IsGuided, guide_of}
use Rattle.worker_core.specs.Workers.{state_of}
use Rattle.hda_run.specs.Jobs.{JobModel, task_in}
use Rattle.thread_parts.specs.declared.part.Part.{Part}
use Rattle.message_ledger.specs.Spending.{AllowanceModel}

-- What the steps of a part leave as it is: what is to be solved, how boards are owned, which worker it is, and which rings it has the
-- ends of.
pub record SealedModel (S : Type 0) : Type 0 where
  pub job : JobModel
  pub owners : S
  pub me : ℕ
  pub outs : List Ring
  pub ins : List Ring

abbrev pub face : {S : Type 0} → JobModel → S → ℕ → List Ring → List Ring → SealedModel S
face job owners me outs ins = record { job = job; owners = owners; me = me; outs = outs; ins = ins }

module _ {S C D E K G : Type 0} where
  abbrev pub face_of : Part S C D E K G → SealedModel S
  face_of part = face part.job.now part.owners.now part.me (out_rings part.outs.items) (in_rings part.ins.items)

  -- the second part has the face of the first
  abbrev pub IsFaceKept : Part S C D E K G → Part S C D E K G → Type 0
  IsFaceKept part part' = face_of part' ≡ face_of part

  -- a part, as the laws of parts have it
  abbrev pub part_state : Part S C D E K G → PartState
  part_state part = record { worker = state_of part.worker; sent = sent_lanes part.outs.items; received = received_lanes part.ins.items }

  -- the role of its worker among n, where boards have these owners, by the spread and n
  abbrev pub role_of_part : (S → ℕ → BoardModel → ℕ) → ℕ → Part S C D E K G → Role
  role_of_part owner_of n part = role_by (task_in part.job.now) (owner_of part.owners.now) n part.me

  -- what went by the rings of the one part went by those of the other
  abbrev pub HaveSameLanes : Part S C D E K G → Part S C D E K G → Type 0
  HaveSameLanes part part' = (sent_lanes part'.outs.items ≡ sent_lanes part.outs.items) × (received_lanes part'.ins.items ≡ received_lanes part.ins.items)

  -- the search of a part of n, in which its worker's moves are offered
  abbrev pub terms_for : ℕ → Part S C D E K G → TermsModel S
  terms_for n part = record { rule = part.job.now.rule; tables = part.job.now.tables; owners = part.owners.now; workers = n }

  -- What a part of n keeps, whatever the others do. Its worker's lists are guided to the goal, and what was found ahead is
  -- what moves offer in its search.
  pub record IsSoundPart (owner_of : S → ℕ → BoardModel → ℕ) (n : ℕ) (part : Part S C D E K G) : Type 0 where
    pub role : IsRole n (role_of_part owner_of n part)
    pub keeps : Keeps n (role_of_part owner_of n part) (part_state part)
    pub guided : IsGuided (task_in part.job.now) (guide_of (task_in part.job.now)) part.worker.lists
    pub found : AreFoundAhead owner_of (terms_for n part) part.ahead

  -- a part of n has its face still, and keeps what it kept
  pub record KeepsPart (owner_of : S → ℕ → BoardModel → ℕ) (n : ℕ) (old new : Part S C D E K G) : Type 0 where
    pub holds : IsSoundPart owner_of n new
    pub kept : IsFaceKept old new

  -- the same, and nothing but its worker has changed
  pub record ChangesItsWorker (owner_of : S → ℕ → BoardModel → ℕ) (n : ℕ) (old new : Part S C D E K G) : Type 0 where
    pub rest : part_state new ≡ part_with_worker (part_state old) (state_of new.worker)
    pub holds : IsSoundPart owner_of n new
    pub kept : IsFaceKept old new

-- the allowance by which nothing was granted yet: so nothing of it is left, and nothing was spent
abbrev pub fresh_allowance : AllowanceModel
fresh_allowance = record { granted = 0; left = 0 }

-- the worker with this purse
abbrev pub begun_with : ℕ → WorkerState → WorkerState
begun_with purse worker = record worker { purse = purse }
