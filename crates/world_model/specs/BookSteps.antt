-- The five steps that a worker takes on the book.
use Rattle.std.specs.Prelude.{◌≡◌, ◌≢◌, ◌⊎◌, ℕ, ◌+◌, ◌^◌, ◌<◌, Option, Some, None}
use Rattle.world_model.specs.declared.limits.TheConstants.{CREDIT_DRAWN}
use Rattle.world_model.specs.declared.steps.HaltCause.{HaltCause}
use Rattle.world_model.specs.declared.steps.HaltCause.TheVariants.{Limit, Memory, Start}
use Rattle.world_model.specs.declared.steps.BookFault.{BookFault}
use Rattle.world_model.specs.declared.steps.BookFault.TheVariants.{RunStopped, NoPurse, CreditFull, NotLower, NothingLeft, FloorBelowLimit, AllowanceRemains}
use Rattle.world_model.specs.declared.steps.Refusal.{Refusal}
use Rattle.world_model.specs.declared.steps.Refusal.TheVariants.{NothingBelowLimit, NoAllowance, NothingToAnnounce, NotIdle, Stopped, PurseEmpty, AllowanceLeft, PurseFull}
use Rattle.world_model.specs.Turns.{Turn, Becomes, Unless}
use Rattle.world_model.specs.Costs.{IsNotBelow, limit_of}
use Rattle.world_model.specs.Workers.{WorkerState, Role, HasNothingBelow, IsFloor, KnowsGoalAt, IsIdle}
use Rattle.world_model.specs.Books.{BookState, grant_of, stop_of, HasMoreToGrant, with_rest}

-- a worker, and the book
pub record AtBook : Type 0 where
  pub worker : WorkerState
  pub book : BookState

-- the worker with its copy of the best cost renewed, and the book
abbrev pub at_book : WorkerState → BookState → AtBook
at_book worker book = record { worker = record worker { best = book.best }; book = book }

-- the worker draws credit
abbrev pub DrawStep : Turn AtBook Refusal → Type 0
DrawStep it =
    let worker = it.before.worker in
    let book = it.before.book in
    Unless it (book.stop ≢ None) Stopped (
    Unless it (worker.purse ≡ 0) PurseEmpty (
    Unless it (2 ^ 63 < book.credit) PurseFull (
    Becomes it (at_book (record worker { purse = worker.purse + CREDIT_DRAWN }) (record book { credit = book.credit + CREDIT_DRAWN })))))

-- the worker owns the goal, and knows it at this cost, which is below the best
pub record MayAnnounce (role : Role) (at : AtBook) (cost : ℕ) : Type 0 where
  pub own : role.owner role.task.goal ≡ role.me
  pub knows : KnowsGoalAt role.task at.worker cost
  pub lower : ¬ IsNotBelow (Some cost) at.book.best

-- the worker announces the goal's cost, which is now the best
abbrev pub AnnounceStep : Role → Turn AtBook Refusal → Type 0
AnnounceStep role it =
    let book = it.before.book in
    Unless it (book.stop ≢ None) Stopped (
    Unless it ((cost : ℕ) → ¬ MayAnnounce role it.before cost) NothingToAnnounce (
    (cost : ℕ) × MayAnnounce role it.before cost × Becomes it (at_book it.before.worker (record book { best = Some cost }))))

-- the worker is granted expansions
abbrev pub GrantStep : Role → Turn AtBook Refusal → Type 0
GrantStep role it =
    let worker = it.before.worker in
    let book = it.before.book in
    Unless it (book.stop ≢ None) Stopped (
    Unless it (HasNothingBelow role.task worker (limit_of book.best)) NothingBelowLimit (
    Unless it (worker.allowance ≢ 0) AllowanceLeft (
    Unless it (book.granted ≡ book.limit) NoAllowance (
    Becomes it (at_book (record worker { allowance = worker.allowance + grant_of book }) (record book { granted = book.granted + grant_of book }))))))

-- the worker rests: it gives its purse back
abbrev pub RestStep : Role → Turn AtBook Refusal → Type 0
RestStep role it =
    let worker = it.before.worker in
    let book = it.before.book in
    Unless it (book.stop ≢ None) Stopped (
    Unless it (worker.purse ≡ 0) PurseEmpty (
    Unless it (¬ IsIdle role.task worker (limit_of book.best) book.best) NotIdle (
    (floor : Option ℕ) × IsFloor role.task worker floor
    × Becomes it (at_book (record worker { purse = 0 }) (with_rest book role.me worker.purse floor)))))

-- the worker itself, or another one, may still expand boards, and it is for the limit that the run is to be halted
abbrev pub MayGoOn : AtBook → HaltCause → Type 0
MayGoOn at Limit = (0 < at.worker.allowance) ⊎ HasMoreToGrant at.book Limit
MayGoOn at (Memory want) = ⊥
MayGoOn at Start = ⊥

-- the worker halts the run
abbrev pub HaltStep : HaltCause → Turn AtBook Refusal → Type 0
HaltStep cause it =
    let book = it.before.book in
    Unless it (book.stop ≢ None) Stopped (
    Unless it (MayGoOn it.before cause) AllowanceLeft (
    Becomes it (at_book it.before.worker (record book { stop = Some (stop_of cause) }))))

-- the refusal of a worker's step, for a fault of the book's call
abbrev pub refusal_of : BookFault → Refusal
refusal_of RunStopped = Stopped
refusal_of NoPurse = PurseEmpty
refusal_of CreditFull = PurseFull
refusal_of NotLower = NothingToAnnounce
refusal_of NothingLeft = NoAllowance
refusal_of FloorBelowLimit = NotIdle
refusal_of AllowanceRemains = AllowanceLeft

-- a worker and the book after a call of the book: as they were where it is refused, and else these
abbrev pub after_call : Option BookFault → AtBook → AtBook → AtBook
after_call None old new = new
after_call (Some fault) old new = old
