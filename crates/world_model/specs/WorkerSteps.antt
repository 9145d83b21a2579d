-- The four steps that a worker takes without the book: by itself, and with a lane that it is lent.
use Rattle.std.specs.Prelude.{◌≡◌, ◌≢◌, ◌⊎◌, ℕ, ◌+◌, ◌-◌, ◌^◌, ◌<◌, List, [], ◌∷◌, ◌++◌, length, Any, slice_set}
use Rattle.memory.specs.declared.OutOfMemory.{OutOfMemory}
use Rattle.board.specs.declared.moves.Move.{Move}
use Rattle.board.specs.Moves.{all_moves}
use Rattle.board.specs.Boards.{BoardModel}
use Rattle.world_model.specs.declared.limits.TheConstants.{PACKET_LIMIT, LANE_LIMIT}
use Rattle.world_model.specs.declared.parts.Item.{Item}
use Rattle.world_model.specs.declared.parts.Known.{Known}
use Rattle.world_model.specs.declared.steps.Refusal.{Refusal}
use Rattle.world_model.specs.declared.steps.Refusal.TheVariants.{NothingBelowLimit, NoAllowance, NoRoom, RingFull, RingEmpty, PurseTooSmall, StillHolding, Memory, NothingThere, PurseFull}
use Rattle.world_model.specs.Turns.{Turn, IsRefused, Becomes, Unless}
use Rattle.world_model.specs.Costs.{limit_of}
use Rattle.world_model.specs.Knowledge.{relaxation}
use Rattle.world_model.specs.Workers.{WorkerState, Packet, Lane, Role, packet_for, HasNothingBelow, IsNext}
use Rattle.world_model.specs.Expansions.{expansion_by, moves_but, move_back}

-- a worker, and a lane from it or to it
pub record AtLane : Type 0 where
  pub worker : WorkerState
  pub lane : Lane

-- as follows, or memory was refused
abbrev pub WithMemory : {S : Type 0} → Turn S Refusal → Type 0 → Type 0
WithMemory it next = next ⊎ ((refused : OutOfMemory) × IsRefused it (Memory refused))

-- some packet has more items than it may
abbrev pub IsOverfull : WorkerState → Type 0
IsOverfull worker = Any (λ packet. PACKET_LIMIT < length packet) worker.unsent

-- a board of least cost plus sum, below the limit of the best cost, is expanded, by moves that depend on what is known of it
abbrev pub ExpandStepBy : (Known → List Move) → Role → Turn WorkerState Refusal → Type 0
ExpandStepBy moves_of role it =
    let worker = it.before in
    Unless it (HasNothingBelow role.task worker (limit_of worker.best)) NothingBelowLimit (
    Unless it (worker.allowance ≡ 0) NoAllowance (
    (b : BoardModel) × (known : Known) × IsNext role.task worker b known
    × Unless it (IsOverfull (expansion_by (moves_of known) role worker b known)) NoRoom (
    WithMemory it (Becomes it (expansion_by (moves_of known) role worker b known)))))

-- it is expanded by all moves
abbrev pub ExpandStep : Role → Turn WorkerState Refusal → Type 0
ExpandStep role it = ExpandStepBy (λ known. all_moves) role it

-- it is expanded by all moves but the one back
abbrev pub ExpandOnwardStep : Role → Turn WorkerState Refusal → Type 0
ExpandOnwardStep role it = ExpandStepBy (λ known. moves_but (move_back known)) role it

-- the last item held is taken out, and its board is relaxed
abbrev pub SettleStep : Turn WorkerState Refusal → Type 0
SettleStep it =
    let worker = it.before in
    Unless it (worker.held ≡ []) NothingThere (
    (front : List Item) × (last : Item) × (worker.held ≡ front ++ last ∷ [])
    × WithMemory it (Becomes it (record worker { held = front; known = relaxation worker.known last })))

-- what is unsent for worker `to` goes to the end of the lane, as one packet, with 1 of the purse
abbrev pub SendStep : ℕ → Turn AtLane Refusal → Type 0
SendStep to it =
    let worker = it.before.worker in
    let lane = it.before.lane in
    Unless it (packet_for worker to ≡ []) NothingThere (
    Unless it (worker.purse < 2) PurseTooSmall (
    Unless it (length lane ≡ LANE_LIMIT) RingFull (
    Becomes it (record { worker = record worker { unsent = slice_set worker.unsent to []; purse = worker.purse - 1 }; lane = lane ++ packet_for worker to ∷ [] }))))

-- the first packet of the lane is taken out, its items are held, and the purse gets its 1
abbrev pub DeliverStep : Turn AtLane Refusal → Type 0
DeliverStep it =
    let worker = it.before.worker in
    Unless it (worker.held ≢ []) StillHolding (
    Unless it (worker.purse + 1 ≡ 2 ^ 64) PurseFull (
    Unless it (it.before.lane ≡ []) RingEmpty (
    (packet : Packet) × (rest : Lane) × (it.before.lane ≡ packet ∷ rest)
    × Becomes it (record { worker = record worker { held = packet; purse = worker.purse + 1 }; lane = rest }))))
