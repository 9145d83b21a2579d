-- What a worker knows of a lane by the end that it is lent, and what a call at the end makes of the worker.
use Rattle.std.specs.Prelude.{◌≡◌, ◌≢◌, ℕ, ◌+◌, ◌-◌, ◌^◌, ◌≤◌, [], ◌∷◌, ◌++◌, length, slice_set}
use Rattle.world_model.specs.declared.limits.TheConstants.{PACKET_LIMIT, LANE_LIMIT}
use Rattle.world_model.specs.Workers.{WorkerState, Packet, Lane, packet_for}

-- What the end at which packets go in says of the lane before and after a call: it took this packet, it may have been full, or nothing
-- has changed.
pub record IsAtSender (takes : Packet → Type 0) (may_be_full same : Type 0) (before after : Lane) : Type 0 where
  pub taken : (packet : Packet) → takes packet → (length before ≢ LANE_LIMIT) × (after ≡ before ++ packet ∷ [])
  pub full : may_be_full → length before ≡ LANE_LIMIT
  pub kept : same → after ≡ before

-- What the end at which packets come out says of the lane before and after a call: it gave this packet, it may have been empty, or
-- nothing has changed.
pub record IsAtReceiver (gives : Packet → Type 0) (may_be_empty same : Type 0) (before after : Lane) : Type 0 where
  pub given : (packet : Packet) → gives packet → before ≡ packet ∷ after
  pub empty : may_be_empty → before ≡ []
  pub kept : same → after ≡ before

-- What is unsent for worker `to` was sent: the end took it as one packet, with 1 of the purse.
pub record HasSent (takes : Packet → Type 0) (to : ℕ) (before after : WorkerState) : Type 0 where
  pub some : packet_for before to ≢ []
  pub funds : 2 ≤ before.purse
  pub taken : takes (packet_for before to)
  pub worker : after ≡ record before { unsent = slice_set before.unsent to []; purse = before.purse - 1 }

-- A packet came: the end gave it, its items are held, and the purse, which was not too great, has its 1.
pub record HasReceived (gives : Packet → Type 0) (before after : WorkerState) : Type 0 where
  pub packet : Packet
  pub given : gives packet
  pub none_held : before.held ≡ []
  pub room : before.purse + 1 ≢ 2 ^ 64
  pub some : 1 ≤ length packet
  pub few : length packet ≤ PACKET_LIMIT
  pub worker : after ≡ record before { held = packet; purse = before.purse + 1 }
