use Rattle.std.specs.Prelude.{ℕ, ◌+◌, ◌<◌, ◌≤◌, [], length, map, slice_index_or}
use Rattle.world_model.specs.declared.limits.TheConstants.{PACKET_LIMIT}
use Rattle.owners.specs.Room.{go}
use Rattle.owners.proofs.room.has_room.Given as goal

-- the packets so far have room
abbrev pub invariant-packets : goal.invariant-packets
invariant-packets l = (to : ℕ) → to < l.to → length (slice_index_or (map (λ v. v.items) l.unsent) to []) + go l.me to l.offers ≤ PACKET_LIMIT
