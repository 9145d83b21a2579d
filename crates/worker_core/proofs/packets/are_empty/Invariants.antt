use Rattle.std.specs.Prelude.{ℕ, ◌≡◌, ◌<◌, [], slice_index_or}
use Rattle.world_model.specs.Workers.{Packet}
use Rattle.worker_core.specs.Workers.{packets_of}
use Rattle.worker_core.proofs.packets.are_empty.Given as goal

-- those so far are empty
abbrev pub invariant-packets : goal.invariant-packets
invariant-packets l = (to : ℕ) (d : Packet) → to < l.to → slice_index_or (packets_of l.packets) to d ≡ []
