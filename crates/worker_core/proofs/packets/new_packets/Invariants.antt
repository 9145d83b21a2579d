use Rattle.std.proofs.Common.{◌≡◌, [], replicate, vec_len}
use Rattle.std.specs.Prelude.{vec_capacity}
use Rattle.worker_core.specs.Workers.{packets_of}
use Rattle.worker_core.proofs.packets.new_packets.Given as goal

-- `made` lists, all empty, and room for as many as there are workers
abbrev pub invariant-workers : goal.invariant-workers
invariant-workers l = (packets_of l.packets.items ≡ replicate l.made []) × (vec_len l.packets ≡ l.made) × (vec_capacity l.packets ≡ l.fn.workers)
