use Rattle.std.proofs.Common.{ℕ, ◌≡◌, [], vec_len, slice_index_or}
use Rattle.thread_parts.specs.Rings.{rings_of_ins, received_rows, lane_at}
use Rattle.thread_parts.proofs.rows.no_receivers.Given as goal

abbrev pub invariant-workers : goal.invariant-workers
invariant-workers g l =
    (vec_len l.ins ≡ l.made)
    × ((j : ℕ) → slice_index_or (rings_of_ins l.ins.items) j [] ≡ [])
    × ((j i : ℕ) → lane_at (received_rows l.ins.items) j i ≡ [])
