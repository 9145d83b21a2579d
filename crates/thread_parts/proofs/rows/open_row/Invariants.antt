use Rattle.std.proofs.Common.{ℕ, ◌≡◌, ◌≤◌, ◌<◌, ◌∷◌, ◌++◌, [], vec_len, Some, slice_get, slice_index_or}
use Rattle.thread_parts.specs.Rings.{Ring, out_rings, sent_lanes, rings_of_ins, received_rows, lane_at, IsRoomBetween, room_of}
use Rattle.thread_parts.proofs.rows.open_row.Given as goal

abbrev pub invariant-workers : goal.invariant-workers
invariant-workers g l =
    (vec_len l.ins ≡ vec_len l.fn.ins)
    × (vec_len l.outs ≡ l.to)
    × ((k : ℕ) (d : Ring) → k < l.to → slice_index_or (rings_of_ins l.ins.items) k [] ≡ slice_index_or (rings_of_ins l.fn.ins.items) k [] ++ slice_index_or (out_rings l.outs.items) k d ∷ [])
    × ((k : ℕ) → l.to ≤ k → slice_index_or (rings_of_ins l.ins.items) k [] ≡ slice_index_or (rings_of_ins l.fn.ins.items) k [])
    × ((k : ℕ) → slice_index_or (sent_lanes l.outs.items) k [] ≡ [])
    × ((k : ℕ) (ring : Ring) → slice_get (out_rings l.outs.items) k ≡ Some ring → IsRoomBetween l.fn.from k (room_of ring))
    × (((j i : ℕ) → lane_at (received_rows l.fn.ins.items) j i ≡ []) → (j i : ℕ) → lane_at (received_rows l.ins.items) j i ≡ [])
