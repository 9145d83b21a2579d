use Rattle.std.proofs.Common.{ℕ, ◌≡◌, [], vec_len}
use Rattle.thread_parts.specs.Rings.{rings_of_outs, rings_of_ins, sent_rows, received_rows, lane_at, HaveRoom}
use Rattle.thread_parts.proofs.GridLemmas.{IsGrid}
use Rattle.thread_parts.proofs.rows.open_rings.Given as goal

abbrev pub invariant-rows : goal.invariant-rows
invariant-rows g l =
    (vec_len l.outs ≡ l.from)
    × (vec_len l.ins ≡ l.fn.n)
    × IsGrid l.fn.n l.from (rings_of_outs l.outs.items) (rings_of_ins l.ins.items)
    × ((i j : ℕ) → lane_at (sent_rows l.outs.items) i j ≡ [])
    × HaveRoom (rings_of_outs l.outs.items)
    × ((j i : ℕ) → lane_at (received_rows l.ins.items) j i ≡ [])
