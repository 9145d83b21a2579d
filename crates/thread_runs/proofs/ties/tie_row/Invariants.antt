use Rattle.std.proofs.Common.{◌≡◌, ◌≢◌, ℕ, ◌<◌, [], vec_len, slice_index_or, Some}
use Rattle.world_model.specs.declared.steps.Stop.TheVariants.{Quiet}
use Rattle.thread_parts.specs.Rings.{sent_lanes, rings_of_ins, received_rows, left_rows, lane_at}
use Rattle.thread_runs.specs.Lanes.{IsTied}
use Rattle.thread_runs.proofs.ties.tie_row.Given as goal

-- the rings to the workers so far are tied
abbrev pub invariant-receivers : goal.invariant-receivers
invariant-receivers g l =
    record {
      book : l.book ≡ l.fn.book;
      outs : l.outs.items ≡ l.fn.outs.items;
      outs_len : vec_len l.outs ≡ vec_len l.fn.outs;
      ins_len : vec_len l.ins ≡ vec_len l.fn.ins;
      in_rings : rings_of_ins l.ins.items ≡ rings_of_ins l.fn.ins.items;
      received : received_rows l.ins.items ≡ received_rows l.fn.ins.items;
      tied : (k : ℕ) → k < l.j → IsTied (slice_index_or (sent_lanes l.fn.outs.items) k []) (lane_at (received_rows l.ins.items) k l.fn.i) (lane_at (left_rows l.ins.items) k l.fn.i);
      quiet : l.fn.book.stop ≡ Some Quiet → (k : ℕ) → k < l.j → lane_at (left_rows l.ins.items) k l.fn.i ≡ [];
      others : (k m : ℕ) → m ≢ l.fn.i → lane_at (left_rows l.ins.items) k m ≡ lane_at (left_rows l.fn.ins.items) k m;
    }
