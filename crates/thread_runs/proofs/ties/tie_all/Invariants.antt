use Rattle.std.proofs.Common.{◌≡◌, ℕ, ◌<◌, [], vec_len, Some}
use Rattle.world_model.specs.declared.steps.Stop.TheVariants.{Quiet}
use Rattle.thread_parts.specs.Rings.{rings_of_outs, rings_of_ins, sent_rows, received_rows, left_rows, lane_at}
use Rattle.thread_runs.specs.Lanes.{IsTied}
use Rattle.thread_runs.proofs.ties.tie_all.Given as goal

-- the rings from the workers so far are tied
abbrev pub invariant-senders : goal.invariant-senders
invariant-senders g l =
    record {
      book : l.book ≡ l.fn.book;
      outs_len : vec_len l.outs ≡ vec_len l.fn.outs;
      ins_len : vec_len l.ins ≡ vec_len l.fn.ins;
      out_rings : rings_of_outs l.outs.items ≡ rings_of_outs l.fn.outs.items;
      in_rings : rings_of_ins l.ins.items ≡ rings_of_ins l.fn.ins.items;
      sent : sent_rows l.outs.items ≡ sent_rows l.fn.outs.items;
      received : received_rows l.ins.items ≡ received_rows l.fn.ins.items;
      tied : (a b : ℕ) → a < l.i → b < vec_len l.fn.ins → IsTied (lane_at (sent_rows l.fn.outs.items) a b) (lane_at (received_rows l.fn.ins.items) b a) (lane_at (left_rows l.ins.items) b a);
      quiet : l.fn.book.stop ≡ Some Quiet → (a b : ℕ) → a < l.i → b < vec_len l.fn.ins → lane_at (left_rows l.ins.items) b a ≡ [];
    }
