use Rattle.std.proofs.Common.{◌≡◌, ◌+◌, ◌≤◌, vec_len, length}
use Rattle.std.specs.Vec.{vec_capacity}
use Rattle.std.specs.Vec.Iter.{into_iter_items}
use Rattle.thread_runs.proofs.TakenLemmas.{AreTaken}
use Rattle.thread_runs.proofs.apart.take_apart.Given as goal

-- the parts so far were taken apart
abbrev pub invariant-parts : goal.invariant-parts
invariant-parts g l =
    record {
      next : (goal.iterator-parts g).can_next l.one-iterator;
      ends : (goal.iterator-parts g).is_finite l.one-iterator;
      count : vec_len l.workers + length (into_iter_items l.one-iterator) ≡ vec_len l.fn.sealed;
      outs : vec_len l.outs ≡ vec_len l.workers;
      ins : vec_len l.ins ≡ vec_len l.workers;
      workers_room : vec_len l.fn.sealed ≤ vec_capacity l.workers;
      outs_room : vec_len l.fn.sealed ≤ vec_capacity l.outs;
      ins_room : vec_len l.fn.sealed ≤ vec_capacity l.ins;
      taken : AreTaken g.S.Spread.owner_of g.C.Tokens.workers l.fn.sealed.items (into_iter_items l.one-iterator) l.workers.items l.outs.items l.ins.items;
    }
