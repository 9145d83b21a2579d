use Rattle.std.proofs.Common.{◌≡◌, ℕ, ◌+◌, ◌<◌, ◌≤◌, vec_len, Some}
use Rattle.std.specs.Prelude.{slice_get}
use Rattle.std.specs.Vec.{vec_capacity}
use Rattle.thread_parts.specs.Rings.{rings_of_outs, rings_of_ins}
use Rattle.thread_parts.specs.Parts.{SealedModel}
use Rattle.thread_runs.proofs.LawLemmas.{IsFace}
use Rattle.thread_runs.proofs.opening.open_parts.Given as goal

abbrev pub invariant-workers : goal.invariant-workers
invariant-workers g l =
    record {
      count : vec_len l.parts ≡ l.me;
      room : l.search.workers ≤ vec_capacity l.parts;
      outs : vec_len l.outs ≡ l.search.workers;
      ins : vec_len l.ins ≡ l.search.workers;
      tickets : l.funds.tickets + l.me ≡ l.search.workers;
      seed : l.me ≤ l.owner → 0 < l.funds.seed;
      later_outs : (k : ℕ) → l.me ≤ k → slice_get l.outs.items k ≡ slice_get l.fn.rings.outs.items k;
      later_ins : (k : ℕ) → l.me ≤ k → slice_get l.ins.items k ≡ slice_get l.fn.rings.ins.items k;
      faces : (i : ℕ) (it : SealedModel _) → slice_get l.parts.items i ≡ Some it → IsFace l.search.job l.search.owners.now (rings_of_outs l.fn.rings.outs.items) (rings_of_ins l.fn.rings.ins.items) i it;
    }
