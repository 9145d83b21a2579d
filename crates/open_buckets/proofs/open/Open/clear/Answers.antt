use Rattle.std.proofs.Common.{◌≡◌, ◌<◌, ◌≤◌, ◌-◌, ◌∙◌, length, ap, inl, inr, arith, length-set}
use Rattle.std.specs.Prelude.{set}
use Rattle.std.proofs.lemmas.Bool.{cases_eq}
use Rattle.open_buckets.specs.OpenLists.{entries_at}
use Rattle.open_buckets.specs.Buckets.{list_of}
use Rattle.open_buckets.proofs.BucketLemmas.{entries_set, others_set, no_fewer_places}
use Rattle.open_buckets.proofs.open.Open.clear.Goals as goal

pub buckets-preserved : goal.buckets-preserved
buckets-preserved g c =
    let bs = c.buckets.self-inside.buckets.items in
    let f = c.buckets.self-inside.cursor in
    let old = c.index_mut.result.now in
    let new = c.clear.new.self in
    let lt : f < length bs = let len = c.buckets.self-inside.buckets.ok.0 in let l = c.buckets-test.true in omega (arith, c.len.ensures) in
    let size : length (set bs f new) ≡ length bs = length-set bs f new in
    let more : old.cap - old.len ≤ new.cap - new.len = let cap = c.clear.ensures.capacity in let len = c.clear.ensures.len in omega (arith, cap, len) in
    record {
      before = λ h below. elim (cases_eq h f) [
        | inl here ↦ ap (λ k. entries_at (list_of (set bs f new)) k) here ∙ entries_set bs f new lt ∙ c.clear.ensures.items
        | inr apart ↦ (others_set bs f new lt h apart).0 ∙ c.buckets.invariant.before h (omega arith)
      ];
      places = λ h. let was = c.buckets.invariant.places h in let is = no_fewer_places bs f new lt old c.index_mut.ensures.value more h in omega (arith, was, is);
      few = let few = c.buckets.invariant.few in omega arith;
    }
