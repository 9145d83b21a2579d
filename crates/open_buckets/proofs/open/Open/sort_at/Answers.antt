use Rattle.std.proofs.Common.{rules, ◌≡◌, ◌<◌, ◌∙◌, [], length, sym, ap, subst, inl, inr, arith, length-set}
use Rattle.std.specs.Prelude.{set}
use Rattle.std.proofs.lemmas.Bool.{cases_eq}
use Rattle.std.proofs.lemmas.List.{nil_from_length}
use Rattle.std.proofs.lemmas.List.Sorted.{IsNonDecreasingBy-from_sort_by_key}
use Rattle.open_buckets.specs.OpenLists.{entries_at, Sorts}
use Rattle.open_buckets.specs.Buckets.{list_of}
use Rattle.open_buckets.proofs.BucketLemmas.{entries_in, others_set, entries_set, sorted_in}
use Rattle.open_buckets.proofs.open.Open.sort_at.Goals as goal

pub invariant_of-self : goal.invariant_of-self
invariant_of-self g c =
    let bs = c.self.inside.buckets.items in
    let f = c.args.f in
    let old = c.index_mut-bucket.result.now in
    let new = c.sort_unstable_by_key.new.self in
    let lt : f < length bs = let len = c.self.inside.buckets.ok.0 in let l = c.if-place-len.true in omega (arith, c.len.ensures) in
    let size : length (set bs f new) ≡ length bs = length-set bs f new in
    record {
      before = λ h below. elim (cases_eq h f) [
        | inl here ↦
            let was : old.items ≡ [] = ap (λ v. v.items) c.index_mut-bucket.ensures.value ∙ sym (entries_in bs f old lt) ∙ ap (λ k. entries_at (list_of bs) k) (sym here) ∙ c.self.invariant.before h below in
            ap (λ k. entries_at (list_of (set bs f new)) k) here ∙ entries_set bs f new lt ∙ nil_from_length new.items (sym new.ok.0 ∙ c.sort_unstable_by_key.ensures.len ∙ old.ok.0 ∙ ap length was)
        | inr apart ↦ (others_set bs f new lt h apart).0 ∙ c.self.invariant.before h below
      ];
      few = let few = c.self.invariant.few in omega arith;
    }

pub returns-then-place-len : goal.returns-then-place-len
returns-then-place-len g c =
    let bs = c.self.inside.buckets.items in
    let f = c.args.f in
    let old = c.index_mut-bucket.result.now in
    let new = c.sort_unstable_by_key.new.self in
    let lt : f < length bs = let len = c.self.inside.buckets.ok.0 in let l = c.if-place-len.true in omega (arith, c.len.ensures) in
    let fewer = c.sort_unstable_by_key.ensures.capacity in
    let len = c.sort_unstable_by_key.ensures.len in
    subst (λ w. Sorts f w (list_of (set bs f new))) c.self.view_is (sorted_in bs f new lt old c.index_mut-bucket.ensures.value c.sort_unstable_by_key.ensures.permutation (IsNonDecreasingBy-from_sort_by_key (λ e. e.1) _ c.sort_unstable_by_key.ensures.sorted (λ a r q k. search rules)) (omega (arith, fewer, len)))
