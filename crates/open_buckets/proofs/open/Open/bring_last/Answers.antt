use Rattle.std.proofs.Common.{◌≡◌, ◌<◌, ◌≤◌, ◌-◌, ◌∙◌, ℕ, [], length, get_or, refl, sym, ap, subst, inl, inr, arith, length-set}
use Rattle.std.specs.Prelude.{set, swap}
use Rattle.std.proofs.lemmas.Bool.{cases_eq}
use Rattle.std.proofs.lemmas.List.{nil_from_length}
use Rattle.open_buckets.specs.OpenLists.{entries_at, BringsLast}
use Rattle.open_buckets.specs.Buckets.{list_of}
use Rattle.open_buckets.proofs.BucketLemmas.{entries_in, others_set, entries_set, entry_in, brought_in, none_brought, nothing_taken}
use Rattle.open_buckets.proofs.open.Open.bring_last.Goals as goal

pub invariant_of-self : goal.invariant_of-self
invariant_of-self g c =
    let bs = c.self.inside.buckets.items in
    let f = c.args.f in
    let old = c.index_mut-bucket.result.now in
    let new = c.swap.new.self in
    let lt : f < length bs = let len = c.self.inside.buckets.ok.0 in let l = c.if-place-len.true in omega (arith, c.len.ensures) in
    let size : length (set bs f new) ≡ length bs = length-set bs f new in
    record {
      before = λ h below. elim (cases_eq h f) [
        | inl here ↦
            let was : old.items ≡ [] = ap (λ v. v.items) c.index_mut-bucket.ensures.value ∙ sym (entries_in bs f old lt) ∙ ap (λ k. entries_at (list_of bs) k) (sym here) ∙ c.self.invariant.before h below in
            ap (λ k. entries_at (list_of (set bs f new)) k) here ∙ entries_set bs f new lt ∙ nil_from_length new.items (sym new.ok.0 ∙ c.swap.ensures.len ∙ old.ok.0 ∙ ap length was)
        | inr apart ↦ (others_set bs f new lt h apart).0 ∙ c.self.invariant.before h below
      ];
      few = let few = c.self.invariant.few in omega arith;
    }

pub returns-then-before-count : goal.returns-then-before-count
returns-then-before-count g c =
    let bs = c.self.inside.buckets.items in
    let f = c.args.f in
    let old = c.index_mut-bucket.result.now in
    let new = c.swap.new.self in
    let lt : f < length bs = let len = c.self.inside.buckets.ok.0 in let l = c.if-place-len.true in omega (arith, c.len.ensures) in
    let within : c.args.before < length old.items = let l = c.if-before-count.true in let len = old.ok.0 in omega (arith, c.len-count.ensures) in
    let count : c.len-count.result ≡ old.len = c.len-count.ensures in
    subst (λ w. BringsLast f c.args.before w (list_of (set bs f new))) c.self.view_is
    (brought_in bs f new lt old c.index_mut-bucket.ensures.value c.args.before within (subst (λ n. new.items ≡ swap old.items c.args.before (n - 1)) count c.swap.ensures.items) (subst (λ n. (d : g.row.K.Denot × ℕ) → get_or new.items (n - 1) d ≡ get_or old.items c.args.before d) count c.swap.ensures.by_index.1) c.swap.ensures.len c.swap.ensures.capacity)

pub returns-else-before-count : goal.returns-else-before-count
returns-else-before-count g c =
    let bs = c.self.inside.buckets.items in
    let f = c.args.f in
    let old = c.index_mut-bucket.result.now in
    let lt : f < length bs = let len = c.self.inside.buckets.ok.0 in let l = c.if-place-len.true in omega (arith, c.len.ensures) in
    let here = entry_in bs f old lt c.index_mut-bucket.ensures.value in
    let past : length (entries_at (list_of bs) f) ≤ c.args.before = let l = c.if-before-count.false in let len = old.ok.0 in let same = ap length here in omega (arith, same, c.len-count.ensures) in
    let still = nothing_taken bs f old lt old c.index_mut-bucket.ensures.value refl refl refl in
    subst (λ w. BringsLast f c.args.before w (list_of (set bs f old))) c.self.view_is
    (subst (BringsLast f c.args.before (list_of bs)) (sym still) (none_brought (list_of bs) f c.args.before past))
