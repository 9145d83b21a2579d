use Rattle.std.proofs.Common.{◌≡◌, ◌<◌, ◌+◌, ◌-◌, ◌∙◌, length, sym, ap, subst, inl, inr, arith, length-set}
use Rattle.std.specs.Prelude.{set}
use Rattle.std.proofs.lemmas.Bool.{cases_eq}
use Rattle.std.proofs.lemmas.List.{append-nil, nil_from_length}
use Rattle.open_buckets.specs.OpenLists.{entries_at, TakesEntry}
use Rattle.open_buckets.specs.Buckets.{list_of}
use Rattle.open_buckets.proofs.BucketLemmas.{taken_from, nothing_taken, others_set, entries_set}
use Rattle.open_buckets.proofs.open.Open.take_lowest.Goals as goal

pub invariant_of-self-in-Some : goal.invariant_of-self-in-Some
invariant_of-self-in-Some g c =
    let bs = c.cursor.self-inside.buckets.items in
    let f = c.cursor.self-inside.cursor in
    let lt : f < length bs = let len = c.cursor.self-inside.buckets.ok.0 in let l = c.if-self-len.false in omega (arith, c.len.ensures) in
    let size : length (set bs f c.pop.new.self) ≡ length bs = length-set bs f c.pop.new.self in
    record {
      before = λ h below. (others_set bs f c.pop.new.self lt h (omega arith)).0 ∙ c.cursor.invariant.before h below;
      few = let few = c.cursor.invariant.few in omega arith;
    }

pub returns-in-Some : goal.returns-in-Some
returns-in-Some g c =
    let bs = c.cursor.self-inside.buckets.items in
    let f = c.cursor.self-inside.cursor in
    let old = c.index_mut-bucket.result.now in
    let lt : f < length bs = let len = c.cursor.self-inside.buckets.ok.0 in let l = c.if-self-len.false in omega (arith, c.len.ensures) in
    let below : f < c.args.below = let t = c.cursor-test.true in omega arith in
    let spare : c.pop.new.self.cap - c.pop.new.self.len ≡ old.cap - old.len + 1 = let cap = c.in-Some.ensures.capacity in let len = c.in-Some.ensures.cases in let fits = old.ok.1 in omega arith in (
      f,
      below,
      subst (λ w. TakesEntry f c.in-Some.entry w (list_of (set bs f c.pop.new.self))) c.cursor.invariant.same
          (taken_from bs f c.pop.new.self lt old c.index_mut-bucket.ensures.value c.in-Some.entry c.in-Some.ensures.items spare c.cursor.invariant.before),
    )

pub cursor-preserved : goal.cursor-preserved
cursor-preserved g c =
    let bs = c.cursor.self-inside.buckets.items in
    let f = c.cursor.self-inside.cursor in
    let old = c.index_mut-bucket.result.now in
    let lt : f < length bs = let len = c.cursor.self-inside.buckets.ok.0 in let l = c.if-self-len.false in omega (arith, c.len.ensures) in
    let size : length (set bs f c.pop.new.self) ≡ length bs = length-set bs f c.pop.new.self in
    let items : c.pop.new.self.items ≡ old.items = sym (append-nil c.pop.new.self.items) ∙ sym c.in_default.ensures.items in
    let none = c.in_default.ensures.cases in
    let len : c.pop.new.self.len ≡ old.len = none.1 ∙ sym none.0 in
    record {
      same = nothing_taken bs f c.pop.new.self lt old c.index_mut-bucket.ensures.value items c.in_default.ensures.capacity len ∙ c.cursor.invariant.same;
      before = λ h below. elim (cases_eq h f) [
        | inl here ↦ ap (λ k. entries_at (list_of (set bs f c.pop.new.self)) k) here ∙ entries_set bs f c.pop.new.self lt ∙ nil_from_length c.pop.new.self.items (sym c.pop.new.self.ok.0 ∙ none.1)
        | inr apart ↦ (others_set bs f c.pop.new.self lt h apart).0 ∙ c.cursor.invariant.before h (omega arith)
      ];
      few = let few = c.cursor.invariant.few in omega arith;
    }
