use Rattle.std.proofs.Common.{◌≡◌, ◌<◌, ◌∙◌, length, sym, subst, arith, length-set}
use Rattle.std.specs.Prelude.{set}
use Rattle.open_buckets.specs.OpenLists.{places_at, PutsEntry}
use Rattle.open_buckets.specs.Buckets.{list_of}
use Rattle.open_buckets.proofs.BucketLemmas.{has_bucket, put_in, others_set}
use Rattle.open_buckets.proofs.open.Open.put.Goals as goal

pub invariant_of-self : goal.invariant_of-self
invariant_of-self g c =
    let bs = c.self.inside.buckets.items in
    let f = c.args.f in
    let lt : c.args.f < length bs = has_bucket bs f (subst (λ w. 0 < places_at w f) (sym c.self.view_is) c.requires) in
    record {
      before = λ h below. (others_set bs f c.push.new.items lt h (omega arith)).0 ∙ c.self.invariant.before h (let l = c.if-place-self.true in omega arith);
      few = let e : length (set bs f c.push.new.items) ≡ length bs = length-set bs f c.push.new.items in let few = c.self.invariant.few in omega arith;
    }

pub invariant_of-self-else-place-self : goal.invariant_of-self-else-place-self
invariant_of-self-else-place-self g c =
    let bs = c.self.inside.buckets.items in
    let f = c.args.f in
    let lt : c.args.f < length bs = has_bucket bs f (subst (λ w. 0 < places_at w f) (sym c.self.view_is) c.requires) in
    record {
      before = λ h below. (others_set bs f c.push.new.items lt h (let l = c.if-place-self.false in omega arith)).0 ∙ c.self.invariant.before h below;
      few = let e : length (set bs f c.push.new.items) ≡ length bs = length-set bs f c.push.new.items in let few = c.self.invariant.few in omega arith;
    }

pub returns-then-place-self : goal.returns-then-place-self
returns-then-place-self g c =
    let bs = c.self.inside.buckets.items in
    let f = c.args.f in
    let lt : c.args.f < length bs = has_bucket bs f (subst (λ w. 0 < places_at w f) (sym c.self.view_is) c.requires) in
    let items = rw c.if-is_err.ensures.negation at c.push.ensures.items in
    subst (λ w. PutsEntry f (c.args.key, c.args.g) w (list_of (set bs f c.push.new.items))) c.self.view_is
    (put_in bs f c.push.new.items lt c.index_mut-bucket.result.now c.index_mut-bucket.ensures.value (c.args.key, c.args.g) items c.push.ensures.capacity)

pub returns-else-place-self : goal.returns-else-place-self
returns-else-place-self g c =
    let bs = c.self.inside.buckets.items in
    let f = c.args.f in
    let lt : c.args.f < length bs = has_bucket bs f (subst (λ w. 0 < places_at w f) (sym c.self.view_is) c.requires) in
    let items = rw c.if-is_err.ensures.negation at c.push.ensures.items in
    subst (λ w. PutsEntry f (c.args.key, c.args.g) w (list_of (set bs f c.push.new.items))) c.self.view_is
    (put_in bs f c.push.new.items lt c.index_mut-bucket.result.now c.index_mut-bucket.ensures.value (c.args.key, c.args.g) items c.push.ensures.capacity)
