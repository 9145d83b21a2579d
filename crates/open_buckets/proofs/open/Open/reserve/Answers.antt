use Rattle.std.proofs.Common.{◌≡◌, ◌<◌, ◌≤◌, ◌+◌, ◌-◌, ◌∙◌, ℕ, length, ap, sym, subst, arith, length-set}
use Rattle.std.specs.Vec.{vec_len, vec_capacity}
use Rattle.std.proofs.lemmas.List.{length_push}
use Rattle.std.proofs.lemmas.Result.{on_ok_weaker}
use Rattle.open_buckets.specs.OpenLists.{entries_at, places_at}
use Rattle.open_buckets.specs.Buckets.{list_of}
use Rattle.std.specs.Prelude.{set}
use Rattle.open_buckets.proofs.BucketLemmas.{same_entries, no_fewer_places, places_set, entries_more, places_more, has_bucket, others_set}
use Rattle.open_buckets.proofs.open.Open.reserve.Goals as goal

pub invariant_of-self-2 : goal.invariant_of-self-2
invariant_of-self-2 g c =
    let bs = c.buckets.self-inside.buckets.items in
    let old = c.index_mut-bucket.result.now in
    let lt : c.args.f < length bs = let len = c.buckets.self-inside.buckets.ok.0 in omega (arith, c.len.ensures) in
    let size : length (set bs c.args.f c.make_places-2.new.items) ≡ length bs = length-set bs c.args.f c.make_places-2.new.items in
    record {
      before = λ h below. same_entries bs c.args.f c.make_places-2.new.items lt old c.index_mut-bucket.ensures.value c.make_places-2.ensures.items h ∙ c.buckets.invariant.before h below;
      few = let few = c.buckets.invariant.few in omega arith;
    }

pub returns-clause-ok : goal.returns-clause-ok
returns-clause-ok g c =
    let bs = c.buckets.self-inside.buckets.items in
    let lt : c.args.f < length bs = let len = c.buckets.self-inside.buckets.ok.0 in omega (arith, c.len.ensures) in
    let at = places_set bs c.args.f c.make_places-2.new.items lt in
    on_ok_weaker c.make_places-2.result (λ (room : vec_len c.make_places-2.new.items + c.args.count ≤ vec_capacity c.make_places-2.new.items). omega arith) c.make_places-2.ensures.ok

pub returns-clause-entries : goal.returns-clause-entries
returns-clause-entries g c h =
    let bs = c.buckets.self-inside.buckets.items in
    let old = c.index_mut-bucket.result.now in
    let lt : c.args.f < length bs = let len = c.buckets.self-inside.buckets.ok.0 in omega (arith, c.len.ensures) in
    same_entries bs c.args.f c.make_places-2.new.items lt old c.index_mut-bucket.ensures.value c.make_places-2.ensures.items h ∙ c.buckets.invariant.entries h

pub returns-clause-places : goal.returns-clause-places
returns-clause-places g c h =
    let bs = c.buckets.self-inside.buckets.items in
    let old = c.index_mut-bucket.result.now in
    let lt : c.args.f < length bs = let len = c.buckets.self-inside.buckets.ok.0 in omega (arith, c.len.ensures) in
    let more : old.cap - old.len ≤ c.make_places-2.new.items.cap - c.make_places-2.new.items.len = let cap = c.make_places-2.ensures.capacity in let same : length c.make_places-2.new.items.items ≡ length old.items = ap length c.make_places-2.ensures.items in let now = c.make_places-2.new.items.ok.0 in let before = old.ok.0 in omega arith in
    let up = no_fewer_places bs c.args.f c.make_places-2.new.items lt old c.index_mut-bucket.ensures.value more h in
    let before = c.buckets.invariant.places h in
    omega arith

pub returns-clause-others : goal.returns-clause-others
returns-clause-others g c h apart =
    let bs = c.buckets.self-inside.buckets.items in
    let lt : c.args.f < length bs = let len = c.buckets.self-inside.buckets.ok.0 in omega (arith, c.len.ensures) in
    (others_set bs c.args.f c.make_places-2.new.items lt h apart).1 ∙ c.buckets.invariant.places h

pub buckets-preserved : goal.buckets-preserved
buckets-preserved g c =
    let bs = c.buckets.self-inside.buckets.items in
    let more = c.in_ok-push.ensures.items in
    let same : (h : ℕ) → entries_at (list_of c.push.new.items.items) h ≡ entries_at (list_of bs) h = λ h. ap (λ xs. entries_at (list_of xs) h) more ∙ entries_more bs c.new.result c.new.ensures.items h in
    record {
      entries = λ h. same h ∙ c.buckets.invariant.entries h;
      places = λ h.
          ap (λ xs. places_at (list_of xs) h) more ∙ places_more bs c.new.result (let cap = c.new.ensures.capacity in let len = c.new.ensures.len in omega arith) h ∙ c.buckets.invariant.places h;
      enough = λ some.
          let there : 0 < places_at (list_of bs) c.args.f = subst (λ w. 0 < places_at w c.args.f) (sym (c.buckets.invariant.enough some)) some in
          let lt = has_bucket bs c.args.f there in
          let len = c.buckets.self-inside.buckets.ok.0 in
          let test = c.buckets-test.true in
          absurd (omega (arith, c.len.ensures));
      before = λ h below. same h ∙ c.buckets.invariant.before h below;
      few =
          let size : length c.push.new.items.items ≡ length bs + 1 = ap length more ∙ length_push bs c.new.result in
          let len = c.buckets.self-inside.buckets.ok.0 in
          let test = c.buckets-test.true in
          let within = c.requires.within in
          omega (arith, c.len.ensures);
    }
