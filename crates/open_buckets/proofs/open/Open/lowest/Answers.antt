use Rattle.std.proofs.Common.{◌≡◌, ◌<◌, ◌∙◌, length, sym, ap, inl, inr, arith}
use Rattle.std.specs.Vec.{vec_len}
use Rattle.std.proofs.lemmas.Bool.{cases_eq, eqb-true}
use Rattle.open_buckets.specs.OpenLists.{entries_at}
use Rattle.open_buckets.specs.Buckets.{list_of}
use Rattle.open_buckets.proofs.BucketLemmas.{empty_at}
use Rattle.open_buckets.proofs.open.Open.lowest.Goals as goal

pub places-preserved : goal.places-preserved
places-preserved g c h lt =
    let bs = c.self.inside.buckets.items in
    let none : vec_len c.index.result.now ≡ 0 = eqb-true (vec_len c.index.result.now) 0 (sym c.is_empty.ensures ∙ c.if-not-is_empty.false) in
    let here : c.places.place < length bs = let len = c.self.inside.buckets.ok.0 in omega (arith, c.len.ensures) in
    elim (cases_eq h c.places.place) [
      | inl same ↦ ap (λ k. entries_at (list_of bs) k) same ∙ empty_at bs c.places.place c.index.result.now here c.index.ensures none
      | inr apart ↦ c.places.invariant h (omega arith)
    ]
