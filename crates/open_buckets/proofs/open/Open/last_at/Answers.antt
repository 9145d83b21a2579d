use Rattle.std.proofs.Common.{◌≡◌, ◌≢◌, ◌<◌, ◌-◌, ◌∙◌, length, get_or, sym, ap, subst, arith}
use Rattle.std.specs.Vec.{vec_len}
use Rattle.std.specs.Prelude.{false, true}
use Rattle.std.proofs.lemmas.Bool.{eq-eqb}
use Rattle.open_buckets.specs.OpenLists.{IsLastAt}
use Rattle.open_buckets.proofs.BucketLemmas.{last_in}
use Rattle.open_buckets.proofs.open.Open.last_at.Goals as goal

pub returns : goal.returns
returns g c =
    let bs = c.self.inside.buckets.items in
    let f = c.args.f in
    let bucket = c.index-bucket.result.now in
    let here : f < length bs = let len = c.self.inside.buckets.ok.0 in let l = c.if-place-len.false in omega (arith, c.len.ensures) in
    let some : vec_len bucket ≢ 0 = λ none. let no : false ≡ true = sym c.if-is_empty.false ∙ c.is_empty.ensures ∙ eq-eqb (vec_len bucket) 0 none in cc in
    let last : c.index.result.now ≡ get_or bucket.items (vec_len bucket - 1) c.index.result.now = c.index.ensures ∙ ap (λ n. get_or bucket.items (n - 1) c.index.result.now) c.len-2.ensures in
    subst (λ w. IsLastAt f c.index.result.now w) c.self.view_is (last_in bs f bucket c.index.result.now here c.index-bucket.ensures some last)
