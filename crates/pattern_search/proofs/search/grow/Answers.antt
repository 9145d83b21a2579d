use Rattle.std.proofs.Common.{◌≡◌, ◌+◌, [], ◌∷◌, ◌++◌, length, refl, sym, ap, ◌∙◌, subst, arith}
use Rattle.std.proofs.lemmas.List.{length_push}
use Rattle.std.proofs.lemmas.Slice.{pushed}
use Rattle.pattern_search.specs.Searches.{Buckets, IsGrown}
use Rattle.pattern_search.proofs.SearchLemmas.{grown_more}
use Rattle.pattern_search.proofs.search.grow.Goals as goal

pub costs-preserved : goal.costs-preserved
costs-preserved c =
    let is : c.push.new.items.items ≡ c.costs.buckets.items ++ c.new.result ∷ [] = pushed (c.new.result ∷ []) refl c.in_ok-push.was c.push.ensures.items in
    let grown = grown_more c.args.buckets.now.items c.costs.buckets.items c.new.result c.costs.invariant.0 c.new.ensures.items in
    let long : length c.push.new.items.items ≡ length c.costs.buckets.items + 1 = ap length is ∙ length_push c.costs.buckets.items c.new.result in
    let size = c.costs.buckets.ok in
    let len = c.len.ensures in
    (subst (λ (b : Buckets). IsGrown c.args.buckets.now.items b) (sym is) grown, (λ h. omega (arith, c.requires)))
