use Rattle.std.proofs.Common.{refl, [], ◌∷◌}
use Rattle.std.proofs.lemmas.Slice.{pushed}
use Rattle.pattern_search.proofs.SearchLemmas.{put_is}
use Rattle.pattern_search.proofs.search.put.Goals as goal

pub returns : goal.returns
returns c = put_is c.args.buckets.now.items c.args.cost c.args.rank c.index_mut.result.now c.push.new.items c.requires c.index_mut.ensures.value (pushed (c.args.rank ∷ []) refl c.in_ok-push.was c.push.ensures.items)
