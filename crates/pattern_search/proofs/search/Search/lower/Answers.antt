use Rattle.std.proofs.Common.{refl}
use Rattle.pattern_search.proofs.SearchLemmas.{lowered_put}
use Rattle.pattern_search.proofs.search.Search.lower.Goals as goal

pub returns : goal.returns
returns c = lowered_put c.args.node c.args.cost c.args.self.now _ c.grow.new.buckets.items refl refl c.requires.inside c.requires.less c.in_ok-grow.ensures.grown c.in_ok-grow.ensures.few c.in_ok-put.ensures
