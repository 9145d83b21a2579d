use Rattle.pattern_search.proofs.SearchLemmas.{released}
use Rattle.pattern_search.proofs.search.release.Goals as goal

pub returns-clause-same : goal.returns-clause-same
returns-clause-same c = released c.args.buckets.now.items c.args.cost c.new.result c.requires.inside c.requires.empty c.new.ensures.items
