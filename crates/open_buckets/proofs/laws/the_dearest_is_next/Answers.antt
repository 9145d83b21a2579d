use Rattle.open_buckets.proofs.BucketLemmas.{next_was_there, none_costs_more, all_in_order}
use Rattle.open_buckets.proofs.laws.the_dearest_is_next.Goals as goal

pub returns-clause-there : goal.returns-clause-there
returns-clause-there g c = next_was_there

pub returns-clause-greatest : goal.returns-clause-greatest
returns-clause-greatest g c = none_costs_more

pub returns-clause-order : goal.returns-clause-order
returns-clause-order g c = all_in_order
