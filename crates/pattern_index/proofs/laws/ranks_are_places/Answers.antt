use Rattle.pattern_index.specs.Ranks.{list_at}
use Rattle.pattern_index.proofs.RankLemmas.{rank_below, rank_differs, rank_order, order_from_rank, rank_of-list_at, list_at_below, list_at_differ, length-list_at, below_in, differ_in, listing_from}
use Rattle.pattern_index.proofs.laws.ranks_are_places.Goals as goal

pub returns-clause-below : goal.returns-clause-below
returns-clause-below c = λ n xs listing. rank_below n xs (below_in n xs listing) (differ_in n xs listing)

pub returns-clause-differ : goal.returns-clause-differ
returns-clause-differ c = λ n xs ys lx ly. rank_differs n xs ys (below_in n xs lx) (differ_in n xs lx) (below_in n ys ly) (differ_in n ys ly)

pub returns-clause-fill : goal.returns-clause-fill
returns-clause-fill c = λ n r k le lt. (list_at n r k, listing_from n (list_at n r k) (list_at_below n r k le lt) (list_at_differ n r k), length-list_at n r k le, rank_of-list_at n r k le lt)

pub returns-clause-order : goal.returns-clause-order
returns-clause-order c = λ n xs ys lx ly same. (
  order_from_rank n xs ys (below_in n xs lx) (differ_in n xs lx) (below_in n ys ly) (differ_in n ys ly) same,
  rank_order n xs ys (below_in n xs lx) (differ_in n xs lx) (below_in n ys ly) (differ_in n ys ly) same,
)
