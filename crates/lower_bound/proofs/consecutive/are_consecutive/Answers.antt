use Rattle.std.proofs.Common.{true, arith}
use Rattle.std.proofs.lemmas.Bool.{false≢true}
use Rattle.lower_bound.proofs.ConsecutiveLemmas.{consecutive_at, consecutive_made}
use Rattle.lower_bound.proofs.consecutive.are_consecutive.Goals as goal

pub returns-then-not-follows : goal.returns-then-not-follows
returns-then-not-follows c = (λ none. absurd (false≢true none), λ are. absurd (c.if-not-follows.true (consecutive_at c.args.tiles.now are c.tiles.place c.tiles-test.true)))

pub returns : goal.returns
returns c = (λ all. consecutive_made c.args.tiles.now (λ k k_in. c.tiles.invariant k (omega (arith, k_in, c.tiles-test.false))), λ are. λ i. true)
