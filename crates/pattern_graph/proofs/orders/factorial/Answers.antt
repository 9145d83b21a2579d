use Rattle.std.proofs.Common.{◌+◌, ◌*◌, ap, ◌∙◌, sym, arith}
use Rattle.pattern_graph.proofs.OrderTables.{factorial_small, factorial_some, factorial_next}
use Rattle.pattern_graph.proofs.orders.factorial.Goals as goal

pub overflow_mul-product : goal.overflow_mul-product
overflow_mul-product c =
    let next = ap (λ p. p * (c.factors.factor + 1)) c.factors.invariant ∙ sym (factorial_next c.factors.factor) in
    let small = factorial_small (c.factors.factor + 1) (omega arith) in
    omega arith

pub factors-preserved : goal.factors-preserved
factors-preserved c = ap (λ p. p * (c.factors.factor + 1)) c.factors.invariant ∙ sym (factorial_next c.factors.factor)

pub returns-clause-low : goal.returns-clause-low
returns-clause-low c = let some = factorial_some c.factors.factor in omega arith

pub returns-clause-high : goal.returns-clause-high
returns-clause-high c = let small = factorial_small c.factors.factor (omega arith) in omega arith
