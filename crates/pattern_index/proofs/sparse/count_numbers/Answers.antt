use Rattle.std.proofs.Common.{◌+◌, ◌^◌, sym, ap, ◌∙◌, arith}
use Rattle.std.proofs.Math.Nat.{pow-zero}
use Rattle.pattern_index.proofs.SparseLemmas.{power_more, pow_ten}
use Rattle.pattern_index.proofs.sparse.count_numbers.Goals as goal

pub digits-init : goal.digits-init
digits-init c = sym (pow-zero c.args.count)

pub overflow_mul-numbers : goal.overflow_mul-numbers
overflow_mul-numbers c =
    let next = power_more c.args.count c.digits.numbers c.digits.counter c.digits.invariant in
    let top = pow_ten c.args.count (c.digits.counter + 1) c.requires.few (omega (arith, c.requires.short, c.digits-test.true)) in
    omega (arith, next, top)

pub digits-preserved : goal.digits-preserved
digits-preserved c = power_more c.args.count c.digits.numbers c.digits.counter c.digits.invariant

pub returns : goal.returns
returns c = c.digits.invariant ∙ ap (λ k. c.args.count ^ k) (omega (arith, c.digits-test.false, c.digits.auto.counter-end))
