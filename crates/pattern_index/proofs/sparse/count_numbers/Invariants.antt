use Rattle.std.proofs.Common.{◌≡◌, ◌^◌}
use Rattle.pattern_index.proofs.sparse.count_numbers.Given as goal

abbrev pub invariant-digits : goal.invariant-digits
invariant-digits l = l.numbers ≡ l.count ^ l.counter
