use Rattle.std.proofs.Common.{◌≡◌, ◌++◌, replicate}
use Rattle.drawings.proofs.pushes.push_spaces.Given as goal

abbrev pub invariant-spaces : goal.invariant-spaces
invariant-spaces l = l.text.items ≡ l.fn.text.items ++ replicate l.counter 32
