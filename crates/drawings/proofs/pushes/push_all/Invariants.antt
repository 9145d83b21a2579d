use Rattle.std.proofs.Common.{◌≡◌, ◌++◌, take}
use Rattle.drawings.proofs.pushes.push_all.Given as goal

abbrev pub invariant-bytes : goal.invariant-bytes
invariant-bytes l = l.text.items ≡ l.fn.text.items ++ take l.byte-index l.bytes
