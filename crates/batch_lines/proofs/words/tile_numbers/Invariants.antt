use Rattle.std.proofs.Common.{◌-◌, length}
use denote.Shadow.{shadow}
use denote.Text.{Utf8}
use Rattle.batch_lines.proofs.FaultLemmas.{AreRead}
use Rattle.batch_lines.proofs.words.tile_numbers.Given as goal

abbrev pub invariant-words : goal.invariant-words
invariant-words l = AreRead l.text l.rest l.numbers.items × shadow (Utf8 l.rest)

abbrev pub decreases-words : goal.decreases-words
decreases-words l = 26 - length l.numbers.items
