use Rattle.std.proofs.Common.{arith}
use Rattle.search_keys.proofs.ZeroLemmas.{short_first}
use Rattle.search_keys.proofs.digits.short_place.Goals as goal

pub returns : goal.returns
returns c = short_first c.args.key c.args.digit (omega (arith, c.ranges.key.fits)) c.requires.low c.requires.found
