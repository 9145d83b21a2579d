use Rattle.std.proofs.Common.{arith}
use Rattle.search_keys.proofs.ZeroLemmas.{long_first}
use Rattle.search_keys.proofs.digits.long_place.Goals as goal

pub returns : goal.returns
returns c = long_first c.args.key c.args.digit (omega (arith, c.ranges.key.fits)) c.requires.low c.requires.found
