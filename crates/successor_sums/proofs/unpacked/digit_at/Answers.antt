use Rattle.successor_sums.proofs.MoveLemmas.{digit_fits}
use Rattle.successor_sums.proofs.unpacked.digit_at.Goals as goal

pub returns : goal.returns
returns c = digit_fits c.args.tile c.args.behind c.requires.tile c.requires.few
