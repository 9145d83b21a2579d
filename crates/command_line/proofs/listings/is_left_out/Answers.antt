use Rattle.clap.specs.Words.{found_of}
use Rattle.command_line.proofs.ParseLemmas.{left_out}
use Rattle.command_line.proofs.listings.is_left_out.Goals as goal

pub returns : goal.returns
returns c = left_out (found_of c.args.matches.now) c.args.id.now c.get_str.result c.is_none.result c.get_str.ensures c.is_none.ensures
