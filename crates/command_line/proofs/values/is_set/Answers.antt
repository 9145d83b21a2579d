use Rattle.std.proofs.Common.{codes}
use Rattle.clap.specs.Words.{found_of}
use Rattle.command_line.proofs.ParseLemmas.{word_told, none_told}
use Rattle.command_line.proofs.values.is_set.Goals as goal

pub returns-in-Some : goal.returns-in-Some
returns-in-Some c = word_told (found_of c.args.matches.now) c.args.id.now c.in-Some.text.now (codes "true") c.eq.result c.in-Some.ensures c.eq.ensures

pub returns-in-None : goal.returns-in-None
returns-in-None c = none_told (found_of c.args.matches.now) c.args.id.now (codes "true") c.in-None.ensures
