use Rattle.std.proofs.Common.{refl, arith}
use Rattle.std.specs.Str.Parse.{ParsesUnsigned, ExplainsUnsignedError, HasUnsignedDigitsIfOk}
use Rattle.clap.specs.Words.{found_of}
use Rattle.command_line.proofs.ParseLemmas.{number_read, number_lacks}
use Rattle.command_line.proofs.values.byte_in.Goals as goal

pub returns-clause-value : goal.returns-clause-value
returns-clause-value c = number_read _ 256 (λ bs r. ParsesUnsigned 8 10 bs r × ExplainsUnsignedError 10 bs r × HasUnsignedDigitsIfOk bs r) (omega arith) (λ t r g. g.0) (found_of c.args.matches.now) c.args.id.now _ refl c.get_one.result c.get_one.ensures.none c.get_one.ensures.value

pub returns-clause-none : goal.returns-clause-none
returns-clause-none c = number_lacks _ 256 (λ bs r. ParsesUnsigned 8 10 bs r × ExplainsUnsignedError 10 bs r × HasUnsignedDigitsIfOk bs r) (λ t r g. g.0) (found_of c.args.matches.now) c.args.id.now _ refl c.get_one.result c.get_one.ensures.none c.get_one.ensures.value
