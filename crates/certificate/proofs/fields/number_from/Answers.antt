use Rattle.std.proofs.Common.{rules}
use Rattle.certificate.proofs.ReaderLemmas.{number_back}
use Rattle.certificate.proofs.fields.number_from.Goals as goal

pub returns-clause-text : goal.returns-clause-text
returns-clause-text c = number_back c.args.text _ (search rules) (search rules) c.from_le_bytes.ensures
