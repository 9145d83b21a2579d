use Rattle.search_keys.proofs.SearchKeyLemmas.{digits_exchanged}
use Rattle.search_keys.proofs.laws.moves_exchange_two_digits.Goals as goal

pub returns : goal.returns
returns c = digits_exchanged
