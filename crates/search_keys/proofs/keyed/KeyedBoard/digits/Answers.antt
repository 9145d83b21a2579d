use Rattle.std.proofs.Common.{◌∙◌, arith}
use Rattle.search_keys.proofs.SearchKeyLemmas.{digits_read, few_stored, short_stored}
use Rattle.search_keys.proofs.keyed.KeyedBoard.digits.Goals as goal

pub overflow_cast-self-inside : goal.overflow_cast-self-inside
overflow_cast-self-inside c =
    let few = few_stored c.self.inside c.args.self.now c.self.invariant c.self.view_is c.requires.short in
    let low = short_stored c.self.inside c.self.invariant few in
    omega (arith, low)

pub returns : goal.returns
returns c = c.short_digits.ensures ∙ digits_read c.self.inside c.args.self.now c.self.invariant c.self.view_is c.requires.short c.args.first c.args.count c.requires.within
