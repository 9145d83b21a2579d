use Rattle.search_keys.proofs.SearchKeyLemmas.{key_read, keyed_as, new_key}
use Rattle.search_keys.proofs.keyed.KeyedBoard.new.Goals as goal

pub invariant_of-result : goal.invariant_of-result
invariant_of-result c = keyed_as (record { shape = c.shape.result; key = c.search_key_of.result }) c.args.board.now (new_key (record { shape = c.shape.result; key = c.search_key_of.result }) c.args.board.now c.shape.ensures.board c.shape.ensures.value c.search_key_of.ensures.value)

pub returns : goal.returns
returns c = key_read (record { shape = c.shape.result; key = c.search_key_of.result }) c.args.board.now (new_key (record { shape = c.shape.result; key = c.search_key_of.result }) c.args.board.now c.shape.ensures.board c.shape.ensures.value c.search_key_of.ensures.value)
