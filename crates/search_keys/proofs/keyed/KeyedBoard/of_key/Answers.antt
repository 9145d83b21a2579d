use Rattle.std.proofs.Common.{sym, subst}
use Rattle.board.specs.Boards.{BoardModel}
use Rattle.search_keys.specs.SearchKeys.{HasSearchKey}
use Rattle.search_keys.proofs.SearchKeyLemmas.{key_read, keyed_as}
use Rattle.search_keys.proofs.keyed.KeyedBoard.of_key.Goals as goal

pub invariant_of-result : goal.invariant_of-result
invariant_of-result c = keyed_as _ c.requires.0 c.requires.1

pub returns : goal.returns
returns c = subst (λ (p : BoardModel). HasSearchKey c.args.shape c.args.key p) (sym (key_read (record { shape = c.args.shape; key = c.args.key }) c.requires.0 c.requires.1)) c.requires.1
