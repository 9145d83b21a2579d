use Rattle.std.proofs.Common.{ap, sym, ◌∙◌, subst}
use Rattle.board.specs.Boards.{IsBoard}
use Rattle.board.specs.Keys.{key_of}
use Rattle.board.proofs.KeyLemmas.{read_back}
use Rattle.board.proofs.boards.Board.from_key.Goals as goal

pub returns-in_default-clause-found : goal.returns-in_default-clause-found
returns-in_default-clause-found c = (
  (λ none. absurd (cc)),
  (λ found.
      let read = read_back c.args.shape c.args.key c.cells.result c.cells-2.result c.last_digits-tiles.result found.0 found.1 c.cells.ensures.value c.cells-2.ensures.value c.last_digits-tiles.ensures.digits in
      c.in_default.ensures.accepted.1 (subst IsBoard (sym read) found.1.board)),
)

pub returns-else-key-clause-found : goal.returns-else-key-clause-found
returns-else-key-clause-found c = (
  (λ none. absurd (cc)),
  (λ found.
      let read = read_back c.args.shape c.args.key c.cells.result c.cells-2.result c.last_digits-tiles.result found.0 found.1 c.cells.ensures.value c.cells-2.ensures.value c.last_digits-tiles.ensures.digits in
      absurd (c.if-key.false (c.key.ensures.value ∙ ap key_of (c.in-Ok.ensures.value ∙ read) ∙ found.1.packed))),
)
