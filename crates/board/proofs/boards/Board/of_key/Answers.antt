use Rattle.std.proofs.Common.{ℕ, refl, sym, ap, ◌∙◌, subst}
use Rattle.board.specs.Shapes.{cell_count}
use Rattle.board.specs.Boards.{IsBoard}
use Rattle.board.specs.Keys.{key_of}
use Rattle.board.specs.Padding.{IsPadded}
use Rattle.board.proofs.KeyLemmas.{read_back}
use Rattle.board.proofs.boards.Board.of_key.Goals as goal

pub invariant_of-result : goal.invariant_of-result
invariant_of-result c =
    let read = read_back c.args.shape c.args.key c.cells.result (cell_count c.args.shape) c.last_digits-digits.result c.requires.0 c.requires.1 c.cells.ensures.value refl c.last_digits-digits.ensures.digits in
    record { board = subst IsBoard (sym read) c.requires.1.board; unused = subst (λ (n : ℕ). IsPadded 25 n c.last_digits-digits.result) c.cells.ensures.value c.last_digits-digits.ensures.unused }

pub returns : goal.returns
returns c =
    let read = read_back c.args.shape c.args.key c.cells.result (cell_count c.args.shape) c.last_digits-digits.result c.requires.0 c.requires.1 c.cells.ensures.value refl c.last_digits-digits.ensures.digits in
    record { board = subst IsBoard (sym read) c.requires.1.board; sides = refl; packed = ap key_of read ∙ c.requires.1.packed }
