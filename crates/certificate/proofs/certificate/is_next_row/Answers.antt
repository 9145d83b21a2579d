use Rattle.std.proofs.Common.{sym, ◌∙◌}
use Rattle.certificate.proofs.RowLemmas.{follows_from_test, test_from_follows}
use Rattle.certificate.proofs.certificate.is_next_row.Goals as goal

pub returns : goal.returns
returns c =
    let grid = c.args.shape in
    let before = c.args.before in
    let b = c.args.row.now.0 in
    let is = c.is_row.ensures.0 c.if-not-is_row.false in
    (λ t. (is, follows_from_test grid before b c.requires is.board (sym c.comes_after.ensures ∙ t)), λ p. c.comes_after.ensures ∙ test_from_follows grid before b c.requires p.0.board p.1)
