use Rattle.std.proofs.Common.{◌≡◌, ◌+◌, ◌++◌, ◌∷◌, [], None, List, ℕ, Option, take, sym, ap, subst, ◌∙◌}
use Rattle.std.specs.Prelude.{IfSome}
use Rattle.std.specs.List.{AllByRecursion}
use Rattle.std.proofs.lemmas.Bool.{false≢true}
use Rattle.std.proofs.lemmas.List.{take_more}
use Rattle.board.specs.Boards.{BoardModel}
use Rattle.certificate.specs.Certificates.{IsBoardOf, IsRow, Follows, RiseAfter}
use Rattle.certificate.proofs.SourceLemmas.{last_of, last_is_board, last_pushed, rise_pushed, rows_pushed, row_there}
use Rattle.certificate.proofs.certificate.are_rows.Goals as goal

pub is_next_row-requires : goal.is_next_row-requires
is_next_row-requires c =
    subst (λ (b : Option BoardModel). IfSome b (IsBoardOf c.args.shape)) (sym c.rows.invariant.last) (last_is_board c.args.shape None (take c.rows.row-index c.args.rows.now) tt c.rows.invariant.rows)

pub returns-then-not-is_next_row : goal.returns-then-not-is_next_row
returns-then-not-is_next_row c =
    let row : BoardModel × ℕ = c.row-item.result in (
      λ e. absurd (false≢true e),
      λ p.
          let at = row_there c.args.shape c.args.rows.now c.rows.row-index row c.rows-test.true c.row-item.is p in
          let follows = subst (λ (b : Option BoardModel). Follows b row.0) (sym c.rows.invariant.last) at.1 in
          sym c.if-not-is_next_row.true ∙ c.is_next_row.ensures.1 (at.0, follows),
    )

pub rows-preserved : goal.rows-preserved
rows-preserved c =
    let grid = c.args.shape in
    let done = take c.rows.row-index c.args.rows.now in
    let row : BoardModel × ℕ = c.row-item.result in
    let old = c.rows.invariant in
    let is = c.is_next_row.ensures.0 c.if-not-is_next_row.false in
    let more : take (c.rows.row-index + 1) c.args.rows.now ≡ done ++ row ∷ [] = take_more c.args.rows.now c.rows.row-index row c.rows-test.true ∙ ap (λ (r : BoardModel × ℕ). done ++ r ∷ []) (sym c.row-item.is) in
    let follows : Follows (last_of None done) row.0 = subst (λ (b : Option BoardModel). Follows b row.0) old.last is.1 in
    record {
      rows = subst (λ (l : List (BoardModel × ℕ)). AllByRecursion (IsRow grid) l) (sym more) (rows_pushed grid done row old.rows is.0);
      rising = subst (λ (l : List (BoardModel × ℕ)). RiseAfter None l) (sym more) (rise_pushed None done row old.rising follows);
      last = sym (ap (last_of None) more ∙ last_pushed None done row);
    }
