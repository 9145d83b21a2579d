use Rattle.std.proofs.Common.{◌≡◌, ◌+◌, ◌++◌, ◌∷◌, [], None, List, ℕ, Option, length, sym, ◌∙◌, ap, subst, arith}
use Rattle.std.specs.Prelude.{IfSome}
use Rattle.std.specs.List.{flat_map, AllByRecursion}
use Rattle.std.proofs.KnownBytes.{Consumes-trans}
use Rattle.std.proofs.lemmas.List.{length_push}
use Rattle.byte_streams.specs.Streams.{change}
use Rattle.byte_streams.specs.Source.{Takes}
use Rattle.board.specs.Boards.{BoardModel}
use Rattle.certificate.specs.Certificates.{IsBoardOf, IsRow, RiseAfter, Follows}
use Rattle.certificate.specs.Sources.{RefusesInput}
use Rattle.certificate.specs.Spellings.{row_text}
use Rattle.certificate.specs.Readings.{row, rows}
use Rattle.certificate.proofs.ReaderLemmas.{passed}
use Rattle.certificate.proofs.SourceLemmas.{rows_refuse, last_of, last_is_board, last_pushed, rise_pushed, rows_pushed, text_pushed}
use Rattle.certificate.proofs.reading.read_rows.Goals as goal

pub read_row-requires : goal.read_row-requires
read_row-requires g c =
    subst (λ (b : Option BoardModel). IfSome b (IsBoardOf c.args.shape)) (sym c.rows.invariant.last) (last_is_board c.args.shape None c.rows.read.items tt c.rows.invariant.rows)

pub returns-in_err-row : goal.returns-in_err-row
returns-in_err-row g c =
    let state = g.S.Source.state in
    let grid = c.args.shape in
    let f = c.in_err-row.field-0.0 in
    let r = subst (λ (b : Option BoardModel). RefusesInput (row grid b) (change state c.rows.source c.read_row.new.source) f) c.rows.invariant.last c.in_err-row.ensures.row in
    passed (rows grid None c.args.count) _ (change state c.args.source.now c.read_row.new.source) c.from_residual.result f c.from_residual.ensures.1
    (rows_refuse grid c.rows.read.items c.args.count (state c.args.source.now) (state c.rows.source) (state c.read_row.new.source) f (omega (arith, c.rows.invariant.size, c.rows-test.true)) c.rows.invariant.rows c.rows.invariant.rising c.rows.invariant.taken r)

pub rows-preserved : goal.rows-preserved
rows-preserved g c =
    let state = g.S.Source.state in
    let grid = c.args.shape in
    let done = c.rows.read.items in
    let r : BoardModel × ℕ = c.in_ok-row.row in
    let old = c.rows.invariant in
    let p = c.in_ok-row.ensures.row in
    let pushed : c.push_reserved.new.self.items ≡ done ++ r ∷ [] = c.push_reserved.ensures.items ∙ ap (λ (l : List (BoardModel × ℕ)). l ++ r ∷ []) c.in_ok-row.ensures.rows in
    let follows : Follows (last_of None done) r.0 = subst (λ (b : Option BoardModel). Follows b r.0) old.last p.spells.follows in
    let both = Consumes-trans (state c.args.source.now).left (state c.rows.source).left (state c.read_row.new.source).left (flat_map row_text done) p.text old.taken p.taken in
    record {
      taken = subst (λ (text : List ℕ). Takes (change state c.args.source.now c.read_row.new.source) text) (ap (λ (l : List ℕ). flat_map row_text done ++ l) p.spells.is ∙ sym (ap (flat_map row_text) pushed ∙ text_pushed done r)) both;
      size = ap (λ (l : List (BoardModel × ℕ)). length l) pushed ∙ length_push done r ∙ ap (λ (n : ℕ). n + 1) old.size;
      rows = subst (λ (l : List (BoardModel × ℕ)). AllByRecursion (IsRow grid) l) (sym pushed) (rows_pushed grid done r old.rows p.spells.row);
      rising = subst (λ (l : List (BoardModel × ℕ)). RiseAfter None l) (sym pushed) (rise_pushed None done r old.rising follows);
      last = sym (ap (last_of None) pushed ∙ last_pushed None done r);
      on = (old.on.0, p.on.1);
    }
