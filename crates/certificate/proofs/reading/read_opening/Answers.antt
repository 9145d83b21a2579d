use Rattle.std.proofs.Common.{◌≡◌, ◌++◌, refl, subst}
use Rattle.byte_streams.specs.Streams.{change}
use Rattle.board.specs.Shapes.{ShapeModel}
use Rattle.certificate.specs.Fields.{SpellsCosts, SpellsOpening}
use Rattle.certificate.specs.Sources.{ReadsField}
use Rattle.certificate.specs.Readings.{opening_fields, grid_with, costs_of}
use Rattle.certificate.proofs.ReaderLemmas.{passed}
use Rattle.certificate.proofs.TextLemmas.{byte_law, opening_there, ColsParts, KindParts}
use Rattle.certificate.proofs.SourceLemmas.{first_refuses, then_refuses, reads_after}
use Rattle.certificate.proofs.reading.read_opening.Goals as goal

pub returns-in_err-rows : goal.returns-in_err-rows
unfolding opening_fields
returns-in_err-rows g c =
    passed opening_fields SpellsOpening (change g.S.Source.state c.args.source.now c.read_byte.new.source) c.from_residual.result c.in_err-rows.field-0.0 c.from_residual.ensures.1
    (first_refuses _ c.in_err-rows.ensures)

pub returns-in_err-cols : goal.returns-in_err-cols
unfolding opening_fields
returns-in_err-cols g c =
    passed opening_fields SpellsOpening (change g.S.Source.state c.args.source.now c.read_byte-2.new.source) c.from_residual-in_err-cols.result c.in_err-cols.field-0.0 c.from_residual-in_err-cols.ensures.1
    (then_refuses _ (byte_law 2 5) c.in_ok-rows.ensures (first_refuses _ c.in_err-cols.ensures))

pub returns-in_err-kind : goal.returns-in_err-kind
unfolding opening_fields
returns-in_err-kind g c =
    passed opening_fields SpellsOpening (change g.S.Source.state c.args.source.now c.read_byte-3.new.source) c.from_residual-in_err-kind.result c.in_err-kind.field-0.0 c.from_residual-in_err-kind.ensures.1
    (then_refuses _ (byte_law 2 5) c.in_ok-rows.ensures (then_refuses _ (byte_law 2 5) c.in_ok-cols.ensures (first_refuses _ c.in_err-kind.ensures)))

pub returns : goal.returns
unfolding opening_fields
returns g c =
    let state = g.S.Source.state in
    let new = state c.read_costs.new.source in
    let result = c.read_costs.result in
    let rows = c.in_ok-rows.rows in
    let cols = c.in_ok-cols.cols in
    let kind = c.in_ok-kind.kind in
    let grid = grid_with rows cols in
    let sides : c.unwrap-shape.result ≡ grid = rw c.unwrap-shape.ensures at c.new.ensures.value in
    let last = subst (λ (g : ShapeModel). ReadsField (costs_of g kind) (SpellsCosts g kind) (change state c.read_byte-3.new.source c.read_costs.new.source) result) sides c.read_costs.ensures in
    reads_after _ (ColsParts rows) SpellsOpening new result (byte_law 2 5) (λ costs s t n p. opening_there costs (s ++ t) (rows, s, t, n, p, refl)) c.in_ok-rows.ensures
    (reads_after _ (KindParts rows cols) (ColsParts rows) new result (byte_law 2 5) (λ costs s t n p. (cols, s, t, n, p, refl)) c.in_ok-cols.ensures
    (reads_after (costs_of grid) (SpellsCosts grid kind) (KindParts rows cols) new result (byte_law 0 2) (λ costs s t n p. (kind, s, t, n, p, refl)) c.in_ok-kind.ensures last))
