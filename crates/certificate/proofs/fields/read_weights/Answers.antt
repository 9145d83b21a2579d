use Rattle.std.proofs.Common.{◌≡◌, ◌-◌, arith, ap, sym, subst, ◌∙◌}
use Rattle.std.specs.Prelude.{ℕ, length}
use Rattle.byte_streams.specs.Streams.{change}
use Rattle.board.specs.Shapes.{cell_count}
use Rattle.certificate.specs.Sources.{EndsEarly}
use Rattle.certificate.specs.Readings.{costs_of, weights_in}
use Rattle.certificate.specs.Fields.{SpellsCosts}
use Rattle.certificate.specs.declared.faults.FormatFault.TheVariants.{OutOfRange}
use Rattle.certificate.proofs.ReaderLemmas.{passed, cut_short, refused, not_range}
use Rattle.certificate.proofs.GroupLemmas.{tiles_room}
use Rattle.certificate.proofs.fields.read_weights.Goals as goal

pub returns-in_err-fill : goal.returns-in_err-fill
returns-in_err-fill g c =
    let source = change g.S.Source.state c.args.source.now c.fill.new.source in
    let grid = c.args.shape in
    let f = c.in_err-fill.field-0.0 in
    let room = tiles_room (c.cells.result - 1) (omega (arith, c.cells.ensures.high)) ∙ ap (λ (n : ℕ). n - 1) c.cells.ensures.value in
    passed (costs_of grid 2) (SpellsCosts grid 2) source c.from_residual.result f c.from_residual.ensures.1
    (cut_short OutOfRange (cell_count grid - 1) (weights_in grid) source f (subst (λ (n : ℕ). EndsEarly source n f) room c.in_err-fill.ensures))

pub returns-in-None : goal.returns-in-None
returns-in-None g c =
    let source = change g.S.Source.state c.args.source.now c.fill.new.source in
    let grid = c.args.shape in
    let text = c.fill.new.text in
    let room = tiles_room (c.cells.result - 1) (omega (arith, c.cells.ensures.high)) ∙ ap (λ (n : ℕ). n - 1) c.cells.ensures.value in
    let size : length text ≡ cell_count grid - 1 = c.fill.auto.text ∙ room in
    refused OutOfRange not_range (cell_count grid - 1) (omega (arith, c.cells.ensures.low, c.cells.ensures.value)) (weights_in grid) source text c.in_ok-fill.ensures size (sym c.in-None.ensures.value)
