use Rattle.std.proofs.Common.{arith, subst, ◌∙◌}
use Rattle.std.specs.Prelude.{ℕ}
use Rattle.std.proofs.lemmas.Bool.{false≢true}
use Rattle.byte_streams.specs.Streams.{change}
use Rattle.board.specs.Shapes.{cell_count}
use Rattle.certificate.specs.Sources.{EndsEarly}
use Rattle.certificate.specs.Readings.{board, board_from}
use Rattle.certificate.specs.Fields.{SpellsBoard}
use Rattle.certificate.specs.declared.faults.FormatFault.TheVariants.{OutOfRange}
use Rattle.certificate.proofs.ReaderLemmas.{passed, cut_short, refused, not_range}
use Rattle.certificate.proofs.CostLemmas.{no_board, room}
use Rattle.certificate.proofs.fields.read_board.Goals as goal

pub returns-in_err-fill : goal.returns-in_err-fill
returns-in_err-fill g c =
    let source = change g.S.Source.state c.args.source.now c.fill.new.source in
    let grid = c.args.shape in
    let f = c.in_err-fill.field-0.0 in
    passed (board grid) (SpellsBoard grid) source c.from_residual.result f c.from_residual.ensures.1
    (cut_short OutOfRange (cell_count grid) (board_from grid) source f (subst (λ (n : ℕ). EndsEarly source n f) (room c.cells.result c.cells.ensures.high ∙ c.cells.ensures.value) c.in_err-fill.ensures))

pub returns-in-Err : goal.returns-in-Err
returns-in-Err g c =
    let source = change g.S.Source.state c.args.source.now c.fill.new.source in
    let grid = c.args.shape in
    let text = c.fill.new.text in
    let no = c.in-Err.ensures.accepted in
    let size = c.fill.auto.text ∙ room c.cells.result c.cells.ensures.high ∙ c.cells.ensures.value in
    refused OutOfRange not_range (cell_count grid) (omega (arith, c.cells.ensures.low, c.cells.ensures.value)) (board_from grid) source text c.in_ok-fill.ensures size (no_board grid text c.cells.ensures.sides size (λ b. false≢true (no.1 b)))
