use Rattle.std.proofs.Common.{◌≡◌, arith, subst, ◌∙◌}
use Rattle.std.specs.Prelude.{ℕ, length}
use Rattle.std.proofs.lemmas.Bool.{false≢true}
use Rattle.byte_streams.specs.Streams.{change}
use Rattle.certificate.specs.Sources.{EndsEarly}
use Rattle.certificate.specs.Readings.{tiles, group_in}
use Rattle.certificate.specs.Fields.{SpellsTiles}
use Rattle.certificate.specs.declared.faults.FormatFault.TheVariants.{OutOfRange}
use Rattle.certificate.proofs.ReaderLemmas.{passed, cut_short, refused, not_range}
use Rattle.certificate.proofs.GroupLemmas.{no_group, tiles_room}
use Rattle.certificate.proofs.groups.read_tiles.Goals as goal

pub returns-in_err-fill : goal.returns-in_err-fill
returns-in_err-fill g c =
    let source = change g.S.Source.state c.args.source.now c.fill.new.source in
    let grid = c.args.shape in
    let before = c.args.before.now in
    let n = c.args.count in
    let f = c.in_err-fill.field-0.0 in
    passed (tiles grid before n) (SpellsTiles grid before n) source c.from_residual.result f c.from_residual.ensures.1
    (cut_short OutOfRange n (group_in grid before) source f (subst (λ (m : ℕ). EndsEarly source m f) (tiles_room n c.requires.few) c.in_err-fill.ensures))

pub returns-in-None : goal.returns-in-None
returns-in-None g c =
    let source = change g.S.Source.state c.args.source.now c.fill.new.source in
    let grid = c.args.shape in
    let before = c.args.before.now in
    let n = c.args.count in
    let text = c.fill.new.text in
    let size : length text ≡ n = c.fill.auto.text ∙ tiles_room n c.requires.few in
    refused OutOfRange not_range n (omega (arith, c.requires.some)) (group_in grid before) source text c.in_ok-fill.ensures size
    (no_group grid before text c.requires.shape (omega (arith, c.requires.some, size)) (λ next. false≢true (c.in-None.ensures.accepted.1 next)))
