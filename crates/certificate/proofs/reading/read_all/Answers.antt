use Rattle.byte_streams.specs.Streams.{change}
use Rattle.certificate.specs.Certificates.{CertificateModel, statement_of}
use Rattle.certificate.specs.Spellings.{Spells}
use Rattle.certificate.specs.Fields.{SpellsFront, SpellsAllRows}
use Rattle.certificate.specs.Readings.{certificate}
use Rattle.certificate.specs.Sources.{Finds}
use Rattle.certificate.proofs.ReaderLemmas.{passed_all}
use Rattle.certificate.proofs.CertificateLemmas.{front_law, all_rows_law}
use Rattle.certificate.proofs.SourceLemmas.{first_refuses, then_refuses, before_end, then_at_end, end_refuses, found_as}
use Rattle.certificate.proofs.LawLemmas.{whole_found}
use Rattle.certificate.proofs.reading.read_all.Goals as goal

pub returns-in_err-parts : goal.returns-in_err-parts
unfolding certificate
returns-in_err-parts g c =
    passed_all certificate Spells (change g.S.Source.state c.args.source.now c.read_front.new.source) c.from_residual.result c.in_err-parts.field-0.0 c.from_residual.ensures.1
    (before_end (first_refuses _ c.in_err-parts.ensures))

pub returns-in_err-parts-2 : goal.returns-in_err-parts-2
unfolding certificate
returns-in_err-parts-2 g c =
    let d : CertificateModel = statement_of c.in_ok-parts.parts in
    let front : Finds SpellsFront (change g.S.Source.state c.args.source.now c.read_front.new.source) d = found_as (λ text spells. spells) c.in_ok-parts.ensures in
    passed_all certificate Spells (change g.S.Source.state c.args.source.now c.read_all_rows.new.source) c.from_residual-in_err-parts-2.result c.in_err-parts-2.field-0.0 c.from_residual-in_err-parts-2.ensures.1
    (before_end (then_refuses _ front_law front (first_refuses _ c.in_err-parts-2.ensures)))

pub returns-in_err-read_end : goal.returns-in_err-read_end
unfolding certificate
returns-in_err-read_end g c =
    let state = g.S.Source.state in
    let d : CertificateModel = statement_of c.in_ok-parts.parts in
    let front : Finds SpellsFront (change state c.args.source.now c.read_front.new.source) d = found_as (λ text spells. spells) c.in_ok-parts.ensures in
    let rows : Finds (SpellsAllRows d.grid) (change state c.read_front.new.source c.read_all_rows.new.source) c.in_ok-parts-2.field-0.items = found_as (λ text spells. spells) c.in_ok-parts-2.ensures in
    passed_all certificate Spells (change state c.args.source.now c.read_end.new.source) c.from_residual-in_err-read_end.result c.in_err-read_end.field-0.0 c.from_residual-in_err-read_end.ensures.1
    (then_at_end _ front_law front (then_at_end _ (all_rows_law d.grid front.spells.fits.sides) rows (end_refuses _ c.in_err-read_end.ensures)))

pub returns : goal.returns
returns g c =
    let state = g.S.Source.state in
    let d : CertificateModel = statement_of c.in_ok-parts.parts in
    let front : Finds SpellsFront (change state c.args.source.now c.read_front.new.source) d = found_as (λ text spells. spells) c.in_ok-parts.ensures in
    let rows : Finds (SpellsAllRows d.grid) (change state c.read_front.new.source c.read_all_rows.new.source) c.in_ok-parts-2.field-0.items = found_as (λ text spells. spells) c.in_ok-parts-2.ensures in
    whole_found c.from_parts.result front rows c.in_ok-read_end.ensures c.from_parts.ensures
