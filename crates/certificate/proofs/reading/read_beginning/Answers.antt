use Rattle.std.proofs.Common.{[], refl, ◌++◌, sym, append-nil}
use Rattle.byte_streams.specs.Streams.{change}
use Rattle.certificate.specs.Fields.{SpellsBeginning}
use Rattle.certificate.specs.Readings.{beginning}
use Rattle.certificate.proofs.ReaderLemmas.{passed}
use Rattle.certificate.proofs.TextLemmas.{version_law, beginning_there}
use Rattle.certificate.proofs.SourceLemmas.{first_refuses, then_refuses, found_after}
use Rattle.certificate.proofs.reading.read_beginning.Goals as goal

pub returns-in_err-version : goal.returns-in_err-version
unfolding beginning
returns-in_err-version g c =
    passed beginning SpellsBeginning (change g.S.Source.state c.args.source.now c.read_version.new.source) c.from_residual.result c.in_err-version.field-0.0 c.from_residual.ensures.1
    (first_refuses _ c.in_err-version.ensures)

pub returns-in_err-claim : goal.returns-in_err-claim
unfolding beginning
returns-in_err-claim g c =
    passed beginning SpellsBeginning (change g.S.Source.state c.args.source.now c.read_claim.new.source) c.from_residual-in_err-claim.result c.in_err-claim.field-0.0 c.from_residual-in_err-claim.ensures.1
    (then_refuses _ version_law c.in_ok-version.ensures (first_refuses _ c.in_err-claim.ensures))

pub returns : goal.returns
returns g c =
    found_after (λ s t is claim. beginning_there (c.in_ok-version.version, c.in_ok-claim.claim) (s ++ t) (c.in_ok-version.version, s, t, is, (c.in_ok-claim.claim, t, [], claim, (refl, refl), sym (append-nil t)), refl)) c.in_ok-version.ensures c.in_ok-claim.ensures
