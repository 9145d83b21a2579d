use Rattle.std.proofs.Common.{refl}
use Rattle.byte_streams.specs.Streams.{change}
use Rattle.certificate.specs.Fields.{SpellsGroup}
use Rattle.certificate.specs.Readings.{group}
use Rattle.certificate.proofs.ReaderLemmas.{passed}
use Rattle.certificate.proofs.TextLemmas.{byte_law}
use Rattle.certificate.proofs.GroupLemmas.{group_there}
use Rattle.certificate.proofs.SourceLemmas.{first_refuses, reads_after}
use Rattle.certificate.proofs.groups.read_group.Goals as goal

pub returns-in_err-count : goal.returns-in_err-count
unfolding group
returns-in_err-count g c =
    passed (group c.args.shape c.args.before.now) (SpellsGroup c.args.shape c.args.before.now) (change g.S.Source.state c.args.source.now c.read_byte.new.source) c.from_residual.result c.in_err-count.field-0.0 c.from_residual.ensures.1
    (first_refuses _ c.in_err-count.ensures)

pub returns : goal.returns
unfolding group
returns g c =
    reads_after _ _ _ (g.S.Source.state c.read_tiles.new.source) c.read_tiles.result (byte_law 1 24) (λ found s t n p. group_there c.args.shape c.args.before.now found _ (c.in_ok-count.count, s, t, n, p, refl)) c.in_ok-count.ensures c.read_tiles.ensures
