use Rattle.byte_streams.specs.Streams.{change}
use Rattle.certificate.specs.Fields.{SpellsAllGroups}
use Rattle.certificate.specs.Readings.{all_groups}
use Rattle.certificate.proofs.ReaderLemmas.{passed}
use Rattle.certificate.proofs.TextLemmas.{byte_law}
use Rattle.certificate.proofs.SourceLemmas.{first_refuses, then_refuses}
use Rattle.certificate.proofs.groups.read_all_groups.Goals as goal

pub returns-in_err-count : goal.returns-in_err-count
unfolding all_groups
returns-in_err-count g c =
    passed (all_groups c.args.shape) (SpellsAllGroups c.args.shape) (change g.S.Source.state c.args.source.now c.read_byte.new.source) c.from_residual.result c.in_err-count.field-0.0 c.from_residual.ensures.1
    (first_refuses _ c.in_err-count.ensures)

pub returns-in_err-groups : goal.returns-in_err-groups
unfolding all_groups
returns-in_err-groups g c =
    passed (all_groups c.args.shape) (SpellsAllGroups c.args.shape) (change g.S.Source.state c.args.source.now c.read_groups.new.source) c.from_residual-in_err-groups.result c.in_err-groups.field-0.0 c.from_residual-in_err-groups.ensures.1
    (then_refuses _ (byte_law 0 24) c.in_ok-count.ensures (first_refuses _ c.in_err-groups.ensures))
