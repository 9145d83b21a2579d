use Rattle.std.proofs.Common.{◌∷◌, [], length}
use Rattle.std.specs.List.{flat_map}
use Rattle.byte_streams.specs.Streams.{change}
use Rattle.byte_streams.proofs.SinkLemmas.{Writes-after}
use Rattle.certificate.specs.Spellings.{group_text}
use Rattle.certificate.proofs.ReaderLemmas.{writes_stop}
use Rattle.certificate.proofs.writing.write_groups.Goals as goal

pub returns-in_err-put : goal.returns-in_err-put
returns-in_err-put g c =
    let groups = c.args.groups.now in
    writes_stop _ (change g.K.Sink.state c.args.sink.now c.put.new.self) (length groups ∷ []) (flat_map group_text groups) c.from_residual.result c.from_residual.ensures.1 c.in_err-put.ensures

pub returns : goal.returns
returns g c =
    let state = g.K.Sink.state in
    let groups = c.args.groups.now in
    Writes-after (state c.args.sink.now) (state c.put.new.self) (state c.write_each_group.new.sink) (length groups ∷ []) (flat_map group_text groups) c.write_each_group.result c.in_ok-put.ensures c.write_each_group.ensures
