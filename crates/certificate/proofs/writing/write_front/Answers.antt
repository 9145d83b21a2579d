use Rattle.std.proofs.Common.{◌≤◌, ◌++◌, List, subst, sym, length, ap, ◌∙◌}
use Rattle.board.specs.Weights.{WeightsModel}
use Rattle.pattern_index.specs.Groups.{GroupModel}
use Rattle.pattern_index.specs.Partitions.{PartitionModel}
use Rattle.byte_streams.specs.Streams.{change}
use Rattle.byte_streams.specs.Sink.{WritesAll, FailsWriting}
use Rattle.byte_streams.proofs.SinkLemmas.{Writes-after}
use Rattle.certificate.specs.Spellings.{claim_of, beginning_text, opening_text, groups_text, body_text}
use Rattle.certificate.proofs.ReaderLemmas.{writes_stop}
use Rattle.certificate.proofs.writing.write_front.Goals as goal

pub write_groups-requires : goal.write_groups-requires
write_groups-requires g c =
    let groups = c.groups-2.ensures ∙ ap (λ (s : PartitionModel). s.groups) c.groups.ensures.value in
    subst (λ (gs : List GroupModel). length gs ≤ 24) (sym groups) c.groups.ensures.partition.split.few

pub returns-in_err-write_beginning : goal.returns-in_err-write_beginning
returns-in_err-write_beginning g c =
    let d = c.args.certificate.now in
    writes_stop _ (change g.K.Sink.state c.args.sink.now c.write_beginning.new.sink) (beginning_text d.version (claim_of d.plan)) (opening_text d.costs ++ (groups_text d.groups.groups ++ body_text d)) c.from_residual.result c.from_residual.ensures.1 c.in_err-write_beginning.ensures

pub returns-in_err-write_opening : goal.returns-in_err-write_opening
returns-in_err-write_opening g c =
    let state = g.K.Sink.state in
    let sink = change state c.write_beginning.new.sink c.write_opening.new.sink in
    let d = c.args.certificate.now in
    let r = c.from_residual-in_err-write_opening.result in
    let rest = groups_text d.groups.groups ++ body_text d in
    Writes-after (state c.args.sink.now) (state c.write_beginning.new.sink) (state c.write_opening.new.sink) (beginning_text d.version (claim_of d.plan)) (opening_text d.costs ++ rest) r c.in_ok-write_beginning.ensures
    (writes_stop _ sink (opening_text d.costs) rest r c.from_residual-in_err-write_opening.ensures.1 (subst (λ (x : WeightsModel). FailsWriting sink (opening_text x)) c.costs.ensures c.in_err-write_opening.ensures))

pub returns-in_err-write_groups : goal.returns-in_err-write_groups
returns-in_err-write_groups g c =
    let state = g.K.Sink.state in
    let d = c.args.certificate.now in
    let r = c.from_residual-in_err-write_groups.result in
    let groups = c.groups-2.ensures ∙ ap (λ (s : PartitionModel). s.groups) c.groups.ensures.value in
    let rest = groups_text d.groups.groups ++ body_text d in
    Writes-after (state c.args.sink.now) (state c.write_beginning.new.sink) (state c.write_groups.new.sink) (beginning_text d.version (claim_of d.plan)) (opening_text d.costs ++ rest) r c.in_ok-write_beginning.ensures
    (Writes-after (state c.write_beginning.new.sink) (state c.write_opening.new.sink) (state c.write_groups.new.sink) (opening_text d.costs) rest r (subst (λ (x : WeightsModel). WritesAll (change state c.write_beginning.new.sink c.write_opening.new.sink) (opening_text x)) c.costs.ensures c.in_ok-write_opening.ensures)
    (writes_stop _ (change state c.write_opening.new.sink c.write_groups.new.sink) (groups_text d.groups.groups) (body_text d) r c.from_residual-in_err-write_groups.ensures.1 (subst (λ (x : List GroupModel). FailsWriting (change state c.write_opening.new.sink c.write_groups.new.sink) (groups_text x)) groups c.in_err-write_groups.ensures)))

pub returns : goal.returns
returns g c =
    let state = g.K.Sink.state in
    let d = c.args.certificate.now in
    let r = c.write_body.result in
    let groups = c.groups-2.ensures ∙ ap (λ (s : PartitionModel). s.groups) c.groups.ensures.value in
    let rest = groups_text d.groups.groups ++ body_text d in
    Writes-after (state c.args.sink.now) (state c.write_beginning.new.sink) (state c.write_body.new.sink) (beginning_text d.version (claim_of d.plan)) (opening_text d.costs ++ rest) r c.in_ok-write_beginning.ensures
    (Writes-after (state c.write_beginning.new.sink) (state c.write_opening.new.sink) (state c.write_body.new.sink) (opening_text d.costs) rest r (subst (λ (x : WeightsModel). WritesAll (change state c.write_beginning.new.sink c.write_opening.new.sink) (opening_text x)) c.costs.ensures c.in_ok-write_opening.ensures)
    (Writes-after (state c.write_opening.new.sink) (state c.write_groups.new.sink) (state c.write_body.new.sink) (groups_text d.groups.groups) (body_text d) r (subst (λ (x : List GroupModel). WritesAll (change state c.write_opening.new.sink c.write_groups.new.sink) (groups_text x)) groups c.in_ok-write_groups.ensures)
    c.write_body.ensures))
