use Rattle.std.proofs.Common.{◌+◌, ◌∙◌, ◌++◌, take, drop, sym, ap}
use Rattle.std.specs.List.{flat_map}
use Rattle.pattern_index.specs.Groups.{GroupModel}
use Rattle.certificate.specs.Spellings.{group_text}
use Rattle.certificate.proofs.ReaderLemmas.{writes_within, groups_cut}
use Rattle.certificate.proofs.writing.write_each_group.Goals as goal

pub returns-in_err-write_group : goal.returns-in_err-write_group
returns-in_err-write_group g c =
    let state = g.K.Sink.state in
    let groups = c.args.groups.now in
    let i = c.groups.group-index in
    let one : GroupModel = c.group-item.result in
    let parts = groups_cut groups i one c.groups-test.true ∙ ap (λ (r : GroupModel). flat_map group_text (take i groups) ++ (group_text r ++ flat_map group_text (drop (i + 1) groups))) (sym c.group-item.is) in
    writes_within _ (state c.args.sink.now) (state c.groups.sink) (state c.write_group.new.sink) (flat_map group_text (take i groups)) (group_text one) (flat_map group_text (drop (i + 1) groups)) (flat_map group_text groups) c.from_residual.result parts c.groups.invariant c.from_residual.ensures.1 c.in_err-write_group.ensures
