use Rattle.std.proofs.Common.{◌≡◌, length, sym, ap, ◌∙◌, arith}
use Rattle.std.proofs.lemmas.Bool.{true≢false}
use Rattle.pattern_index.specs.Partitions.{PartitionModel}
use Rattle.certificate_check.proofs.RefusalLemmas.{length_as, first_at, unfit_there, group_missing, one_more, all_fit}
use Rattle.certificate_check.proofs.groups.find_unfit.Goals as goal

pub returns-then-not-is_fit-clause-first : goal.returns-then-not-is_fit-clause-first
returns-then-not-is_fit-clause-first c =
    let unfit = unfit_there c.args.certificate.now c.args.bound.now c.groups.place (λ fit. true≢false (sym (c.is_fit.ensures.1 fit) ∙ c.if-not-is_fit.true)) in
    first_at c.args.certificate.now c.args.bound.now c.groups.place (c.is_of_shape.ensures.shape.0 c.if-not-is_of_shape.false) unfit c.groups.invariant

pub groups-preserved : goal.groups-preserved
groups-preserved c = one_more c.args.certificate.now c.args.bound.now c.groups.place c.groups.invariant (c.is_fit.ensures.0 c.if-not-is_fit.false)

pub returns-then-groups-clause-first : goal.returns-then-groups-clause-first
returns-then-groups-clause-first c =
    let cert = c.args.certificate.now in
    let t = c.args.bound.now in
    let count = length c.groups-groups.result.now in
    let groups_count : count ≡ length cert.groups.groups = length_as c.groups-groups.result.now cert.groups.groups (c.groups-groups.ensures ∙ ap (λ (s : PartitionModel). s.groups) c.groups-2.ensures.value) in
    let split_count : length c.groups-3.result.now ≡ length t.split.groups = length_as c.groups-3.result.now t.split.groups (c.groups-3.ensures ∙ ap (λ (s : PartitionModel). s.groups) c.partition.ensures.value) in
    first_at cert t count (c.is_of_shape.ensures.shape.0 c.if-not-is_of_shape.false) (group_missing cert t count (omega (arith, groups_count)) (omega (arith, c.if-groups.true, split_count))) (λ k low. c.groups.invariant k (omega (arith, low, c.groups-test.false)))

pub returns-clause-none : goal.returns-clause-none
returns-clause-none c = λ e.
    let cert = c.args.certificate.now in
    let t = c.args.bound.now in
    let groups_count : length c.groups-groups.result.now ≡ length cert.groups.groups = length_as c.groups-groups.result.now cert.groups.groups (c.groups-groups.ensures ∙ ap (λ (s : PartitionModel). s.groups) c.groups-2.ensures.value) in
    let split_count : length c.groups-3.result.now ≡ length t.split.groups = length_as c.groups-3.result.now t.split.groups (c.groups-3.ensures ∙ ap (λ (s : PartitionModel). s.groups) c.partition.ensures.value) in
    all_fit cert t c.partition.ensures.tables (c.is_of_shape.ensures.shape.0 c.if-not-is_of_shape.false) c.groups.place (omega (arith, c.groups-test.false, groups_count)) (omega (arith, c.if-groups.false, groups_count, split_count)) c.groups.invariant
