use Rattle.std.proofs.Common.{◌≡◌, List, get_or, Some, slice_get, sym, ap, subst, ◌∙◌}
use Rattle.std.specs.Prelude.{◌↔◌, IsTrue}
use Rattle.std.proofs.lemmas.Option.{slice_get-get_or}
use Rattle.board.specs.Boards.{BoardModel}
use Rattle.board.specs.Weights.{WeightsModel}
use Rattle.pattern_index.specs.Groups.{GroupModel}
use Rattle.pattern_index.specs.Partitions.{PartitionModel}
use Rattle.database_build.specs.Tables.{IsPotential, value_in}
use Rattle.certificate_check.proofs.RefusalLemmas.{fits_there}
use Rattle.certificate_check.proofs.groups.is_fit.Goals as goal

pub returns : goal.returns
returns c =
    let cert = c.args.certificate.now in
    let table = c.in-Some.table.now in
    let group = c.index-groups-place.result in
    let groups = c.groups-groups.ensures ∙ ap (λ (s : PartitionModel). s.groups) c.groups.ensures.value in
    let at : group ≡ get_or cert.groups.groups c.args.place group = subst (λ (gs : List GroupModel). group ≡ get_or gs c.args.place group) groups c.index-groups-place.is in
    let here : slice_get cert.groups.groups c.args.place ≡ Some group = slice_get-get_or cert.groups.groups c.args.place group c.requires.place ∙ ap (λ (s : GroupModel). Some s) (sym at) in
    let told : IsTrue c.is_potential.result ↔ ((table.selection ≡ group) × IsPotential cert.costs group.tiles cert.goal (value_in table)) =
    subst (λ (rule : WeightsModel). IsTrue c.is_potential.result ↔ ((table.selection ≡ group) × IsPotential rule group.tiles cert.goal (value_in table))) c.costs-costs.ensures
    (subst (λ (b : BoardModel). IsTrue c.is_potential.result ↔ ((table.selection ≡ group) × IsPotential c.costs-costs.result group.tiles b (value_in table))) c.goal-goal.ensures c.is_potential.ensures) in
    let fits = fits_there cert c.args.bound.now c.whole_table.ensures.tables c.args.place table group c.in-Some.ensures.table here in
    ((λ is. fits.0 (told.0 is)), (λ fit. told.1 (fits.1 fit)))
