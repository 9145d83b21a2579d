use Rattle.std.proofs.Common.{refl, subst, List, ℕ, ◌++◌}
use Rattle.byte_streams.specs.Streams.{change}
use Rattle.board.specs.Shapes.{ShapeModel}
use Rattle.certificate.specs.Certificates.{statement_of}
use Rattle.certificate.specs.Fields.{SpellsAllGroups, SpellsBody, SpellsFront}
use Rattle.certificate.specs.Readings.{all_groups, body, front}
use Rattle.certificate.specs.Sources.{RefusesInput, Finds}
use Rattle.certificate.specs.declared.certificate.Parts.{Parts}
use Rattle.certificate.proofs.ReaderLemmas.{passed, Both}
use Rattle.certificate.proofs.TextLemmas.{beginning_law, opening_law}
use Rattle.certificate.proofs.GroupLemmas.{all_groups_law}
use Rattle.certificate.proofs.CertificateLemmas.{CostsParts, at_most_one, front_there}
use Rattle.certificate.proofs.SourceLemmas.{first_refuses, then_refuses, reads_after}
use Rattle.certificate.proofs.reading.read_front.Goals as goal

pub returns-in_err-form : goal.returns-in_err-form
unfolding front
returns-in_err-form g c =
    passed front _ (change g.S.Source.state c.args.source.now c.read_beginning.new.source) c.from_residual.result c.in_err-form.field-0.0 c.from_residual.ensures.1
    (first_refuses _ c.in_err-form.ensures)

pub returns-in_err-costs : goal.returns-in_err-costs
unfolding front
returns-in_err-costs g c =
    passed front _ (change g.S.Source.state c.args.source.now c.read_opening.new.source) c.from_residual-in_err-costs.result c.in_err-costs.field-0.0 c.from_residual-in_err-costs.ensures.1
    (then_refuses _ beginning_law c.in_ok-form.ensures (first_refuses _ c.in_err-costs.ensures))

pub returns-in_err-groups : goal.returns-in_err-groups
unfolding front
returns-in_err-groups g c =
    let state = g.S.Source.state in
    let r = subst (λ (g : ShapeModel). RefusesInput (all_groups g) (change state c.read_opening.new.source c.read_all_groups.new.source) c.in_err-groups.field-0.0) c.shape.ensures.value c.in_err-groups.ensures in
    passed front _ (change g.S.Source.state c.args.source.now c.read_all_groups.new.source) c.from_residual-in_err-groups.result c.in_err-groups.field-0.0 c.from_residual-in_err-groups.ensures.1
    (then_refuses _ beginning_law c.in_ok-form.ensures (then_refuses _ opening_law c.in_ok-costs.ensures (first_refuses _ r)))

pub returns : goal.returns
unfolding front
returns g c =
    let state = g.S.Source.state in
    let new = state c.read_body.new.source in
    let version = c.in_ok-form.form.0 in
    let claim = c.in_ok-form.form.1 in
    let costs = c.in_ok-costs.costs in
    let groups = subst (λ (g : ShapeModel). Finds (SpellsAllGroups g) (change state c.read_opening.new.source c.read_all_groups.new.source) c.in_ok-groups.groups) c.shape.ensures.value c.in_ok-groups.ensures in
    let low = at_most_one version claim c.in_ok-form.ensures.spells.allowed in
    reads_after _ (λ (parts : Parts). CostsParts version claim (statement_of parts)) (λ (parts : Parts). SpellsFront (statement_of parts)) new c.read_body.result beginning_law
    (λ (parts : Parts) (s t : List ℕ) f both. front_there (statement_of parts) (s ++ t) ((version, claim), s, t, f, both, refl)) c.in_ok-form.ensures
    (reads_after _ (λ (parts : Parts). Both (SpellsAllGroups costs.grid) (λ split. SpellsBody version claim costs split) (statement_of parts)) (λ (parts : Parts). CostsParts version claim (statement_of parts)) new c.read_body.result opening_law
    (λ (parts : Parts) (s t : List ℕ) o both. (costs, s, t, o, both, refl)) c.in_ok-costs.ensures
    (reads_after (λ split. body version claim costs split) (λ (parts : Parts). SpellsBody version claim costs c.in_ok-groups.groups (statement_of parts)) (λ (parts : Parts). Both (SpellsAllGroups costs.grid) (λ split. SpellsBody version claim costs split) (statement_of parts)) new c.read_body.result (all_groups_law costs.grid c.shape.ensures.rule.sides)
    (λ (parts : Parts) (s t : List ℕ) p b. (c.in_ok-groups.groups, s, t, p, b, refl)) groups c.read_body.ensures))
