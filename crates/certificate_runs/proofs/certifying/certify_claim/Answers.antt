use Rattle.std.proofs.Common.{◌≡◌, sym, ap, subst, ◌∙◌, arith}
use Rattle.board.specs.Weights.{WeightsModel, AreWeights}
use Rattle.board.specs.Boards.{BoardModel, IsBoard}
use Rattle.lower_bound.specs.Tables.{BoundModel, IsTables}
use Rattle.batch_runs.specs.Setups.{Guides}
use Rattle.certificate.specs.declared.certificate.Version.TheVariants.{Two}
use Rattle.certificate.specs.Certificates.{CertificateModel, AreCostsOf, IsCertificate, cost_of, plan_of}
use Rattle.certificate_runs.specs.Built.{HaveSmallEntries}
use Rattle.certificate_runs.proofs.CertifyLemmas.{stated, certificate_is, certificate_of}
use Rattle.certificate_runs.proofs.certifying.certify_claim.Goals as goal

pub unwrap-requires : goal.unwrap-requires
unwrap-requires c =
    let setup = c.args.setup.now in
    let goal_is : c.goal-goal.result ≡ setup.goal = c.goal-goal.ensures in
    let shape_is : c.shape-2.result ≡ setup.goal.grid = c.shape-2.ensures.value ∙ ap (λ (b : BoardModel). b.grid) goal_is in
    let costs_is : c.weights-costs.result ≡ setup.rule = c.weights-costs.ensures.value in
    let costs : AreCostsOf setup.goal.grid setup.rule = record { rule = subst AreWeights costs_is c.shape.ensures.rule; sides = sym (ap (λ (r : WeightsModel). r.grid) costs_is) ∙ c.weights-costs.ensures.sides } in
    let tables_is : c.tables-tables.result.now ≡ setup.tables = c.tables-tables.ensures.value in
    let groups_is : c.in_ok-groups.groups ≡ setup.tables.split = c.in_ok-groups.ensures ∙ c.partition.ensures.value ∙ ap (λ (t : BoundModel). t.split) tables_is in
    let there : IsTables setup.tables = subst IsTables tables_is c.partition.ensures.tables in
    let guides : Guides setup.goal setup.rule setup.tables = subst (Guides setup.goal setup.rule) tables_is c.tables-tables.ensures.guides in
    let small : HaveSmallEntries setup.tables = subst HaveSmallEntries tables_is c.tell_entries.ensures in
    let is = certificate_is c.keys_are_in_order.ensures setup c.args.start (cost_of c.args.claim) (plan_of c.args.claim) c.args.rows.items (subst IsBoard goal_is c.shape-2.ensures.board) there small guides.0 c.requires.start costs (omega (arith, c.args.rows.small)) c.requires.answers in
    c.new.ensures.accepted.1 (subst IsCertificate (λ i. record { version = Two; grid = sym shape_is i; costs = sym costs_is i; groups = sym groups_is i; start = c.args.start; goal = sym goal_is i; cost = cost_of c.args.claim; plan = plan_of c.args.claim; rows = c.args.rows.items }) is)

pub returns : goal.returns
returns c =
    let setup = c.args.setup.now in
    let goal_is : c.goal-goal.result ≡ setup.goal = c.goal-goal.ensures in
    let shape_is : c.shape-2.result ≡ setup.goal.grid = c.shape-2.ensures.value ∙ ap (λ (b : BoardModel). b.grid) goal_is in
    let costs_is : c.weights-costs.result ≡ setup.rule = c.weights-costs.ensures.value in
    let costs : AreCostsOf setup.goal.grid setup.rule = record { rule = subst AreWeights costs_is c.shape.ensures.rule; sides = sym (ap (λ (r : WeightsModel). r.grid) costs_is) ∙ c.weights-costs.ensures.sides } in
    let tables_is : c.tables-tables.result.now ≡ setup.tables = c.tables-tables.ensures.value in
    let groups_is : c.in_ok-groups.groups ≡ setup.tables.split = c.in_ok-groups.ensures ∙ c.partition.ensures.value ∙ ap (λ (t : BoundModel). t.split) tables_is in
    let there : IsTables setup.tables = subst IsTables tables_is c.partition.ensures.tables in
    let guides : Guides setup.goal setup.rule setup.tables = subst (Guides setup.goal setup.rule) tables_is c.tables-tables.ensures.guides in
    let small : HaveSmallEntries setup.tables = subst HaveSmallEntries tables_is c.tell_entries.ensures in
    let home : IsBoard setup.goal = subst IsBoard goal_is c.shape-2.ensures.board in
    let is = certificate_is c.keys_are_in_order.ensures setup c.args.start (cost_of c.args.claim) (plan_of c.args.claim) c.args.rows.items home there small guides.0 c.requires.start costs (omega (arith, c.args.rows.small)) c.requires.answers in
    let made = rw c.unwrap.ensures at c.new.ensures.value in
    let same : c.unwrap.result ≡ stated setup c.args.start (cost_of c.args.claim) (plan_of c.args.claim) c.args.rows.items = made ∙ (λ i. record { version = Two; grid = shape_is i; costs = costs_is i; groups = groups_is i; start = c.args.start; goal = goal_is i; cost = cost_of c.args.claim; plan = plan_of c.args.claim; rows = c.args.rows.items }) in
    record {
      certificate = certificate_of setup c.args.start (cost_of c.args.claim) (plan_of c.args.claim) c.args.rows.items c.unwrap.result home there guides small c.requires.start c.requires.answers same (subst IsCertificate (sym same) is);
      claims = (ap (λ (d : CertificateModel). d.cost) same, ap (λ (d : CertificateModel). d.plan) same, ap (λ (d : CertificateModel). d.rows) same);
    }
