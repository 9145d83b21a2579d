use Rattle.std.proofs.Common.{arith, sym, refl, ◌∙◌, ◌<◌}
use Rattle.std.proofs.lemmas.Bool.{false≢true}
use Rattle.std.proofs.lemmas.List.Elements.{All-from_get_or}
use Rattle.certificate.proofs.CostLemmas.{no_weights, other_weights, listed_value}
use Rattle.certificate.proofs.fields.listed_costs.Goals as goal

pub returns-in_default-clause-value : goal.returns-in_default-clause-value
returns-in_default-clause-value c =
    let small = All-from_get_or (λ weight. weight < 256) c.args.listed.now 0 (λ k inside. omega (arith, c.type_inv.listed k)) in
    sym (no_weights c.args.shape c.args.listed.now c.requires.shape c.requires.count small (λ rule. false≢true (c.in_default.ensures.accepted.1 rule)))

pub returns-then-kind-ne2-clause-value : goal.returns-then-kind-ne2-clause-value
returns-then-kind-ne2-clause-value c = sym (other_weights c.args.shape c.args.listed.now c.in-Ok.costs c.in-Ok.ensures.value (λ two. c.if-kind-ne2.true (c.kind.ensures ∙ two)))

pub returns-clause-value : goal.returns-clause-value
returns-clause-value c = sym (listed_value c.args.shape c.args.listed.now c.in-Ok.costs (c.in-Ok.ensures.accepted.0 refl) c.in-Ok.ensures.value (sym c.kind.ensures ∙ c.if-kind-ne2.false))
