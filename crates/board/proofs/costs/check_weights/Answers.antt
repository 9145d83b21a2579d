use Rattle.std.proofs.Common.{arith, sym, ◌∙◌, ◌<◌}
use Rattle.std.proofs.lemmas.List.Elements.{All-from_get_or}
use Rattle.board.proofs.WeightLemmas.{zero_found, no_zero, listed_is_rule}
use Rattle.board.proofs.costs.check_weights.Goals as goal

pub returns-in-Some-clause-fault : goal.returns-in-Some-clause-fault
returns-in-Some-clause-fault c = zero_found c.args.shape c.args.listed.now c.in-Some.place (omega (arith, c.if-listed-cells.false, c.cells.ensures.value)) (sym c.first_zero.ensures ∙ c.in-Some.is)

pub returns-clause-sound : goal.returns-clause-sound
returns-clause-sound c = listed_is_rule c.args.shape c.args.listed.now c.cells.ensures.sides (omega (arith, c.if-listed-cells.false, c.cells.ensures.value)) (no_zero c.args.listed.now (sym c.first_zero.ensures ∙ c.in_default.is)) (All-from_get_or (λ weight. weight < 256) c.args.listed.now 0 (λ k inside. omega (arith, c.type_inv.listed k)))
