use Rattle.std.proofs.Common.{sym, ◌∙◌}
use Rattle.std.proofs.lemmas.Bool.Decides.{same_from_decides}
use Rattle.board.specs.Equality.{rules_Decide}
use Rattle.board.proofs.StorageLemmas.{same_rule}
use Rattle.board.proofs.costs.WeightsPartialEq.eq.Goals as goal

pub returns-then-eq-clause-same : goal.returns-then-eq-clause-same
returns-then-eq-clause-same c =
    rw (← c.self.view_is, ← c.other.view_is) (same_rule c.self.inside c.other.inside _ c.self.invariant c.other.invariant (sym c.eq.ensures.value ∙ c.if-eq.true) c.eq-then-eq.ensures)

pub returns-then-eq-clause-value : goal.returns-then-eq-clause-value
returns-then-eq-clause-value c = same_from_decides _ _ (returns-then-eq-clause-same c) (rules_Decide c.args.self.now c.args.other.now)
