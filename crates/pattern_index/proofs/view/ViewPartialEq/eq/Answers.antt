use Rattle.std.proofs.lemmas.Bool.Decides.{same_from_decides}
use Rattle.pattern_index.specs.Equality.{sights_Decide}
use Rattle.pattern_index.proofs.StorageLemmas.{same_view}
use Rattle.pattern_index.proofs.view.ViewPartialEq.eq.Goals as goal

pub returns-then-self-other-clause-same : goal.returns-then-self-other-clause-same
returns-then-self-other-clause-same c =
    rw (← c.self.view_is, ← c.other.view_is) (same_view c.self.inside c.other.inside _ c.self.invariant c.other.invariant c.if-self-other.true c.eq.ensures)

pub returns-then-self-other-clause-value : goal.returns-then-self-other-clause-value
returns-then-self-other-clause-value c = same_from_decides _ _ (returns-then-self-other-clause-same c) (sights_Decide c.args.self.now c.args.other.now)
