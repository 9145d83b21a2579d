use Rattle.std.proofs.Common.{◌<◌, ◌∙◌, ℕ, suc, length, subst, sym}
use Rattle.board.specs.Shapes.{cell_count}
use Rattle.pattern_index.specs.Packing.{selection_in}
use Rattle.pattern_index.proofs.RankLemmas.{ways_some}
use Rattle.pattern_index.proofs.GroupLemmas.{ways_quotient}
use Rattle.pattern_index.proofs.GroupLemmas.{groups_small}
use Rattle.pattern_index.proofs.group.Group.size.Goals as goal

pub returns-clause-quotient : goal.returns-clause-quotient
returns-clause-quotient c =
    let g = selection_in c.self.inside in
    rw (← c.self.view_is) (c.self.invariant.size ∙ ways_quotient (cell_count g.grid) (suc (length g.tiles)) (groups_small g c.self.invariant.selection).1)

pub returns-clause-low : goal.returns-clause-low
returns-clause-low c =
    let g = selection_in c.self.inside in
    subst (λ (k : ℕ). 0 < k) (sym c.self.invariant.size) (ways_some (cell_count g.grid) (suc (length g.tiles)) (groups_small g c.self.invariant.selection).1)
