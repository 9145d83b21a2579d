use Rattle.std.proofs.Common.{◌≡◌, ◌<◌, ◌≤◌, ◌-◌, ◌/◌, ℕ, length, subst, sym, ap, ◌∙◌, arith}
use Rattle.board.specs.Shapes.{cell_count}
use Rattle.pattern_index.proofs.RankLemmas.{ways_some}
use Rattle.pattern_index.proofs.GroupLemmas.{ways_quotient}
use Rattle.pattern_index.proofs.PlaceLemmas.{ways-quot}
use Rattle.pattern_index.proofs.group.Group.folded_size.Goals as goal

pub returns-clause-value : goal.returns-clause-value
returns-clause-value c =
    let cells : c.cells.result ≡ cell_count c.args.self.now.grid = c.cells.ensures.value ∙ ap cell_count c.shape.ensures.value in
    let long : length c.tiles.result.now ≡ length c.args.self.now.tiles = ap length c.tiles.ensures.value in
    (λ i. c.size.ensures.value i / (cells i - long i)) ∙ ways-quot (cell_count c.args.self.now.grid) (length c.args.self.now.tiles) c.tiles.ensures.room

room : (c : goal.After-tiles) → length c.args.self.now.tiles ≤ cell_count c.args.self.now.grid
room c = omega (arith, c.tiles.ensures.room)

pub returns-clause-quotient : goal.returns-clause-quotient
returns-clause-quotient c = returns-clause-value c ∙ ways_quotient (cell_count c.args.self.now.grid) (length c.args.self.now.tiles) (room c)

pub returns-clause-low : goal.returns-clause-low
returns-clause-low c = subst (λ (k : ℕ). 0 < k) (sym (returns-clause-value c)) (ways_some (cell_count c.args.self.now.grid) (length c.args.self.now.tiles) (room c))
