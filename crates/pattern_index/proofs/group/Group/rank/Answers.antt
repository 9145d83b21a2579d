use Rattle.std.proofs.Common.{rules, ◌≡◌, ◌<◌, suc, length, sym, ap, ◌∙◌, subst, arith}
use Rattle.board.specs.Shapes.{cell_count}
use Rattle.pattern_index.specs.Groups.{rank_in, size_of}
use Rattle.pattern_index.proofs.GroupLemmas.{groups_small}
use Rattle.pattern_index.proofs.SightLemmas.{sight_below}
use Rattle.pattern_index.proofs.group.Group.rank.Goals as goal

pub rank_cells-requires-clause-fits : goal.rank_cells-requires-clause-fits
rank_cells-requires-clause-fits c =
    let room = (groups_small c.args.self.now c.shape.ensures.group).1 in
    let cells : c.cells.result ≡ cell_count c.args.self.now.grid = c.cells.ensures.value ∙ ap cell_count c.shape.ensures.value in
    let long : length c.cells-2.result.now ≡ suc (length c.args.view.now.cells) = ap length c.cells-2.ensures in
    omega (arith, c.requires.one_each)

pub returns-clause-below : goal.returns-clause-below
returns-clause-below c =
    let is : c.rank_cells.result ≡ rank_in c.args.self.now.grid c.args.view.now = search rules in
    subst (λ k. k < size_of c.args.self.now) (sym is) (sight_below c.args.self.now.grid c.args.self.now.tiles c.args.view.now c.requires)

pub returns-clause-high : goal.returns-clause-high
returns-clause-high c = let below = returns-clause-below c in let small = c.shape.ensures.group.small in omega arith
