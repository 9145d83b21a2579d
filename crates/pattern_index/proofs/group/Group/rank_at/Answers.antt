use Rattle.std.proofs.Common.{rules, ◌≡◌, ◌<◌, sym, subst, arith}
use Rattle.pattern_index.specs.Views.{view_at}
use Rattle.pattern_index.specs.Groups.{rank_in, size_of}
use Rattle.pattern_index.proofs.SightLemmas.{sight_below}
use Rattle.pattern_index.proofs.group.Group.rank_at.Goals as goal

pub returns-clause-below : goal.returns-clause-below
returns-clause-below c =
    let is : c.rank_numbers.result ≡ rank_in c.args.self.now.grid (view_at c.args.self.now.tiles c.args.cells.now) = search rules in
    subst (λ k. k < size_of c.args.self.now) (sym is) (sight_below c.args.self.now.grid c.args.self.now.tiles (view_at c.args.self.now.tiles c.args.cells.now) c.requires)

pub returns-clause-high : goal.returns-clause-high
returns-clause-high c = let below = returns-clause-below c in let small = c.shape.ensures.group.small in omega arith
