use Rattle.std.proofs.Common.{ℕ, ◌≡◌, ◌<◌, ◌≤◌, length, get_or, List, ap, ◌∙◌, subst, arith}
use Rattle.std.specs.Prelude.{slice_index}
use Rattle.database_build.specs.Tables.{TableModel}
use Rattle.lower_bound.specs.ByTile.{AreGroupsByTile}
use Rattle.lower_bound.specs.Tables.{BoundModel, IsTables}
use Rattle.lower_bound.proofs.ConsecutiveLemmas.{consecutive_move, sum_changes, sum_stays}
use Rattle.lower_bound.proofs.bound.Bound.sum_after_by_digits.Goals as goal

pub returns-then-group-tables-clause-value : goal.returns-then-group-tables-clause-value
returns-then-group-tables-clause-value c = λ b' move.
    let is : IsTables c.args.self.now = subst IsTables c.self.view_is c.self.invariant.0 in
    let by : AreGroupsByTile c.args.self.now.split.groups c.self.inside.by_tile = subst (λ (t : BoundModel). AreGroupsByTile t.split.groups c.self.inside.by_tile) c.self.view_is c.self.invariant.1 in
    c.requires.sum.is
    ∙ sum_stays c.args.self.now c.self.inside.by_tile c.args.tile c.args.board.now is by c.requires.digits.whole c.shape.ensures.board c.requires.sum.sides c.requires.consistent
    (subst (λ (ls : List TableModel). length ls ≤ slice_index c.self.inside.by_tile c.args.tile) c.whole-tables.ensures.value (omega (arith, c.if-group-tables.true)))
    b' move

pub values_by_digits-was-requires : goal.values_by_digits-was-requires
values_by_digits-was-requires c =
    let is : IsTables c.args.self.now = subst IsTables c.self.view_is c.self.invariant.0 in
    let by : AreGroupsByTile c.args.self.now.split.groups c.self.inside.by_tile = subst (λ (t : BoundModel). AreGroupsByTile t.split.groups c.self.inside.by_tile) c.self.view_is c.self.invariant.1 in
    let low : slice_index c.self.inside.by_tile c.args.tile < length c.args.self.now.lookups = subst (λ (ls : List TableModel). slice_index c.self.inside.by_tile c.args.tile < length ls) c.whole-tables.ensures.value (omega (arith, c.if-group-tables.false)) in
    let at : c.index-tables-group.result ≡ get_or c.args.self.now.lookups (slice_index c.self.inside.by_tile c.args.tile) c.index-tables-group.result = subst (λ (ls : List TableModel). c.index-tables-group.result ≡ get_or ls (slice_index c.self.inside.by_tile c.args.tile) c.index-tables-group.result) c.whole-tables.ensures.value c.index-tables-group.is in
    consecutive_move c.args.self.now c.self.inside.by_tile c.args.tile c.args.board.now is by c.requires.digits.whole c.shape.ensures.board c.requires.sum.sides c.index-tables-group.result low at c.requires.digits.groups c.requires.moved

pub overflow_sub-result : goal.overflow_sub-result
overflow_sub-result c =
    let is : IsTables c.args.self.now = subst IsTables c.self.view_is c.self.invariant.0 in
    let by : AreGroupsByTile c.args.self.now.split.groups c.self.inside.by_tile = subst (λ (t : BoundModel). AreGroupsByTile t.split.groups c.self.inside.by_tile) c.self.view_is c.self.invariant.1 in
    let low : slice_index c.self.inside.by_tile c.args.tile < length c.args.self.now.lookups = subst (λ (ls : List TableModel). slice_index c.self.inside.by_tile c.args.tile < length ls) c.whole-tables.ensures.value (omega (arith, c.if-group-tables.false)) in
    let at : c.index-tables-group.result ≡ get_or c.args.self.now.lookups (slice_index c.self.inside.by_tile c.args.tile) c.index-tables-group.result = subst (λ (ls : List TableModel). c.index-tables-group.result ≡ get_or ls (slice_index c.self.inside.by_tile c.args.tile) c.index-tables-group.result) c.whole-tables.ensures.value c.index-tables-group.is in
    let one = sum_changes c.args.self.now c.self.inside.by_tile c.args.tile c.args.board.now is by c.requires.digits.whole c.shape.ensures.board c.requires.sum.sides c.index-tables-group.result low at c.requires.consistent c.requires.moved.0 c.requires.moved.1 in
    let was = ap (λ (t : ℕ × ℕ). t.0) (c.values_by_digits-was.ensures.values c.requires.moved.0 c.requires.moved.1) in
    omega (arith, one.0, was, c.requires.sum.is)

pub returns-clause-value : goal.returns-clause-value
returns-clause-value c = λ b' move.
    let is : IsTables c.args.self.now = subst IsTables c.self.view_is c.self.invariant.0 in
    let by : AreGroupsByTile c.args.self.now.split.groups c.self.inside.by_tile = subst (λ (t : BoundModel). AreGroupsByTile t.split.groups c.self.inside.by_tile) c.self.view_is c.self.invariant.1 in
    let low : slice_index c.self.inside.by_tile c.args.tile < length c.args.self.now.lookups = subst (λ (ls : List TableModel). slice_index c.self.inside.by_tile c.args.tile < length ls) c.whole-tables.ensures.value (omega (arith, c.if-group-tables.false)) in
    let at : c.index-tables-group.result ≡ get_or c.args.self.now.lookups (slice_index c.self.inside.by_tile c.args.tile) c.index-tables-group.result = subst (λ (ls : List TableModel). c.index-tables-group.result ≡ get_or ls (slice_index c.self.inside.by_tile c.args.tile) c.index-tables-group.result) c.whole-tables.ensures.value c.index-tables-group.is in
    let one = sum_changes c.args.self.now c.self.inside.by_tile c.args.tile c.args.board.now is by c.requires.digits.whole c.shape.ensures.board c.requires.sum.sides c.index-tables-group.result low at c.requires.consistent b' move in
    let was = ap (λ (t : ℕ × ℕ). t.0) (c.values_by_digits-was.ensures.values b' move) in
    let now = ap (λ (t : ℕ × ℕ). t.1) (c.values_by_digits-was.ensures.values b' move) in
    omega (arith, one.1, was, now, c.requires.sum.is)
