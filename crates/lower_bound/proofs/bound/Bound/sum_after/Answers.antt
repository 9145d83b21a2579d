use Rattle.std.proofs.Common.{◌≡◌, ◌<◌, ◌≤◌, length, get_or, List, [], sym, ap, ◌∙◌, subst, arith}
use Rattle.std.specs.Prelude.{slice_index}
use Rattle.database_build.specs.Tables.{TableModel}
use Rattle.database_build.specs.Folds.{FoldedModel}
use Rattle.lower_bound.specs.ByTile.{AreGroupsByTile}
use Rattle.pattern_index.specs.Views.{exchanged}
use Rattle.lower_bound.specs.Tables.{BoundModel, IsTables}
use Rattle.lower_bound.specs.Lists.{tables_in}
use Rattle.lower_bound.specs.declared.bound.Held.{Held}
use Rattle.lower_bound.proofs.SlideLemmas.{FoldedAt, WholeAt, cells_there, exchange_of, folded_at, folded_none, sum_is, whole_at, whole_none}
use Rattle.lower_bound.proofs.bound.Bound.sum_after.Goals as goal

pub returns-then-place-len-clause-value : goal.returns-then-place-len-clause-value
returns-then-place-len-clause-value c = λ b b' slide sum.
    let is : IsTables c.args.self.now = subst IsTables c.self.view_is c.self.invariant.0 in
    let by : AreGroupsByTile c.args.self.now.split.groups c.self.inside.by_tile = subst (λ (t : BoundModel). AreGroupsByTile t.split.groups c.self.inside.by_tile) c.self.view_is c.self.invariant.1 in
    let lookups : c.args.self.now.lookups ≡ c.in-Whole.tables.items = ap (λ (t : BoundModel). t.lookups) (sym c.self.view_is) ∙ ap (λ (h : Held). (tables_in c.self.inside.partition h).lookups) c.in-Whole.is in
    let whole : c.args.self.now.folds ≡ [] = ap (λ (t : BoundModel). t.folds) (sym c.self.view_is) ∙ ap (λ (h : Held). (tables_in c.self.inside.partition h).folds) c.in-Whole.is in
    sum ∙ sym (sum_is c.args.self.now is c.args.cells.now b slide.before) ∙ whole_none c.args.self.now c.self.inside.by_tile c.args.cells.now c.args.tile (exchange_of c.args.self.now is c.args.cells.now c.args.tile b b' slide c.requires.consistent) is by whole
    (subst (λ (ls : List TableModel). length ls ≤ slice_index c.self.inside.by_tile c.args.tile) (sym lookups) (omega (arith, c.if-place-len.true, c.len.ensures)))
    ∙ sum_is c.args.self.now is (exchanged c.args.cells.now c.args.tile) b' (cells_there c.args.self.now is c.args.cells.now c.args.tile b b' slide)

pub whole_after-requires-clause-views : goal.whole_after-requires-clause-views
whole_after-requires-clause-views c =
    let is : IsTables c.args.self.now = subst IsTables c.self.view_is c.self.invariant.0 in
    let by : AreGroupsByTile c.args.self.now.split.groups c.self.inside.by_tile = subst (λ (t : BoundModel). AreGroupsByTile t.split.groups c.self.inside.by_tile) c.self.view_is c.self.invariant.1 in
    let lookups : c.args.self.now.lookups ≡ c.in-Whole.tables.items = ap (λ (t : BoundModel). t.lookups) (sym c.self.view_is) ∙ ap (λ (h : Held). (tables_in c.self.inside.partition h).lookups) c.in-Whole.is in
    let whole : c.args.self.now.folds ≡ [] = ap (λ (t : BoundModel). t.folds) (sym c.self.view_is) ∙ ap (λ (h : Held). (tables_in c.self.inside.partition h).folds) c.in-Whole.is in
    let at : WholeAt c.args.self.now c.args.cells.now c.args.tile c.index.result.now = whole_at c.args.self.now c.self.inside.by_tile c.args.cells.now c.args.tile (exchange_of c.args.self.now is c.args.cells.now c.args.tile c.requires.slide.0 c.requires.slide.1 c.requires.slide.2 c.requires.consistent) is by whole c.index.result.now
    (subst (λ (ls : List TableModel). slice_index c.self.inside.by_tile c.args.tile < length ls) (sym lookups) (omega (arith, c.if-place-len.false, c.len.ensures)))
    (subst (λ (ls : List TableModel). c.index.result.now ≡ get_or ls (slice_index c.self.inside.by_tile c.args.tile) c.index.result.now) (sym lookups) c.index.ensures) in
    at.sees

pub whole_after-requires-clause-sum : goal.whole_after-requires-clause-sum
whole_after-requires-clause-sum c =
    let is : IsTables c.args.self.now = subst IsTables c.self.view_is c.self.invariant.0 in
    let by : AreGroupsByTile c.args.self.now.split.groups c.self.inside.by_tile = subst (λ (t : BoundModel). AreGroupsByTile t.split.groups c.self.inside.by_tile) c.self.view_is c.self.invariant.1 in
    let lookups : c.args.self.now.lookups ≡ c.in-Whole.tables.items = ap (λ (t : BoundModel). t.lookups) (sym c.self.view_is) ∙ ap (λ (h : Held). (tables_in c.self.inside.partition h).lookups) c.in-Whole.is in
    let whole : c.args.self.now.folds ≡ [] = ap (λ (t : BoundModel). t.folds) (sym c.self.view_is) ∙ ap (λ (h : Held). (tables_in c.self.inside.partition h).folds) c.in-Whole.is in
    let at : WholeAt c.args.self.now c.args.cells.now c.args.tile c.index.result.now = whole_at c.args.self.now c.self.inside.by_tile c.args.cells.now c.args.tile (exchange_of c.args.self.now is c.args.cells.now c.args.tile c.requires.slide.0 c.requires.slide.1 c.requires.slide.2 c.requires.consistent) is by whole c.index.result.now
    (subst (λ (ls : List TableModel). slice_index c.self.inside.by_tile c.args.tile < length ls) (sym lookups) (omega (arith, c.if-place-len.false, c.len.ensures)))
    (subst (λ (ls : List TableModel). c.index.result.now ≡ get_or ls (slice_index c.self.inside.by_tile c.args.tile) c.index.result.now) (sym lookups) c.index.ensures) in
    let low = at.low in
    let sum = sum_is c.args.self.now is c.args.cells.now c.requires.slide.0 c.requires.slide.2.before in
    omega (arith, low, sum, c.requires.slide.3)

pub returns-else-place-len-clause-value : goal.returns-else-place-len-clause-value
returns-else-place-len-clause-value c = λ b b' slide sum.
    let is : IsTables c.args.self.now = subst IsTables c.self.view_is c.self.invariant.0 in
    let by : AreGroupsByTile c.args.self.now.split.groups c.self.inside.by_tile = subst (λ (t : BoundModel). AreGroupsByTile t.split.groups c.self.inside.by_tile) c.self.view_is c.self.invariant.1 in
    let lookups : c.args.self.now.lookups ≡ c.in-Whole.tables.items = ap (λ (t : BoundModel). t.lookups) (sym c.self.view_is) ∙ ap (λ (h : Held). (tables_in c.self.inside.partition h).lookups) c.in-Whole.is in
    let whole : c.args.self.now.folds ≡ [] = ap (λ (t : BoundModel). t.folds) (sym c.self.view_is) ∙ ap (λ (h : Held). (tables_in c.self.inside.partition h).folds) c.in-Whole.is in
    let at : WholeAt c.args.self.now c.args.cells.now c.args.tile c.index.result.now = whole_at c.args.self.now c.self.inside.by_tile c.args.cells.now c.args.tile (exchange_of c.args.self.now is c.args.cells.now c.args.tile b b' slide c.requires.consistent) is by whole c.index.result.now
    (subst (λ (ls : List TableModel). slice_index c.self.inside.by_tile c.args.tile < length ls) (sym lookups) (omega (arith, c.if-place-len.false, c.len.ensures)))
    (subst (λ (ls : List TableModel). c.index.result.now ≡ get_or ls (slice_index c.self.inside.by_tile c.args.tile) c.index.result.now) (sym lookups) c.index.ensures) in
    let next = at.next in
    let here = sum_is c.args.self.now is c.args.cells.now b slide.before in
    let there = sum_is c.args.self.now is (exchanged c.args.cells.now c.args.tile) b' (cells_there c.args.self.now is c.args.cells.now c.args.tile b b' slide) in
    omega (arith, next, sum, here, there, c.whole_after.ensures.value)

pub returns-then-place-len-2-clause-value : goal.returns-then-place-len-2-clause-value
returns-then-place-len-2-clause-value c = λ b b' slide sum.
    let is : IsTables c.args.self.now = subst IsTables c.self.view_is c.self.invariant.0 in
    let by : AreGroupsByTile c.args.self.now.split.groups c.self.inside.by_tile = subst (λ (t : BoundModel). AreGroupsByTile t.split.groups c.self.inside.by_tile) c.self.view_is c.self.invariant.1 in
    let folds : c.args.self.now.folds ≡ c.in-Folded.folds.items = ap (λ (t : BoundModel). t.folds) (sym c.self.view_is) ∙ ap (λ (h : Held). (tables_in c.self.inside.partition h).folds) c.in-Folded.is in
    let folded : c.args.self.now.lookups ≡ [] = ap (λ (t : BoundModel). t.lookups) (sym c.self.view_is) ∙ ap (λ (h : Held). (tables_in c.self.inside.partition h).lookups) c.in-Folded.is in
    sum ∙ sym (sum_is c.args.self.now is c.args.cells.now b slide.before) ∙ folded_none c.args.self.now c.self.inside.by_tile c.args.cells.now c.args.tile (exchange_of c.args.self.now is c.args.cells.now c.args.tile b b' slide c.requires.consistent) is by folded
    (subst (λ (fs : List FoldedModel). length fs ≤ slice_index c.self.inside.by_tile c.args.tile) (sym folds) (omega (arith, c.if-place-len-2.true, c.len-in-Folded.ensures)))
    ∙ sum_is c.args.self.now is (exchanged c.args.cells.now c.args.tile) b' (cells_there c.args.self.now is c.args.cells.now c.args.tile b b' slide)

pub folded_after-requires-clause-views : goal.folded_after-requires-clause-views
folded_after-requires-clause-views c =
    let is : IsTables c.args.self.now = subst IsTables c.self.view_is c.self.invariant.0 in
    let by : AreGroupsByTile c.args.self.now.split.groups c.self.inside.by_tile = subst (λ (t : BoundModel). AreGroupsByTile t.split.groups c.self.inside.by_tile) c.self.view_is c.self.invariant.1 in
    let folds : c.args.self.now.folds ≡ c.in-Folded.folds.items = ap (λ (t : BoundModel). t.folds) (sym c.self.view_is) ∙ ap (λ (h : Held). (tables_in c.self.inside.partition h).folds) c.in-Folded.is in
    let folded : c.args.self.now.lookups ≡ [] = ap (λ (t : BoundModel). t.lookups) (sym c.self.view_is) ∙ ap (λ (h : Held). (tables_in c.self.inside.partition h).lookups) c.in-Folded.is in
    let at : FoldedAt c.args.self.now c.args.cells.now c.args.tile c.index-in-Folded.result.now = folded_at c.args.self.now c.self.inside.by_tile c.args.cells.now c.args.tile (exchange_of c.args.self.now is c.args.cells.now c.args.tile c.requires.slide.0 c.requires.slide.1 c.requires.slide.2 c.requires.consistent) is by folded c.index-in-Folded.result.now
    (subst (λ (fs : List FoldedModel). slice_index c.self.inside.by_tile c.args.tile < length fs) (sym folds) (omega (arith, c.if-place-len-2.false, c.len-in-Folded.ensures)))
    (subst (λ (fs : List FoldedModel). c.index-in-Folded.result.now ≡ get_or fs (slice_index c.self.inside.by_tile c.args.tile) c.index-in-Folded.result.now) (sym folds) c.index-in-Folded.ensures) in
    at.sees

pub folded_after-requires-clause-sum : goal.folded_after-requires-clause-sum
folded_after-requires-clause-sum c =
    let is : IsTables c.args.self.now = subst IsTables c.self.view_is c.self.invariant.0 in
    let by : AreGroupsByTile c.args.self.now.split.groups c.self.inside.by_tile = subst (λ (t : BoundModel). AreGroupsByTile t.split.groups c.self.inside.by_tile) c.self.view_is c.self.invariant.1 in
    let folds : c.args.self.now.folds ≡ c.in-Folded.folds.items = ap (λ (t : BoundModel). t.folds) (sym c.self.view_is) ∙ ap (λ (h : Held). (tables_in c.self.inside.partition h).folds) c.in-Folded.is in
    let folded : c.args.self.now.lookups ≡ [] = ap (λ (t : BoundModel). t.lookups) (sym c.self.view_is) ∙ ap (λ (h : Held). (tables_in c.self.inside.partition h).lookups) c.in-Folded.is in
    let at : FoldedAt c.args.self.now c.args.cells.now c.args.tile c.index-in-Folded.result.now = folded_at c.args.self.now c.self.inside.by_tile c.args.cells.now c.args.tile (exchange_of c.args.self.now is c.args.cells.now c.args.tile c.requires.slide.0 c.requires.slide.1 c.requires.slide.2 c.requires.consistent) is by folded c.index-in-Folded.result.now
    (subst (λ (fs : List FoldedModel). slice_index c.self.inside.by_tile c.args.tile < length fs) (sym folds) (omega (arith, c.if-place-len-2.false, c.len-in-Folded.ensures)))
    (subst (λ (fs : List FoldedModel). c.index-in-Folded.result.now ≡ get_or fs (slice_index c.self.inside.by_tile c.args.tile) c.index-in-Folded.result.now) (sym folds) c.index-in-Folded.ensures) in
    let low = at.low in
    let sum = sum_is c.args.self.now is c.args.cells.now c.requires.slide.0 c.requires.slide.2.before in
    omega (arith, low, sum, c.requires.slide.3)

pub returns-else-place-len-2-clause-value : goal.returns-else-place-len-2-clause-value
returns-else-place-len-2-clause-value c = λ b b' slide sum.
    let is : IsTables c.args.self.now = subst IsTables c.self.view_is c.self.invariant.0 in
    let by : AreGroupsByTile c.args.self.now.split.groups c.self.inside.by_tile = subst (λ (t : BoundModel). AreGroupsByTile t.split.groups c.self.inside.by_tile) c.self.view_is c.self.invariant.1 in
    let folds : c.args.self.now.folds ≡ c.in-Folded.folds.items = ap (λ (t : BoundModel). t.folds) (sym c.self.view_is) ∙ ap (λ (h : Held). (tables_in c.self.inside.partition h).folds) c.in-Folded.is in
    let folded : c.args.self.now.lookups ≡ [] = ap (λ (t : BoundModel). t.lookups) (sym c.self.view_is) ∙ ap (λ (h : Held). (tables_in c.self.inside.partition h).lookups) c.in-Folded.is in
    let at : FoldedAt c.args.self.now c.args.cells.now c.args.tile c.index-in-Folded.result.now = folded_at c.args.self.now c.self.inside.by_tile c.args.cells.now c.args.tile (exchange_of c.args.self.now is c.args.cells.now c.args.tile b b' slide c.requires.consistent) is by folded c.index-in-Folded.result.now
    (subst (λ (fs : List FoldedModel). slice_index c.self.inside.by_tile c.args.tile < length fs) (sym folds) (omega (arith, c.if-place-len-2.false, c.len-in-Folded.ensures)))
    (subst (λ (fs : List FoldedModel). c.index-in-Folded.result.now ≡ get_or fs (slice_index c.self.inside.by_tile c.args.tile) c.index-in-Folded.result.now) (sym folds) c.index-in-Folded.ensures) in
    let next = at.next in
    let here = sum_is c.args.self.now is c.args.cells.now b slide.before in
    let there = sum_is c.args.self.now is (exchanged c.args.cells.now c.args.tile) b' (cells_there c.args.self.now is c.args.cells.now c.args.tile b b' slide) in
    omega (arith, next, sum, here, there, c.folded_after.ensures.value)
