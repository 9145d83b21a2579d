use Rattle.std.proofs.Common.{◌≡◌, List, [], sym, ap, ◌∙◌, subst}
use Rattle.std.specs.Prelude.{All, sum_by}
use Rattle.database_build.specs.Tables.{TableModel}
use Rattle.database_build.specs.Folds.{FoldedModel}
use Rattle.lower_bound.specs.Folded.{value_by}
use Rattle.lower_bound.specs.Slides.{SeesView}
use Rattle.lower_bound.specs.Tables.{BoundModel, IsTables}
use Rattle.lower_bound.specs.Lists.{tables_in}
use Rattle.lower_bound.specs.declared.bound.Held.{Held}
use Rattle.lower_bound.proofs.PartLemmas.{each_lookup, each_fold, nothing_below}
use Rattle.lower_bound.proofs.SlideLemmas.{whole_says, whole_sum_at, folded_sum_at, sees, sum_is}
use Rattle.lower_bound.proofs.bound.Bound.sum_at.Goals as goal

pub sum_whole-requires-clause-views : goal.sum_whole-requires-clause-views
sum_whole-requires-clause-views c =
    let is : IsTables c.args.self.now = subst IsTables c.self.view_is c.self.invariant.0 in
    let lookups : c.args.self.now.lookups ≡ c.in-Whole.tables.items = ap (λ (t : BoundModel). t.lookups) (sym c.self.view_is) ∙ ap (λ (h : Held). (tables_in c.self.inside.partition h).lookups) c.in-Whole.is in
    subst (λ (ls : List TableModel). All (λ table. SeesView c.args.cells.now table.selection) ls) (lookups ∙ sym c.deref.ensures.value) (each_lookup (SeesView c.args.cells.now) c.args.self.now is (sees c.args.self.now is c.args.cells.now c.requires.0 c.requires.1))

pub sum_folded-requires-clause-views : goal.sum_folded-requires-clause-views
sum_folded-requires-clause-views c =
    let is : IsTables c.args.self.now = subst IsTables c.self.view_is c.self.invariant.0 in
    let folds : c.args.self.now.folds ≡ c.in-Folded.folds.items = ap (λ (t : BoundModel). t.folds) (sym c.self.view_is) ∙ ap (λ (h : Held). (tables_in c.self.inside.partition h).folds) c.in-Folded.is in
    subst (λ (fs : List FoldedModel). All (λ fold. SeesView c.args.cells.now fold.selection) fs) (folds ∙ sym c.deref-in-Folded.ensures.value) (each_fold (SeesView c.args.cells.now) c.args.self.now is (sees c.args.self.now is c.args.cells.now c.requires.0 c.requires.1))

pub returns-in-Whole-clause-value : goal.returns-in-Whole-clause-value
returns-in-Whole-clause-value c = λ b has.
    let is : IsTables c.args.self.now = subst IsTables c.self.view_is c.self.invariant.0 in
    let lookups : c.args.self.now.lookups ≡ c.in-Whole.tables.items = ap (λ (t : BoundModel). t.lookups) (sym c.self.view_is) ∙ ap (λ (h : Held). (tables_in c.self.inside.partition h).lookups) c.in-Whole.is in
    let whole : c.args.self.now.folds ≡ [] = ap (λ (t : BoundModel). t.folds) (sym c.self.view_is) ∙ ap (λ (h : Held). (tables_in c.self.inside.partition h).folds) c.in-Whole.is in
    c.sum_whole.ensures.value ∙ ap (λ (ls : List TableModel). sum_by (whole_says c.args.cells.now) ls) (c.deref.ensures.value ∙ sym lookups) ∙ whole_sum_at c.args.self.now c.args.cells.now whole ∙ sum_is c.args.self.now is c.args.cells.now b has

pub returns-in-Folded-clause-value : goal.returns-in-Folded-clause-value
returns-in-Folded-clause-value c = λ b has.
    let is : IsTables c.args.self.now = subst IsTables c.self.view_is c.self.invariant.0 in
    let folds : c.args.self.now.folds ≡ c.in-Folded.folds.items = ap (λ (t : BoundModel). t.folds) (sym c.self.view_is) ∙ ap (λ (h : Held). (tables_in c.self.inside.partition h).folds) c.in-Folded.is in
    let folded : c.args.self.now.lookups ≡ [] = ap (λ (t : BoundModel). t.lookups) (sym c.self.view_is) ∙ ap (λ (h : Held). (tables_in c.self.inside.partition h).lookups) c.in-Folded.is in
    c.sum_folded.ensures.value ∙ ap (λ (fs : List FoldedModel). sum_by (value_by c.args.cells.now) fs) (c.deref-in-Folded.ensures.value ∙ sym folds) ∙ folded_sum_at c.args.self.now c.args.cells.now folded ∙ sum_is c.args.self.now is c.args.cells.now b has

pub returns-in-Whole-clause-nothing_below : goal.returns-in-Whole-clause-nothing_below
returns-in-Whole-clause-nothing_below c = λ b has rule goal potentials.
    nothing_below rule goal b c.args.self.now c.sum_whole.result (subst IsTables c.self.view_is c.self.invariant.0) has.board has.sides (returns-in-Whole-clause-value c b has) potentials

pub returns-in-Folded-clause-nothing_below : goal.returns-in-Folded-clause-nothing_below
returns-in-Folded-clause-nothing_below c = λ b has rule goal potentials.
    nothing_below rule goal b c.args.self.now c.sum_folded.result (subst IsTables c.self.view_is c.self.invariant.0) has.board has.sides (returns-in-Folded-clause-value c b has) potentials
