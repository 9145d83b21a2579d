use Rattle.std.proofs.Common.{◌≡◌, List, [], sym, ap, ◌∙◌, subst}
use Rattle.std.specs.Prelude.{sum_by}
use Rattle.pattern_index.specs.Views.{view_of}
use Rattle.database_build.specs.Tables.{TableModel, value_in}
use Rattle.database_build.specs.Folds.{FoldedModel}
use Rattle.lower_bound.specs.Bounds.{Part, sum_of}
use Rattle.lower_bound.specs.Folded.{value_for}
use Rattle.lower_bound.specs.Tables.{BoundModel, IsTables}
use Rattle.lower_bound.specs.Lists.{tables_in}
use Rattle.lower_bound.specs.declared.bound.Held.{Held}
use Rattle.lower_bound.proofs.PartLemmas.{tables_sum, folds_sum, grids_fit, folds_fit, whole_parts, all_folded_parts, nothing_below}
use Rattle.lower_bound.proofs.bound.Bound.of.Goals as goal

pub sum_values-requires-clause-grid : goal.sum_values-requires-clause-grid
sum_values-requires-clause-grid c =
    let is : IsTables c.args.self.now = subst IsTables c.self.view_is c.self.invariant.0 in
    let lookups : c.args.self.now.lookups ≡ c.in-Whole.tables.items = ap (λ (t : BoundModel). t.lookups) (sym c.self.view_is) ∙ ap (λ (h : Held). (tables_in c.self.inside.partition h).lookups) c.in-Whole.is in
    grids_fit c.args.self.now c.deref.result.now c.args.board.now.grid is (lookups ∙ sym c.deref.ensures.value) c.requires

pub sum_folded-requires-clause-grid : goal.sum_folded-requires-clause-grid
sum_folded-requires-clause-grid c =
    let is : IsTables c.args.self.now = subst IsTables c.self.view_is c.self.invariant.0 in
    let folds : c.args.self.now.folds ≡ c.in-Folded.folds.items = ap (λ (t : BoundModel). t.folds) (sym c.self.view_is) ∙ ap (λ (h : Held). (tables_in c.self.inside.partition h).folds) c.in-Folded.is in
    folds_fit c.args.self.now c.deref-in-Folded.result.now c.args.board.now.grid is (folds ∙ sym c.deref-in-Folded.ensures.value) c.requires

pub returns-in-Whole-clause-value : goal.returns-in-Whole-clause-value
returns-in-Whole-clause-value c =
    let lookups : c.args.self.now.lookups ≡ c.in-Whole.tables.items = ap (λ (t : BoundModel). t.lookups) (sym c.self.view_is) ∙ ap (λ (h : Held). (tables_in c.self.inside.partition h).lookups) c.in-Whole.is in
    let whole : c.args.self.now.folds ≡ [] = ap (λ (t : BoundModel). t.folds) (sym c.self.view_is) ∙ ap (λ (h : Held). (tables_in c.self.inside.partition h).folds) c.in-Whole.is in
    c.sum_values.ensures.value
    ∙ ap (λ (ls : List TableModel). sum_by (λ table. value_in table (view_of table.selection.tiles c.args.board.now)) ls) (c.deref.ensures.value ∙ sym lookups)
    ∙ tables_sum c.args.self.now.lookups c.args.board.now
    ∙ ap (λ (ps : List Part). sum_of ps c.args.board.now) (sym (whole_parts c.args.self.now whole))

pub returns-in-Folded-clause-value : goal.returns-in-Folded-clause-value
returns-in-Folded-clause-value c =
    let folds : c.args.self.now.folds ≡ c.in-Folded.folds.items = ap (λ (t : BoundModel). t.folds) (sym c.self.view_is) ∙ ap (λ (h : Held). (tables_in c.self.inside.partition h).folds) c.in-Folded.is in
    let folded : c.args.self.now.lookups ≡ [] = ap (λ (t : BoundModel). t.lookups) (sym c.self.view_is) ∙ ap (λ (h : Held). (tables_in c.self.inside.partition h).lookups) c.in-Folded.is in
    c.sum_folded.ensures.value
    ∙ ap (λ (fs : List FoldedModel). sum_by (value_for c.args.board.now) fs) (c.deref-in-Folded.ensures.value ∙ sym folds)
    ∙ folds_sum c.args.self.now.folds c.args.board.now
    ∙ ap (λ (ps : List Part). sum_of ps c.args.board.now) (sym (all_folded_parts c.args.self.now folded))

pub returns-in-Whole-clause-nothing_below : goal.returns-in-Whole-clause-nothing_below
returns-in-Whole-clause-nothing_below c = λ rule goal potentials.
    nothing_below rule goal c.args.board.now c.args.self.now c.sum_values.result (subst IsTables c.self.view_is c.self.invariant.0) c.shape.ensures.board c.requires (returns-in-Whole-clause-value c) potentials

pub returns-in-Folded-clause-nothing_below : goal.returns-in-Folded-clause-nothing_below
returns-in-Folded-clause-nothing_below c = λ rule goal potentials.
    nothing_below rule goal c.args.board.now c.args.self.now c.sum_folded.result (subst IsTables c.self.view_is c.self.invariant.0) c.shape.ensures.board c.requires (returns-in-Folded-clause-value c) potentials
