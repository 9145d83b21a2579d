use Rattle.std.proofs.Common.{rules, ◌≡◌, map, refl, ap, ◌∙◌, subst, inr, Vec, Global}
use Rattle.std.proofs.lemmas.Bool.{false≢true}
use Rattle.database_build.specs.Folds.{FoldedModel}
use Rattle.lower_bound.specs.Folded.{AreFoldsOf}
use Rattle.lower_bound.specs.Tables.{IsTables}
use Rattle.lower_bound.specs.Lists.{tables_in}
use Rattle.lower_bound.specs.declared.bound.Held.{Held}
use Rattle.lower_bound.specs.declared.bound.Held.TheVariants.{Whole, Folded}
use Rattle.lower_bound.proofs.PartLemmas.{folded_groups, whole_each, folded_each, folded_potentials}
use Rattle.lower_bound.proofs.bound.Bound.folded.Goals as goal
use Rattle.lower_bound.proofs.bound.Bound.folded.Goals.{in-Whole+in_ok-folds-in-Whole, in-Folded}

pub invariant_of-result : goal.invariant_of-result
invariant_of-result c = (is_tables, c.self.invariant.1, (λ none. absurd (false≢true none), λ both. absurd both.0))
  where
    there : (held : Held) → c.self.inside.held ≡ held → IsTables (tables_in c.self.inside.partition held)
    there held is = subst (λ (h : Held). IsTables (tables_in c.self.inside.partition h)) is c.self.invariant.0

    each : AreFoldsOf c.self.inside.partition.groups c.match-held.folds.items
    each = elim c.match-held.branch [
      | in-Whole+in_ok-folds-in-Whole w ↦
          ap (λ (folds : Vec FoldedModel Global). map (λ (fold : FoldedModel). fold.selection) folds.items) w.folds-is
          ∙ folded_groups w.in-Whole.tables.items w.in_ok-folds-in-Whole.folds.items w.in_ok-folds-in-Whole.ensures.folded
          ∙ whole_each (tables_in c.self.inside.partition (Whole w.in-Whole.tables)) (there (Whole w.in-Whole.tables) w.in-Whole.is) refl
      | in-Folded w ↦
          ap (λ (folds : Vec FoldedModel Global). map (λ (fold : FoldedModel). fold.selection) folds.items) w.folds-is
          ∙ folded_each (tables_in c.self.inside.partition (Folded w.in-Folded.kept)) (there (Folded w.in-Folded.kept) w.in-Folded.is) refl
    ]

    is_tables : IsTables (tables_in c.self.inside.partition (Folded c.match-held.folds))
    is_tables = record {
      partition = c.self.invariant.0.partition;
      one_each = inr (each, refl);
    }

pub returns-clause-folded : goal.returns-clause-folded
returns-clause-folded c = search rules

pub returns-clause-potentials : goal.returns-clause-potentials
returns-clause-potentials c = λ rule goal potentials.
    folded_potentials rule goal c.args.self (tables_in c.self.inside.partition (Folded c.match-held.folds)) (subst IsTables c.self.view_is c.self.invariant.0) (returns-clause-folded c) potentials
