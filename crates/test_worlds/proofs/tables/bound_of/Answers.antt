use Rattle.std.proofs.Common.{rules, ◌≡◌, All, List, [], ◌∷◌, ◌++◌, sym, subst}
use Rattle.std.proofs.lemmas.List.Elements.{All-append, All-cons, All-nil}
use Rattle.database_build.specs.Tables.{TableModel, value_in, IsPotential}
use Rattle.database_build.specs.Folds.{FoldedModel}
use Rattle.lower_bound.specs.Folded.{IsFoldedPotential}
use Rattle.lower_bound.specs.Tables.{BoundModel, ArePotentials}
use Rattle.test_worlds.proofs.tables.bound_of.Goals as goal

pub tables-preserved : goal.tables-preserved
tables-preserved c =
    let P = (λ (table : TableModel). IsPotential c.args.weights.now table.selection.tiles c.args.goal.now (value_in table)) in
    let grown : c.push.new.self.items ≡ c.tables.tables.items ++ c.in_ok-table.table ∷ [] = search rules in
    let one : P c.in_ok-table.table = c.in_ok-table.ensures in
    subst (λ (tables : List TableModel). All P tables) (sym grown) (All-append P c.tables.tables.items (c.in_ok-table.table ∷ []) c.tables.invariant (All-cons P c.in_ok-table.table [] one (All-nil P)))

pub returns-clause-potentials : goal.returns-clause-potentials
returns-clause-potentials c = subst (λ (tables : BoundModel). ArePotentials c.args.weights.now c.args.goal.now tables) (sym c.in-Ok.ensures.value)
    (record { whole = c.tables.invariant; folded = All-nil (λ (fold : FoldedModel). IsFoldedPotential c.args.weights.now c.args.goal.now fold) })
