-- Tables that are built one after the other, and side by side.
use Rattle.std.proofs.Common.{◌≡◌, ℕ, ◌≤◌, List, [], ◌∷◌, length, map, get_or, drop, refl, sym, ap, ◌∙◌, subst, arith, suc, ◌+◌, ◌<◌, ◌++◌, Option, Some, Result, Ok, take, append-nil}
use Rattle.std.specs.Prelude.{sum_by, All, MatchOption, IfOk}
use Rattle.std.proofs.lemmas.List.{take_all, drop_all, take_more, length-map, get_or-map}
use Rattle.std.proofs.lemmas.List.Elements.{recursion_from_All, All-from_recursion}
use Rattle.std.specs.List.{AllByRecursion}
use Rattle.std.proofs.lemmas.Option.{same_Some}
use Rattle.board.specs.Boards.{BoardModel, IsBoard}
use Rattle.board.specs.Weights.{WeightsModel}
use Rattle.memory.specs.declared.OutOfMemory.{OutOfMemory}
use Rattle.pattern_index.specs.Groups.{GroupModel, AreGroupTiles, abstraction_of, IsGroup}
use Rattle.pattern_index.specs.Partitions.{PartitionModel, IsPartition}
use Rattle.pattern_search.specs.Searches.{IsValue, ValuesAreDetermined}
use Rattle.database_build.specs.Tables.{IsPotential, TableModel, HoldsValues, value_in}
use Rattle.database_build.specs.Folds.{FoldedModel, IsFoldOf, IsTrueFold, folded_in}
use Rattle.database_build.proofs.FoldLemmas.{values_potential}
use Rattle.lower_bound.specs.Folded.{value_for, AreFoldsOf, AreFoldedPotentials, IsFoldedPotential}
use Rattle.lower_bound.specs.Tables.{BoundModel, AreWhole, parts_of, AreTablesOf, ArePotentials}
use Rattle.lower_bound.proofs.PartLemmas.{whole_parts, all_folded_parts, tables_sum, folds_sum, of_each, of_tables}
use Rattle.table_sets.specs.Built.{AreBuilt, AreBuiltFolded, AreTrueTables, AreTrueFolds, IsTrueTable, IsTrueFoldOf, AreEach, IsEachAt}
use Rattle.std.proofs.lemmas.List.Sums.{sum_by-cons}
use Rattle.board.specs.Shapes.{ShapeModel}
use Rattle.pattern_index.specs.Views.{ViewModel, IsView, view_of}
use Rattle.pattern_index.proofs.ViewMoveLemmas.{board_view}
use Rattle.lower_bound.specs.Bounds.{Part, sum_of}

-- one more, of one group more
each_more : {X : Type 0} (Is : GroupModel → X → Type 0) (groups : List GroupModel) (xs : List X) (g : GroupModel) (x : X) → AreEach Is groups xs → Is g x → AreEach Is (groups ++ g ∷ []) (xs ++ x ∷ [])
each_more Is [] [] g x each is = (is, tt)
each_more Is [] (y ∷ xs) g x each is = absurd each
each_more Is (h ∷ groups) [] g x each is = absurd each
each_more Is (h ∷ groups) (y ∷ xs) g x each is = (each.0, each_more Is groups xs g x each.1 is)

-- the table of one group more
pub one_more : {X : Type 0} (Is : GroupModel → X → Type 0) (groups : List GroupModel) (place : ℕ) (group : GroupModel) (old new : List X) (table : X) → place < length groups → group ≡ get_or groups place group → Is group table → AreEach Is (take place groups) old → new ≡ old ++ table ∷ [] → AreEach Is (take (place + 1) groups) new
one_more {X = X} Is groups place group old new table within is holds before pushed =
    let at : Is (get_or groups place group) table = subst (λ (g : GroupModel). Is g table) is holds in
    let more : AreEach Is (take place groups ++ get_or groups place group ∷ []) (old ++ table ∷ []) = each_more Is (take place groups) old (get_or groups place group) table before at in
    let grown : AreEach Is (take (place + 1) groups) (old ++ table ∷ []) = subst (λ (gs : List GroupModel). AreEach Is gs (old ++ table ∷ [])) (sym (take_more groups place group within)) more in
    subst (λ (xs : List X). AreEach Is (take (place + 1) groups) xs) (sym pushed) grown

-- one for each place, of the group there
each_of_places : {X : Type 0} (Is : GroupModel → X → Type 0) (groups : List GroupModel) (xs : List X) → length xs ≡ length groups → ((i : ℕ) (d : X) → i < length xs → IsEachAt Is groups i (get_or xs i d)) → AreEach Is groups xs
each_of_places Is [] [] count each = tt
each_of_places Is (g ∷ groups) [] count each = absurd (omega (arith, count))
each_of_places Is [] (x ∷ xs) count each = absurd (omega (arith, count))
each_of_places Is (g ∷ groups) (x ∷ xs) count each =
    let first = each 0 x (omega arith) in
    let rest = each_of_places Is groups xs (omega (arith, count)) (λ i d within. each (suc i) d (omega (arith, within))) in
    (subst (λ (h : GroupModel). Is h x) (same_Some first.0 g (sym first.1)) first.2, rest)

-- what lies in a place after its thread
abbrev pub IsFilled : {X : Type 0} → (GroupModel → X → Type 0) → List GroupModel → ℕ → Option (Result X OutOfMemory) → Type 0
IsFilled Is groups i place = MatchOption place ⊥ (λ built. IfOk built (IsEachAt Is groups i))

-- tables that were taken out of the places
pub all_taken : {X : Type 0} (Is : GroupModel → X → Type 0) (groups : List GroupModel) (places : List (Option (Result X OutOfMemory))) (tables : List X) → length places ≡ length groups → ((i : ℕ) (d : Option (Result X OutOfMemory)) → i < length places → IsFilled Is groups i (get_or places i d)) → places ≡ map (λ table. Some (Ok table)) tables → AreEach Is groups tables
all_taken {X = X} Is groups places tables count filled taken =
    let placed : X → Option (Result X OutOfMemory) = λ x. Some (Ok x) in
    let same : length places ≡ length tables = ap length taken ∙ length-map tables placed in
    each_of_places Is groups tables (omega (arith, count, same))
    (λ i d within.
    let there = filled i (placed d) (omega (arith, within, same)) in
    let is : get_or places i (placed d) ≡ placed (get_or tables i d) = ap (λ (ps : List (Option (Result X OutOfMemory))). get_or ps i (placed d)) taken ∙ get_or-map placed tables i d (placed d) within in
    subst (IsFilled Is groups i) is there)

-- a list of places after a slice of all of them was written
pub written_back : {X : Type 0} (n : ℕ) (new old : List X) → length old ≤ n → length new ≡ length old → take n (new ++ drop (length new) old) ≡ new
written_back n new old all same =
    let rest : drop (length new) old ≡ [] = drop_all (length new) old (omega (arith, same)) in
    ap (λ xs. take n (new ++ xs)) rest ∙ ap (take n) (append-nil new) ∙ take_all n new (omega (arith, all, same))

-- a table for each group is a list of them
pub true_tables : (groups : List GroupModel) (rule : WeightsModel) (goal : BoardModel) (lookups : List TableModel) → AreEach (IsTrueTable rule goal) groups lookups → AreTrueTables groups rule goal lookups
true_tables groups rule goal lookups each = record {
  one_each = same groups lookups each;
  values = All-from_recursion (λ (table : TableModel). HoldsValues table rule goal) lookups (hold groups lookups each);
}
  where
    same : (gs : List GroupModel) (ts : List TableModel) → AreEach (IsTrueTable rule goal) gs ts → AreTablesOf gs ts
    same [] [] each = refl
    same [] (t ∷ ts) each = absurd each
    same (g ∷ gs) [] each = absurd each
    same (g ∷ gs) (t ∷ ts) each = let rest = same gs ts each.1 in λ i. each.0.0 i ∷ rest i

    hold : (gs : List GroupModel) (ts : List TableModel) → AreEach (IsTrueTable rule goal) gs ts → AllByRecursion (λ table. HoldsValues table rule goal) ts
    hold [] [] each = tt
    hold [] (t ∷ ts) each = absurd each
    hold (g ∷ gs) [] each = absurd each
    hold (g ∷ gs) (t ∷ ts) each = (each.0.1, hold gs ts each.1)

-- and so is a folded one for each
pub true_folds : (groups : List GroupModel) (rule : WeightsModel) (goal : BoardModel) (folds : List FoldedModel) → AreEach (IsTrueFoldOf rule goal) groups folds → AreTrueFolds groups rule goal folds
true_folds groups rule goal folds each = record {
  one_each = same groups folds each;
  values = All-from_recursion (λ (fold : FoldedModel). IsTrueFold rule goal fold) folds (hold groups folds each);
}
  where
    same : (gs : List GroupModel) (fs : List FoldedModel) → AreEach (IsTrueFoldOf rule goal) gs fs → AreFoldsOf gs fs
    same [] [] each = refl
    same [] (f ∷ fs) each = absurd each
    same (g ∷ gs) [] each = absurd each
    same (g ∷ gs) (f ∷ fs) each = let rest = same gs fs each.1 in λ i. each.0.0 i ∷ rest i

    hold : (gs : List GroupModel) (fs : List FoldedModel) → AreEach (IsTrueFoldOf rule goal) gs fs → AllByRecursion (λ fold. IsTrueFold rule goal fold) fs
    hold [] [] each = tt
    hold [] (f ∷ fs) each = absurd each
    hold (g ∷ gs) [] each = absurd each
    hold (g ∷ gs) (f ∷ fs) each = (each.0.1, hold gs fs each.1)

-- true tables of groups that fit are potentials
true_potentials : (groups : List GroupModel) (rule : WeightsModel) (goal : BoardModel) (lookups : List TableModel) → All IsGroup groups → IsBoard goal → All (λ g. goal.grid ≡ g.grid) groups → AreTrueTables groups rule goal lookups → All (λ table. IsPotential rule table.selection.tiles goal (value_in table)) lookups
true_potentials groups rule goal lookups selections board fit built k d within =
    values_potential (get_or lookups k d) rule goal (built.values k d within) (of_tables IsGroup groups lookups built.one_each selections k d within) board (of_tables (λ g. goal.grid ≡ g.grid) groups lookups built.one_each fit k d within)

-- and folded ones were folded from such
true_folded : (groups : List GroupModel) (rule : WeightsModel) (goal : BoardModel) (folds : List FoldedModel) → All IsGroup groups → IsBoard goal → All (λ g. goal.grid ≡ g.grid) groups → AreTrueFolds groups rule goal folds → AreFoldedPotentials rule goal folds
true_folded groups rule goal folds selections board fit built k d within =
    let true = built.values k d within in
    let same = true.1.selection in
    let selection : IsGroup true.0.selection = subst IsGroup same (of_each (λ (fold : FoldedModel). fold.selection) IsGroup groups folds built.one_each selections k d within) in
    let grid : goal.grid ≡ true.0.selection.grid = subst (λ (g : GroupModel). goal.grid ≡ g.grid) same (of_each (λ (fold : FoldedModel). fold.selection) (λ g. goal.grid ≡ g.grid) groups folds built.one_each fit k d within) in
    (true.0, true.1, values_potential true.0 rule goal true.2 selection board grid)

-- where there is none, each has what is asked
none : {X : Type 0} (P : X → Type 0) (xs : List X) → xs ≡ [] → All P xs
none P xs same k d within = let long : length xs ≡ 0 = ap length same in absurd (omega arith)

-- what is built is what was asked for
pub is_built : (split : PartitionModel) (groups : List GroupModel) (rule : WeightsModel) (goal : BoardModel) (lookups : List TableModel) (tables : BoundModel) → tables ≡ record { split = split; lookups = lookups; folds = [] } → groups ≡ split.groups → AreEach (IsTrueTable rule goal) groups lookups → AreBuilt split rule goal tables
is_built split groups rule goal lookups tables is same each = subst (λ (ts : BoundModel). AreBuilt split rule goal ts) (sym is) (record {
  groups = refl;
  each = true_tables split.groups rule goal lookups (subst (λ (gs : List GroupModel). AreEach (IsTrueTable rule goal) gs lookups) same each);
  whole = refl;
})

pub is_built_folded : (split : PartitionModel) (groups : List GroupModel) (rule : WeightsModel) (goal : BoardModel) (folds : List FoldedModel) (tables : BoundModel) → tables ≡ record { split = split; lookups = []; folds = folds } → groups ≡ split.groups → AreEach (IsTrueFoldOf rule goal) groups folds → AreBuiltFolded split rule goal tables
is_built_folded split groups rule goal folds tables is same each = subst (λ (ts : BoundModel). AreBuiltFolded split rule goal ts) (sym is) (record {
  groups = refl;
  each = true_folds split.groups rule goal folds (subst (λ (gs : List GroupModel). AreEach (IsTrueFoldOf rule goal) gs folds) same each);
  folded = refl;
})

-- and so it is potentials
pub built_potentials : (split : PartitionModel) (rule : WeightsModel) (goal : BoardModel) (tables : BoundModel) → IsPartition split → IsBoard goal → goal.grid ≡ split.grid → AreBuilt split rule goal tables → ArePotentials rule goal tables
built_potentials split rule goal tables is board same built = record {
  whole = true_potentials split.groups rule goal tables.lookups is.groups board (λ k d within. same ∙ sym (is.of_grid k d within)) built.each;
  folded = none (λ (fold : FoldedModel). IsFoldedPotential rule goal fold) tables.folds built.whole;
}

pub folded_potentials : (split : PartitionModel) (rule : WeightsModel) (goal : BoardModel) (tables : BoundModel) → IsPartition split → IsBoard goal → goal.grid ≡ split.grid → AreBuiltFolded split rule goal tables → ArePotentials rule goal tables
folded_potentials split rule goal tables is board same built = record {
  whole = none (λ (table : TableModel). IsPotential rule table.selection.tiles goal (value_in table)) tables.lookups built.folded;
  folded = true_folded split.groups rule goal tables.folds is.groups board (λ k d within. same ∙ sym (is.of_grid k d within)) built.each;
}

-- ---- Tables of the same groups, for the same goal and costs, give the same sums; so do folded ones, whose sums are no greater.

-- two lists of tables of the same groups, where those of the first say no more
sums_no_more :
    {X Y : Type 0} (of : X → GroupModel) (of' : Y → GroupModel) (say : X → ℕ) (say' : Y → ℕ) (F : GroupModel → Type 0) (P : X → Type 0) (Q : Y → Type 0)
    → ((g : GroupModel) (x : X) (y : Y) → F g → of x ≡ g → of' y ≡ g → P x → Q y → say x ≤ say' y)
    → (groups : List GroupModel) (xs : List X) (ys : List Y)
    → map of xs ≡ groups
    → map of' ys ≡ groups
    → AllByRecursion F groups
    → AllByRecursion P xs
    → AllByRecursion Q ys
    → sum_by say xs ≤ sum_by say' ys
sums_no_more of of' say say' F P Q less [] [] [] is is' fits holds holds' = omega arith
sums_no_more of of' say say' F P Q less (g ∷ groups) [] ys is is' fits holds holds' = absurd (omega (arith, ap length is))
sums_no_more of of' say say' F P Q less [] (x ∷ xs) ys is is' fits holds holds' = absurd (omega (arith, ap length is))
sums_no_more of of' say say' F P Q less [] [] (y ∷ ys) is is' fits holds holds' = absurd (omega (arith, ap length is'))
sums_no_more of of' say say' F P Q less (g ∷ groups) (x ∷ xs) [] is is' fits holds holds' = absurd (omega (arith, ap length is'))
sums_no_more of of' say say' F P Q less (g ∷ groups) (x ∷ xs) (y ∷ ys) is is' fits holds holds' =
    let here = less g x y fits.0 (ap (λ (gs : List GroupModel). get_or gs 0 g) is) (ap (λ (gs : List GroupModel). get_or gs 0 g) is') holds.0 holds'.0 in
    let rest = sums_no_more of of' say say' F P Q less groups xs ys (ap (drop 1) is) (ap (drop 1) is') fits.1 holds.1 holds'.1 in
    let first = sum_by-cons say x xs in
    let first' = sum_by-cons say' y ys in
    omega arith

module _ (determined : ValuesAreDetermined) (rule : WeightsModel) (goal b : BoardModel) (board : IsBoard b) where
  -- what a table says of the board
  abbrev entry : TableModel → ℕ
  entry table = value_in table (view_of table.selection.tiles b)

  -- a table with the value of each view
  abbrev Holds : TableModel → Type 0
  Holds table = HoldsValues table rule goal

  -- a folded one
  abbrev Folds : FoldedModel → Type 0
  Folds fold = IsTrueFold rule goal fold

  -- a group of the board's grid
  record Fits (g : GroupModel) : Type 0 where
    group : AreGroupTiles g.grid g.tiles
    grid : g.grid ≡ b.grid

  -- what a group sees of the board
  seen : (g : GroupModel) → Fits g → IsView g.grid g.tiles (view_of g.tiles b)
  seen g fits =
      let group : AreGroupTiles b.grid g.tiles = subst (λ (grid : ShapeModel). AreGroupTiles grid g.tiles) fits.grid fits.group in
      subst (λ (grid : ShapeModel). IsView grid g.tiles (view_of g.tiles b)) (sym fits.grid) (board_view g.tiles b board group)

  -- what a table of a group says of a view is the view's value
  value_at : (g : GroupModel) (table : TableModel) (v : ViewModel) → table.selection ≡ g → HoldsValues table rule goal → IsView g.grid g.tiles v → IsValue (abstraction_of g rule) (view_of g.tiles goal) v (value_in table v)
  value_at g table v is holds = subst (λ (s : GroupModel). IsView s.grid s.tiles v → IsValue (abstraction_of s rule) (view_of s.tiles goal) v (value_in table v)) is (holds v)

  -- so two tables of a group say the same
  agree_at : (g : GroupModel) (one other : TableModel) (v : ViewModel) → one.selection ≡ g → other.selection ≡ g → HoldsValues one rule goal → HoldsValues other rule goal → IsView g.grid g.tiles v → value_in one v ≡ value_in other v
  agree_at g one other v is is' holds holds' view =
      determined (abstraction_of g rule) (view_of g.tiles goal) v (value_in one v) (value_in other v) (value_at g one v is holds view) (value_at g other v is' holds' view)

  -- n is the least that a table of the group says of the views with these cells
  record IsLeast (g : GroupModel) (table : TableModel) (v : ViewModel) (n : ℕ) : Type 0 where
    reached : (w : ViewModel) × IsView g.grid g.tiles w × (w.cells ≡ v.cells) × (value_in table w ≡ n)
    none_below : (w : ViewModel) → IsView g.grid g.tiles w → w.cells ≡ v.cells → n ≤ value_in table w

  least_at : (g : GroupModel) (table : TableModel) (fold : FoldedModel) (v : ViewModel) → table.selection ≡ g → IsFoldOf table fold → IsView g.grid g.tiles v → IsLeast g table v (folded_in fold v)
  least_at g table fold v is folded = subst (λ (s : GroupModel). IsView s.grid s.tiles v → IsLeast s table v (folded_in fold v)) is (λ view. let least = folded.least v view in record { reached = least.reached; none_below = least.none_below })

  -- the board's view by a table's group
  entry_at : (g : GroupModel) (table : TableModel) → table.selection ≡ g → entry table ≡ value_in table (view_of g.tiles b)
  entry_at g table is = ap (λ (s : GroupModel). value_in table (view_of s.tiles b)) is

  folded_at : (g : GroupModel) (fold : FoldedModel) → fold.selection ≡ g → value_for b fold ≡ folded_in fold (view_of g.tiles b)
  folded_at g fold is = ap (λ (s : GroupModel). folded_in fold (view_of s.tiles b)) is

  -- two tables of a group say the same of the board
  whole_less : (g : GroupModel) (one other : TableModel) → Fits g → one.selection ≡ g → other.selection ≡ g → Holds one → Holds other → entry one ≤ entry other
  whole_less g one other fits is is' holds holds' =
      let same = agree_at g one other (view_of g.tiles b) is is' holds holds' (seen g fits) in
      omega (arith, same, entry_at g one is, entry_at g other is')

  -- a folded one says no more
  fold_less : (g : GroupModel) (fold : FoldedModel) (table : TableModel) → Fits g → fold.selection ≡ g → table.selection ≡ g → Folds fold → Holds table → value_for b fold ≤ entry table
  fold_less g fold table fits is is' folds holds =
      let view = seen g fits in
      let from : folds.0.selection ≡ g = sym folds.1.selection ∙ is in
      let low = (least_at g folds.0 fold (view_of g.tiles b) from folds.1 view).none_below (view_of g.tiles b) view refl in
      let same = agree_at g folds.0 table (view_of g.tiles b) from is' folds.2 holds view in
      omega (arith, low, same, folded_at g fold is, entry_at g table is')

  -- and two folded ones say the same
  folds_less : (g : GroupModel) (one other : FoldedModel) → Fits g → one.selection ≡ g → other.selection ≡ g → Folds one → Folds other → value_for b one ≤ value_for b other
  folds_less g one other fits is is' folds folds' =
      let view = seen g fits in
      let from : folds.0.selection ≡ g = sym folds.1.selection ∙ is in
      let from' : folds'.0.selection ≡ g = sym folds'.1.selection ∙ is' in
      let least = least_at g folds.0 one (view_of g.tiles b) from folds.1 view in
      let reached = (least_at g folds'.0 other (view_of g.tiles b) from' folds'.1 view).reached in
      let low = least.none_below reached.0 reached.1 reached.2 in
      let same = agree_at g folds.0 folds'.0 reached.0 from from' folds.2 folds'.2 reached.1 in
      omega (arith, low, same, reached.3, folded_at g one is, folded_at g other is')

  -- all groups of a split fit, where the board is of its grid
  all_fit : (split : PartitionModel) → IsPartition split → b.grid ≡ split.grid → AllByRecursion Fits split.groups
  all_fit split is same = recursion_from_All Fits split.groups (λ k d within. record { group = (is.groups k d within).group; grid = is.of_grid k d within ∙ sym same })

  -- whole tables, where one list says no more than the other
  whole_no_more : (split : PartitionModel) (one other : BoundModel) → IsPartition split → AreBuilt split rule goal one → AreBuilt split rule goal other → b.grid ≡ split.grid → sum_by entry one.lookups ≤ sum_by entry other.lookups
  whole_no_more split one other is built built' same =
      sums_no_more (λ (table : TableModel). table.selection) (λ (table : TableModel). table.selection) entry entry Fits Holds Holds whole_less split.groups one.lookups other.lookups built.each.one_each built'.each.one_each
      (all_fit split is same)
      (recursion_from_All Holds one.lookups built.each.values)
      (recursion_from_All Holds other.lookups built'.each.values)

  folded_no_more : (split : PartitionModel) (folded whole : BoundModel) → IsPartition split → AreBuiltFolded split rule goal folded → AreBuilt split rule goal whole → b.grid ≡ split.grid → sum_by (value_for b) folded.folds ≤ sum_by entry whole.lookups
  folded_no_more split folded whole is built built' same =
      sums_no_more (λ (fold : FoldedModel). fold.selection) (λ (table : TableModel). table.selection) (value_for b) entry Fits Folds Holds fold_less split.groups folded.folds whole.lookups built.each.one_each built'.each.one_each
      (all_fit split is same)
      (recursion_from_All Folds folded.folds built.each.values)
      (recursion_from_All Holds whole.lookups built'.each.values)

  folds_no_more : (split : PartitionModel) (one other : BoundModel) → IsPartition split → AreBuiltFolded split rule goal one → AreBuiltFolded split rule goal other → b.grid ≡ split.grid → sum_by (value_for b) one.folds ≤ sum_by (value_for b) other.folds
  folds_no_more split one other is built built' same =
      sums_no_more (λ (fold : FoldedModel). fold.selection) (λ (fold : FoldedModel). fold.selection) (value_for b) (value_for b) Fits Folds Folds folds_less split.groups one.folds other.folds built.each.one_each built'.each.one_each
      (all_fit split is same)
      (recursion_from_All Folds one.folds built.each.values)
      (recursion_from_All Folds other.folds built'.each.values)

-- the sum of whole tables is that of what each says, and so is that of folded ones
whole_sum : (tables : BoundModel) (b : BoardModel) → AreWhole tables → sum_by (λ table. value_in table (view_of table.selection.tiles b)) tables.lookups ≡ sum_of (parts_of tables) b
whole_sum tables b whole = tables_sum tables.lookups b ∙ ap (λ (ps : List Part). sum_of ps b) (sym (whole_parts tables whole))

folded_sum : (tables : BoundModel) (b : BoardModel) → tables.lookups ≡ [] → sum_by (value_for b) tables.folds ≡ sum_of (parts_of tables) b
folded_sum tables b folded = folds_sum tables.folds b ∙ ap (λ (ps : List Part). sum_of ps b) (sym (all_folded_parts tables folded))

-- the sums are the same
pub sums_agree : ValuesAreDetermined → (split : PartitionModel) (rule : WeightsModel) (goal : BoardModel) (one other : BoundModel) → IsPartition split → AreBuilt split rule goal one → AreBuilt split rule goal other → (b : BoardModel) → IsBoard b → b.grid ≡ split.grid → sum_of (parts_of one) b ≡ sum_of (parts_of other) b
sums_agree determined split rule goal one other is built built' b board same =
    let least = whole_no_more determined rule goal b board split one other is built built' same in
    let least' = whole_no_more determined rule goal b board split other one is built' built same in
    omega (arith, least, least', whole_sum one b built.whole, whole_sum other b built'.whole)

-- those of folded tables too
pub folded_sums_agree : ValuesAreDetermined → (split : PartitionModel) (rule : WeightsModel) (goal : BoardModel) (one other : BoundModel) → IsPartition split → AreBuiltFolded split rule goal one → AreBuiltFolded split rule goal other → (b : BoardModel) → IsBoard b → b.grid ≡ split.grid → sum_of (parts_of one) b ≡ sum_of (parts_of other) b
folded_sums_agree determined split rule goal one other is built built' b board same =
    let least = folds_no_more determined rule goal b board split one other is built built' same in
    let least' = folds_no_more determined rule goal b board split other one is built' built same in
    omega (arith, least, least', folded_sum one b built.folded, folded_sum other b built'.folded)

-- and these are no greater than those of whole ones
pub folded_sums_low : ValuesAreDetermined → (split : PartitionModel) (rule : WeightsModel) (goal : BoardModel) (whole folded : BoundModel) → IsPartition split → AreBuilt split rule goal whole → AreBuiltFolded split rule goal folded → (b : BoardModel) → IsBoard b → b.grid ≡ split.grid → sum_of (parts_of folded) b ≤ sum_of (parts_of whole) b
folded_sums_low determined split rule goal whole folded is built built' b board same =
    let low = folded_no_more determined rule goal b board split folded whole is built' built same in
    omega (arith, low, whole_sum whole b built.whole, folded_sum folded b built'.folded)
