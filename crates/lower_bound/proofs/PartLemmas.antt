-- How values are kept by groups, and which tiles a move leaves where they were.
use Rattle.std.proofs.Common.{◌≡◌, ◌⊎◌, ℕ, zero, suc, ◌+◌, ◌≤◌, true, false, eqb, List, [], ◌∷◌, get_or, refl, sym, ap, ◌∙◌, subst, inl, inr, ⊎_elim, arith, ◌<◌, map, length, ◌++◌, ◌≢◌, take, drop, set, cond}
use Rattle.std.specs.Prelude.{All, AllPairs, Contains, sum_by, slice_index}
use Rattle.std.specs.List.{AllByRecursion}
use Rattle.std.proofs.lemmas.List.{length-map, get_or-map, append-nil}
use Rattle.std.proofs.lemmas.List.Sums.{sum_by-cons}
use Rattle.std.proofs.lemmas.Bool.{cases_Bool, eqb-true, eqb-false, cond-false, ne_eqb}
use Rattle.std.proofs.lemmas.List.Elements.{recursion_from_All, All-map, All-from_recursion}
use Rattle.board.specs.Shapes.{ShapeModel, cell_count}
use Rattle.board.specs.Boards.{BoardModel, IsBoard, blank_of, cell_of}
use Rattle.board.proofs.TileLemmas.{has_cell}
use Rattle.pattern_index.specs.Ranks.{rank_of}
use Rattle.pattern_index.specs.Groups.{AreGroupTiles, GroupModel, IsGroup, IsTile}
use Rattle.pattern_index.specs.Partitions.{ShareNoTile, PartitionModel, IsPartition, AreApart}
use Rattle.pattern_index.proofs.ViewMoveLemmas.{board_view, seen_move}
use Rattle.database_build.specs.Folds.{FoldedModel, IsFoldOf, folded_in}
use Rattle.lower_bound.specs.Folded.{AreFolded, AreFoldsOf, IsFoldedPotential, folded_parts, part_folded, value_for, AreFoldedPotentials, KeepsOtherTiles, values_of}
use Rattle.lower_bound.specs.Laws.{FoldedSumsAreLowerBounds, ListedTablesAreOneEach, WholeTablesAreBounds, FoldedBoundsSayNoMore, FoldedBoundsKeepGroups, FoldedBoundsAreTables, MovesMoveOneTile}
use Rattle.board.specs.declared.moves.Move.{Move}
use Rattle.board.specs.Weights.{WeightsModel}
use Rattle.board.specs.Moves.{Moves}
use Rattle.board.specs.Plans.{Leads, NothingBelow}
use Rattle.board.specs.Rows.{IsLowerBound}
use Rattle.board.proofs.MoveLemmas.{moved_board}
use Rattle.pattern_index.specs.Views.{IsView, ViewMoves, view_of}
use Rattle.database_build.specs.Tables.{IsPotential, TableModel, value_in}
use Rattle.lower_bound.specs.Bounds.{Part, IsBound, sum_of}
use Rattle.lower_bound.specs.Tables.{AreTablesOf, part_of, BoundModel, IsTables, ArePotentials, AreWhole, parts_of}
use Rattle.lower_bound.specs.Lists.{IsFoldedBound}

-- ---- how values are kept by groups

-- the first i of some numbers, and behind them what is left of others
abbrev pub mixed : ℕ → List ℕ → List ℕ → List ℕ
mixed i news olds = take i news ++ drop i olds

-- one number more, which is the same in both
mixed_kept : (i : ℕ) (news olds : List ℕ) → i < length news → i < length olds → get_or olds i 0 ≡ get_or news i 0 → mixed i news olds ≡ mixed (suc i) news olds
mixed_kept i [] olds n_in o_in e = absurd (omega arith)
mixed_kept i (x ∷ ns) [] n_in o_in e = absurd (omega arith)
mixed_kept zero (x ∷ ns) (y ∷ os) n_in o_in e = λ j. e j ∷ os
mixed_kept (suc i) (x ∷ ns) (y ∷ os) n_in o_in e = ap (λ (zs : List ℕ). x ∷ zs) (mixed_kept i ns os (omega arith) (omega arith) e)

-- or which is set
mixed_set : (i : ℕ) (news olds : List ℕ) → i < length news → i < length olds → set (mixed i news olds) i (get_or news i 0) ≡ mixed (suc i) news olds
mixed_set i [] olds n_in o_in = absurd (omega arith)
mixed_set i (x ∷ ns) [] n_in o_in = absurd (omega arith)
mixed_set zero (x ∷ ns) (y ∷ os) n_in o_in = refl
mixed_set (suc i) (x ∷ ns) (y ∷ os) n_in o_in = ap (λ (zs : List ℕ). x ∷ zs) (mixed_set i ns os (omega arith) (omega arith))

-- tiles that didn't move are where they were
same_places : (before b : BoardModel) (tile : ℕ) (tiles : List ℕ) → KeepsOtherTiles before b tile → AllByRecursion (IsTile b.grid) tiles → ¬ Contains tiles tile → map (cell_of before) tiles ≡ map (cell_of b) tiles
same_places before b tile [] is all without = refl
same_places before b tile (x ∷ xs) is all without =
    let here : cell_of before x ≡ cell_of b x = is x all.0.0 all.0.1 (λ e. without (0, omega arith, e)) in
    let rest = same_places before b tile xs is all.1 (λ within. without (suc within.0, omega (arith, within.1), within.2)) in
    λ j. here j ∷ rest j

-- so a folded value of a group without the tile stays
pub value_stays : (before b : BoardModel) (tile : ℕ) (fold : FoldedModel) → KeepsOtherTiles before b tile → AllByRecursion (IsTile b.grid) fold.selection.tiles → ¬ Contains fold.selection.tiles tile → value_for before fold ≡ value_for b fold
value_stays before b tile fold is all without =
    ap (λ (cells : List ℕ). slice_index fold.least (rank_of (cell_count fold.selection.grid) cells)) (same_places before b tile fold.selection.tiles is all without)

-- the values of a board are those of its tables
pub values_are : (folds : List FoldedModel) (b : BoardModel) → values_of (folded_parts folds) b ≡ map (value_for b) folds
values_are [] b = refl
values_are (fold ∷ folds) b = ap (λ (ns : List ℕ). value_for b fold ∷ ns) (values_are folds b)

module _ (before b : BoardModel) (folds : List FoldedModel) (i : ℕ) (d : FoldedModel) (values olds : List ℕ) (old : olds ≡ map (value_for before) folds) (i_in : i < length folds) (so_far : values ≡ mixed i (map (value_for b) folds) olds) where
  now : get_or (map (value_for b) folds) i 0 ≡ value_for b (get_or folds i d)
  now = get_or-map (value_for b) folds i d 0 i_in

  -- the value of a group without the tile is kept
  pub renewed_kept : (tile : ℕ) → KeepsOtherTiles before b tile → AllByRecursion (IsTile b.grid) (get_or folds i d).selection.tiles → ¬ Contains (get_or folds i d).selection.tiles tile → values ≡ mixed (i + 1) (map (value_for b) folds) olds
  renewed_kept tile is all without =
      let stays = value_stays before b tile (get_or folds i d) is all without in
      let was : get_or olds i 0 ≡ value_for before (get_or folds i d) = ap (λ (xs : List ℕ). get_or xs i 0) old ∙ get_or-map (value_for before) folds i d 0 i_in in
      let long : length (map (value_for b) folds) ≡ length folds = length-map folds (value_for b) in
      let long' : length olds ≡ length folds = ap length old ∙ length-map folds (value_for before) in
      let one : suc i ≡ i + 1 = omega arith in
      so_far ∙ mixed_kept i (map (value_for b) folds) olds (omega arith) (omega arith) (was ∙ stays ∙ sym now) ∙ ap (λ k. mixed k (map (value_for b) folds) olds) one

  -- that of the group with the tile is set
  pub renewed_set : (n : ℕ) → n ≡ value_for b (get_or folds i d) → set values i n ≡ mixed (i + 1) (map (value_for b) folds) olds
  renewed_set n value =
      let long : length (map (value_for b) folds) ≡ length folds = length-map folds (value_for b) in
      let long' : length olds ≡ length folds = ap length old ∙ length-map folds (value_for before) in
      let one : suc i ≡ i + 1 = omega arith in
      let both : n ≡ get_or (map (value_for b) folds) i 0 = value ∙ sym now in
      (λ j. set (so_far j) i (both j)) ∙ mixed_set i (map (value_for b) folds) olds (omega arith) (omega arith) ∙ ap (λ k. mixed k (map (value_for b) folds) olds) one

-- ---- a move leaves all tiles but one where they were

pub moves_one : MovesMoveOneTile
moves_one rule b m b' c board moves n some lt ne =
    let grid : b'.grid ≡ b.grid = ap (λ (x : BoardModel). x.grid) moves.after in
    let low : n < cell_count b.grid = subst (λ (g : ShapeModel). n < cell_count g) grid lt in
    let group : AreGroupTiles b.grid (n ∷ []) = record { tiles = All-from_recursion (λ t. IsTile b.grid t) (n ∷ []) ((some, low), tt); different = λ i j d i_lt j_in. absurd (omega arith) } in
    let step = seen_move rule (n ∷ []) b m b' c board group moves in
    let e : cell_of b' n ≡ cond (eqb (cell_of b n) (blank_of b')) (blank_of b) (cell_of b n) = ap (λ (xs : List ℕ). get_or xs 0 0) step.1.exchanged in
    let apart : cell_of b n ≢ blank_of b' = λ same. ne (sym (has_cell b board n low).1 ∙ ap (λ k. get_or b.tiles k 0) same) in
    sym (e ∙ cond-false (eqb (cell_of b n) (blank_of b')) (blank_of b) (cell_of b n) (ne_eqb (cell_of b n) (blank_of b') apart))

-- ---- Why sums of values over groups that share no tile are lower bounds, and so tables of a partition are a bound, whole or folded.

-- ---- why sums of values over groups that share no tile are lower bounds

AllPairs-head : {X : Type 0} (P : X → X → Type 0) (x : X) (xs : List X) → AllPairs P (x ∷ xs) → All (P x) xs
AllPairs-head P x xs pairs k d k_in = pairs 0 (suc k) d (omega arith) (omega arith)

AllPairs-tail : {X : Type 0} (P : X → X → Type 0) (x : X) (xs : List X) → AllPairs P (x ∷ xs) → AllPairs P xs
AllPairs-tail P x xs pairs i j d lt j_in = pairs (suc i) (suc j) d (omega arith) (omega arith)

-- a number is among some, or it isn't
among : (xs : List ℕ) (y : ℕ) → Contains xs y ⊎ (¬ Contains xs y)
among [] y = inr (λ within. omega (arith, within.1))
among (x ∷ xs) y =
    ⊎_elim (λ (same : eqb x y ≡ true). inl (0, omega arith, eqb-true x y same))
    (λ (other : eqb x y ≡ false).
    ⊎_elim (λ (within : Contains xs y). inl (suc within.0, omega (arith, within.1), within.2)) (λ (without : ¬ Contains xs y). inr (λ h. without (rest h (eqb-false x y other)))) (among xs y))
    (cases_Bool (eqb x y))
  where
    rest : Contains (x ∷ xs) y → ¬ (x ≡ y) → Contains xs y
    rest (zero, within, is) other = absurd (other is)
    rest (suc k, within, is) other = (k, omega (arith, within), is)

-- one move of a board
module _ (rule : WeightsModel) (goal b : BoardModel) (board : IsBoard b) (same : b.grid ≡ goal.grid) (m : Move) (b' : BoardModel) (c : ℕ) (moves : Moves rule b m b' c) where
  -- the tile that it moves
  moved : ℕ
  moved = get_or b.tiles (blank_of b') 0

  abbrev IsGroupOf : Part → Type 0
  IsGroupOf part = AreGroupTiles goal.grid part.tiles

  abbrev IsSlow : Part → Type 0
  IsSlow part = IsPotential rule part.tiles goal part.value

  abbrev here : Part → ℕ
  here part = part.value (view_of part.tiles b)

  abbrev there : Part → ℕ
  there part = part.value (view_of part.tiles b')

  -- a group's value falls by the move's cost at most where the tile is its own, and else not at all
  value_falls : (part : Part) → IsGroupOf part → IsSlow part → (seen : ℕ) × (here part ≤ seen + there part) × (Contains part.tiles moved → seen ≡ c) × (¬ Contains part.tiles moved → seen ≡ 0)
  unfolding moved
  value_falls part is_group slow =
      let group : AreGroupTiles b.grid part.tiles = subst (λ (g : ShapeModel). AreGroupTiles g part.tiles) (sym same) is_group in
      let view = subst (λ (g : ShapeModel). IsView g part.tiles (view_of part.tiles b)) same (board_view part.tiles b board group) in
      let step = seen_move rule part.tiles b m b' c board group moves in
      let step' = subst (λ (g : ShapeModel). ViewMoves (record { grid = g; rule = rule; tiles = part.tiles }) (view_of part.tiles b) m (view_of part.tiles b') step.0) same step.1 in
      (step.0, slow.falls_slowly (view_of part.tiles b) m (view_of part.tiles b') step.0 view step', step.2, step.3)

  -- where no group has the tile, the sum doesn't fall
  sum_stays : (parts : List Part) → AllByRecursion IsGroupOf parts → AllByRecursion IsSlow parts → AllByRecursion (λ part. ¬ Contains part.tiles moved) parts → sum_by here parts ≤ sum_by there parts
  sum_stays [] groups slow without = omega arith
  sum_stays (part ∷ parts) groups slow without =
      let falls = value_falls part groups.0 slow.0 in
      let rest = sum_stays parts groups.1 slow.1 without.1 in
      let before = sum_by-cons here part parts in
      let after = sum_by-cons there part parts in
      omega (arith, falls.1, falls.3 without.0)

  others_without : (xs : List ℕ) (parts : List Part) → Contains xs moved → AllByRecursion (λ q. ShareNoTile xs q.tiles) parts → AllByRecursion (λ part. ¬ Contains part.tiles moved) parts
  others_without xs [] within apart = tt
  others_without xs (part ∷ parts) within apart = (apart.0 moved within, others_without xs parts within apart.1)

  -- one group at most has the tile, so the sum falls by the move's cost at most
  sum_falls : (parts : List Part) → AllByRecursion IsGroupOf parts → AllByRecursion IsSlow parts → AllPairs (λ p q. ShareNoTile p.tiles q.tiles) parts → sum_by here parts ≤ c + sum_by there parts
  sum_falls [] groups slow apart = omega arith
  sum_falls (part ∷ parts) groups slow apart =
      let falls = value_falls part groups.0 slow.0 in
      let before = sum_by-cons here part parts in
      let after = sum_by-cons there part parts in
      ⊎_elim
      (λ (within : Contains part.tiles moved).
      let others = recursion_from_All (λ q. ShareNoTile part.tiles q.tiles) parts (AllPairs-head (λ p q. ShareNoTile p.tiles q.tiles) part parts apart) in
      let rest = sum_stays parts groups.1 slow.1 (others_without part.tiles parts within others) in
      omega (arith, falls.1, falls.2 within))
      (λ (without : ¬ Contains part.tiles moved).
      let rest = sum_falls parts groups.1 slow.1 (AllPairs-tail (λ p q. ShareNoTile p.tiles q.tiles) part parts apart) in
      omega (arith, falls.1, falls.3 without))
      (among part.tiles moved)

-- at the goal the sum is 0
sum_at_goal : (rule : WeightsModel) (goal : BoardModel) (parts : List Part) → AllByRecursion (λ part. IsPotential rule part.tiles goal part.value) parts → sum_of parts goal ≡ 0
sum_at_goal rule goal [] slow = refl
sum_at_goal rule goal (part ∷ parts) slow =
    let rest = sum_at_goal rule goal parts slow.1 in
    let here = slow.0.at_goal in
    let all = sum_by-cons (λ p. p.value (view_of p.tiles goal)) part parts in
    omega arith

-- a plan leads to a board of the same sides
pub led_grid : (rule : WeightsModel) (b : BoardModel) (plan : List Move) (q : BoardModel) (k : ℕ) → Leads rule b plan q k → q.grid ≡ b.grid
led_grid rule b [] q k leads = ap (λ (x : BoardModel). x.grid) leads.0
led_grid rule b (m ∷ plan) q k leads = led_grid rule leads.0 plan q leads.2 leads.4 ∙ ap (λ (x : BoardModel). x.grid) leads.3.after

sum_bounds : (rule : WeightsModel) (goal : BoardModel) (parts : List Part) → IsBound rule goal parts → (b : BoardModel) → IsBoard b → (plan : List Move) (k : ℕ) → Leads rule b plan goal k → sum_of parts b ≤ k
sum_bounds rule goal parts bound b board [] k leads =
    let none = sum_at_goal rule goal parts (recursion_from_All (λ part. IsPotential rule part.tiles goal part.value) parts bound.potentials) in
    let same : sum_of parts goal ≡ sum_of parts b = ap (sum_of parts) leads.0 in
    omega arith
sum_bounds rule goal parts bound b board (m ∷ plan) k leads =
    let next = moved_board rule b board m leads.0 leads.1 leads.3 in
    let rest = sum_bounds rule goal parts bound leads.0 next plan leads.2 leads.4 in
    let falls = sum_falls rule goal b board (sym (led_grid rule b (m ∷ plan) goal k leads)) m leads.0 leads.1 leads.3 parts (recursion_from_All (λ part. AreGroupTiles goal.grid part.tiles) parts bound.groups)
    (recursion_from_All (λ part. IsPotential rule part.tiles goal part.value) parts bound.potentials) bound.apart in
    omega (arith, leads.5)

pub sums_are_bounds : (rule : WeightsModel) (goal : BoardModel) (parts : List Part) → IsBound rule goal parts → IsLowerBound rule (sum_of parts) goal
sums_are_bounds rule goal parts bound b board = sum_bounds rule goal parts bound b board

-- ---- why whole tables of a partition are a bound

-- what holds of each group holds of each of those that have one
pub of_each : {X : Type 0} (selection : X → GroupModel) (P : GroupModel → Type 0) (groups : List GroupModel) (xs : List X) → map selection xs ≡ groups → All P groups → All (λ x. P (selection x)) xs
of_each {X = X} selection P groups xs is all k d k_in =
    let count : length (map selection xs) ≡ length xs = length-map xs selection in
    let count' : length (map selection xs) ≡ length groups = ap length is in
    let holds : P (get_or groups k (selection d)) = all k (selection d) (omega arith) in
    let at : get_or groups k (selection d) ≡ selection (get_or xs k d) = ap (λ (gs : List GroupModel). get_or gs k (selection d)) (sym is) ∙ get_or-map selection xs k d (selection d) k_in in
    subst P at holds

-- of each table's
pub of_tables : (P : GroupModel → Type 0) (groups : List GroupModel) (lookups : List TableModel) → AreTablesOf groups lookups → All P groups → All (λ table. P table.selection) lookups
of_tables P groups lookups is all = of_each (λ (table : TableModel). table.selection) P groups lookups is all

-- the default for the table at a place past the end
abbrev nothing : TableModel
nothing = record { selection = record { grid = record { rows = 0; cols = 0 }; tiles = [] }; values = [] }

-- the groups of tables share no tile
tables_apart : (groups : List GroupModel) (lookups : List TableModel) → AreTablesOf groups lookups → AreApart groups → AllPairs (λ p q. ShareNoTile p.tiles q.tiles) (map part_of lookups)
tables_apart groups lookups is apart i j d lt j_in =
    let count : length (map part_of lookups) ≡ length lookups = length-map lookups part_of in
    let count' : length (map (λ (table : TableModel). table.selection) lookups) ≡ length lookups = length-map lookups (λ (table : TableModel). table.selection) in
    let count'' : length (map (λ (table : TableModel). table.selection) lookups) ≡ length groups = ap length is in
    let share : ShareNoTile (get_or groups i nothing.selection).tiles (get_or groups j nothing.selection).tiles = apart i j nothing.selection lt (omega arith) in
    subst (λ (ts : List ℕ). ShareNoTile ts (get_or (map part_of lookups) j d).tiles) (tiles_at i (omega arith))
    (subst (λ (ts : List ℕ). ShareNoTile (get_or groups i nothing.selection).tiles ts) (tiles_at j (omega arith)) share)
  where
    tiles_at : (k : ℕ) → k < length lookups → (get_or groups k nothing.selection).tiles ≡ (get_or (map part_of lookups) k d).tiles
    tiles_at k k_in =
        ap (λ (gs : List GroupModel). (get_or gs k nothing.selection).tiles) (sym is)
        ∙ ap (λ (g : GroupModel). g.tiles) (get_or-map (λ (table : TableModel). table.selection) lookups k nothing nothing.selection k_in)
        ∙ sym (ap (λ (p : Part). p.tiles) (get_or-map part_of lookups k nothing d k_in))

-- where each is a potential, they are a bound
bound_of_whole : (rule : WeightsModel) (goal : BoardModel) (split : PartitionModel) (lookups : List TableModel) → IsPartition split → AreTablesOf split.groups lookups → goal.grid ≡ split.grid → All (λ table. IsPotential rule table.selection.tiles goal (value_in table)) lookups → IsBound rule goal (map part_of lookups)
bound_of_whole rule goal split lookups is each same potentials = record {
  groups = All-map (λ part. AreGroupTiles goal.grid part.tiles) part_of lookups groups;
  apart = tables_apart split.groups lookups each is.apart;
  potentials = All-map (λ part. IsPotential rule part.tiles goal part.value) part_of lookups potentials;
}
  where
    groups : All (λ table. AreGroupTiles goal.grid table.selection.tiles) lookups
    groups k d k_in =
        let g = (of_tables (λ h. IsGroup h) split.groups lookups each is.groups k d k_in).group in
        let at = of_tables (λ h. h.grid ≡ split.grid) split.groups lookups each is.of_grid k d k_in in
        subst (λ (grid : ShapeModel). AreGroupTiles grid (get_or lookups k d).selection.tiles) (at ∙ sym same) g

-- so their sum is a lower bound
pub whole_bound : (rule : WeightsModel) (goal : BoardModel) (split : PartitionModel) (lookups : List TableModel) → IsPartition split → AreTablesOf split.groups lookups → goal.grid ≡ split.grid → All (λ table. IsPotential rule table.selection.tiles goal (value_in table)) lookups → IsLowerBound rule (sum_of (map part_of lookups)) goal
whole_bound rule goal split lookups is each same potentials = sums_are_bounds rule goal (map part_of lookups) (bound_of_whole rule goal split lookups is each same potentials)

-- what tables say of a board adds up to its sum
pub tables_sum : (lookups : List TableModel) (b : BoardModel) → sum_by (λ table. value_in table (view_of table.selection.tiles b)) lookups ≡ sum_of (map part_of lookups) b
tables_sum [] b = refl
tables_sum (table ∷ lookups) b =
    let rest = tables_sum lookups b in
    let first = sum_by-cons (λ (t : TableModel). value_in t (view_of t.selection.tiles b)) table lookups in
    let first' = sum_by-cons (λ (p : Part). p.value (view_of p.tiles b)) (part_of table) (map part_of lookups) in
    omega arith

-- ---- why sums of folded values are lower bounds

-- a group of the grid of boards
abbrev Fits : ShapeModel → GroupModel → Type 0
Fits grid g = IsGroup g × (g.grid ≡ grid)

-- what holds of each group holds of each folded table's
of_folds : (P : GroupModel → Type 0) (groups : List GroupModel) (folds : List FoldedModel) → AreFoldsOf groups folds → AllByRecursion P groups → AllByRecursion (λ fold. P fold.selection) folds
of_folds P groups folds is all = over folds (subst (λ gs. AllByRecursion P gs) (sym is) all)
  where
    over : (xs : List FoldedModel) → AllByRecursion P (map (λ (fold : FoldedModel). fold.selection) xs) → AllByRecursion (λ fold. P fold.selection) xs
    over [] all = tt
    over (x ∷ xs) all = (all.0, over xs all.1)

-- the tables that some were folded from
record BeforeFolding (rule : WeightsModel) (goal : BoardModel) (grid : ShapeModel) (folds : List FoldedModel) : Type 0 where
  lookups : List TableModel
  selections : map (λ table. table.selection) lookups ≡ map (λ fold. fold.selection) folds
  potentials : AllByRecursion (λ table. IsPotential rule table.selection.tiles goal (value_in table)) lookups
  low : (b : BoardModel) → IsBoard b → b.grid ≡ grid → sum_of (map part_folded folds) b ≤ sum_of (map part_of lookups) b

-- a folded value is no more than the value of a board's view
fold_low : (table : TableModel) (fold : FoldedModel) (b : BoardModel) → IsFoldOf table fold → IsBoard b → Fits b.grid fold.selection → folded_in fold (view_of fold.selection.tiles b) ≤ value_in table (view_of table.selection.tiles b)
fold_low table fold b is board fits =
    let same = is.selection in
    let group : AreGroupTiles b.grid table.selection.tiles = subst (λ (g : GroupModel). AreGroupTiles b.grid g.tiles) same (subst (λ (grid : ShapeModel). AreGroupTiles grid fold.selection.tiles) fits.1 fits.0.group) in
    let grid : b.grid ≡ table.selection.grid = sym fits.1 ∙ ap (λ (g : GroupModel). g.grid) same in
    let view : IsView table.selection.grid table.selection.tiles (view_of table.selection.tiles b) = subst (λ (g : ShapeModel). IsView g table.selection.tiles (view_of table.selection.tiles b)) grid (board_view table.selection.tiles b board group) in
    let low = (is.least (view_of table.selection.tiles b) view).none_below (view_of table.selection.tiles b) view refl in
    let at : folded_in fold (view_of fold.selection.tiles b) ≡ folded_in fold (view_of table.selection.tiles b) = ap (λ (g : GroupModel). folded_in fold (view_of g.tiles b)) same in
    omega arith

whole_of : (rule : WeightsModel) (goal : BoardModel) (grid : ShapeModel) (folds : List FoldedModel) → AllByRecursion (λ fold. Fits grid fold.selection) folds → AllByRecursion (λ fold. IsFoldedPotential rule goal fold) folds → BeforeFolding rule goal grid folds
whole_of rule goal grid [] fits slow = record { lookups = []; selections = refl; potentials = tt; low = λ b board same. omega arith }
whole_of rule goal grid (fold ∷ folds) fits slow =
    let rest = whole_of rule goal grid folds fits.1 slow.1 in
    let table = slow.0.0 in
    record {
      lookups = table ∷ rest.lookups;
      selections = λ i. sym slow.0.1.selection i ∷ rest.selections i;
      potentials = (slow.0.2, rest.potentials);
      low = λ b board same.
          let here = fold_low table fold b slow.0.1 board (fits.0.0, fits.0.1 ∙ sym same) in
          let behind = rest.low b board same in
          let first = sum_by-cons (λ (p : Part). p.value (view_of p.tiles b)) (part_folded fold) (map part_folded folds) in
          let first' = sum_by-cons (λ (p : Part). p.value (view_of p.tiles b)) (part_of table) (map part_of rest.lookups) in
          omega arith;
    }

-- no plan costs less than a folded sum: it is no more than that of the tables
pub folded_sums_below : FoldedSumsAreLowerBounds
folded_sums_below rule goal split folds is same each slow b board plan k leads =
    let groups : AllByRecursion (λ g. Fits split.grid g) split.groups = recursion_from_All (λ g. Fits split.grid g) split.groups (λ i d i_in. (is.groups i d i_in, is.of_grid i d i_in)) in
    let made = whole_of rule goal split.grid folds (of_folds (λ g. Fits split.grid g) split.groups folds each groups) (recursion_from_All (λ fold. IsFoldedPotential rule goal fold) folds slow) in
    let potentials = All-from_recursion (λ table. IsPotential rule table.selection.tiles goal (value_in table)) made.lookups made.potentials in
    let grid : b.grid ≡ split.grid = sym (led_grid rule b plan goal k leads) ∙ same in
    let low = made.low b board grid in
    let bound = whole_bound rule goal split made.lookups is (made.selections ∙ each) same potentials b board plan k leads in
    omega arith

-- what folded tables say of a board adds up to no more than what those say that they were folded from
pub folds_low : (b : BoardModel) (tables : List TableModel) (folds : List FoldedModel) → IsBoard b → AreFolded tables folds → AllByRecursion (λ table. IsGroup table.selection × (table.selection.grid ≡ b.grid)) tables → sum_of (folded_parts folds) b ≤ sum_of (map part_of tables) b
folds_low b [] [] board is fits = omega arith
folds_low b [] (f ∷ folds) board is fits = absurd is
folds_low b (t ∷ tables) [] board is fits = absurd is
folds_low b (t ∷ tables) (f ∷ folds) board is fits =
    let first = fold_low t f b is.0 board (subst (λ (g : GroupModel). Fits b.grid g) (sym is.0.selection) fits.0) in
    let rest = folds_low b tables folds board is.1 fits.1 in
    let before = sum_by-cons (λ (p : Part). p.value (view_of p.tiles b)) (part_folded f) (folded_parts folds) in
    let after = sum_by-cons (λ (p : Part). p.value (view_of p.tiles b)) (part_of t) (map part_of tables) in
    omega (arith, first, rest, before, after)

-- what folded tables say of a board adds up to its sum
pub folds_sum : (folds : List FoldedModel) (b : BoardModel) → sum_by (value_for b) folds ≡ sum_of (folded_parts folds) b
folds_sum [] b = refl
folds_sum (fold ∷ folds) b =
    let rest = folds_sum folds b in
    let first = sum_by-cons (value_for b) fold folds in
    let first' = sum_by-cons (λ (p : Part). p.value (view_of p.tiles b)) (part_folded fold) (folded_parts folds) in
    omega arith

-- one more table is folded
pub folded_more : (tables : List TableModel) (folds : List FoldedModel) (table : TableModel) (fold : FoldedModel) → AreFolded tables folds → IsFoldOf table fold → AreFolded (tables ++ table ∷ []) (folds ++ fold ∷ [])
folded_more [] [] table fold is one = (one, tt)
folded_more [] (f ∷ folds) table fold is one = absurd is
folded_more (t ∷ tables) [] table fold is one = absurd is
folded_more (t ∷ tables) (f ∷ folds) table fold is one = (is.0, folded_more tables folds table fold is.1 one)

-- folded tables have the groups of the tables
pub folded_groups : (tables : List TableModel) (folds : List FoldedModel) → AreFolded tables folds → map (λ (fold : FoldedModel). fold.selection) folds ≡ map (λ (table : TableModel). table.selection) tables
folded_groups [] [] is = refl
folded_groups [] (f ∷ folds) is = absurd is
folded_groups (t ∷ tables) [] is = absurd is
folded_groups (t ∷ tables) (f ∷ folds) is = let rest = folded_groups tables folds is.1 in λ i. is.0.selection i ∷ rest i

-- tables that are folded from potentials
fold_potentials : (rule : WeightsModel) (goal : BoardModel) (tables : List TableModel) (folds : List FoldedModel) → AreFolded tables folds → AllByRecursion (λ table. IsPotential rule table.selection.tiles goal (value_in table)) tables → AllByRecursion (λ fold. IsFoldedPotential rule goal fold) folds
fold_potentials rule goal [] [] is all = tt
fold_potentials rule goal [] (f ∷ folds) is all = absurd is
fold_potentials rule goal (t ∷ tables) [] is all = absurd is
fold_potentials rule goal (t ∷ tables) (f ∷ folds) is all = ((t, is.0, all.0), fold_potentials rule goal tables folds is.1 all.1)

pub folds_of_potentials : (rule : WeightsModel) (goal : BoardModel) (tables : List TableModel) (folds : List FoldedModel) → AreFolded tables folds → All (λ table. IsPotential rule table.selection.tiles goal (value_in table)) tables → All (λ fold. IsFoldedPotential rule goal fold) folds
folds_of_potentials rule goal tables folds is all =
    All-from_recursion (λ fold. IsFoldedPotential rule goal fold) folds (fold_potentials rule goal tables folds is (recursion_from_All (λ table. IsPotential rule table.selection.tiles goal (value_in table)) tables all))

-- ---- why tables of a partition, whole or folded, are a bound

none : {X : Type 0} (P : X → Type 0) (xs : List X) → xs ≡ [] → All P xs
none P xs same k d k_in = let long : length xs ≡ 0 = ap length same in absurd (omega arith)

-- what holds of each group holds of each whole table's
pub each_lookup : (P : GroupModel → Type 0) (tables : BoundModel) → IsTables tables → All P tables.split.groups → All (λ table. P table.selection) tables.lookups
each_lookup P tables is all =
    ⊎_elim (λ (whole : AreTablesOf tables.split.groups tables.lookups × AreWhole tables). of_tables P tables.split.groups tables.lookups whole.0 all)
    (λ (folded : AreFoldsOf tables.split.groups tables.folds × (tables.lookups ≡ [])). none (λ (table : TableModel). P table.selection) tables.lookups folded.1)
    is.one_each

-- and of each folded one's
pub each_fold : (P : GroupModel → Type 0) (tables : BoundModel) → IsTables tables → All P tables.split.groups → All (λ fold. P fold.selection) tables.folds
each_fold P tables is all =
    ⊎_elim (λ (whole : AreTablesOf tables.split.groups tables.lookups × AreWhole tables). none (λ (fold : FoldedModel). P fold.selection) tables.folds whole.1)
    (λ (folded : AreFoldsOf tables.split.groups tables.folds × (tables.lookups ≡ [])). of_each (λ (fold : FoldedModel). fold.selection) P tables.split.groups tables.folds folded.0 all)
    is.one_each

-- whole tables are those of the groups, and so are folded ones
pub whole_each : (tables : BoundModel) → IsTables tables → AreWhole tables → AreTablesOf tables.split.groups tables.lookups
whole_each tables is whole =
    ⊎_elim (λ (each : AreTablesOf tables.split.groups tables.lookups × AreWhole tables). each.0)
    (λ (folded : AreFoldsOf tables.split.groups tables.folds × (tables.lookups ≡ [])).
    ap (map (λ (table : TableModel). table.selection)) folded.1 ∙ sym (ap (map (λ (fold : FoldedModel). fold.selection)) whole) ∙ folded.0)
    is.one_each

pub folded_each : (tables : BoundModel) → IsTables tables → tables.lookups ≡ [] → AreFoldsOf tables.split.groups tables.folds
folded_each tables is none_whole =
    ⊎_elim
    (λ (each : AreTablesOf tables.split.groups tables.lookups × AreWhole tables).
    ap (map (λ (fold : FoldedModel). fold.selection)) each.1 ∙ sym (ap (map (λ (table : TableModel). table.selection)) none_whole) ∙ each.0)
    (λ (folded : AreFoldsOf tables.split.groups tables.folds × (tables.lookups ≡ [])). folded.0)
    is.one_each

-- so tables that are given out are one for each group
pub listed_each : ListedTablesAreOneEach
listed_each tables is = (
  (λ lookups listed. ap (map (λ (table : TableModel). table.selection)) listed.0 ∙ whole_each tables is listed.1),
  (λ folds listed. ap (map (λ (fold : FoldedModel). fold.selection)) listed.0 ∙ folded_each tables is listed.1),
)

-- each table is of the partition's grid
pub table_grids : (tables : BoundModel) → IsTables tables → All (λ table. table.selection.grid ≡ tables.split.grid) tables.lookups
table_grids tables is = each_lookup (λ g. g.grid ≡ tables.split.grid) tables is is.partition.of_grid

pub fold_grids : (tables : BoundModel) → IsTables tables → All (λ fold. fold.selection.grid ≡ tables.split.grid) tables.folds
fold_grids tables is = each_fold (λ g. g.grid ≡ tables.split.grid) tables is is.partition.of_grid

-- so each is of the grid of a board that fits
pub grids_fit : (tables : BoundModel) (lookups : List TableModel) (grid : ShapeModel) → IsTables tables → tables.lookups ≡ lookups → grid ≡ tables.split.grid → All (λ table. table.selection.grid ≡ grid) lookups
grids_fit tables lookups grid is same fits k d k_in = subst (λ (ls : List TableModel). k < length ls → (get_or ls k d).selection.grid ≡ grid) same (λ h. table_grids tables is k d h ∙ sym fits) k_in

pub folds_fit : (tables : BoundModel) (folds : List FoldedModel) (grid : ShapeModel) → IsTables tables → tables.folds ≡ folds → grid ≡ tables.split.grid → All (λ fold. fold.selection.grid ≡ grid) folds
folds_fit tables folds grid is same fits k d k_in = subst (λ (fs : List FoldedModel). k < length fs → (get_or fs k d).selection.grid ≡ grid) same (λ h. fold_grids tables is k d h ∙ sym fits) k_in

-- the parts of whole tables, and of folded ones
pub whole_parts : (tables : BoundModel) → AreWhole tables → parts_of tables ≡ map part_of tables.lookups
whole_parts tables whole = ap (λ (fs : List FoldedModel). map part_of tables.lookups ++ folded_parts fs) whole ∙ append-nil (map part_of tables.lookups)

pub all_folded_parts : (tables : BoundModel) → tables.lookups ≡ [] → parts_of tables ≡ folded_parts tables.folds
all_folded_parts tables folded = ap (λ (ls : List TableModel). map part_of ls ++ folded_parts tables.folds) folded

pub tables_are_bounds : (rule : WeightsModel) (goal : BoardModel) (tables : BoundModel) → IsTables tables → goal.grid ≡ tables.split.grid → ArePotentials rule goal tables → IsLowerBound rule (sum_of (parts_of tables)) goal
tables_are_bounds rule goal tables is same potentials =
    ⊎_elim
    (λ (whole : AreTablesOf tables.split.groups tables.lookups × AreWhole tables).
    subst (λ (ps : List Part). IsLowerBound rule (sum_of ps) goal) (sym (whole_parts tables whole.1)) (whole_bound rule goal tables.split tables.lookups is.partition whole.0 same potentials.whole))
    (λ (folded : AreFoldsOf tables.split.groups tables.folds × (tables.lookups ≡ [])).
    subst (λ (ps : List Part). IsLowerBound rule (sum_of ps) goal) (sym (all_folded_parts tables folded.1)) (folded_sums_below rule goal tables.split tables.folds is.partition same folded.0 potentials.folded))
    is.one_each

-- the parts of whole tables are a bound
pub whole_are_bounds : WholeTablesAreBounds
whole_are_bounds rule goal tables is whole same potentials =
    subst (λ (ps : List Part). IsBound rule goal ps) (sym (whole_parts tables whole)) (bound_of_whole rule goal tables.split tables.lookups is.partition (whole_each tables is whole) same potentials.whole)

-- one table for each group
pub tables_count : (tables : BoundModel) → IsTables tables → length tables.lookups + length tables.folds ≡ length tables.split.groups
tables_count tables is =
    ⊎_elim
    (λ (whole : AreTablesOf tables.split.groups tables.lookups × AreWhole tables).
    let no_fold : length tables.folds ≡ 0 = ap length whole.1 in
    let all : length (map (λ (table : TableModel). table.selection) tables.lookups) ≡ length tables.split.groups = ap length whole.0 in
    let one : length (map (λ (table : TableModel). table.selection) tables.lookups) ≡ length tables.lookups = length-map tables.lookups (λ (table : TableModel). table.selection) in
    omega arith)
    (λ (folded : AreFoldsOf tables.split.groups tables.folds × (tables.lookups ≡ [])).
    let no_table : length tables.lookups ≡ 0 = ap length folded.1 in
    let all : length (map (λ (fold : FoldedModel). fold.selection) tables.folds) ≡ length tables.split.groups = ap length folded.0 in
    let one : length (map (λ (fold : FoldedModel). fold.selection) tables.folds) ≡ length tables.folds = length-map tables.folds (λ (fold : FoldedModel). fold.selection) in
    omega arith)
    is.one_each

-- a plan leads to no board of other sides, so the goal's sides need no premise
pub nothing_below : (rule : WeightsModel) (goal b : BoardModel) (tables : BoundModel) (n : ℕ) → IsTables tables → IsBoard b → b.grid ≡ tables.split.grid → n ≡ sum_of (parts_of tables) b → ArePotentials rule goal tables → NothingBelow rule b goal n
nothing_below rule goal b tables n is board same sum potentials plan k leads =
    let bound = tables_are_bounds rule goal tables is (led_grid rule b plan goal k leads ∙ same) potentials b board plan k leads in
    omega (arith, sum)

-- where tables are potentials, the same tables are so when they are folded
pub folded_potentials : (rule : WeightsModel) (goal : BoardModel) (tables folded : BoundModel) → IsTables tables → IsFoldedBound tables folded → ArePotentials rule goal tables → ArePotentials rule goal folded
folded_potentials rule goal tables folded is made potentials = record {
  whole = none (λ (table : TableModel). IsPotential rule table.selection.tiles goal (value_in table)) folded.lookups made.none_whole;
  folded = ⊎_elim
      (λ (whole : AreTablesOf tables.split.groups tables.lookups × AreWhole tables). folds_of_potentials rule goal tables.lookups folded.folds (made.each whole.1) potentials.whole)
      (λ (old : AreFoldsOf tables.split.groups tables.folds × (tables.lookups ≡ [])). subst (λ (fs : List FoldedModel). AreFoldedPotentials rule goal fs) (sym (made.kept old.1)) potentials.folded)
      is.one_each;
}

-- a bound whose tables were folded is of the same groups
pub keep_groups : FoldedBoundsKeepGroups
keep_groups tables folded is = is.split

-- and has one table for each of them
pub folded_are_tables : FoldedBoundsAreTables
folded_are_tables tables folded is made = record {
  partition = subst (λ (split : PartitionModel). IsPartition split) (sym made.split) is.partition;
  one_each = inr (subst (λ (split : PartitionModel). AreFoldsOf split.groups folded.folds) (sym made.split) each, made.none_whole);
}
  where
    each : AreFoldsOf tables.split.groups folded.folds
    each = ⊎_elim
        (λ (whole : AreTablesOf tables.split.groups tables.lookups × AreWhole tables). folded_groups tables.lookups folded.folds (made.each whole.1) ∙ whole.0)
        (λ (old : AreFoldsOf tables.split.groups tables.folds × (tables.lookups ≡ [])). ap (map (λ (fold : FoldedModel). fold.selection)) (made.kept old.1) ∙ old.0)
        is.one_each

-- a bound whose tables were folded says no more
pub folded_no_more : FoldedBoundsSayNoMore
folded_no_more tables folded is made b board same =
    let sum : sum_of (parts_of folded) b ≡ sum_of (folded_parts folded.folds) b = ap (λ (ps : List Part). sum_of ps b) (all_folded_parts folded made.none_whole) in
    ⊎_elim
    (λ (whole : AreTablesOf tables.split.groups tables.lookups × AreWhole tables).
    let fit : All (λ table. IsGroup table.selection × (table.selection.grid ≡ b.grid)) tables.lookups = λ k d k_in. (
      each_lookup (λ g. IsGroup g) tables is is.partition.groups k d k_in,
      table_grids tables is k d k_in ∙ sym same,
    ) in
    let low = folds_low b tables.lookups folded.folds board (made.each whole.1) (recursion_from_All (λ table. IsGroup table.selection × (table.selection.grid ≡ b.grid)) tables.lookups fit) in
    let before : sum_of (parts_of tables) b ≡ sum_of (map part_of tables.lookups) b = ap (λ (ps : List Part). sum_of ps b) (whole_parts tables whole.1) in
    omega (arith, sum, low, before))
    (λ (old : AreFoldsOf tables.split.groups tables.folds × (tables.lookups ≡ [])).
    let kept : sum_of (folded_parts folded.folds) b ≡ sum_of (folded_parts tables.folds) b = ap (λ (fs : List FoldedModel). sum_of (folded_parts fs) b) (made.kept old.1) in
    let before : sum_of (parts_of tables) b ≡ sum_of (folded_parts tables.folds) b = ap (λ (ps : List Part). sum_of ps b) (all_folded_parts tables old.1) in
    omega (arith, sum, kept, before))
    is.one_each

-- no more tables than a partition may have groups
pub few_folds : (tables : BoundModel) → IsTables tables → length tables.folds ≤ 24
few_folds tables is = let count = tables_count tables is in let few = is.partition.few in omega (arith, count, few)
