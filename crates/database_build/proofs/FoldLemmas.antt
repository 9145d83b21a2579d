-- What a folded table keeps and how it is read, folded values, and the test for a potential.
use Rattle.std.proofs.Common.{◌≡◌, ℕ, ◌+◌, ◌<◌, ◌≤◌, List, [], ◌∷◌, refl, sym, ap, ◌∙◌, subst, ⊎_elim, arith, Option, None, Bool, true, false, not, eqb, get_or, lit<, ◌^◌, length, replicate, take, Vec, Global}
use Rattle.std.specs.Prelude.{Some, IfNone, slice_index, IsTrue, ◌↔◌, ◌⊎◌, All, slice_get}
use Rattle.std.proofs.lemmas.Bool.{cases_Bool, cases_lt, cond-false, cond-true, false≢true}
use Rattle.std.proofs.lemmas.List.{get_or_past}
use Rattle.std.proofs.lemmas.List.Elements.{All-from_recursion}
use Rattle.std.proofs.lemmas.List.FromFn.{get_or-map-range_with_len, length-map-range_with_len}
use Rattle.std.proofs.lemmas.Option.{slice_get-get_or, get_or_from_slice_get}
use Rattle.board.specs.Shapes.{ShapeModel, cell_count}
use Rattle.board.specs.declared.moves.Move.{Move}
use Rattle.board.specs.declared.moves.Move.TheVariants.{U, L, R, D}
use Rattle.board.specs.Boards.{BoardModel, IsBoard}
use Rattle.board.specs.Weights.{WeightsModel}
use Rattle.board.specs.Moves.{all_moves}
use Rattle.pattern_index.specs.Ranks.{list_at}
use Rattle.pattern_index.specs.Views.{ViewModel, IsView, Abstraction, ViewMoves, ViewLeads, view_of}
use Rattle.pattern_index.specs.Groups.{GroupModel, AreGroupTiles, IsGroup, size_of, rank_in, abstraction_of, view_successor, folded_size_of, place_in}
use Rattle.pattern_index.specs.Sparse.{sparse_of, sparse_in, sparse_size_of}
use Rattle.pattern_index.specs.Equality.{selection_eq, selections_Decide}
use Rattle.pattern_index.proofs.GroupLemmas.{groups_small, room_taken}
use Rattle.pattern_index.proofs.PlaceLemmas.{place_below, place_listing}
use Rattle.pattern_index.proofs.RankLemmas.{Below, below_in, differ_in, length-list_at, list_at_below}
use Rattle.pattern_index.proofs.SightLemmas.{sight_below, sight_from_rank}
use Rattle.pattern_index.proofs.SparseLemmas.{sparse_below}
use Rattle.pattern_index.proofs.ViewMoveLemmas.{successor_of_sight, moved_view, blank_inside, board_view}
use Rattle.pattern_graph.specs.Placements.{HasNoView}
use Rattle.pattern_graph.proofs.RowLemmas.{list_back}
use Rattle.pattern_graph.proofs.OrderLemmas.{below-all, below_low}
use Rattle.database_build.specs.Entries.{widened, ArePlaces, HasLeast, by_place, least_in, most_places, sparse_of_place}
use Rattle.database_build.specs.Tables.{FallsTo, FallsSlowlyAt, TableModel, HoldsValues, value_in, IsPotential}
use Rattle.database_build.specs.Folds.{FoldedModel, IsFoldedValue, folded_in}
use Rattle.database_build.specs.declared.entries.Entries.{Entries}
use Rattle.database_build.specs.declared.entries.Entries.TheVariants.{Ranked, Bytes, Words}
use Rattle.pattern_search.specs.declared.finding.TheConstants.{NO_VALUE}

-- ---- folded values by place

-- there is one for each place
pub length-by_place : (g : GroupModel) (at_sparse : ℕ → ℕ) → length (by_place g at_sparse) ≡ folded_size_of g
unfolding by_place
length-by_place g at_sparse = length-map-range_with_len (λ place. at_sparse (sparse_of_place g place)) 0 (folded_size_of g)

-- the entry of a place is that at its sparse place
pub by_place_entry : (g : GroupModel) (at_sparse : ℕ → ℕ) (place : ℕ) → place < folded_size_of g → slice_index (by_place g at_sparse) place ≡ at_sparse (sparse_of_place g place)
unfolding by_place
by_place_entry g at_sparse place low = get_or-map-range_with_len (λ k. at_sparse (sparse_of_place g k)) 0 (folded_size_of g) place place 0 low (omega arith)

-- the cells of a view differ, so there are no more than the grid has
cells_room : (g : GroupModel) (v : ViewModel) → IsView g.grid g.tiles v → length v.cells ≤ cell_count g.grid
cells_room g v view =
    let is = place_listing g.grid g.tiles v view in
    let n = cell_count g.grid in
    let all = below-all n v.cells (below_in n v.cells is) in
    let low = below_low n v.cells (differ_in n v.cells is) in
    omega (arith, all, low)

-- the sparse place of a view's place is that of the view
place_back : (g : GroupModel) (v : ViewModel) → IsView g.grid g.tiles v → sparse_of_place g (place_in g.grid v) ≡ sparse_in g.grid v
place_back g v view =
    ap (λ k. sparse_of (cell_count g.grid) (list_at (cell_count g.grid) k (place_in g.grid v))) (sym view.one_each)
    ∙ ap (sparse_of (cell_count g.grid)) (list_back (cell_count g.grid) v.cells (place_listing g.grid g.tiles v view) (cells_room g v view))

-- the entry of a view is that at its sparse place
pub by_place_at : (g : GroupModel) (at_sparse : ℕ → ℕ) (v : ViewModel) → IsView g.grid g.tiles v → slice_index (by_place g at_sparse) (place_in g.grid v) ≡ at_sparse (sparse_in g.grid v)
by_place_at g at_sparse v view = by_place_entry g at_sparse (place_in g.grid v) (place_below g.grid g.tiles v view) ∙ ap at_sparse (place_back g v view)

-- where no sparse place has more, no place has
by_place_high : (g : GroupModel) (at_sparse : ℕ → ℕ) → ((sparse : ℕ) → at_sparse sparse ≤ NO_VALUE) → (place : ℕ) → slice_index (by_place g at_sparse) place ≤ NO_VALUE
by_place_high g at_sparse high place =
    ⊎_elim
    (λ (low : place < folded_size_of g). let is = by_place_entry g at_sparse place low in let h = high (sparse_of_place g place) in omega (arith, is, h))
    (λ (past : folded_size_of g ≤ place).
    let all = length-by_place g at_sparse in
    let is = get_or_past (by_place g at_sparse) place 0 (omega (arith, all, past)) in
    omega (arith, is))
    (cases_lt place (folded_size_of g))

-- the sparse place of a view is below the size
pub view_below : (g : GroupModel) (v : ViewModel) → IsView g.grid g.tiles v → sparse_in g.grid v < sparse_size_of g
view_below g v view =
    subst (λ k. sparse_in g.grid v < cell_count g.grid ^ k) view.one_each (sparse_below (cell_count g.grid) v.cells (below_in (cell_count g.grid) v.cells (place_listing g.grid g.tiles v view)))

-- ---- what a folded table keeps

-- the value that a byte encodes is at most NO_VALUE
byte_high : (byte : ℕ) → byte ≤ NO_VALUE → widened byte ≤ NO_VALUE
byte_high byte low =
    ⊎_elim
    (λ (is : eqb byte 255 ≡ true). let e : widened byte ≡ NO_VALUE = cond-true (eqb byte 255) NO_VALUE byte is in omega (arith, e))
    (λ (other : eqb byte 255 ≡ false). let e : widened byte ≡ byte = cond-false (eqb byte 255) NO_VALUE byte other in omega (arith, e, low))
    (cases_Bool (eqb byte 255))

-- there is a value for each place
pub least_size : (g : GroupModel) (entries : Entries) → HasLeast g entries → length (least_in g entries) ≡ folded_size_of g
least_size g (Ranked least) has = has.1
least_size g (Bytes bytes) has = length-by_place g (λ sparse. widened (slice_index bytes.items sparse))
least_size g (Words words) has = length-by_place g (slice_index words.items)

-- the item at an index within the list
indexed : (xs : List ℕ) (i x : ℕ) → i < length xs → x ≡ get_or xs i x → slice_get xs i ≡ Some x
indexed xs i x within read = slice_get-get_or xs i x within ∙ ap (λ (n : ℕ). Some n) (sym read)

-- a value is what the entry at a sparse place says, and where no view has that sparse place it says that there is none
pub record IsRead (g : GroupModel) (entries : Entries) (sparse value : ℕ) : Type 0 where
  pub at_sparse : ℕ → ℕ
  pub kept : least_in g entries ≡ by_place g at_sparse
  pub is : value ≡ at_sparse sparse
  pub others : HasNoView g sparse → value ≡ NO_VALUE

module _ (g : GroupModel) (entries : Entries) (has : HasLeast g entries) (items : List ℕ) where
  -- there is a byte for each sparse place
  pub bytes_size : (bytes : Vec ℕ Global) → entries ≡ Bytes bytes → items ≡ bytes.items → length items ≡ sparse_size_of g
  bytes_size bytes kept all = let are : ArePlaces g 255 bytes.items = subst (HasLeast g) kept has in ap length all ∙ are.size

  -- or a word
  pub words_size : (words : Vec ℕ Global) → entries ≡ Words words → items ≡ words.items → length items ≡ sparse_size_of g
  words_size words kept all = let are : HasLeast g (Words words) = subst (HasLeast g) kept has in ap length all ∙ are.0.size

  module _ (sparse : ℕ) (low : sparse < sparse_size_of g) where
    -- a byte that is read
    pub byte_read : (bytes : Vec ℕ Global) (byte value : ℕ) → entries ≡ Bytes bytes → items ≡ bytes.items → byte ≡ get_or items sparse byte → value ≡ widened byte → IsRead g entries sparse value
    byte_read bytes byte value kept all read wide =
        let are : ArePlaces g 255 bytes.items = subst (HasLeast g) kept has in
        let there : slice_get bytes.items sparse ≡ Some byte = indexed bytes.items sparse byte (omega (arith, low, are.size)) (read ∙ ap (λ (xs : List ℕ). get_or xs sparse byte) all) in
        record {
          at_sparse = λ k. widened (slice_index bytes.items k);
          kept = ap (least_in g) kept;
          is = wide ∙ ap widened (sym (get_or_from_slice_get bytes.items sparse byte 0 there));
          others = λ none. wide ∙ ap widened (are.others sparse byte none there);
        }

    -- a word that is read
    pub word_read : (words : Vec ℕ Global) (value : ℕ) → entries ≡ Words words → items ≡ words.items → value ≡ get_or items sparse value → IsRead g entries sparse value
    word_read words value kept all read =
        let whole : HasLeast g (Words words) = subst (HasLeast g) kept has in
        let are : ArePlaces g NO_VALUE words.items = whole.0 in
        let there : slice_get words.items sparse ≡ Some value = indexed words.items sparse value (omega (arith, low, are.size)) (read ∙ ap (λ (xs : List ℕ). get_or xs sparse value) all) in
        record {
          at_sparse = slice_index words.items;
          kept = ap (least_in g) kept;
          is = sym (get_or_from_slice_get words.items sparse value 0 there);
          others = λ none. are.others sparse value none there;
        }

module _ (fold : FoldedModel) (g : GroupModel) (entries : Entries) (is : record { selection = g; least = least_in g entries } ≡ fold) (has : HasLeast g entries) where
  -- a folded table has a value for each place
  pub fold_size : length fold.least ≡ folded_size_of fold.selection
  fold_size = subst (λ (f : FoldedModel). length f.least ≡ folded_size_of f.selection) is (least_size g entries has)

  -- the values of bytes
  pub bytes_high : (bytes : Vec ℕ Global) → entries ≡ Bytes bytes → ((sparse : ℕ) → slice_index bytes.items sparse ≤ NO_VALUE) → (place : ℕ) → slice_index fold.least place ≤ NO_VALUE
  bytes_high bytes kept high =
      subst (λ (f : FoldedModel). (place : ℕ) → slice_index f.least place ≤ NO_VALUE) is
      (subst (λ (e : Entries). (place : ℕ) → slice_index (least_in g e) place ≤ NO_VALUE) (sym kept)
      (by_place_high g (λ sparse. widened (slice_index bytes.items sparse)) (λ sparse. byte_high (slice_index bytes.items sparse) (high sparse))))

  -- and those of words
  pub words_high : (words : Vec ℕ Global) → entries ≡ Words words → ((sparse : ℕ) → slice_index words.items sparse ≤ NO_VALUE) → (place : ℕ) → slice_index fold.least place ≤ NO_VALUE
  words_high words kept high =
      subst (λ (f : FoldedModel). (place : ℕ) → slice_index f.least place ≤ NO_VALUE) is
      (subst (λ (e : Entries). (place : ℕ) → slice_index (least_in g e) place ≤ NO_VALUE) (sym kept) (by_place_high g (slice_index words.items) high))

  -- what is read at a view's sparse place is its folded value
  pub view_read : (v : ViewModel) (sparse value : ℕ) → IsView fold.selection.grid fold.selection.tiles v → sparse ≡ sparse_in g.grid v → IsRead g entries sparse value → value ≡ folded_in fold v
  view_read v sparse value view there read =
      let of_group : IsView g.grid g.tiles v = subst (λ (f : FoldedModel). IsView f.selection.grid f.selection.tiles v) (sym is) view in
      read.is ∙ ap read.at_sparse there ∙ sym (by_place_at g read.at_sparse v of_group)
      ∙ ap (λ (xs : List ℕ). slice_index xs (place_in g.grid v)) (sym read.kept)
      ∙ ap (λ (f : FoldedModel). folded_in f v) is

  -- there is an entry at a view's sparse place
  pub view_within : (v : ViewModel) (sparse : ℕ) → IsView fold.selection.grid fold.selection.tiles v → sparse ≡ sparse_in g.grid v → sparse < sparse_size_of g
  view_within v sparse view there =
      let low = view_below g v (subst (λ (f : FoldedModel). IsView f.selection.grid f.selection.tiles v) (sym is) view) in
      omega (arith, low, there)

  module _ (sparse : ℕ) where
    -- the table's grid is the group's
    by_group : (v : ViewModel) → sparse_in fold.selection.grid v ≡ sparse → sparse ≡ sparse_in g.grid v
    by_group v there = sym there ∙ ap (λ (f : FoldedModel). sparse_in f.selection.grid v) (sym is)

    -- no view has a sparse place past the end
    pub none_past :
        (answer : Option ℕ)
        → answer ≡ None
        → sparse_size_of g ≤ sparse
        → IfNone answer ((v : ViewModel) → IsView fold.selection.grid fold.selection.tiles v → sparse_in fold.selection.grid v ≡ sparse → (folded_in fold v ≡ NO_VALUE) ⊎ (most_places fold.selection < sparse_size_of fold.selection))
    none_past answer none past =
        subst
        (λ (o : Option ℕ). IfNone o ((v : ViewModel) → IsView fold.selection.grid fold.selection.tiles v → sparse_in fold.selection.grid v ≡ sparse → (folded_in fold v ≡ NO_VALUE) ⊎ (most_places fold.selection < sparse_size_of fold.selection)))
        (sym none) (λ v view there. let low = view_within v sparse view (by_group v there) in absurd (omega (arith, low, past)))

    -- what is read at a sparse place is the folded value of all views that have it
    module _ (value : ℕ) (read : IsRead g entries sparse value) where
      pub sparse_read : (v : ViewModel) → IsView fold.selection.grid fold.selection.tiles v → sparse_in fold.selection.grid v ≡ sparse → value ≡ folded_in fold v
      sparse_read v view there = view_read v sparse value view (by_group v there) read

      -- and no value, where no view has it
      pub no_view_read : HasNoView fold.selection sparse → value ≡ NO_VALUE
      no_view_read none = read.others (subst (λ (f : FoldedModel). HasNoView f.selection sparse) (sym is) none)

  -- what is read at the sparse place of a place is its value
  pub place_read : (place sparse value : ℕ) → place < folded_size_of fold.selection → sparse ≡ sparse_of_place g place → IsRead g entries sparse value → value ≡ slice_index fold.least place
  place_read place sparse value low there read =
      let of_group : place < folded_size_of g = subst (λ (f : FoldedModel). place < folded_size_of f.selection) (sym is) low in
      read.is ∙ ap read.at_sparse there
      ∙ sym (by_place_entry g read.at_sparse place of_group)
      ∙ ap (λ (xs : List ℕ). slice_index xs place) (sym read.kept)
      ∙ ap (λ (f : FoldedModel). slice_index f.least place) is

-- the cells that have a place
module _ (g : GroupModel) (selection : IsGroup g) (place : ℕ) (low : place < folded_size_of g) (grid : ShapeModel) (cells : ℕ) (tiles list : List ℕ) (shape : grid ≡ g.grid) (counted : cells ≡ cell_count grid) (group : tiles ≡ g.tiles) (listed : list ≡ list_at cells (length {A = ℕ} (take (length tiles) (replicate 9 0))) place) where
  few : length g.tiles ≤ 9
  few = (groups_small g selection).0

  room : length g.tiles ≤ cell_count g.grid
  room = let h = (groups_small g selection).1 in omega (arith, h)

  all_cells : cells ≡ cell_count g.grid
  all_cells = counted ∙ ap cell_count shape

  same : list ≡ list_at (cell_count g.grid) (length g.tiles) place
  same =
      listed ∙ (λ i. list_at (all_cells i) (length {A = ℕ} (take (length (group i)) (replicate 9 0))) place)
      ∙ ap (λ k. list_at (cell_count g.grid) k place) (room_taken (length g.tiles) few)

  below : Below (cell_count g.grid) list
  below = subst (Below (cell_count g.grid)) (sym same) (list_at_below (cell_count g.grid) (length g.tiles) place room low)

  -- they are cells of the grid
  pub listed_below : All (λ cell. cell < cells) list
  listed_below = subst (λ n. All (λ cell. cell < n) list) (sym all_cells) (All-from_recursion (λ cell. cell < cell_count g.grid) list below)

  module _ (sparse : ℕ) (there : sparse ≡ sparse_of cells list) where
    -- their sparse place is that of the place
    pub place_sparse : sparse ≡ sparse_of_place g place
    place_sparse = there ∙ (λ i. sparse_of (all_cells i) (same i))

    -- and there is an entry at it
    pub place_within : sparse < sparse_size_of g
    place_within =
        let long : length list ≡ length g.tiles = ap length same ∙ length-list_at (cell_count g.grid) (length g.tiles) place room in
        let h : sparse_of (cell_count g.grid) list < sparse_size_of g = subst (λ k. sparse_of (cell_count g.grid) list < cell_count g.grid ^ k) long (sparse_below (cell_count g.grid) list below) in
        let e : sparse ≡ sparse_of (cell_count g.grid) list = there ∙ ap (λ n. sparse_of n list) all_cells in
        omega (arith, h, e)

-- ---- folded values

-- two least entries are no more than each other
pub one_folded_value : (table : TableModel) (v : ViewModel) (n k : ℕ) → IsFoldedValue table v n → IsFoldedValue table v k → n ≡ k
one_folded_value table v n k is other =
    let low : n ≤ k = subst (λ m. n ≤ m) other.reached.3 (is.none_below other.reached.0 other.reached.1 other.reached.2) in
    let high : k ≤ n = subst (λ m. k ≤ m) is.reached.3 (other.none_below is.reached.0 is.reached.1 is.reached.2) in
    omega arith

-- ---- When the entries of a table are a potential.

-- the puzzle as these tiles see it on the goal's boards
abbrev pub at_goal : WeightsModel → List ℕ → BoardModel → Abstraction
at_goal rule tiles goal = record { grid = goal.grid; rule = rule; tiles = tiles }

-- a potential falls by no more than the plan costs, and ends at 0
pub potential_below : (rule : WeightsModel) (tiles : List ℕ) (goal : BoardModel) (value : ViewModel → ℕ) → IsPotential rule tiles goal value → (v : ViewModel) (plan : List Move) (j : ℕ) → IsView goal.grid tiles v → ViewLeads (at_goal rule tiles goal) v plan (view_of tiles goal) j → value v ≤ j
potential_below rule tiles goal value potential v [] j view leads =
    let same : value (view_of tiles goal) ≡ value v = ap value leads.0 in
    let none = potential.at_goal in
    omega arith
potential_below rule tiles goal value potential v (m ∷ plan) j view leads =
    let view' = moved_view (at_goal rule tiles goal) v m leads.0 leads.1 view leads.3 in
    let rest = potential_below rule tiles goal value potential leads.0 plan leads.2 view' leads.4 in
    let falls = potential.falls_slowly v m leads.0 leads.1 view leads.3 in
    omega (arith, leads.5)

-- ---- values are a potential

module _ (table : TableModel) (rule : WeightsModel) (goal : BoardModel) (holds : HoldsValues table rule goal) where
  -- a move and the plan that follows it are a plan
  values_fall_slowly : (v : ViewModel) (m : Move) (v' : ViewModel) (c : ℕ) → IsView table.selection.grid table.selection.tiles v → ViewMoves (abstraction_of table.selection rule) v m v' c → value_in table v ≤ c + value_in table v'
  values_fall_slowly v m v' c view moves =
      let here = holds v view in
      let there = holds v' (moved_view (abstraction_of table.selection rule) v m v' c view moves) in
      let cap = here.capped in
      ⊎_elim
      (λ (low : value_in table v' < NO_VALUE). let way = there.reached low in here.none_below (m ∷ way.0) (c + value_in table v') (v', c, value_in table v', moves, way.1, refl))
      (λ (high : NO_VALUE ≤ value_in table v'). omega arith)
      (cases_lt (value_in table v') NO_VALUE)

  pub values_potential : IsGroup table.selection → IsBoard goal → goal.grid ≡ table.selection.grid → IsPotential rule table.selection.tiles goal (value_in table)
  values_potential group board same =
      let view = board_view table.selection.tiles goal board (subst (λ (g : ShapeModel). AreGroupTiles g table.selection.tiles) (sym same) group.group) in
      let home = holds (view_of table.selection.tiles goal) (subst (λ (g : ShapeModel). IsView g table.selection.tiles (view_of table.selection.tiles goal)) same view) in
      record {
        at_goal = let low = home.none_below [] 0 (refl, refl) in omega arith;
        falls_slowly = λ v m v' c is_view moves.
            values_fall_slowly v m v' c (subst (λ (g : ShapeModel). IsView g table.selection.tiles v) same is_view)
            (subst (λ (g : ShapeModel). ViewMoves (record { grid = g; rule = rule; tiles = table.selection.tiles }) v m v' c) same moves);
      }

-- ---- the test

module _ (table : TableModel) (rule : WeightsModel) where
  -- v is a view of the table's group
  IsIn : ViewModel → Type 0
  IsIn v = IsView table.selection.grid table.selection.tiles v

  next : ViewModel → Move → Option (ViewModel × ℕ)
  next v m = view_successor (abstraction_of table.selection rule) v m

  next_goes : (v : ViewModel) (m : Move) (v' : ViewModel) (c : ℕ) → IsIn v → (next v m ≡ Some (v', c)) ↔ ViewMoves (abstraction_of table.selection rule) v m v' c
  unfolding IsIn next
  next_goes v m v' c view = successor_of_sight (abstraction_of table.selection rule) v m v' c (blank_inside table.selection.grid table.selection.tiles v view)

  -- the entries fall slowly at each rank, so they do from each view
  pub potential_from_ranks : (goal : BoardModel) → goal.grid ≡ table.selection.grid → value_in table (view_of table.selection.tiles goal) ≡ 0 → ((k : ℕ) → k < size_of table.selection → FallsSlowlyAt table rule k) → IsPotential rule table.selection.tiles goal (value_in table)
  unfolding IsIn next
  potential_from_ranks goal same none falls = record {
    at_goal = none;
    falls_slowly = λ v m v' c is_view moves.
        let view : IsIn v = subst (λ (g : ShapeModel). IsView g table.selection.tiles v) same is_view in
        let is : next v m ≡ Some (v', c) = (next_goes v m v' c view).1 (subst (λ (g : ShapeModel). ViewMoves (record { grid = g; rule = rule; tiles = table.selection.tiles }) v m v' c) same moves) in
        subst (λ (o : Option (ViewModel × ℕ)). FallsTo table (value_in table v) o) is (falls (rank_in table.selection.grid v) (sight_below table.selection.grid table.selection.tiles v view) v view refl m);
  }

  pub ranks_from_potential : (goal : BoardModel) → goal.grid ≡ table.selection.grid → IsPotential rule table.selection.tiles goal (value_in table) → (k : ℕ) → FallsSlowlyAt table rule k
  unfolding IsIn next
  ranks_from_potential goal same potential k v view at m = each (next v m) refl
    where
      each : (o : Option (ViewModel × ℕ)) → next v m ≡ o → FallsTo table (value_in table v) o
      each None e = tt
      each (Some moved) e =
          potential.falls_slowly v m moved.0 moved.1 (subst (λ (g : ShapeModel). IsView g table.selection.tiles v) (sym same) view)
          (subst (λ (g : ShapeModel). ViewMoves (record { grid = g; rule = rule; tiles = table.selection.tiles }) v m moved.0 moved.1) (sym same) ((next_goes v m moved.0 moved.1 view).0 e))

-- the tests of the four moves, of the view of a rank
module _ (table : TableModel) (rule : WeightsModel) (rank : ℕ) (g : GroupModel) (v : ViewModel) (n : ℕ) (same : g ≡ table.selection) (view : IsView g.grid g.tiles v) (at : rank_in g.grid v ≡ rank) (value : n ≡ slice_index table.values rank) where
  -- what the test of a move says
  Falls : Move → Type 0
  Falls m = FallsTo table n (view_successor (abstraction_of table.selection rule) v m)

  view' : IsView table.selection.grid table.selection.tiles v
  view' = subst (λ (s : GroupModel). IsView s.grid s.tiles v) same view

  at' : rank_in table.selection.grid v ≡ rank
  at' = subst (λ (s : GroupModel). rank_in s.grid v ≡ rank) same at

  entry : n ≡ value_in table v
  entry = value ∙ ap (slice_index table.values) (sym at')

  falls_one : FallsSlowlyAt table rule rank → (m : Move) → Falls m
  unfolding Falls
  falls_one falls m = subst (λ k. FallsTo table k (view_successor (abstraction_of table.selection rule) v m)) (sym entry) (falls v view' at' m)

  -- there is one view of the rank, and four moves are all
  falls_all : ((k : ℕ) → k < 4 → Falls (get_or all_moves k U)) → FallsSlowlyAt table rule rank
  unfolding Falls
  falls_all falls w is_view w_at m =
      subst (λ (x : ViewModel). FallsTo table (value_in table x) (view_successor (abstraction_of table.selection rule) x m))
      (sight_from_rank table.selection.grid table.selection.tiles v w view' is_view (at' ∙ sym w_at))
      (subst (λ k. FallsTo table k (view_successor (abstraction_of table.selection rule) v m)) entry (each m))
    where
      each : (m : Move) → Falls m
      each U = falls 0 (lit< tt)
      each L = falls 1 (lit< tt)
      each R = falls 2 (lit< tt)
      each D = falls 3 (lit< tt)

  pub fails : (m : Move) (b : Bool) → b ≡ false → (IsTrue b ↔ FallsTo table n (view_successor (abstraction_of table.selection rule) v m)) → IsTrue false ↔ FallsSlowlyAt table rule rank
  unfolding Falls
  fails m b e test = (
    (λ h. absurd (false≢true h)),
    (λ all. let t : b ≡ true = test.1 (falls_one all m) in sym e ∙ t),
  )

  pub passes : ((k : ℕ) → k < 4 → FallsTo table n (view_successor (abstraction_of table.selection rule) v (get_or all_moves k U))) → IsTrue true ↔ FallsSlowlyAt table rule rank
  unfolding Falls
  passes falls = ((λ h. falls_all falls), (λ h. refl))

-- ---- the table's group

-- groups that aren't found to differ are one group
same_group : (g h s : GroupModel) (differ : Bool) → differ ≡ not (selection_eq g h) → differ ≡ false → g ≡ s → s ≡ h
same_group g h s differ is alike e = sym e ∙ (selections_Decide g h).0 (by_test (selection_eq g h) (sym alike ∙ is))
  where
    by_test : (b : Bool) → false ≡ not b → b ≡ true
    by_test true e = refl
    by_test false e = absurd (false≢true e)

pub potential_of_group : (table : TableModel) (rule : WeightsModel) (g h : GroupModel) (goal : BoardModel) (differ falls : Bool) → differ ≡ not (selection_eq g h) → differ ≡ false → g ≡ table.selection
    → (IsTrue falls ↔ IsPotential rule table.selection.tiles goal (value_in table))
    → IsTrue falls ↔ (table.selection ≡ h) × IsPotential rule h.tiles goal (value_in table)
potential_of_group table rule g h goal differ falls is alike e test =
    let same : table.selection ≡ h = same_group g h table.selection differ is alike e in (
      (λ yes. (same, subst (λ (s : GroupModel). IsPotential rule s.tiles goal (value_in table)) same (test.0 yes))),
      (λ all. test.1 (subst (λ (s : GroupModel). IsPotential rule s.tiles goal (value_in table)) (sym same) all.1)),
    )
