-- The rows of a world that is computed, by a test that is computed too.
use Rattle.std.proofs.Common.{◌≡◌, ℕ, ◌+◌, ◌<◌, Bool, true, false, List, [], ◌∷◌, refl, sym, ap, ◌∙◌, subst, inl, inr, arith, Some}
use Rattle.std.specs.Prelude.{AllPairs, All, ◌==◌, ◌&&◌, nat_lt, if◌then◌else◌}
use Rattle.std.specs.FinMap as map
use Rattle.std.proofs.lemmas.Bool.{eqb-true, lt-ltb}
use Rattle.std.proofs.lemmas.List.Elements.{All-cons}
use Rattle.std.proofs.lemmas.List.Kept.{AllPairs-cons}
use Rattle.board.specs.Shapes.{ShapeModel}
use Rattle.board.specs.Keys.{key_of}
use Rattle.board.specs.Boards.{BoardModel, IsBoard}
use Rattle.search_keys.specs.SearchKeys.{search_key}
use Rattle.outcomes.specs.Outcomes.{Task}
use Rattle.world_model.specs.declared.parts.Known.{Known}
use Rattle.world_model.specs.Outcomes.{AreRowsBelow, AreRowsFor, IsKnownBelow}
use Rattle.world_model.specs.Workers.{WorkerState}
use Rattle.world_model.specs.Worlds.{WorldState}
use Rattle.world_model.proofs.SmallWorkers.{In, Entries, Small, cost_of, current, current_complete, current_sound, found, look_up}
use Rattle.world_model.proofs.SmallSteps.{lt_tests}
use Rattle.world_model.proofs.SmallWorlds.{contained_in, gather, gather_from, gather_in, in_contained, in_place, place_in, small_worker, AllBoards, SmallWorld, boards_at, known_in, world_of}

-- a board with the cost at which it is known
abbrev pub Row : Type 0
Row = BoardModel × ℕ

-- the rows of some entries, of those whose cost plus sum is below k
abbrev with_row : Bool → Row → List Row → List Row
with_row true row rest = row ∷ rest
with_row false row rest = rest

abbrev row_of : BoardModel × Known → Row
row_of e = (e.0, e.1.cost)

abbrev rows_of : Task → ℕ → Entries → List Row
rows_of task k [] = []
rows_of task k (e ∷ es) = with_row (nat_lt (cost_of task e) k) (row_of e) (rows_of task k es)

-- the row is of an entry whose cost plus sum is below k
abbrev HasRow : Task → ℕ → Entries → Row → Type 0
HasRow task k es row = (e : BoardModel × Known) × In es e × (cost_of task e < k) × (row_of e ≡ row)

later_row : (task : Task) (k : ℕ) (e : BoardModel × Known) (es : Entries) (row : Row) → HasRow task k es row → HasRow task k (e ∷ es) row
later_row task k e es row has = (has.0, inr has.1, has.2, has.3)

-- a later row stays, and the first is there if it is below
row_kept : (b : Bool) (row : Row) (rest : List Row) (r : Row) → In rest r → In (with_row b row rest) r
row_kept true row rest r has = inr has
row_kept false row rest r has = has

row_first : (b : Bool) → b ≡ true → (row : Row) (rest : List Row) → In (with_row b row rest) row
row_first true is row rest = inl refl
row_first false is row rest = absurd (cc)

-- an entry below k has its row
row_in : (task : Task) (k : ℕ) (es : Entries) (e : BoardModel × Known) → In es e → nat_lt (cost_of task e) k ≡ true → In (rows_of task k es) (row_of e)
row_in task k [] e has low = absurd has
row_in task k (x ∷ es) e (inl same) low = subst (λ (y : BoardModel × Known). In (rows_of task k (x ∷ es)) (row_of y)) same (row_first (nat_lt (cost_of task x) k) (ap (λ (y : BoardModel × Known). nat_lt (cost_of task y) k) same ∙ low) (row_of x) (rows_of task k es))
row_in task k (x ∷ es) e (inr later) low = row_kept (nat_lt (cost_of task x) k) (row_of x) (rows_of task k es) (row_of e) (row_in task k es e later low)

-- and each row is of an entry below k
row_cases : (task : Task) (k : ℕ) (x : BoardModel × Known) (es : Entries) (row : Row) → (In (rows_of task k es) row → HasRow task k es row) → (b : Bool) → nat_lt (cost_of task x) k ≡ b → In (with_row b (row_of x) (rows_of task k es)) row → HasRow task k (x ∷ es) row
row_cases task k x es row rest true low (inl same) = (x, inl refl, (lt_tests (cost_of task x) k).0 low, same)
row_cases task k x es row rest true low (inr later) = later_row task k x es row (rest later)
row_cases task k x es row rest false low later = later_row task k x es row (rest later)

row_from : (task : Task) (k : ℕ) (es : Entries) (row : Row) → In (rows_of task k es) row → HasRow task k es row
row_from task k [] row has = absurd has
row_from task k (x ∷ es) row has = row_cases task k x es row (row_from task k es row) (nat_lt (cost_of task x) k) refl has

-- the rows of all workers
abbrev worker_rows : Task → ℕ → Small → List Row
worker_rows task k x = rows_of task k (current x.entries x.entries)

abbrev pub all_rows : Task → ℕ → SmallWorld → List Row
all_rows task k s = gather (worker_rows task k) s.workers

-- whether two rows are the same
abbrev same_numbers : List ℕ → List ℕ → Bool
same_numbers [] [] = true
same_numbers [] (y ∷ ys) = false
same_numbers (x ∷ xs) [] = false
same_numbers (x ∷ xs) (y ∷ ys) = (x == y) && same_numbers xs ys

abbrev same_grid : ShapeModel → ShapeModel → Bool
same_grid a b = (a.rows == b.rows) && (a.cols == b.cols)

abbrev same_board : BoardModel → BoardModel → Bool
same_board a b = same_grid a.grid b.grid && same_numbers a.tiles b.tiles

abbrev same_row : Row → Row → Bool
same_row r q = (r.1 == q.1) && same_board r.0 q.0

-- two tests that hold together hold each
pub both : (a b : Bool) → (a && b) ≡ true → (a ≡ true) × (b ≡ true)
both true b e = (refl, e)
both false b e = absurd (cc)

-- rows that the test calls the same are the same
numbers_are : (xs ys : List ℕ) → same_numbers xs ys ≡ true → xs ≡ ys
numbers_are [] [] e = refl
numbers_are [] (y ∷ ys) e = absurd (cc)
numbers_are (x ∷ xs) [] e = absurd (cc)
numbers_are (x ∷ xs) (y ∷ ys) e =
    let h = both (x == y) (same_numbers xs ys) e in
    let first = eqb-true x y h.0 in
    let rest = numbers_are xs ys h.1 in
    λ t. first t ∷ rest t

board_is_same : (a b : BoardModel) → same_board a b ≡ true → a ≡ b
board_is_same a b e =
    let h = both (same_grid a.grid b.grid) (same_numbers a.tiles b.tiles) e in
    let sides = both (a.grid.rows == b.grid.rows) (a.grid.cols == b.grid.cols) h.0 in
    let rows = eqb-true a.grid.rows b.grid.rows sides.0 in
    let cols = eqb-true a.grid.cols b.grid.cols sides.1 in
    let tiles = numbers_are a.tiles b.tiles h.1 in
    λ t. record { grid = record { rows = rows t; cols = cols t }; tiles = tiles t }

row_is_same : (r q : Row) → same_row r q ≡ true → r ≡ q
row_is_same r q e =
    let h = both (r.1 == q.1) (same_board r.0 q.0) e in
    let cost = eqb-true r.1 q.1 h.0 in
    let board = board_is_same r.0 q.0 h.1 in
    λ t. (board t, cost t)

-- whether a row is in a list, and whether all of a list are
abbrev has_row : List Row → Row → Bool
has_row [] r = false
has_row (q ∷ qs) r = if same_row q r then true else has_row qs r

abbrev has_rows : List Row → List Row → Bool
has_rows qs [] = true
has_rows qs (r ∷ rs) = has_row qs r && has_rows qs rs

-- rows that the test finds in a list are in it
row_there : (q r : Row) (qs : List Row) (b : Bool) → same_row q r ≡ b → (has_row qs r ≡ true → In qs r) → (if b then true else has_row qs r) ≡ true → In (q ∷ qs) r
row_there q r qs true same rest e = inl (row_is_same q r same)
row_there q r qs false same rest e = inr (rest e)

has_row_is : (qs : List Row) (r : Row) → has_row qs r ≡ true → In qs r
has_row_is [] r e = absurd (cc)
has_row_is (q ∷ qs) r e = row_there q r qs (same_row q r) refl (has_row_is qs r) e

has_rows_are : (qs rs : List Row) → has_rows qs rs ≡ true → (r : Row) → In rs r → In qs r
has_rows_are qs [] e r has = absurd has
has_rows_are qs (x ∷ rs) e r (inl same) = subst (In qs) same (has_row_is qs x (both (has_row qs x) (has_rows qs rs) e).0)
has_rows_are qs (x ∷ rs) e r (inr later) = has_rows_are qs rs (both (has_row qs x) (has_rows qs rs) e).1 r later

-- whether the keys rise
abbrev is_below_all : Row → List Row → Bool
is_below_all r [] = true
is_below_all r (q ∷ qs) = nat_lt (key_of r.0) (key_of q.0) && is_below_all r qs

abbrev all_rise : List Row → Bool
all_rise [] = true
all_rise (r ∷ rs) = is_below_all r rs && all_rise rs

abbrev Rises : Row → Row → Type 0
Rises row later = key_of row.0 < key_of later.0

-- keys that rise by test rise
below_all_is : (r : Row) (qs : List Row) → is_below_all r qs ≡ true → All (Rises r) qs
below_all_is r [] e = λ k d lt. absurd (omega arith)
below_all_is r (q ∷ qs) e = let h = both (nat_lt (key_of r.0) (key_of q.0)) (is_below_all r qs) e in All-cons (Rises r) q qs ((lt_tests (key_of r.0) (key_of q.0)).0 h.0) (below_all_is r qs h.1)

all_rise_is : (rs : List Row) → all_rise rs ≡ true → AllPairs Rises rs
all_rise_is [] e = λ i j d lt j_in. absurd (omega arith)
all_rise_is (r ∷ rs) e = let h = both (is_below_all r rs) (all_rise rs) e in AllPairs-cons Rises r rs (below_all_is r rs h.0) (all_rise_is rs h.1)

-- whether these are the rows below k
abbrev pub are_rows : Task → ℕ → SmallWorld → List Row → Bool
are_rows task k s rows = all_rise rows && (has_rows rows (all_rows task k s) && has_rows (all_rows task k s) rows)

module _ (task : Task) (owner : BoardModel → ℕ) (goal : IsBoard task.goal) (s : SmallWorld) (boards : AllBoards task s.workers) (k : ℕ) where
  abbrev w : WorldState
  w = world_of task owner s

  -- what is known below k is among the rows of all workers, and no other row is
  known_row : (b : BoardModel) (cost : ℕ) → IsKnownBelow w k b cost → In (all_rows task k s) (b, cost)
  known_row b cost (i, known, knows, same, low) =
      let x = small_worker task owner goal s boards i knows.worker knows.is in
      let looked : look_up x.0.entries (search_key b) ≡ Some known = sym (found x.0.entries (search_key b)) ∙ ap (λ (y : WorkerState). map.get y.known (search_key b)) (sym x.2) ∙ knows.knows in
      let listed = current_complete task x.0.entries (boards_at task s.workers i x.0 boards x.1) b known knows.board looked in
      let lt : known.cost + task.sum b < k = omega (arith, same, low) in
      let row = row_in task k (current x.0.entries x.0.entries) (b, known) listed (lt-ltb (known.cost + task.sum b) k lt) in
      subst (λ n. In (all_rows task k s) (b, n)) same (gather_in (worker_rows task k) s.workers x.0 (b, known.cost) (in_place s.workers i x.0 x.1) row)

  row_known : (row : Row) → In (all_rows task k s) row → IsKnownBelow w k row.0 row.1
  row_known row has =
      let x = gather_from (worker_rows task k) s.workers row has in
      let e = row_from task k (current x.0.entries x.0.entries) row x.2 in
      let i = place_in s.workers x.0 x.1 in
      let now = current_sound task x.0.entries x.0.entries (boards_at task s.workers i.0 x.0 boards i.1) e.0 e.1 in
      subst (λ (r : Row). IsKnownBelow w k r.0 r.1) e.3 (i.0, e.0.1, known_in task owner s i.0 x.0 e.0.0 e.0.1 i.1 now.0 now.1, refl, e.2)

  -- so the rows are by test
  rows_are : (rows : List Row) → are_rows task k s rows ≡ true → AreRowsBelow w k rows
  rows_are rows e =
      let h = both (all_rise rows) (has_rows rows (all_rows task k s) && has_rows (all_rows task k s) rows) e in
      let same = both (has_rows rows (all_rows task k s)) (has_rows (all_rows task k s) rows) h.1 in
      record {
        rising = all_rise_is rows h.0;
        each = λ b cost. (
          λ has. row_known (b, cost) (has_rows_are (all_rows task k s) rows same.1 (b, cost) (in_contained rows (b, cost) has)),
          λ known. contained_in rows (b, cost) (has_rows_are rows (all_rows task k s) same.0 (b, cost) (known_row b cost known)),
        );
      }

  -- and a bound above the start's sum has rows that are listed so
  pub rows_for : (wanted rows : List Row) → rows ≡ wanted → task.sum task.start < k → are_rows task k s wanted ≡ true → AreRowsFor w k rows
  rows_for wanted rows listed above e = subst (AreRowsFor w k) (sym listed) (inr (above, rows_are wanted e))
