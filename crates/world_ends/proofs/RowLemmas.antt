-- Rows of what workers know.
use Rattle.std.proofs.Common.{◌≡◌, ◌≢◌, ◌⊎◌, ℕ, suc, ◌+◌, ◌<◌, ◌≤◌, List, [], ◌∷◌, ◌++◌, length, get_or, take, Option, Some, refl, sym, ap, ◌∙◌, subst, inl, inr, ⊎_elim, arith}
use Rattle.std.specs.Prelude.{All, AllPairs, Contains, ◌↔◌, slice_get, slice_index, map as each_of, unwrap_or, nat_eq}
use Rattle.std.specs.Cmp.{unsigned_Decides, decided}
use Rattle.std.specs.FinMap as map
use Rattle.std.specs.List.Sorted.{IsPermutation, IsNonDecreasingBy}
use Rattle.std.proofs.lemmas.Bool.{cases_lt}
use Rattle.std.proofs.lemmas.Option.{slice_get_within, slice_get-get_or, get_or_from_slice_get}
use Rattle.std.proofs.lemmas.List.{length-map, get_or-map, map-append}
use Rattle.std.proofs.lemmas.List.Elements.{All-push, Contains-get_or, Contains-append_left, Contains-push, Contains-push_cases}
use Rattle.std.proofs.lemmas.List.Quantifiers.{all_pairs_push}
use Rattle.std.proofs.lemmas.List.Sorted.{Contains-permutation, IsPermutation-map, IsPermutation-sym}
use Rattle.std.proofs.lemmas.Map.Keys.{IsDistinct-IsPermutation}
use Rattle.std.proofs.lemmas.Map.Made.{AllPairs-from_IsDistinct, IsDistinct-from_AllPairs}
use Rattle.std.proofs.Math.Seq.{take-suc}
use Rattle.board.specs.Shapes.{ShapeModel}
use Rattle.board.specs.Boards.{BoardModel, IsBoard}
use Rattle.board.specs.Keys.{HasKey, key_of}
use Rattle.board.proofs.KeyLemmas.{same_board}
use Rattle.search_keys.specs.SearchKeys.{search_key, HasSearchKey}
use Rattle.search_keys.proofs.SearchKeyLemmas.{one_board}
use Rattle.outcomes.specs.Outcomes.{Task}
use Rattle.closed_table.specs.Tables.{ClosedModel, IsTable}
use Rattle.world_model.specs.declared.parts.Known.{Known}
use Rattle.world_model.specs.Workers.{WorkerState, IsTaskBoard}
use Rattle.world_model.specs.Worlds.{WorldState}
use Rattle.world_model.specs.Outcomes.{AreRowsBelow, AreRowsFor, IsKnownBelow}
use Rattle.world_model.proofs.ChangeLemmas.{knows_owned}
use Rattle.world_ends.specs.declared.rows.KeyedRow.{KeyedRow}
use Rattle.world_ends.specs.Parts.{HasParts}
use Rattle.world_ends.specs.Rows.{IsRowIn, HaveDifferentKeys, IsOfBoards, AreElsewhere, AreKeyedRows, AreBoardsOf, keyed}
use Rattle.world_ends.proofs.PartLemmas.{worker_at, worker_from, task_board}

known_of_some : (k k' : Known) → ◌≡◌ {A = Option Known} (Some k) (Some k') → k ≡ k'
known_of_some k k' e = ap (λ (o : Option Known). unwrap_or o k) e

number_of_some : (k k' : ℕ) → ◌≡◌ {A = Option ℕ} (Some k) (Some k') → k ≡ k'
number_of_some k k' e = ap (λ (o : Option ℕ). unwrap_or o k) e

-- two boards with one key are the same
same_by_key : (grid : ShapeModel) (key : ℕ) (b b' : BoardModel) → HasKey grid key b → HasKey grid key b' → b ≡ b'
same_by_key grid key b b' has has' = same_board b b' has.board has'.board (has.sides ∙ sym has'.sides) (has.packed ∙ sym has'.packed)

-- ---- one worker's boards

-- a row of a board at one of the first places
abbrev pub IsRowUpTo : Task → ℕ → ClosedModel → ℕ → KeyedRow → Type 0
IsRowUpTo task k closed n row = (place : ℕ) × (place < n) × (in' : IsRowIn task k closed.known row) × (slice_get closed.keys place ≡ Some (search_key in'.b))

-- the rows of the boards at the first places, beside old ones
pub record AreRowsUpTo (task : Task) (k : ℕ) (closed : ClosedModel) (old : List KeyedRow) (n : ℕ) (rows : List KeyedRow) : Type 0 where
  pub apart : HaveDifferentKeys rows
  pub each : (row : KeyedRow) → Contains rows row ↔ (Contains old row ⊎ IsRowUpTo task k closed n row)

pub no_rows_yet : (task : Task) (k : ℕ) (closed : ClosedModel) (old : List KeyedRow) → HaveDifferentKeys old → AreRowsUpTo task k closed old 0 old
no_rows_yet task k closed old apart = record {
  apart = apart;
  each = λ row. ((λ has. inl has), (λ has. ⊎_elim (λ (there : Contains old row). there) (λ (up : IsRowUpTo task k closed 0 row). absurd (omega (arith, up.1))) has));
}

-- keys at two places differ
two_places : (closed : ClosedModel) → IsTable closed → (i j key : ℕ) → i < j → slice_get closed.keys i ≡ Some key → slice_get closed.keys j ≡ Some key → ⊥
two_places closed is i j key lt first second =
    let apart = AllPairs-from_IsDistinct unsigned_Decides closed.keys is.once in
    let at : get_or closed.keys i 0 ≡ key = get_or_from_slice_get closed.keys i key 0 first in
    let at' : get_or closed.keys j 0 ≡ key = get_or_from_slice_get closed.keys j key 0 second in
    apart i j 0 lt (slice_get_within closed.keys j key second) (at ∙ sym at')

-- the search key at a place is that of a board, and this is known of it
pub record IsAt (grid : ShapeModel) (closed : ClosedModel) (n : ℕ) (b : BoardModel) (known : Known) : Type 0 where
  pub board : IsBoard b
  pub sides : b.grid ≡ grid
  pub at : slice_get closed.keys n ≡ Some (search_key b)
  pub knows : map.get closed.known (search_key b) ≡ Some known

-- it is so where the key is read at that place, and the board from the key
pub read_at : (grid : ShapeModel) (closed : ClosedModel) (n key : ℕ) (b : BoardModel) (known : Known) → n < length closed.keys → key ≡ slice_index closed.keys n → map.get closed.known key ≡ Some known → HasSearchKey grid key b → IsAt grid closed n b known
read_at grid closed n key b known within is knows has = record {
  board = has.board;
  sides = has.sides;
  at = slice_get-get_or closed.keys n 0 within ∙ ap (λ (x : ℕ). Some x) (sym is ∙ sym has.packed);
  knows = ap (map.get closed.known) has.packed ∙ knows;
}

module _ (task : Task) (k : ℕ) (closed : ClosedModel) (is : IsTable closed) (old : List KeyedRow) (elsewhere : AreElsewhere task.goal.grid old closed.known) (n : ℕ) (rows : List KeyedRow) (are : AreRowsUpTo task k closed old n rows) (b : BoardModel) (known : Known) (here : IsAt task.goal.grid closed n b known) where
  still : (r : KeyedRow) → Contains old r ⊎ IsRowUpTo task k closed n r → Contains old r ⊎ IsRowUpTo task k closed (n + 1) r
  still r (inl there) = inl there
  still r (inr up) = inr (up.0, omega (arith, up.1), up.2, up.3)

  -- a row of the board at this place is this one's
  same_row : (r : KeyedRow) (in' : IsRowIn task k closed.known r) → slice_get closed.keys n ≡ Some (search_key in'.b) → (keyed (b, known.cost) ≡ r) × (known.cost + task.sum b < k)
  same_row r in' at' =
      let found : search_key b ≡ search_key in'.b = number_of_some (search_key b) (search_key in'.b) (sym here.at ∙ at') in
      let board : b ≡ in'.b = one_board b in'.b here.board in'.has.board (here.sides ∙ sym in'.has.sides) found in
      let same : known ≡ in'.known = known_of_some known in'.known (sym here.knows ∙ ap (map.get closed.known) found ∙ in'.knows) in
      let key : key_of b ≡ r.key = ap key_of board ∙ in'.has.packed in
      let paid : known.cost ≡ r.cost = ap (λ (x : Known). x.cost) same ∙ in'.at in
      let low : r.cost + task.sum b < k = subst (λ (x : BoardModel). r.cost + task.sum x < k) (sym board) in'.low in
      ((λ i. record { key = key i; cost = paid i }), subst (λ (n : ℕ). n + task.sum b < k) (sym paid) low)

  -- a board at k or above adds no row
  pub row_left_out : k ≤ known.cost + task.sum b → AreRowsUpTo task k closed old (n + 1) rows
  row_left_out high = record {
    apart = are.apart;
    each = λ r. (
      (λ there. still r ((are.each r).0 there)),
      (λ there. ⊎_elim
          (λ (before : Contains old r). (are.each r).1 (inl before))
          (λ (up : IsRowUpTo task k closed (n + 1) r).
          ⊎_elim
          (λ (lt : up.0 < n). (are.each r).1 (inr (up.0, lt, up.2, up.3)))
          (λ (ge : n ≤ up.0).
          let e : up.0 ≡ n = omega (arith, ge, up.1) in
          let same = same_row r up.2 (ap (slice_get closed.keys) (sym e) ∙ up.3) in
          absurd (omega (arith, high, same.1)))
          (cases_lt up.0 n))
          there),
    );
  }

  -- another row has another key
  other_key : (r : KeyedRow) → Contains old r ⊎ IsRowUpTo task k closed n r → r.key ≢ key_of b
  other_key r (inl there) e = elsewhere r b known there (record { board = here.board; sides = here.sides; packed = sym e }) here.knows
  other_key r (inr up) e =
      let same : up.2.b ≡ b = same_by_key task.goal.grid r.key up.2.b b up.2.has (record { board = here.board; sides = here.sides; packed = sym e }) in
      two_places closed is up.0 n (search_key b) up.1 (up.3 ∙ ap (λ (x : BoardModel). Some (search_key x)) same) here.at

  -- one below k adds its row
  pub row_added : known.cost + task.sum b < k → AreRowsUpTo task k closed old (n + 1) (rows ++ keyed (b, known.cost) ∷ [])
  row_added low =
      let row : KeyedRow = keyed (b, known.cost) in
      let has : HasKey task.goal.grid row.key b = record { board = here.board; sides = here.sides; packed = refl } in
      let in' : IsRowIn task k closed.known row = record { b = b; has = has; known = known; knows = here.knows; at = refl; low = low } in
      record {
        apart = all_pairs_push (λ (r later : KeyedRow). r.key ≢ later.key) rows row are.apart (λ i d within. other_key (get_or rows i d) ((are.each (get_or rows i d)).0 (Contains-get_or rows i d within)));
        each = λ r. (
          (λ there. ⊎_elim
              (λ (before : Contains rows r). still r ((are.each r).0 before))
              (λ (new : row ≡ r). inr (subst (λ (x : KeyedRow). IsRowUpTo task k closed (n + 1) x) new (n, omega arith, in', here.at)))
              (Contains-push_cases rows row r there)),
          (λ there. ⊎_elim
              (λ (before : Contains old r). Contains-append_left rows (row ∷ []) r ((are.each r).1 (inl before)))
              (λ (up : IsRowUpTo task k closed (n + 1) r).
              ⊎_elim
              (λ (lt : up.0 < n). Contains-append_left rows (row ∷ []) r ((are.each r).1 (inr (up.0, lt, up.2, up.3))))
              (λ (ge : n ≤ up.0).
              let e : up.0 ≡ n = omega (arith, ge, up.1) in
              let same = same_row r up.2 (ap (slice_get closed.keys) (sym e) ∙ up.3) in
              subst (λ (x : KeyedRow). Contains (rows ++ row ∷ []) x) same.0 (Contains-push rows row))
              (cases_lt up.0 n))
              there),
        );
      }

-- all boards of a worker
pub all_rows_in : (task : Task) (k : ℕ) (closed : ClosedModel) → IsTable closed → (old rows : List KeyedRow) → AreRowsUpTo task k closed old (length closed.keys) rows → (row : KeyedRow) → Contains rows row ↔ (Contains old row ⊎ IsRowIn task k closed.known row)
all_rows_in task k closed is old rows are row = (
  (λ there. ⊎_elim (λ (before : Contains old row). inl before) (λ (up : IsRowUpTo task k closed (length closed.keys) row). inr up.2) ((are.each row).0 there)),
  (λ there. ⊎_elim
      (λ (before : Contains old row). (are.each row).1 (inl before))
      (λ (in' : IsRowIn task k closed.known row).
      let listed : Contains closed.keys (search_key in'.b) = (is.each (search_key in'.b)).1 (rw in'.knows refl) in
      let at : slice_get closed.keys listed.0 ≡ Some (search_key in'.b) = slice_get-get_or closed.keys listed.0 (search_key in'.b) listed.1 ∙ ap (λ (x : ℕ). Some x) listed.2 in
      (are.each row).1 (inr (listed.0, listed.1, in', at)))
      there),
)

-- ---- the boards of all workers

-- the rows of the first workers
pub record AreRowsOfFirst (task : Task) (k : ℕ) (states : List WorkerState) (n : ℕ) (rows : List KeyedRow) : Type 0 where
  pub apart : HaveDifferentKeys rows
  pub each : (row : KeyedRow) → Contains rows row ↔ ((i : ℕ) × (worker : WorkerState) × (i < n) × (slice_get states i ≡ Some worker) × IsRowIn task k worker.known row)

-- that the row is of one of them
abbrev pub IsOfFirst : Task → ℕ → List WorkerState → ℕ → KeyedRow → Type 0
IsOfFirst task k states n row = (i : ℕ) × (worker : WorkerState) × (i < n) × (slice_get states i ≡ Some worker) × IsRowIn task k worker.known row

pub no_rows_at_all : (task : Task) (k : ℕ) (states : List WorkerState) → AreRowsOfFirst task k states 0 []
no_rows_at_all task k states = record {
  apart = λ i j d lt within. absurd (omega (arith, within));
  each = λ row. ((λ has. absurd (omega (arith, has.1))), (λ up. absurd (omega (arith, up.2))));
}

same_worker : (x y : WorkerState) → ◌≡◌ {A = Option WorkerState} (Some x) (Some y) → x ≡ y
same_worker x y e = ap (λ (o : Option WorkerState). unwrap_or o x) e

-- one worker more
pub rows_of_one_more : (task : Task) (k : ℕ) (states : List WorkerState) (n : ℕ) (worker : WorkerState) (rows more : List KeyedRow) → slice_get states n ≡ Some worker → AreRowsOfFirst task k states n rows → HaveDifferentKeys more → ((row : KeyedRow) → Contains more row ↔ (Contains rows row ⊎ IsRowIn task k worker.known row)) → AreRowsOfFirst task k states (n + 1) more
rows_of_one_more task k states n worker rows more at are apart each = record {
  apart = apart;
  each = λ row. (
    (λ there. ⊎_elim
        (λ (before : Contains rows row). let up = (are.each row).0 before in (up.0, up.1, omega (arith, up.2), up.3, up.4))
        (λ (in' : IsRowIn task k worker.known row). (n, worker, omega arith, at, in'))
        ((each row).0 there)),
    (λ up. ⊎_elim
        (λ (lt : up.0 < n). (each row).1 (inl ((are.each row).1 (up.0, up.1, lt, up.3, up.4))))
        (λ (ge : n ≤ up.0).
        let e : up.0 ≡ n = omega (arith, ge, up.2) in
        let same : up.1 ≡ worker = same_worker up.1 worker (sym up.3 ∙ ap (slice_get states) e ∙ at) in
        (each row).1 (inr (subst (λ (x : WorkerState). IsRowIn task k x.known row) same up.4)))
        (cases_lt up.0 n)),
  );
}

pub rows_of_all : (task : Task) (k : ℕ) (states : List WorkerState) (rows : List KeyedRow) → AreRowsOfFirst task k states (length states) rows → AreKeyedRows task k states rows
rows_of_all task k states rows are = record {
  apart = are.apart;
  each = λ row. (
    (λ there. let up = (are.each row).0 there in (up.0, up.1, up.3, up.4)),
    (λ up. (are.each row).1 (up.0, up.1, slice_get_within states up.0 up.1 up.2, up.2, up.3)),
  );
}

module _ (task : Task) (owner_among : ℕ → BoardModel → ℕ) (states : List WorkerState) (w : WorldState) (parts : HasParts task owner_among states w) where
  -- what a worker knows is boards of the task
  pub boards_are : (i : ℕ) (worker : WorkerState) → slice_get states i ≡ Some worker → IsOfBoards task.goal.grid worker.known
  boards_are i worker at key known knows =
      let has = (parts.shaped.workers i worker (worker_at task owner_among states w parts i worker at)).known key known knows in
      ((has.0, record { board = has.1.0; sides = has.1.1 ∙ ap (λ (t : Task). t.goal.grid) parts.asks; packed = has.2 }), has.4)

  -- and it owns each
  owned : (i : ℕ) (worker : WorkerState) (b : BoardModel) (known : Known) → slice_get states i ≡ Some worker → IsTaskBoard task b → map.get worker.known (search_key b) ≡ Some known → w.owner b ≡ i
  owned i worker b known at board knows = (knows_owned w parts.shaped i b known (record {
    worker = worker;
    is = worker_at task owner_among states w parts i worker at;
    board = task_board task owner_among states w parts b board;
    knows = knows;
  })).0

  -- the rows of other workers are elsewhere
  pub rows_elsewhere : (k n : ℕ) (worker : WorkerState) (rows : List KeyedRow) → slice_get states n ≡ Some worker → AreRowsOfFirst task k states n rows → AreElsewhere task.goal.grid rows worker.known
  rows_elsewhere k n worker rows at are row b known there has knows =
      let up = (are.each row).0 there in
      let in' : IsRowIn task k up.1.known row = up.4 in
      let same : b ≡ in'.b = same_by_key task.goal.grid row.key b in'.b has in'.has in
      let here : w.owner b ≡ n = owned n worker b known at (has.board, has.sides) knows in
      let other : w.owner in'.b ≡ up.0 = owned up.0 up.1 in'.b in'.known up.3 (in'.has.board, in'.has.sides) in'.knows in
      let e : n ≡ up.0 = sym here ∙ ap w.owner same ∙ other in
      omega (arith, e, up.2)

-- ---- in order of key

abbrev key_in : KeyedRow → ℕ
key_in row = row.key

at_key : (rows : List KeyedRow) (i : ℕ) (d : KeyedRow) → i < length rows → get_or (each_of key_in rows) i d.key ≡ (get_or rows i d).key
at_key rows i d within = get_or-map key_in rows i d d.key within

numbers_flip : (x y : ℕ) → nat_eq x y ≡ nat_eq y x
numbers_flip = (decided nat_eq unsigned_Decides).symm

-- a row for places where there is none
no_row : KeyedRow
no_row = record { key = 0; cost = 0 }

keys_apart : (rows : List KeyedRow) → HaveDifferentKeys rows → AllPairs (λ (x y : ℕ). x ≢ y) (each_of key_in rows)
keys_apart rows apart i j d lt within =
    let inside : j < length rows = subst (λ (n : ℕ). j < n) (length-map rows key_in) within in
    let first : get_or (each_of key_in rows) i d ≡ (get_or rows i no_row).key = get_or-map key_in rows i no_row d (omega (arith, lt, inside)) in
    let second : get_or (each_of key_in rows) j d ≡ (get_or rows j no_row).key = get_or-map key_in rows j no_row d inside in
    λ e. apart i j no_row lt inside (sym first ∙ e ∙ second)

-- rows that are apart stay so when they change places
pub apart_still : (rows sorted : List KeyedRow) → IsPermutation rows sorted → HaveDifferentKeys rows → HaveDifferentKeys sorted
apart_still rows sorted moved apart i j d lt within =
    let distinct = IsDistinct-IsPermutation nat_eq numbers_flip (each_of key_in rows) (each_of key_in sorted) (IsPermutation-map key_in rows sorted moved) (IsDistinct-from_AllPairs unsigned_Decides (each_of key_in rows) (keys_apart rows apart)) in
    let after = AllPairs-from_IsDistinct unsigned_Decides (each_of key_in sorted) distinct in
    let inside : j < length (each_of key_in sorted) = subst (λ (n : ℕ). j < n) (sym (length-map sorted key_in)) within in
    let first : get_or (each_of key_in sorted) i d.key ≡ (get_or sorted i d).key = at_key sorted i d (omega (arith, lt, within)) in
    let second : get_or (each_of key_in sorted) j d.key ≡ (get_or sorted j d).key = at_key sorted j d within in
    λ e. after i j d.key lt inside (first ∙ e ∙ sym second)

-- each row in order has its board
pub boards_of_keys : (task : Task) (k : ℕ) (states : List WorkerState) (rows sorted : List KeyedRow) → AreKeyedRows task k states rows → IsPermutation rows sorted → All (λ (row : KeyedRow). (b : BoardModel) × HasKey task.goal.grid row.key b) sorted
boards_of_keys task k states rows sorted are moved i d within =
    let row = get_or sorted i d in
    let there = Contains-permutation sorted rows row (IsPermutation-sym rows sorted moved) (Contains-get_or sorted i d within) in
    let up = (are.each row).0 there in
    (up.3.b, up.3.has)

-- one board more
pub board_named : (grid : ShapeModel) (rows : List KeyedRow) (i : ℕ) (d : KeyedRow) (named : List (BoardModel × ℕ)) (b : BoardModel) → i < length rows → AreBoardsOf grid (take i rows) named → HasKey grid (get_or rows i d).key b → AreBoardsOf grid (take (i + 1) rows) (named ++ (b, (get_or rows i d).cost) ∷ [])
board_named grid rows i d named b within are has =
    let row = get_or rows i d in
    let step : i + 1 ≡ suc i = omega arith in
    let more : take (i + 1) rows ≡ take i rows ++ row ∷ [] = ap (λ (n : ℕ). take n rows) step ∙ take-suc rows i d within in
    let here : keyed (b, row.cost) ≡ row = λ j. record { key = has.packed j; cost = row.cost } in
    record {
      keys = map-append keyed named ((b, row.cost) ∷ []) ∙ ap (λ (xs : List KeyedRow). xs ++ keyed (b, row.cost) ∷ []) are.keys ∙ ap (λ (x : KeyedRow). take i rows ++ x ∷ []) here ∙ sym more;
      boards = All-push (λ (x : BoardModel × ℕ). IsBoard x.0 × (x.0.grid ≡ grid)) named (b, row.cost) are.boards (has.board, has.sides);
    }

module _ (task : Task) (owner_among : ℕ → BoardModel → ℕ) (states : List WorkerState) (w : WorldState) (parts : HasParts task owner_among states w) (k : ℕ) (rows sorted : List KeyedRow) (boards : List (BoardModel × ℕ)) (are : AreKeyedRows task k states rows) (moved : IsPermutation rows sorted) (rising : IsNonDecreasingBy (λ (row : KeyedRow). row.key) sorted) (named : AreBoardsOf task.goal.grid sorted boards) where
  same_length : length boards ≡ length sorted
  same_length = sym (length-map boards keyed) ∙ ap length named.keys

  key_at : (i : ℕ) (d : BoardModel × ℕ) → i < length boards → (get_or sorted i (keyed d)).key ≡ key_of (get_or boards i d).0
  key_at i d within = ap (λ (rs : List KeyedRow). (get_or rs i (keyed d)).key) (sym named.keys) ∙ ap (λ (row : KeyedRow). row.key) (get_or-map keyed boards i d (keyed d) within)

  -- the boards rise by key
  boards_rise : AllPairs (λ (row later : BoardModel × ℕ). key_of row.0 < key_of later.0) boards
  boards_rise i j d lt within =
      let inside : j < length sorted = omega (arith, within, same_length) in
      let le = rising i j (keyed d) (omega (arith, lt)) inside in
      let other = apart_still rows sorted moved are.apart i j (keyed d) lt inside in
      let first = key_at i d (omega (arith, lt, within)) in
      let second = key_at j d within in
      omega (arith, le, first, second, other)

  -- a row is that of a known board below k
  row_known : (b : BoardModel) (cost : ℕ) → Contains boards (b, cost) → IsKnownBelow w k b cost
  row_known b cost (i, within, is) =
      let board = subst (λ (row : BoardModel × ℕ). IsBoard row.0 × (row.0.grid ≡ task.goal.grid)) is (named.boards i (b, cost) within) in
      let inside : i < length sorted = omega (arith, within, same_length) in
      let at : get_or sorted i (keyed (b, cost)) ≡ keyed (b, cost) = ap (λ (rs : List KeyedRow). get_or rs i (keyed (b, cost))) (sym named.keys) ∙ get_or-map keyed boards i (b, cost) (keyed (b, cost)) within ∙ ap keyed is in
      let there = Contains-permutation sorted rows (keyed (b, cost)) (IsPermutation-sym rows sorted moved) (i, inside, at) in
      let up = (are.each (keyed (b, cost))).0 there in
      let in' = up.3 in
      let same : in'.b ≡ b = same_by_key task.goal.grid (key_of b) in'.b b in'.has (record { board = board.0; sides = board.1; packed = refl }) in (
        up.0,
        in'.known,
        record {
          worker = up.1;
          is = worker_at task owner_among states w parts up.0 up.1 up.2;
          board = task_board task owner_among states w parts b board;
          knows = subst (λ (x : BoardModel). map.get up.1.known (search_key x) ≡ Some in'.known) same in'.knows;
        },
        in'.at,
        subst (λ (t : Task). cost + t.sum b < k) (sym parts.asks) (subst (λ (x : BoardModel). cost + task.sum x < k) same in'.low),
      )

  -- and each known board below k has one
  known_row : (b : BoardModel) (cost : ℕ) → IsKnownBelow w k b cost → Contains boards (b, cost)
  known_row b cost (i, known, knows, paid, low) =
      let board = subst (λ (t : Task). IsTaskBoard t b) parts.asks knows.board in
      let in' : IsRowIn task k knows.worker.known (keyed (b, cost)) = record {
        b = b;
        has = record { board = board.0; sides = board.1; packed = refl };
        known = known;
        knows = knows.knows;
        at = paid;
        low = subst (λ (t : Task). cost + t.sum b < k) parts.asks low;
      } in
      let there : Contains rows (keyed (b, cost)) = (are.each (keyed (b, cost))).1 (i, knows.worker, worker_from task owner_among states w parts i knows.worker knows.is, in') in
      let found = Contains-permutation rows sorted (keyed (b, cost)) moved there in
      let within : found.0 < length boards = omega (arith, found.1, same_length) in
      let at : keyed (get_or boards found.0 (b, cost)) ≡ keyed (b, cost) = sym (ap (λ (rs : List KeyedRow). get_or rs found.0 (keyed (b, cost))) (sym named.keys) ∙ get_or-map keyed boards found.0 (b, cost) (keyed (b, cost)) within) ∙ found.2 in
      let here = named.boards found.0 (b, cost) within in
      let same : (get_or boards found.0 (b, cost)).0 ≡ b = same_board (get_or boards found.0 (b, cost)).0 b here.0 board.0 (here.1 ∙ sym board.1) (ap (λ (row : KeyedRow). row.key) at) in
      let cost' : (get_or boards found.0 (b, cost)).1 ≡ cost = ap (λ (row : KeyedRow). row.cost) at in
      (found.0, within, λ i. (same i, cost' i))

  pub rows_are_below : AreRowsBelow w k boards
  rows_are_below = record { rising = boards_rise; each = λ b cost. (row_known b cost, known_row b cost) }

  -- the rows of a cost that the start's sum doesn't prove
  pub rows_are_for : task.sum task.start < k → AreRowsFor w k boards
  rows_are_for low = inr (subst (λ (t : Task). t.sum t.start < k) (sym parts.asks) low, rows_are_below)

-- and where it does
pub no_rows_for : (task : Task) (owner_among : ℕ → BoardModel → ℕ) (states : List WorkerState) (w : WorldState) → HasParts task owner_among states w → (k : ℕ) (rows : List (BoardModel × ℕ)) → k ≤ task.sum task.start → rows ≡ [] → AreRowsFor w k rows
no_rows_for task owner_among states w parts k rows high empty = inl (subst (λ (t : Task). k ≤ t.sum t.start) (sym parts.asks) high, empty)
