-- The boards that a world knows below a cost can be listed, in rising order of key.
use Rattle.std.proofs.Common.{◌≡◌, ◌⊎◌, ℕ, zero, suc, ◌+◌, ◌<◌, ◌≤◌, true, false, List, [], ◌∷◌, ◌++◌, length, refl, sym, ap, ◌∙◌, subst, inl, inr, ⊎_elim, arith, Option, Some, None}
use Rattle.std.specs.Prelude.{⊤, ◌↔◌, AllPairs, Contains, slice_get}
use Rattle.std.specs.Ordering.{nat_cmp, eq_by_cmp}
use Rattle.std.specs.FinMap as map
use Rattle.std.specs.FinMap.Entries.{find}
use Rattle.std.proofs.lemmas.Bool.{cases_lt, cases_Bool, cond-false}
use Rattle.std.proofs.lemmas.Bool.Decides.{nat_tests}
use Rattle.std.proofs.lemmas.Option.{slice_get_within}
use Rattle.std.proofs.lemmas.List.Elements.{Contains-append_left, Contains-append_right, Contains-append_cases, Contains-get_or}
use Rattle.std.proofs.lemmas.List.Kept.{AllPairs-cons}
use Rattle.board.specs.Keys.{key_of}
use Rattle.board.specs.Boards.{BoardModel}
use Rattle.search_keys.specs.SearchKeys.{search_key}
use Rattle.outcomes.specs.Outcomes.{Task}
use Rattle.world_model.specs.declared.parts.Known.{Known}
use Rattle.world_model.specs.Knowledge.{Knowledge}
use Rattle.world_model.specs.Outcomes.{AreRowsFor, IsKnownBelow}
use Rattle.world_model.specs.Shapes.{IsShaped, IsShapedWorker}
use Rattle.world_model.specs.Workers.{IsTaskBoard, KnowsAs, WorkerState}
use Rattle.world_model.specs.Worlds.{IsWorker, Knows, WorldState, role_of}
use Rattle.world_model.proofs.ChangeLemmas.{cons_cases, get_below, head_in, later_in, none_in, knows_owned, same_key, same_known, same_search_key}

-- a list of just the elements with P
record Listed {X : Type 0} (P : X → Type 0) : Type 0 where
  items : List X
  each : (x : X) → Contains items x ↔ P x

module _ {X : Type 0} where
  listed_none : (P : X → Type 0) → ((x : X) → ¬ P x) → Listed P
  listed_none P none = record { items = []; each = λ x. (λ has. absurd (none_in x has), λ h. absurd (none x h)) }

  listed_one : (P : X → Type 0) (y : X) → P y → ((x : X) → P x → y ≡ x) → Listed P
  listed_one P y is only = record {
    items = y ∷ [];
    each = λ x. (
      λ has. ⊎_elim (λ (e : y ≡ x). subst P e is) (λ (later : Contains {X = X} [] x). absurd (none_in x later)) (cons_cases y [] x has),
      λ h. subst (λ (z : X). Contains (y ∷ []) z) (only x h) (head_in y []),
    );
  }

  listed_alike : (P Q : X → Type 0) → ((x : X) → P x ↔ Q x) → Listed P → Listed Q
  listed_alike P Q alike list = record { items = list.items; each = λ x. (λ has. (alike x).0 ((list.each x).0 has), λ h. (list.each x).1 ((alike x).1 h)) }

  listed_either : (P Q : X → Type 0) → Listed P → Listed Q → Listed (λ x. P x ⊎ Q x)
  listed_either P Q first second = record {
    items = first.items ++ second.items;
    each = λ x. (
      λ has. ⊎_elim (λ in_first. inl ((first.each x).0 in_first)) (λ in_second. inr ((second.each x).0 in_second)) (Contains-append_cases first.items second.items x has),
      λ h. ⊎_elim (λ p. Contains-append_left first.items second.items x ((first.each x).1 p)) (λ q. Contains-append_right first.items second.items x ((second.each x).1 q)) h,
    );
  }

-- what belongs to some element of a list can be listed, where what belongs to each of them can
over_first : {X Y : Type 0} (R : X → Y → Type 0) (x : X) (xs : List X) (y : Y) → (R x y ⊎ ((z : X) × Contains xs z × R z y)) ↔ ((z : X) × Contains (x ∷ xs) z × R z y)
over_first {X} R x xs y = (
  λ either. ⊎_elim
      (λ (here : R x y). (x, head_in x xs, here))
      (λ (later : (z : X) × Contains xs z × R z y). (later.0, later_in x xs later.0 later.1, later.2)) either,
  λ some. ⊎_elim
      (λ (e : x ≡ some.0). inl (subst (λ (z : X). R z y) (sym e) some.2))
      (λ (later : Contains xs some.0). inr (some.0, later, some.2)) (cons_cases x xs some.0 some.1),
)

listed_over : {X Y : Type 0} (R : X → Y → Type 0) (xs : List X) → ((x : X) → Listed (R x)) → Listed (λ y. (x : X) × Contains xs x × R x y)
listed_over R [] each = listed_none _ (λ y some. none_in some.0 some.1)
listed_over {X} R (x ∷ xs) each =
    listed_alike (λ y. R x y ⊎ ((z : X) × Contains xs z × R z y)) _ (over_first R x xs) (listed_either (R x) _ (each x) (listed_over R xs each))

-- so can what belongs to some number below n
below_last : {Y : Type 0} (R : ℕ → Y → Type 0) (n : ℕ) (y : Y) → (R n y ⊎ ((i : ℕ) × (i < n) × R i y)) ↔ ((i : ℕ) × (i < suc n) × R i y)
below_last R n y = (
  λ either. ⊎_elim
      (λ (last : R n y). (n, omega arith, last))
      (λ (before : (i : ℕ) × (i < n) × R i y). (before.0, omega (arith, before.1), before.2)) either,
  λ some. ⊎_elim
      (λ (lt : some.0 < n). inr (some.0, lt, some.2))
      (λ (ge : n ≤ some.0). let e : some.0 ≡ n = omega (arith, some.1) in inl (subst (λ (i : ℕ). R i y) e some.2)) (cases_lt some.0 n),
)

listed_below : {Y : Type 0} (R : ℕ → Y → Type 0) (n : ℕ) → ((i : ℕ) → i < n → Listed (R i)) → Listed (λ y. (i : ℕ) × (i < n) × R i y)
listed_below R zero each = listed_none _ (λ y some. omega (arith, some.1))
listed_below R (suc n) each =
    listed_alike (λ y. R n y ⊎ ((i : ℕ) × (i < n) × R i y)) _ (below_last R n) (listed_either (R n) _ (each n (omega arith)) (listed_below R n (λ i lt. each i (omega arith))))

-- a row: a board, and the cost at which it is known
abbrev Row : Type 0
Row = BoardModel × ℕ

-- each row has a greater key than n
abbrev AreAbove : ℕ → List Row → Type 0
AreAbove n rows = (row : Row) → Contains rows row → n < key_of row.0

-- each row has a greater key than those before it
abbrev AreRising : List Row → Type 0
AreRising [] = ⊤
AreRising (row ∷ rows) = AreAbove (key_of row.0) rows × AreRising rows

all_pairs : (rows : List Row) → AreRising rows → AllPairs (λ (row later : Row). key_of row.0 < key_of later.0) rows
all_pairs [] rise = λ i j d lt within. absurd (omega arith)
all_pairs (row ∷ rows) rise =
    AllPairs-cons (λ (a b : Row). key_of a.0 < key_of b.0) row rows (λ k d lt. rise.0 _ (Contains-get_or rows k d lt)) (all_pairs rows rise.1)

-- rising rows, which are those of a list and one more
record With (more : Row) (rows : List Row) : Type 0 where
  items : List Row
  rise : AreRising items
  each : (row : Row) → Contains items row ↔ ((more ≡ row) ⊎ Contains rows row)

-- a row can be put before all others
with_first : (more : Row) (rows : List Row) → AreRising rows → AreAbove (key_of more.0) rows → With more rows
with_first more rows rise above = record {
  items = more ∷ rows;
  rise = (above, rise);
  each = λ row. (
    λ has. cons_cases more rows row has,
    λ either. ⊎_elim (λ (e : more ≡ row). subst (λ (r : Row). Contains (more ∷ rows) r) e (head_in more rows)) (λ (has : Contains rows row). later_in more rows row has) either,
  );
}

-- a row that is there already changes nothing
with_same : (more : Row) (rows : List Row) → AreRising rows → Contains rows more → With more rows
with_same more rows rise there = record {
  items = rows;
  rise = rise;
  each = λ row. (
    λ has. inr has,
    λ either. ⊎_elim (λ (e : more ≡ row). subst (λ (r : Row). Contains rows r) e there) (λ (has : Contains rows row). has) either,
  );
}

-- a row with a greater key than the first comes after it
with_later : (more first : Row) (rows : List Row) → key_of first.0 < key_of more.0 → AreAbove (key_of first.0) rows → With more rows → With more (first ∷ rows)
with_later more first rows lt above rest = record {
  items = first ∷ rest.items;
  rise = (
    λ row has. ⊎_elim
        (λ (e : more ≡ row). subst (λ (r : Row). key_of first.0 < key_of r.0) e lt)
        (λ (old : Contains rows row). above row old) ((rest.each row).0 has),
    rest.rise,
  );
  each = λ row. (
    λ has. ⊎_elim
        (λ (e : first ≡ row). inr (subst (λ (r : Row). Contains (first ∷ rows) r) e (head_in first rows)))
        (λ (later : Contains rest.items row). ⊎_elim (λ (e : more ≡ row). inl e) (λ (old : Contains rows row). inr (later_in first rows row old)) ((rest.each row).0 later))
        (cons_cases first rest.items row has),
    λ either. ⊎_elim
        (λ (e : more ≡ row). later_in first rest.items row ((rest.each row).1 (inl e)))
        (λ (has : Contains (first ∷ rows) row). ⊎_elim
        (λ (e : first ≡ row). subst (λ (r : Row). Contains (first ∷ rest.items) r) e (head_in first rest.items))
        (λ (old : Contains rows row). later_in first rest.items row ((rest.each row).1 (inr old)))
        (cons_cases first rows row has)) either,
  );
}

-- so a row can be added, where no other row has its key
with_one : (more : Row) (rows : List Row) → AreRising rows → ((row : Row) → Contains rows row → key_of more.0 ≡ key_of row.0 → row ≡ more) → With more rows
with_one more [] rise same = with_first more [] rise (λ row has. absurd (none_in row has))
with_one more (first ∷ rows) rise same =
    ⊎_elim
    (λ (before : key_of more.0 < key_of first.0). with_first more (first ∷ rows) rise (λ row has.
    ⊎_elim
    (λ (e : first ≡ row). subst (λ (r : Row). key_of more.0 < key_of r.0) e before)
    (λ (later : Contains rows row). let lt = rise.0 row later in omega arith) (cons_cases first rows row has)))
    (λ (ge : key_of first.0 ≤ key_of more.0). ⊎_elim
    (λ (after : key_of first.0 < key_of more.0). with_later more first rows after rise.0 (with_one more rows rise.1 (λ row has. same row (later_in first rows row has))))
    (λ (le : key_of more.0 ≤ key_of first.0). with_same more (first ∷ rows) rise
    (subst (λ (r : Row). Contains (first ∷ rows) r) (same first (head_in first rows) (omega arith)) (head_in first rows)))
    (cases_lt (key_of first.0) (key_of more.0)))
    (cases_lt (key_of more.0) (key_of first.0))

-- the same rows in rising order
record Sorted (rows : List Row) : Type 0 where
  items : List Row
  rise : AreRising items
  each : (row : Row) → Contains items row ↔ Contains rows row

with_each : (first : Row) (rows : List Row) → (rest : Sorted rows) → With first rest.items → Sorted (first ∷ rows)
with_each first rows rest list = record {
  items = list.items;
  rise = list.rise;
  each = λ row. (
    λ has. ⊎_elim
        (λ (e : first ≡ row). subst (λ (r : Row). Contains (first ∷ rows) r) e (head_in first rows))
        (λ (later : Contains rest.items row). later_in first rows row ((rest.each row).0 later)) ((list.each row).0 has),
    λ has. (list.each row).1 (⊎_elim
        (λ (e : first ≡ row). inl e)
        (λ (later : Contains rows row). inr ((rest.each row).1 later)) (cons_cases first rows row has)),
  );
}

sorted : (rows : List Row) → ((row other : Row) → Contains rows row → Contains rows other → key_of row.0 ≡ key_of other.0 → other ≡ row) → Sorted rows
sorted [] same = record { items = []; rise = tt; each = λ row. (λ has. has, λ has. has) }
sorted (first ∷ rows) same =
    let rest = sorted rows (λ row other has has'. same row other (later_in first rows row has) (later_in first rows other has')) in
    with_each first rows rest (with_one first rest.items rest.rise (λ row has. same first row (head_in first rows) (later_in first rows row ((rest.each row).0 has))))

-- where something is known at a key, an entry has this key
found_entry : (key : ℕ) (known : Known) (es : List (ℕ × Known)) → find nat_cmp key es ≡ Some known → (e : ℕ × Known) × Contains es e × (e.0 ≡ key)
found_entry key known [] at = cc
found_entry key known (e ∷ es) at =
    ⊎_elim
    (λ (here : eq_by_cmp nat_cmp key e.0 ≡ true). (e, head_in e es, sym (same_keys key e.0 here)))
    (λ (other : eq_by_cmp nat_cmp key e.0 ≡ false).
    let later = found_entry key known es (sym (cond-false _ _ _ other) ∙ at) in
    (later.0, later_in e es later.0 later.1, later.2))
    (cases_Bool (eq_by_cmp nat_cmp key e.0))
  where
    same_keys : (a b : ℕ) → eq_by_cmp nat_cmp a b ≡ true → a ≡ b
    same_keys a b e = grind (arith, nat_tests)

entry_of : (m : Knowledge) (key : ℕ) (known : Known) → map.get m key ≡ Some known → (e : ℕ × Known) × Contains (map.entries m) e × (map.get m e.0 ≡ Some known) × (key ≡ e.0)
entry_of m key known at =
    let e = found_entry key known (map.entries m) (sym (map.get-entries m key) ∙ at) in
    (e.0, e.1, ap (map.get m) e.2 ∙ at, sym e.2)

-- the board with this key is known to the worker so, and its cost plus sum is below k
record IsRowAt (task : Task) (worker : WorkerState) (k key : ℕ) (row : Row) : Type 0 where
  known : Known
  board : IsTaskBoard task row.0
  keyed : search_key row.0 ≡ key
  knows : map.get worker.known key ≡ Some known
  cost : known.cost ≡ row.1
  below : row.1 + task.sum row.0 < k

-- worker i knows the board at this cost, and its cost plus sum is below k
abbrev IsRowOf : WorldState → ℕ → ℕ → Row → Type 0
IsRowOf w k i row = (known : Known) × Knows w i row.0 known × (known.cost ≡ row.1) × (row.1 + w.task.sum row.0 < k)

module _ (n k : ℕ) (w : WorldState) (i : ℕ) (worker : WorkerState) (shaped : IsShapedWorker n (role_of w i) worker) where
  -- at each key is one row, or none
  one_row : (key : ℕ) (at : Option Known) → map.get worker.known key ≡ at → Listed (IsRowAt w.task worker k key)
  one_row key None none = listed_none _ (λ row is. cc (none, is.knows))
  one_row key (Some known) some =
      let own = shaped.known key known some in
      let same : (row : Row) → IsRowAt w.task worker k key row → (own.0, known.cost) ≡ row = λ row is.
      let board : own.0 ≡ row.0 = same_search_key w.task own.0 row.0 own.1 is.board (own.2 ∙ sym is.keyed) in
      let both = same_known worker.known key known is.known some is.knows in
      let cost : known.cost ≡ row.1 = ap (λ (x : Known). x.cost) both ∙ is.cost in
      λ t. (board t, cost t) in
      ⊎_elim
      (λ (lt : known.cost + w.task.sum own.0 < k). listed_one _ (own.0, known.cost) (record { known = known; board = own.1; keyed = own.2; knows = some; cost = refl; below = lt }) same)
      (λ (ge : k ≤ known.cost + w.task.sum own.0). listed_none _ (λ row is.
      let e = same row is in
      let lt : known.cost + w.task.sum own.0 < k = subst (λ (r : Row). r.1 + w.task.sum r.0 < k) (sym e) is.below in
      omega arith))
      (cases_lt (known.cost + w.task.sum own.0) k)

  -- the rows of a worker are those at the keys of its entries
  from_entry : IsWorker w i worker → (row : Row) → (e : ℕ × Known) × Contains (map.entries worker.known) e × IsRowAt w.task worker k e.0 row → IsRowOf w k i row
  from_entry is row (e, there, at) = (at.known, record { worker = worker; is = is; board = at.board; knows = ap (map.get worker.known) at.keyed ∙ at.knows }, at.cost, at.below)

  to_entry : IsWorker w i worker → (row : Row) → IsRowOf w k i row → (e : ℕ × Known) × Contains (map.entries worker.known) e × IsRowAt w.task worker k e.0 row
  to_entry is row (known, knows, cost, below) =
      let same : knows.worker ≡ worker = cc (knows.is, is) in
      let e = entry_of worker.known (search_key row.0) known (subst (λ (x : WorkerState). KnowsAs x row.0 known) same knows.knows) in
      (e.0, e.1, record { known = known; board = knows.board; keyed = e.3; knows = e.2; cost = cost; below = below })

  worker_rows : IsWorker w i worker → Listed (IsRowOf w k i)
  worker_rows is =
      listed_alike _ (IsRowOf w k i) (λ row. (from_entry is row, to_entry is row))
      (listed_over (λ (e : ℕ × Known). IsRowAt w.task worker k e.0) (map.entries worker.known) (λ e. one_row e.0 (map.get worker.known e.0) refl))

module _ (w : WorldState) (k : ℕ) (shaped : IsShaped w) where
  -- the rows of all workers
  all_rows : Listed (λ (row : Row). IsKnownBelow w k row.0 row.1)
  all_rows =
      listed_alike _ _ (λ row. (
        λ some. (some.0, some.2.0, some.2.1, some.2.2, some.2.3),
        λ has. (has.0, slice_get_within w.workers has.0 has.2.worker has.2.is, (has.1, has.2, has.3, has.4)),
      ))
      (listed_below (IsRowOf w k) (length w.workers) (λ i lt.
      let at = get_below w.workers i lt in
      worker_rows (length w.workers) k w i at.0 (shaped.workers i at.0 at.1) at.1))

  -- a board is known to its owner alone, at one cost
  one_each : (row other : Row) → IsKnownBelow w k row.0 row.1 → IsKnownBelow w k other.0 other.1 → key_of row.0 ≡ key_of other.0 → other ≡ row
  one_each row other has has' same =
      let board : other.0 ≡ row.0 = same_key w.task other.0 row.0 has'.2.board has.2.board (sym same) in
      let owner : has'.0 ≡ has.0 = sym (knows_owned w shaped has'.0 other.0 has'.1 has'.2).0 ∙ ap w.owner board ∙ (knows_owned w shaped has.0 row.0 has.1 has.2).0 in
      let worker : has'.2.worker ≡ has.2.worker = cc (has'.2.is, has.2.is, ap (slice_get w.workers) owner) in
      let known : has'.1 ≡ has.1 = same_known has.2.worker.known (search_key row.0) has'.1 has.1
      (subst (λ (x : WorkerState). map.get x.known (search_key row.0) ≡ Some has'.1) worker (ap (map.get has'.2.worker.known) (ap search_key (sym board)) ∙ has'.2.knows))
      has.2.knows in
      let cost : other.1 ≡ row.1 = sym has'.3 ∙ ap (λ (x : Known). x.cost) known ∙ has.3 in
      λ t. (board t, cost t)

-- the rows that an outcome of the world has exist
pub rows_exist : (w : WorldState) (k : ℕ) → IsShaped w → (rows : List (BoardModel × ℕ)) × AreRowsFor w k rows
rows_exist w k shaped =
    ⊎_elim
    (λ (lt : w.task.sum w.task.start < k).
    let found = all_rows w k shaped in
    let list = sorted found.items (λ row other has has'. one_each w k shaped row other ((found.each row).0 has) ((found.each other).0 has')) in (
      list.items,
      inr (
        lt,
        record {
          rising = all_pairs list.items list.rise;
          each = λ b cost. (
            λ has. (found.each (b, cost)).0 ((list.each (b, cost)).0 has),
            λ h. (list.each (b, cost)).1 ((found.each (b, cost)).1 h),
          );
        },
      ),
    ))
    (λ (ge : k ≤ w.task.sum w.task.start). ([], inl (ge, refl)))
    (cases_lt (w.task.sum w.task.start) k)
