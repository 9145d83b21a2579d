-- Labels fall to the lowest cell that the blank reaches.
use Rattle.std.proofs.Common.{◌≡◌, ◌≢◌, ◌⊎◌, ℕ, ◌+◌, ◌<◌, Bool, true, false, List, [], ◌∷◌, ◌++◌, length, get_or, refl, sym, ap, ◌∙◌, subst, ⊎_elim, below_more, arith, suc, ◌-◌, ◌*◌, ◌≤◌, cond, add-one, inl, inr, Some, Result, Ok, Err, zero}
use Rattle.std.specs.Prelude.{◌||◌, slice_index, sum, Contains, slice_get, IfOk, is_ok}
use Rattle.std.proofs.Math.ListN.{set}
use Rattle.std.proofs.lemmas.Bool.{cases_order, false≢true, cases_lt}
use Rattle.std.proofs.lemmas.List.{get_or-set_same, get_or-set_other, length-set, length-append, get_or_append_left}
use Rattle.std.proofs.lemmas.List.Sums.{sum_by-set}
use Rattle.std.proofs.lemmas.Option.{slice_get_within, slice_get-get_or, get_or_from_slice_get}
use Rattle.std.proofs.Math.Seq.{get_or-append_seam}
use Rattle.std.proofs.Math.Nat.{mul-le-mul_right, mul_assoc, mul_comm, mul-le-mul_left}
use Rattle.board.specs.declared.moves.Move.{Move}
use Rattle.board.specs.Shapes.{ShapeModel, IsShape, cell_count}
use Rattle.board.specs.Neighbours.{LiesTowards, opposite}
use Rattle.board.proofs.MoveLemmas.{cell_below}
use Rattle.pattern_index.proofs.ViewMoveLemmas.{lies_back}
use Rattle.pattern_index.specs.Ranks.{IsListing, ways}
use Rattle.pattern_index.specs.declared.group.TheConstants.{MAX_SIZE}
use Rattle.pattern_index.proofs.RankLemmas.{Differ, differ_in, below_in}
use Rattle.pattern_index.specs.Laws.{factorial}
use Rattle.pattern_graph.specs.Sets.{AreSame, IsChoices, set_at, choose, set_place}
use Rattle.pattern_graph.specs.Regions.{IsFree, Wanders, IsPlaced, HasRegions, IsRegions, region_in}
use Rattle.pattern_graph.specs.Numberings.{IsLabel, AreLabels, AreSettled, IsLowering, IsSettled, AreBegun, AreOfSameSets, IsHome, IsLabelled, IsNumberedRow, IsSetNumbered, AreNumbered, AreNumberedTo}
use Rattle.pattern_graph.specs.Orders.{below}
use Rattle.pattern_graph.specs.declared.regions.Home.{Home}
use Rattle.pattern_graph.proofs.OrderLemmas.{below-zero, below-all, below_there, below_absent, in_or_out}
use Rattle.pattern_graph.specs.declared.regions.Regions.{Regions}
use Rattle.pattern_graph.proofs.SetLemmas.{set_is, place_below, one_set, sets_differ, choose_ways}

-- ---- ways of the blank

pub wanders_on : (grid : ShapeModel) (cells : List ℕ) (from : ℕ) (moves : List Move) (to : ℕ) (more : List Move) (end : ℕ) → Wanders grid cells from moves to → Wanders grid cells to more end → Wanders grid cells from (moves ++ more) end
wanders_on grid cells from [] to more end first second = subst (λ (x : ℕ). Wanders grid cells x more end) first second
wanders_on grid cells from (m ∷ moves) to more end first second = (first.0, first.1, first.2, wanders_on grid cells first.0 moves to more end first.3 second)

-- the way back, by the opposite moves
pub wanders_back : (grid : ShapeModel) (cells : List ℕ) (from : ℕ) (moves : List Move) (to : ℕ) → IsFree grid cells from → Wanders grid cells from moves to → (back : List Move) × Wanders grid cells to back from
wanders_back grid cells from [] to free way = ([], sym way)
wanders_back grid cells from (m ∷ moves) to free way =
    let inside = cell_below grid m from way.0 way.1 in
    let rest = wanders_back grid cells way.0 moves to (record { inside = inside; free = way.2 }) way.3 in
    let last : Wanders grid cells way.0 (opposite m ∷ []) from = (from, lies_back grid m from way.0 free.inside way.1, free.free, refl) in
    (rest.0 ++ (opposite m ∷ []), wanders_on grid cells to rest.0 way.0 (opposite m ∷ []) from rest.1 last)

-- the ways depend only on which cells are taken
pub wanders_same : (grid : ShapeModel) (xs ys : List ℕ) (from : ℕ) (moves : List Move) (to : ℕ) → AreSame xs ys → Wanders grid xs from moves to → Wanders grid ys from moves to
wanders_same grid xs ys from [] to same way = way
wanders_same grid xs ys from (m ∷ moves) to same way = (way.0, way.1, (λ on. way.2 ((same way.0).1 on)), wanders_same grid xs ys way.0 moves to same way.3)

pub free_same : (grid : ShapeModel) (xs ys : List ℕ) (cell : ℕ) → AreSame xs ys → IsFree grid xs cell → IsFree grid ys cell
free_same grid xs ys cell same free = record { inside = free.inside; free = λ on. free.free ((same cell).1 on) }

-- ---- one label is lowered

-- a free neighbour's label is one of the cell's too
label_at : (grid : ShapeModel) (cells labels : List ℕ) (cell next : ℕ) → AreLabels grid cells labels → IsFree grid cells cell → (m : Move) → LiesTowards grid m cell next → ¬ Contains cells next → slice_index labels next < slice_index labels cell → IsLabel grid cells cell (slice_index labels next)
label_at grid cells labels cell next are free m towards empty less =
    let there = are.each next (record { inside = cell_below grid m cell next towards; free = empty }) in
    let here = are.each cell free in
    let le = here.low in
    record { low = omega arith; free = there.free; reached = (m ∷ there.reached.0, (next, towards, empty, there.reached.1)) }

pub lowered_labels : (grid : ShapeModel) (cells labels : List ℕ) (cell next : ℕ) (m : Move) → cell < 25 → AreLabels grid cells labels → IsFree grid cells cell → LiesTowards grid m cell next → ¬ Contains cells next → slice_index labels next < slice_index labels cell → AreLabels grid cells (set labels cell (slice_index labels next))
lowered_labels grid cells labels cell next m low are free towards empty less =
    let size = are.size in
    let within : cell < length labels = omega arith in
    let new = set labels cell (slice_index labels next) in
    record {
      size = length-set labels cell (slice_index labels next) ∙ size;
      each = λ k k_free.
          ⊎_elim
          (λ (e : k ≡ cell).
          let at : slice_index new k ≡ slice_index labels next = ap (λ (x : ℕ). get_or new x 0) e ∙ get_or-set_same labels cell (slice_index labels next) 0 within in
          subst (λ (x : ℕ). IsLabel grid cells k x) (sym at)
          (subst (λ (x : ℕ). IsLabel grid cells x (slice_index labels next)) (sym e) (label_at grid cells labels cell next are free m towards empty less)))
          (λ (ne : (k < cell) ⊎ (cell < k)).
          let other : k ≢ cell = omega arith in
          subst (λ (x : ℕ). IsLabel grid cells k x) (sym (get_or-set_other labels cell k (slice_index labels next) 0 other)) (are.each k k_free))
          (cases_order k cell);
    }

pub lowering_at : (labels : List ℕ) (cell label : ℕ) → cell < length labels → label < slice_index labels cell → IsLowering labels (set labels cell label) true
lowering_at labels cell label within less = record {
  falls = λ _. let s = sum_by-set (λ (x : ℕ). x) labels cell label 0 within in omega arith;
  same = λ e. absurd (false≢true (sym e));
}

pub lowering_none : (labels : List ℕ) → IsLowering labels labels false
lowering_none labels = record { falls = λ e. absurd (false≢true e); same = λ _. refl }

-- ---- the labels of all cells

pub none_of : (a b : Bool) → (a || b) ≡ false → (a ≡ false) × (b ≡ false)
none_of false b e = (refl, e)
none_of true b e = absurd (false≢true (sym e))

pub lowering_more : (before middle after : List ℕ) (a b : Bool) → IsLowering before middle a → IsLowering middle after b → IsLowering before after (a || b)
lowering_more before middle after false false first second = record {
  falls = λ e. absurd (false≢true e);
  same = λ _. second.same refl ∙ first.same refl;
}
lowering_more before middle after false true first second = record {
  falls = λ _. subst (λ (xs : List ℕ). sum after < sum xs) (first.same refl) (second.falls refl);
  same = λ e. absurd (false≢true (sym e));
}
lowering_more before middle after true false first second = record {
  falls = λ _. subst (λ (xs : List ℕ). sum xs < sum before) (sym (second.same refl)) (first.falls refl);
  same = λ e. absurd (false≢true (sym e));
}
lowering_more before middle after true true first second = record {
  falls = λ _. let one = first.falls refl in let two = second.falls refl in omega arith;
  same = λ e. absurd (false≢true (sym e));
}

pub settled_more : (grid : ShapeModel) (cells before after : List ℕ) (cell : ℕ) (a b : Bool) → IsLowering before after b → (a ≡ false → (k : ℕ) → k < cell → IsSettled grid cells before k) → (b ≡ false → IsSettled grid cells after cell) → (a || b) ≡ false → (k : ℕ) → k < cell + 1 → IsSettled grid cells after k
settled_more grid cells before after cell a b lowering settled here none =
    let parts = none_of a b none in
    below_more (λ (k : ℕ). IsSettled grid cells after k) cell
    (λ k lt. subst (λ (xs : List ℕ). IsSettled grid cells xs k) (sym (lowering.same parts.1)) (settled parts.0 k lt))
    (here parts.1)

-- at first each cell is its own label
pub first_labels : (grid : ShapeModel) (cells labels : List ℕ) → length labels ≡ 25 → ((k : ℕ) → k < cell_count grid → get_or labels k 0 ≡ k) → AreLabels grid cells labels
first_labels grid cells labels size own = record {
  size = size;
  each = λ cell free.
      let e = own cell free.inside in
      subst (λ (x : ℕ). IsLabel grid cells cell x) (sym e) (record { low = omega arith; free = free.free; reached = ([], refl) });
}

-- where no cell's label is above that of a free neighbour, the two are one
pub all_settled : (grid : ShapeModel) (cells labels : List ℕ) → AreLabels grid cells labels → ((k : ℕ) → k < cell_count grid → IsSettled grid cells labels k) → AreSettled grid cells labels
all_settled grid cells labels are settled = record {
  are = are;
  near = λ m from to free there towards.
      let up = settled from free.inside m to free towards there.free in
      let down = settled to there.inside (opposite m) from there (lies_back grid m from to free.inside towards) free.free in
      omega arith;
}

-- ---- numbers of regions, one cell after another

-- ---- how many tiles are below the next cell

-- as many as below the cell before it, if none is on that one
next_free : (cell : ℕ) (cells : List ℕ) → ¬ Contains cells cell → below (cell + 1) cells ≡ below cell cells
next_free cell cells free = ap (λ (k : ℕ). below k cells) (add-one cell) ∙ below_absent cell cells free

-- one more at most
next_below : (cell : ℕ) (cells : List ℕ) → Differ cells → below (cell + 1) cells ≤ below cell cells + 1
next_below cell cells differ =
    let next : below (cell + 1) cells ≡ below (suc cell) cells = ap (λ (k : ℕ). below k cells) (add-one cell) in
    ⊎_elim (λ (on : Contains cells cell). let h = below_there cell cells differ on in omega arith) (λ (off : ¬ Contains cells cell). let h = below_absent cell cells off in omega arith) (in_or_out cell cells)

-- ---- what stays when lists grow

pub kept_number : (numbers : List ℕ) (x at : ℕ) → at < length numbers → slice_index (numbers ++ x ∷ []) at ≡ slice_index numbers at
kept_number numbers x at within = get_or_append_left numbers (x ∷ []) 0 at within

last_number : (numbers : List ℕ) (x at : ℕ) → at ≡ length numbers → slice_index (numbers ++ x ∷ []) at ≡ x
last_number numbers x at is = ap (λ (k : ℕ). get_or (numbers ++ x ∷ []) k 0) is ∙ get_or-append_seam numbers x [] 0

module _ (homes : List Home) (home : Home) where
  kept_home : (region : ℕ) (other : Home) → slice_get homes region ≡ Some other → slice_get (homes ++ home ∷ []) region ≡ Some other
  kept_home region other is =
      let within = slice_get_within homes region other is in
      let n = length-append homes (home ∷ []) in
      slice_get-get_or (homes ++ home ∷ []) region home (omega arith)
      ∙ ap Some (get_or_append_left homes (home ∷ []) home region within ∙ get_or_from_slice_get homes region other home is)

  last_home : slice_get (homes ++ home ∷ []) (length homes) ≡ Some home
  last_home =
      let n = length-append homes (home ∷ []) in
      slice_get-get_or (homes ++ home ∷ []) (length homes) home (omega arith) ∙ ap Some (get_or-append_seam homes home [] home)

  home_cases : (region : ℕ) (other : Home) → slice_get (homes ++ home ∷ []) region ≡ Some other → (slice_get homes region ≡ Some other) ⊎ ((region ≡ length homes) × (other ≡ home))
  home_cases region other is =
      let within = slice_get_within (homes ++ home ∷ []) region other is in
      let n = length-append homes (home ∷ []) in
      let at = get_or_from_slice_get (homes ++ home ∷ []) region other home is in
      ⊎_elim
      (λ (lt : region < length homes). inl (slice_get-get_or homes region home lt ∙ ap Some (sym (get_or_append_left homes (home ∷ []) home region lt) ∙ at)))
      (λ (le : length homes ≤ region).
      let e : region ≡ length homes = omega arith in
      inr (e, sym at ∙ ap (λ (k : ℕ). get_or (homes ++ home ∷ []) k home) e ∙ get_or-append_seam homes home [] home))
      (cases_lt region (length homes))

-- a place of a lower set is a lower place
pub lower_place : (n other set cell : ℕ) → other < set → cell < n → other * n + cell < set * n
lower_place n other set cell lt within = let m : (other + 1) * n ≤ set * n = mul-le-mul_right n (omega arith) in omega arith

-- ---- labels are constant where the blank wanders

pub one_label : (grid : ShapeModel) (cells labels : List ℕ) (from : ℕ) (moves : List Move) (to : ℕ) → AreSettled grid cells labels → IsFree grid cells from → Wanders grid cells from moves to → slice_index labels to ≡ slice_index labels from
one_label grid cells labels from [] to settled free way = ap (slice_index labels) way
one_label grid cells labels from (m ∷ moves) to settled free way =
    let next : IsFree grid cells way.0 = record { inside = cell_below grid m from way.0 way.1; free = way.2 } in
    one_label grid cells labels way.0 moves to settled next way.3 ∙ settled.near m from way.0 free next way.1

-- ---- one more cell is numbered

pub home_stays : (grid : ShapeModel) (count : ℕ) (numbers : List ℕ) (x region : ℕ) (home : Home) → IsHome grid count numbers region home → IsHome grid count (numbers ++ x ∷ []) region home
home_stays grid count numbers x region home is =
    let m = length-append numbers (x ∷ []) in
    let place = is.place in
    record { place = omega arith; free = is.free; number = kept_number numbers x (home.set * cell_count grid + home.cell) is.place ∙ is.number }

module _ (grid : ShapeModel) (cells labels numbers : List ℕ) (homes : List Home) (set cell : ℕ) (inside : cell < cell_count grid) (numbered : AreNumberedTo grid (length cells) cells labels numbers homes set cell) where
  -- with a number whose home is the label, if the cell is free
  step : (x : ℕ) (next : List Home) → ((region : ℕ) (home : Home) → slice_get homes region ≡ Some home → slice_get next region ≡ Some home)
      → ((region : ℕ) (home : Home) → slice_get next region ≡ Some home → IsHome grid (length cells) (numbers ++ x ∷ []) region home)
      → length next + below (cell + 1) cells ≤ set * (cell_count grid - length cells) + (cell + 1)
      → (IsFree grid cells cell → slice_get next x ≡ Some (record { set = set; cell = slice_index labels cell }))
      → AreNumberedTo grid (length cells) cells labels (numbers ++ x ∷ []) next set (cell + 1)
  step x next keep back few here =
      let n = cell_count grid in
      let size = numbered.size in
      let more = length-append numbers (x ∷ []) in
      record {
        size = omega arith;
        rows = λ other lt.
            let old = numbered.rows other lt in
            record {
              labels = old.labels;
              settled = old.settled;
              row = λ k k_in free.
                  let low = lower_place n other set k lt k_in in
                  let same = kept_number numbers x (other * n + k) (omega arith) in
                  subst (λ (y : ℕ). slice_get next y ≡ Some (record { set = other; cell = slice_index old.labels k })) (sym same) (keep _ _ (old.row k k_in free));
            };
        row = below_more (λ (k : ℕ). IsFree grid cells k → slice_get next (slice_index (numbers ++ x ∷ []) (set * n + k)) ≡ Some (record { set = set; cell = slice_index labels k })) cell
            (λ k lt free.
            let same = kept_number numbers x (set * n + k) (omega arith) in
            subst (λ (y : ℕ). slice_get next y ≡ Some (record { set = set; cell = slice_index labels k })) (sym same) (keep _ _ (numbered.row k lt free)))
            (λ free.
            let same = last_number numbers x (set * n + cell) (omega arith) in
            subst (λ (y : ℕ). slice_get next y ≡ Some (record { set = set; cell = slice_index labels cell })) (sym same) (here free));
        are_homes = back;
        few = few;
      }

  -- with a region that is there
  pub with_region : (x : ℕ) → IsListing (cell_count grid) cells → (IsFree grid cells cell → slice_get homes x ≡ Some (record { set = set; cell = slice_index labels cell })) → AreNumberedTo grid (length cells) cells labels (numbers ++ x ∷ []) homes set (cell + 1)
  with_region x listing here =
      let few = numbered.few in
      let more = next_below cell cells (differ_in (cell_count grid) cells listing) in
      step x homes (λ region home is. is) (λ region home is. home_stays grid (length cells) numbers x region home (numbered.are_homes region home is)) (omega arith) here

  -- with a region that is new
  pub with_new_region : cells ≡ set_at (cell_count grid) (length cells) set → IsFree grid cells cell → slice_index labels cell ≡ cell → AreNumberedTo grid (length cells) cells labels (numbers ++ length homes ∷ []) (homes ++ record { set = set; cell = cell } ∷ []) set (cell + 1)
  with_new_region are free own =
      let n = cell_count grid in
      let home : Home = record { set = set; cell = cell } in
      let size = numbered.size in
      let few = numbered.few in
      let x = length homes in
      let more = length-append homes (home ∷ []) in
      let longer = length-append numbers (x ∷ []) in
      let same = next_free cell cells free.free in
      let new : IsHome grid (length cells) (numbers ++ x ∷ []) x home = record {
        place = omega arith;
        free = subst (λ (xs : List ℕ). IsFree grid xs cell) are free;
        number = last_number numbers x (set * n + cell) (omega arith);
      } in
      step x (homes ++ home ∷ []) (kept_home homes home)
      (λ region other is.
      ⊎_elim (λ (old : slice_get homes region ≡ Some other). home_stays grid (length cells) numbers x region other (numbered.are_homes region other old))
      (λ (here : (region ≡ length homes) × (other ≡ home)).
      subst (λ (y : ℕ). IsHome grid (length cells) (numbers ++ x ∷ []) y other) (sym here.0)
      (subst (λ (h : Home). IsHome grid (length cells) (numbers ++ x ∷ []) x h) (sym here.1) new))
      (home_cases homes home region other is))
      (omega arith)
      (λ _. last_home homes home ∙ ap (λ (y : ℕ). Some (record { set = set; cell = y })) (sym own))

  -- the region of the label
  pub label_region : AreSettled grid cells labels → IsFree grid cells cell → slice_index labels cell < cell → slice_get homes (slice_index numbers (set * cell_count grid + slice_index labels cell)) ≡ Some (record { set = set; cell = slice_index labels cell })
  label_region settled free less =
      let label = settled.are.each cell free in
      let there : IsFree grid cells (slice_index labels cell) = record { inside = omega arith; free = label.free } in
      let same = one_label grid cells labels cell label.reached.0 (slice_index labels cell) settled free label.reached.1 in
      numbered.row (slice_index labels cell) less there ∙ ap (λ (y : ℕ). Some (record { set = set; cell = y })) same

-- ---- what a push leaves

pub when_pushed : {T E : Type 0} (r : Result T E) (P : List ℕ → Type 0) (old new : List ℕ) (x : ℕ) → new ≡ cond (is_ok r) (old ++ x ∷ []) old → P (old ++ x ∷ []) → IfOk r (λ _. P new)
when_pushed (Ok value) P old new x is p = subst P (sym is) p
when_pushed (Err fault) P old new x is p = tt

-- ---- a whole set

pub numbered_none : (grid : ShapeModel) (cells labels numbers : List ℕ) (homes : List Home) (set : ℕ) → AreNumbered grid (length cells) numbers homes set → AreNumberedTo grid (length cells) cells labels numbers homes set 0
numbered_none grid cells labels numbers homes set numbered =
    let size = numbered.size in
    let few = numbered.few in
    let none = below-zero cells in
    record { size = omega arith; rows = numbered.rows; row = λ k lt free. absurd (omega arith); are_homes = numbered.are_homes; few = omega arith }

pub numbered_all : (grid : ShapeModel) (cells labels numbers : List ℕ) (homes : List Home) (set cell : ℕ) → cell_count grid ≤ cell → cell ≤ cell_count grid → IsListing (cell_count grid) cells → cells ≡ set_at (cell_count grid) (length cells) set → AreSettled grid cells labels → AreNumberedTo grid (length cells) cells labels numbers homes set cell → AreNumbered grid (length cells) numbers homes (set + 1)
numbered_all grid cells labels numbers homes set cell high low listing are settled numbered =
    let n = cell_count grid in
    let last : cell ≡ n = omega arith in
    let size = numbered.size in
    let few = numbered.few in
    let all : below cell cells ≡ length cells = ap (λ (k : ℕ). below k cells) last ∙ below-all n cells (below_in n cells listing) in
    record {
      size = omega arith;
      rows = below_more (λ (other : ℕ). IsSetNumbered grid (length cells) numbers homes other) set numbered.rows (record {
        labels = labels;
        settled = subst (λ (xs : List ℕ). AreSettled grid xs labels) are settled;
        row = subst (λ (xs : List ℕ). IsNumberedRow grid xs labels numbers homes set n) are (subst (λ (k : ℕ). IsNumberedRow grid cells labels numbers homes set k) last numbered.row);
      });
      are_homes = numbered.are_homes;
      few = omega arith;
    }

-- ---- numbers of regions say where the blank wanders

-- ---- how many there are

ways_next : (n count : ℕ) → ways n (suc count) ≡ ways n count * (n - count)
unfolding ways
ways_next n zero = omega arith
ways_next n (suc count) =
    let rest = ap (λ (k : ℕ). n * k) (ways_next (n - 1) count) in
    let left : n - 1 - count ≡ n - suc count = omega arith in
    rest ∙ sym (mul_assoc n (ways (n - 1) count) (n - 1 - count)) ∙ ap (λ (k : ℕ). n * ways (n - 1) count * k) left

factorial_some : (n : ℕ) → 0 < factorial n
factorial_some zero = omega arith
factorial_some (suc n) = let h = factorial_some n in let m : 1 * factorial n ≤ suc n * factorial n = mul-le-mul_right (factorial n) (omega arith) in omega arith

-- each view of a group of one tile more would have an own region and an order
all_ways : (n count : ℕ) → choose n count * (n - count) * factorial count ≡ ways n (suc count)
all_ways n count =
    mul_assoc (choose n count) (n - count) (factorial count)
    ∙ ap (λ (k : ℕ). choose n count * k) (mul_comm (n - count) (factorial count))
    ∙ sym (mul_assoc (choose n count) (factorial count) (n - count))
    ∙ ap (λ (k : ℕ). k * (n - count)) (choose_ways n count)
    ∙ sym (ways_next n count)

pub few_homes : (n count homes : ℕ) → homes ≤ choose n count * (n - count) → homes * factorial count ≤ ways n (suc count)
few_homes n count homes few = let m = mul-le-mul_right (factorial count) few in let e = all_ways n count in omega arith

pub few_places : (n count set limit : ℕ) → set ≤ choose n count → ways n (suc count) ≤ limit → set * (n - count) ≤ limit
few_places n count set limit low small =
    let all = choose n count * (n - count) in
    let m : set * (n - count) ≤ choose n count * (n - count) = mul-le-mul_right (n - count) low in
    let some : all * 1 ≤ all * factorial count = mul-le-mul_left all (factorial_some count) in
    let e = all_ways n count in
    omega arith

first_numbered : (grid : ShapeModel) (count : ℕ) → AreNumbered grid count [] [] 0
first_numbered grid count = record {
  size = omega arith;
  rows = λ other lt. absurd (omega arith);
  are_homes = λ region home is. absurd (let h = slice_get_within [] region home is in omega arith);
  few = omega arith;
}

pub numbered_first : (grid : ShapeModel) (count : ℕ) (numbers : List ℕ) (homes : List Home) → numbers ≡ [] → homes ≡ [] → AreNumbered grid count numbers homes 0
numbered_first grid count numbers homes none no_home =
    subst (λ (ns : List ℕ). AreNumbered grid count ns homes 0) (sym none) (subst (λ (hs : List Home). AreNumbered grid count [] hs 0) (sym no_home) (first_numbered grid count))

lower_set : (n other set cell : ℕ) → other * n + cell < set * n → other < set
lower_set n other set cell low =
    ⊎_elim (λ (lt : other < set). lt) (λ (le : set ≤ other). let m : set * n ≤ other * n = mul-le-mul_right n le in absurd (omega arith)) (cases_lt other set)

-- the set that was written
pub set_written : (cells n length count place : ℕ) (xs : List ℕ) → cells ≡ n → xs ≡ set_at cells length place → length ≡ count → xs ≡ set_at n count place
set_written cells n length count place xs same is size = is ∙ (λ i. set_at (same i) (size i) place)

-- ---- all sets are numbered

one_cell : (x y : Home) → Some x ≡ Some y → (x.set ≡ y.set) × (x.cell ≡ y.cell)
one_cell x y is = (cc, cc)

-- what is known of the number of a free cell
record IsFound (r : Regions) (cells : List ℕ) (cell : ℕ) : Type 0 where
  label : ℕ
  home : slice_get r.homes.items (region_in r cells cell) ≡ Some (record { set = set_place cells; cell = label })
  moves : List Move
  way : Wanders r.shape cells cell moves label

module _ (r : Regions) (numbered : AreNumbered r.shape r.count r.numbers.items r.homes.items (choose (cell_count r.shape) r.count)) where
  place_in : (cells : List ℕ) → IsPlaced r.shape r.count cells → set_place cells < choose (cell_count r.shape) r.count
  place_in cells placed = subst (λ (k : ℕ). set_place cells < choose (cell_count r.shape) k) placed.one_each (place_below (cell_count r.shape) cells placed.listing)

  same_set : (cells : List ℕ) → IsPlaced r.shape r.count cells → AreSame cells (set_at (cell_count r.shape) r.count (set_place cells))
  same_set cells placed = subst (λ (k : ℕ). AreSame cells (set_at (cell_count r.shape) k (set_place cells))) placed.one_each (one_set (cell_count r.shape) cells placed.listing)

  back : (xs ys : List ℕ) → AreSame xs ys → AreSame ys xs
  back xs ys same cell = ((same cell).1, (same cell).0)

  row_of : (cells : List ℕ) → IsPlaced r.shape r.count cells → IsSetNumbered r.shape r.count r.numbers.items r.homes.items (set_place cells)
  row_of cells placed = numbered.rows (set_place cells) (place_in cells placed)

  home_of : (cells : List ℕ) (cell : ℕ) (placed : IsPlaced r.shape r.count cells) → IsFree r.shape cells cell → slice_get r.homes.items (region_in r cells cell) ≡ Some (record { set = set_place cells; cell = slice_index (row_of cells placed).labels cell })
  home_of cells cell placed free = (row_of cells placed).row cell free.inside (free_same r.shape cells (set_at (cell_count r.shape) r.count (set_place cells)) cell (same_set cells placed) free)

  found : (cells : List ℕ) (cell : ℕ) → IsPlaced r.shape r.count cells → IsFree r.shape cells cell → IsFound r cells cell
  found cells cell placed free =
      let row = row_of cells placed in
      let at = set_at (cell_count r.shape) r.count (set_place cells) in
      let label = row.settled.are.each cell (free_same r.shape cells at cell (same_set cells placed) free) in
      record {
        label = slice_index row.labels cell;
        home = home_of cells cell placed free;
        moves = label.reached.0;
        way = wanders_same r.shape at cells cell label.reached.0 (slice_index row.labels cell) (back cells at (same_set cells placed)) label.reached.1;
      }

  -- two numbers with one home are one
  one_number : (x y : ℕ) (home other : Home) → slice_get r.homes.items x ≡ Some home → slice_get r.homes.items y ≡ Some other → home ≡ other → x ≡ y
  one_number x y home other first second same =
      let one = numbered.are_homes x home first in
      let two = numbered.are_homes y other second in
      sym one.number ∙ ap (λ (h : Home). slice_index r.numbers.items (h.set * cell_count r.shape + h.cell)) same ∙ two.number

  near : (cells : List ℕ) (m : Move) (from to : ℕ) → IsPlaced r.shape r.count cells → IsFree r.shape cells from → IsFree r.shape cells to → LiesTowards r.shape m from to → region_in r cells to ≡ region_in r cells from
  near cells m from to placed free there towards =
      let at = set_at (cell_count r.shape) r.count (set_place cells) in
      let same = same_set cells placed in
      let row = row_of cells placed in
      let label = row.settled.near m from to (free_same r.shape cells at from same free) (free_same r.shape cells at to same there) towards in
      one_number (region_in r cells to) (region_in r cells from) _ _ (home_of cells to placed there) (home_of cells from placed free) (λ i. record { set = set_place cells; cell = label i })

  joined : (xs ys : List ℕ) (from to : ℕ) → IsPlaced r.shape r.count xs → IsPlaced r.shape r.count ys → IsFree r.shape xs from → IsFree r.shape ys to → region_in r xs from ≡ region_in r ys to → AreSame xs ys × ((moves : List Move) × Wanders r.shape xs from moves to)
  joined xs ys from to px py free there same =
      let one = found xs from px free in
      let two = found ys to py there in
      let is = one_cell (record { set = set_place xs; cell = one.label }) (record { set = set_place ys; cell = two.label }) (sym one.home ∙ ap (slice_get r.homes.items) same ∙ two.home) in
      let alike = sets_differ (cell_count r.shape) xs ys px.listing py.listing (px.one_each ∙ sym py.one_each) is.0 in
      let home = wanders_back r.shape ys to two.moves two.label there two.way in
      let on = wanders_same r.shape ys xs two.label home.0 to (back xs ys alike) home.1 in
      (alike, (one.moves ++ home.0, wanders_on r.shape xs from one.moves one.label home.0 to one.way (subst (λ (k : ℕ). Wanders r.shape xs k home.0 to) (sym is.1) on)))

  homes_in : (region : ℕ) (home : Home) → slice_get r.homes.items region ≡ Some home → (home.set < choose (cell_count r.shape) r.count) × IsFree r.shape (set_at (cell_count r.shape) r.count home.set) home.cell × (region_in r (set_at (cell_count r.shape) r.count home.set) home.cell ≡ region)
  homes_in region home is =
      let here = numbered.are_homes region home is in
      let size = numbered.size in
      let place = here.place in
      let low = lower_set (cell_count r.shape) home.set (choose (cell_count r.shape) r.count) home.cell (omega arith) in
      (low, here.free, ap (λ (k : ℕ). slice_index r.numbers.items (k * cell_count r.shape + home.cell)) (set_is (cell_count r.shape) r.count home.set low).2 ∙ here.number)

  pub has_regions : HasRegions r
  has_regions = record {
    rows = numbered.size;
    inside = λ cells blank placed free. slice_get_within r.homes.items (region_in r cells blank) _ (home_of cells blank placed free);
    near = near;
    joined = joined;
    homes = homes_in;
    few = few_homes (cell_count r.shape) r.count (length r.homes.items) numbered.few;
  }

-- ---- set after set, and cell after cell

module _ (r : Regions) (set : ℕ) (cells labels : List ℕ) (begun : AreBegun r.shape r.count set r) (low : set < choose (cell_count r.shape) r.count) (are : cells ≡ set_at (cell_count r.shape) r.count set) where
  long : length cells ≡ r.count
  long = ap length are ∙ (set_is (cell_count r.shape) r.count set low).1

  -- no cell of the set is numbered
  pub begun_first : AreNumberedTo r.shape (length cells) cells labels r.numbers.items r.homes.items set 0
  begun_first =
      numbered_none r.shape cells labels r.numbers.items r.homes.items set
      (subst (λ (k : ℕ). AreNumbered r.shape k r.numbers.items r.homes.items set) (sym long) begun.numbered)

  -- what its cells are numbered by
  pub begun_row : AreSettled r.shape cells labels → IsLabelled r.shape set cells labels
  begun_row settled =
      let places = few_places (cell_count r.shape) r.count set MAX_SIZE (omega (arith, low)) begun.small in
      let some : set * 1 ≤ set * (cell_count r.shape - r.count) = mul-le-mul_left set (let room = begun.room in omega (arith, room)) in
      record {
        listing = subst (λ (ys : List ℕ). IsListing (cell_count r.shape) ys) (sym are) (set_is (cell_count r.shape) r.count set low).0;
        cells_are = are ∙ ap (λ (k : ℕ). set_at (cell_count r.shape) k set) (sym long);
        settled = settled;
        fits = omega (arith, places, some);
        small = subst (λ (k : ℕ). set * (cell_count r.shape - k) ≤ MAX_SIZE) (sym long) places;
      }

  -- all are
  pub begun_all : AreSettled r.shape cells labels → (cell : ℕ) → cell_count r.shape ≤ cell → cell ≤ cell_count r.shape → (r' : Regions) → AreOfSameSets r r' → AreNumberedTo r.shape (length cells) cells labels r'.numbers.items r'.homes.items set cell → AreBegun r.shape r.count (set + 1) r'
  begun_all settled cell high all r' same numbered =
      let row = begun_row settled in
      record {
        shape = same.shape;
        tiles = same.count;
        choices = subst IsChoices (sym same.choices) begun.choices;
        short = begun.short;
        room = begun.room;
        small = begun.small;
        numbered = subst (λ (k : ℕ). AreNumbered r.shape k r'.numbers.items r'.homes.items (set + 1)) long
            (numbered_all r.shape cells labels r'.numbers.items r'.homes.items set cell high all row.listing row.cells_are settled numbered);
      }

module _ (grid : ShapeModel) (count set : ℕ) (r : Regions) (begun : AreBegun grid count set r) where
  -- the grid and the count are the regions' own
  pub begun_own : AreBegun r.shape r.count set r
  begun_own = subst (λ (g : ShapeModel). AreBegun g r.count set r) (sym begun.shape) (subst (λ (k : ℕ). AreBegun grid k set r) (sym begun.tiles) begun)

  pub begun_next : (next : ℕ) (r' : Regions) → AreBegun r.shape r.count next r' → AreBegun grid count next r'
  begun_next next r' is = subst (λ (g : ShapeModel). AreBegun g count next r') begun.shape (subst (λ (k : ℕ). AreBegun r.shape k next r') begun.tiles is)

  -- where the sets of all places are numbered
  pub begun_regions : IsShape grid → 0 < count → set ≡ choose (cell_count grid) count → IsRegions grid count r
  begun_regions sides some all = record {
    shape = begun.shape;
    sides = sides;
    tiles = begun.tiles;
    some = some;
    room = begun.room;
    short = begun.short;
    choices = begun.choices;
    regions = has_regions r
        (subst (λ (g : ShapeModel). AreNumbered g r.count r.numbers.items r.homes.items (choose (cell_count g) r.count)) (sym begun.shape)
        (subst (λ (k : ℕ). AreNumbered grid k r.numbers.items r.homes.items (choose (cell_count grid) k)) (sym begun.tiles)
        (subst (λ (s : ℕ). AreNumbered grid count r.numbers.items r.homes.items s) all begun.numbered)));
  }

-- the number of a free cell is there
pub region_within : (r : Regions) (cells : List ℕ) (blank set count : ℕ) → HasRegions r → IsPlaced r.shape r.count cells → IsFree r.shape cells blank → set ≡ set_place cells → count ≡ cell_count r.shape → set * count + blank < length r.numbers.items
region_within r cells blank set count regions placed free is all =
    let low : set_place cells < choose (cell_count r.shape) r.count = subst (λ (k : ℕ). set_place cells < choose (cell_count r.shape) k) placed.one_each (place_below (cell_count r.shape) cells placed.listing) in
    let within = lower_place (cell_count r.shape) (set_place cells) (choose (cell_count r.shape) r.count) blank low free.inside in
    let rows = regions.rows in
    let same : set * count ≡ set_place cells * cell_count r.shape = (λ i. is i * all i) in
    omega arith
