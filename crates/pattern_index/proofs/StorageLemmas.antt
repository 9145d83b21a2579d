-- What lies in memory, and `==` of it.
use Rattle.std.proofs.Common.{◌≡◌, ◌≢◌, ℕ, zero, suc, ◌+◌, ◌-◌, ◌<◌, ◌≤◌, Bool, List, [], ◌∷◌, ◌++◌, length, map, set, drop, take, replicate, get_or, refl, sym, ap, ◌∙◌, ⊎_elim, arith, add-one}
use Rattle.std.specs.Prelude.{slice_index}
use Rattle.std.specs.Bool.{Decides}
use Rattle.std.specs.List.{AllByRecursion}
use Rattle.std.specs.Str.{bytes_eq}
use Rattle.std.proofs.lemmas.Bool.{cases_eq, cases_lt}
use Rattle.std.proofs.lemmas.List.{get_or-set_same, get_or-set_other, length-append, length-replicate, drop-replicate, take_at, drop_at}
use Rattle.board.specs.Shapes.{cell_count}
use Rattle.board.specs.Boards.{BoardModel, IsBoard, cell_of}
use Rattle.board.proofs.TileLemmas.{cell_is, has_cell}
use Rattle.board.proofs.StorageLemmas.{same_stored}
use Rattle.pattern_index.specs.Packing.{sight_in, view_storage, IsStoredView, view_storage-sight_in}
use Rattle.pattern_index.specs.declared.view.View.TheInside as view

-- the places in memory are equal exactly where the views are, given that the counts are
pub same_view : (a b : view.Inside) (r : Bool) → IsStoredView a → IsStoredView b → a.count ≡ b.count → r ≡ bytes_eq a.places b.places → Decides r (sight_in a ≡ sight_in b)
same_view a b r stored stored' counts =
    same_stored sight_in view_storage (λ (x : view.Inside). x.places) a b r (view_storage-sight_in a stored) (view_storage-sight_in b stored')
    (λ e i. record { blank = slice_index (e i) 0; cells = drop 1 (take (counts i) (e i)) })

-- the cell of one more number is known
pub met_more : (b : BoardModel) (tiles cells : List ℕ) (cell : ℕ) → IsBoard b → tiles ≡ b.tiles → cell < length tiles → cell_count b.grid ≤ length cells → ((number : ℕ) → number < cell_count b.grid → cell_of b number < cell → get_or cells number 0 ≡ cell_of b number) → (number : ℕ) → number < cell_count b.grid → cell_of b number < cell + 1 → get_or (set cells (get_or tiles cell 0) cell) number 0 ≡ cell_of b number
met_more b tiles cells cell board is cell_in room met number number_in low =
    let tile : ℕ = get_or tiles cell 0 in
    let holds : get_or b.tiles cell 0 ≡ tile = ap (λ (ts : List ℕ). get_or ts cell 0) (sym is) in
    let within : cell < length b.tiles = rw is at cell_in in
    let small = board.in_range cell 0 within in
    let at : cell_of b tile ≡ cell = cell_is b board.different cell tile within holds in
    ⊎_elim (λ (same : number ≡ tile). ap (λ (n : ℕ). get_or (set cells tile cell) n 0) same ∙ get_or-set_same cells tile cell 0 (omega arith) ∙ sym at ∙ ap (cell_of b) (sym same))
    (λ (other : number ≢ tile).
    let apart : cell_of b number ≢ cell = λ same. other (sym (has_cell b board number number_in).1 ∙ ap (λ (k : ℕ). get_or b.tiles k 0) same ∙ holds) in
    get_or-set_other cells tile number cell 0 other ∙ met number number_in (less (cell_of b number) cell low apart))
    (cases_eq number tile)
  where
    less : (x y : ℕ) → x < y + 1 → x ≢ y → x < y
    less x y lt ne = ⊎_elim (λ (h : x < y). h) (λ (h : y ≤ x). absurd (ne (omega arith))) (cases_lt x y)

-- a number that the board doesn't have has no cell
pub met_no_other : (b : BoardModel) (tiles cells : List ℕ) (cell : ℕ) → IsBoard b → tiles ≡ b.tiles → cell < length tiles → ((number : ℕ) → cell_count b.grid ≤ number → get_or cells number 0 ≡ 0) → (number : ℕ) → cell_count b.grid ≤ number → get_or (set cells (get_or tiles cell 0) cell) number 0 ≡ 0
met_no_other b tiles cells cell board is cell_in others number high =
    let tile : ℕ = get_or tiles cell 0 in
    let holds : get_or b.tiles cell 0 ≡ tile = ap (λ (ts : List ℕ). get_or ts cell 0) (sym is) in
    let within : cell < length b.tiles = rw is at cell_in in
    let small = board.in_range cell 0 within in
    let other : number ≢ tile = λ same. absurd (omega (arith, small, holds, same, high)) in
    get_or-set_other cells tile number cell 0 other ∙ others number high

-- zeros are 0 at each place, and behind the last
pub zeros_are_0 : (count place : ℕ) → ◌≡◌ {A = ℕ} (get_or (replicate count 0) place 0) 0
zeros_are_0 zero place = refl
zeros_are_0 (suc count) zero = refl
zeros_are_0 (suc count) (suc place) = zeros_are_0 count place

-- ---- a view of a board

-- places, the blank's first
pub view_stored : (n x : ℕ) (cells rest : List ℕ) → length cells ≡ n → n ≤ 9 → rest ≡ replicate (9 - n) 0 → IsStoredView (record { count = n + 1; places = x ∷ (cells ++ rest) })
view_stored n x cells rest long few zeros =
    let behind : length rest ≡ 9 - n = ap length zeros ∙ length-replicate (9 - n) 0 in
    record {
      some = omega arith;
      places = record {
        few = omega arith;
        all = ap suc (length-append cells rest ∙ (λ i. long i + behind i)) ∙ whole n few;
        unused = ap (λ (k : ℕ). drop k (x ∷ (cells ++ rest))) (add-one n) ∙ drop_at cells rest n long ∙ zeros ∙ ap (λ (k : ℕ). replicate k 0) (less n);
      };
    }
  where
    whole : (k : ℕ) → k ≤ 9 → suc (k + (9 - k)) ≡ 10
    whole k le = omega arith

    less : (k : ℕ) → 9 - k ≡ 10 - (k + 1)
    less k = omega arith

pub view_seen : (n x : ℕ) (cells rest : List ℕ) → length cells ≡ n → sight_in (record { count = n + 1; places = x ∷ (cells ++ rest) }) ≡ record { blank = x; cells = cells }
view_seen n x cells rest long =
    let at : drop 1 (take (n + 1) (x ∷ (cells ++ rest))) ≡ cells = ap (λ (k : ℕ). drop 1 (take k (x ∷ (cells ++ rest)))) (add-one n) ∙ take_at cells rest n long in
    λ i. record { blank = x; cells = at i }

-- the zeros behind the places
pub zeros_behind : (n : ℕ) → drop {A = ℕ} (n + 1 - 1) (replicate 9 0) ≡ replicate (9 - n) 0
zeros_behind n = drop-replicate (n + 1 - 1) 9 0 ∙ ap (λ (k : ℕ). replicate (9 - k) 0) (same n)
  where
    same : (k : ℕ) → k + 1 - 1 ≡ k
    same k = omega arith

-- cells that were looked up are the board's
pub looked_up : (b : BoardModel) (cells tiles : List ℕ) → ((number : ℕ) → number < cell_count b.grid → get_or cells number 0 ≡ cell_of b number) → AllByRecursion (λ tile. tile < cell_count b.grid) tiles → map (slice_index cells) tiles ≡ map (cell_of b) tiles
looked_up b cells [] known low = refl
looked_up b cells (t ∷ tiles) known low = λ i. known t low.0 i ∷ looked_up b cells tiles known low.1 i
