-- Slots, by the cells of some tiles.
use Rattle.std.proofs.Common.{◌≡◌, ◌≢◌, ◌+◌, ◌*◌, ◌<◌, ◌≤◌, ℕ, List, map, set, length, sym, ap, ◌∙◌, ⊎_elim, subst, arith}
use Rattle.std.specs.Prelude.{slice_index, All}
use Rattle.std.proofs.lemmas.List.{length-map}
use Rattle.std.proofs.lemmas.List.Elements.{recursion_from_All}
use Rattle.std.proofs.Math.Nat.{le-max_left, mul_comm}
use Rattle.std.proofs.lemmas.Nat.{mul-le}
use Rattle.board.specs.Shapes.{ShapeModel, cell_count}
use Rattle.std.proofs.lemmas.Bool.{cases_eq}
use Rattle.std.proofs.lemmas.List.{get_or-set_same, get_or-set_other, length-set}
use Rattle.pattern_index.specs.Views.{IsView, exchanged, view_at}
use Rattle.pattern_index.specs.Sparse.{digit_base, slot_in, sparse_of}
use Rattle.pattern_index.proofs.PlaceLemmas.{place_listing}
use Rattle.pattern_index.proofs.SparseLemmas.{slot-parts, sparse_small}

-- the cells of some tiles are digits
within : (grid : ShapeModel) (tiles cells : List ℕ) → IsView grid tiles (view_at tiles cells) → All (λ cell. cell < digit_base grid) (map (slice_index cells) tiles)
within grid tiles cells view = λ k d low.
    let under = (place_listing grid tiles (view_at tiles cells) view).in_range k d low in
    let wide = le-max_left (cell_count grid) 16 in
    omega (arith, under, wide)

pub under_base : (grid : ShapeModel) (own tiles cells : List ℕ) (n : ℕ) → IsView grid own (view_at own cells) → n ≡ digit_base grid → tiles ≡ own → All (λ cell. cell < n) (map (slice_index cells) tiles)
under_base grid own tiles cells n view base same =
    subst (λ m. All (λ cell. cell < m) (map (slice_index cells) tiles)) (sym base)
    (subst (λ (ts : List ℕ). All (λ cell. cell < digit_base grid) (map (slice_index cells) ts)) (sym same) (within grid own cells view))

-- what is multiplied is small
module _ (n sparse : ℕ) (tiles cells : List ℕ) (is : sparse ≡ sparse_of n (map (slice_index cells) tiles)) (few : n ≤ 25) (short : length tiles ≤ 9) (all : All (λ cell. cell < n) (map (slice_index cells) tiles)) where
  pub product : sparse * n ≤ 3814697265625 * 25
  product =
      let small = sparse_small n (map (slice_index cells) tiles) few (let l = length-map tiles (slice_index cells) in omega (arith, l, short)) (recursion_from_All (λ cell. cell < n) (map (slice_index cells) tiles) all) in
      mul-le sparse n 3814697265625 25 (omega (arith, is, small)) few

-- the slot in parts
pub whole : (grid : ShapeModel) (n sparse : ℕ) (tiles own cells : List ℕ) → n ≡ digit_base grid → tiles ≡ own → sparse ≡ sparse_of n (map (slice_index cells) tiles) → sparse * n + slice_index cells 0 ≡ slot_in grid (view_at own cells)
whole grid n sparse tiles own cells base same is =
    let e : sparse ≡ sparse_of (digit_base grid) (map (slice_index cells) own) = is ∙ (λ i. sparse_of (base i) (map (slice_index cells) (same i))) in
    let m : sparse * n ≡ digit_base grid * sparse_of (digit_base grid) (map (slice_index cells) own) = (λ i. e i * base i) ∙ mul_comm (sparse_of (digit_base grid) (map (slice_index cells) own)) (digit_base grid) in
    let p = slot-parts (digit_base grid) (slice_index cells 0) (map (slice_index cells) own) in
    omega (arith, m, p)

-- where the blank is after a tile went to its cell
pub blank_after : (cells : List ℕ) (tile : ℕ) → length cells ≡ 25 → tile < 25 → slice_index (exchanged cells tile) 0 ≡ slice_index cells tile
blank_after cells tile all low =
    let inner : List ℕ = set cells 0 (slice_index cells tile) in
    let long : length inner ≡ 25 = length-set cells 0 (slice_index cells tile) ∙ all in
    ⊎_elim
    (λ (same : 0 ≡ tile).
    ap (λ (t : ℕ). slice_index (set inner t (slice_index cells 0)) 0) (sym same)
    ∙ get_or-set_same inner 0 (slice_index cells 0) 0 (omega (arith, long))
    ∙ ap (slice_index cells) same)
    (λ (other : 0 ≢ tile).
    get_or-set_other inner tile 0 (slice_index cells 0) 0 other
    ∙ get_or-set_same cells 0 (slice_index cells tile) 0 (omega (arith, all)))
    (cases_eq 0 tile)
