-- What the loops over orders keep.
use Rattle.std.proofs.Common.{◌≡◌, ◌≢◌, ℕ, suc, ◌+◌, ◌-◌, ◌*◌, ◌<◌, ◌≤◌, List, [], ◌∷◌, length, get_or, map, refl, sym, ap, ◌∙◌, subst, arith, zero, ◌/◌, ◌%◌, ◌++◌, take, drop, set, add-one, eqb, ⊎_elim}
use Rattle.std.proofs.lemmas.List.{length-map, take_more, take_all, take_at, take_more_set, length-take-le, length-append, length-drop, length_push, get_or_default, append_assoc, get_or_append_left, get_or-append-add, get_or_read}
use Rattle.std.proofs.lemmas.List.Edits.{map_over_more}
use Rattle.std.proofs.lemmas.Bool.Decides.{nat_tests}
use Rattle.std.proofs.lemmas.Nat.{mod_below, mul-add-lt, div-mul-add, mod-mul-add}
use Rattle.std.proofs.Math.Nat.{mul-le-mul_right, mod-eq_of_lt, mul_comm}
use Rattle.std.specs.List.{All, position_or_len, range_with_len}
use Rattle.std.specs.Prelude.{Contains}
use Rattle.std.proofs.lemmas.List.FromFn.{map-range_with_len_more, length-range_with_len, get_or-map-range_with_len}
use Rattle.std.proofs.lemmas.Bool.{cases_lt}
use Rattle.pattern_index.specs.Laws.{factorial}
use Rattle.pattern_index.specs.Ranks.{IsListing, spread}
use Rattle.pattern_index.proofs.CellLemmas.{split_digit}
use Rattle.pattern_index.proofs.RankLemmas.{Below, Differ, Other, below_in, differ_in, listing_from}
use Rattle.pattern_graph.specs.Orders.{order_of, positions_at, exchanged_position, moved_position, moved_order, below, order_after, tile_of}
use Rattle.pattern_graph.proofs.OrderLemmas.{positions_are, positions_back, order_with, order_below, below_full, below_absent, in_or_out, tile_is}
use Rattle.pattern_graph.specs.declared.orders.Orders.{Orders}
use Rattle.pattern_graph.specs.Graphs.{HasPasses, HasPassesTo, AreMoves, IsOrders}
use Rattle.pattern_graph.specs.declared.orders.TheConstants.{MOST_MOVED}

pub factorial_some : (n : ℕ) → 1 ≤ factorial n
factorial_some zero = omega arith
factorial_some (suc n) = let some = factorial_some n in let more : 1 * factorial n ≤ suc n * factorial n = mul-le-mul_right (factorial n) (omega arith) in omega arith

factorial_up : (n : ℕ) → factorial n ≤ factorial (suc n)
factorial_up n = let more : 1 * factorial n ≤ suc n * factorial n = mul-le-mul_right (factorial n) (omega arith) in omega arith

pub factorial_grows : (m more : ℕ) → factorial m ≤ factorial (m + more)
factorial_grows m zero = subst (λ k. factorial m ≤ factorial k) (same m) (omega arith)
  where
    same : (k : ℕ) → k ≡ k + 0
    same k = omega arith
factorial_grows m (suc more) = let rest = factorial_grows m more in let up = factorial_up (m + more) in subst (λ k. factorial m ≤ factorial k) (same m more) (omega arith)
  where
    same : (k n : ℕ) → suc (k + n) ≡ k + suc n
    same k n = omega arith

-- a factorial of at most nine is small
pub factorial_small : (n : ℕ) → n ≤ 9 → factorial n ≤ 362880
factorial_small n le =
    let grows = factorial_grows n (9 - n) in
    let nine : n + (9 - n) ≡ 9 = omega arith in
    subst (λ k. factorial n ≤ factorial k) nine grows

pub factorial_next : (n : ℕ) → factorial (n + 1) ≡ factorial n * (n + 1)
factorial_next n = ap factorial (add-one n) ∙ omega arith

-- one step of the loop that makes an order
pub order_step : (cells : List ℕ) (tile count : ℕ) → tile < length cells → count ≡ below (get_or cells tile 0) (take tile cells) → order_of (take tile cells) + count * factorial tile ≡ order_of (take (tile + 1) cells)
order_step cells tile count within counted =
    let size = length-take-le tile cells (omega arith) in
    (λ i. order_of (take tile cells) + counted i * factorial (sym size i))
    ∙ sym (order_with (take tile cells) (get_or cells tile 0))
    ∙ ap order_of (sym (take_more cells tile 0 within))

pub order_small : (cells : List ℕ) (tile : ℕ) → length cells ≤ 9 → tile ≤ length cells → (order_of (take tile cells) < factorial tile) × (factorial tile ≤ 362880)
order_small cells tile short within =
    (subst (λ k. order_of (take tile cells) < factorial k) (length-take-le tile cells within) (order_below (take tile cells)), factorial_small tile (omega arith))

pub order_of-nil : order_of [] ≡ 0
unfolding order_of order_after
order_of-nil = refl

-- the order and the unit after one step more
pub record IsOrderStep (cells : List ℕ) (tile order unit digit : ℕ) : Type 0 where
  pub order_is : order + digit * unit ≡ order_of (take (tile + 1) cells)
  pub unit_is : unit * (tile + 1) ≡ factorial (tile + 1)
  pub low : order + digit * unit < factorial (tile + 1)
  pub small : factorial (tile + 1) ≤ 362880

pub order_stepped : (cells : List ℕ) (tile order unit digit : ℕ) → length cells ≤ 9 → tile < length cells → order ≡ order_of (take tile cells) → unit ≡ factorial tile → digit ≡ below (get_or cells tile 0) (take tile cells) → IsOrderStep cells tile order unit digit
order_stepped cells tile order unit digit short within order_is unit_is counted =
    let next : order + digit * unit ≡ order_of (take (tile + 1) cells) = (λ i. order_is i + digit * unit_is i) ∙ order_step cells tile digit within counted in
    let low = order_small cells (tile + 1) short (omega arith) in
    record {
      order_is = next;
      unit_is = ap (λ u. u * (tile + 1)) unit_is ∙ sym (factorial_next tile);
      low = omega (arith, low.0);
      small = low.1;
    }

-- where all cells are seen the order is made
pub order_made : (cells : List ℕ) (tile order : ℕ) → tile ≡ length cells → order ≡ order_of (take tile cells) → order ≡ order_of cells
order_made cells tile order all order_is = order_is ∙ ap order_of (take_all tile cells (omega arith))

-- a loop over a list writes over one element more
pub map_step : (f : ℕ → ℕ) (xs ys zs : List ℕ) (i y : ℕ) → i < length xs → length ys ≡ length xs → ys ≡ map f (take i xs) ++ drop i xs → zs ≡ set ys i y → y ≡ f (get_or ys i 0) → zs ≡ map f (take (i + 1) xs) ++ drop (i + 1) xs
map_step f xs ys zs i y within size kept written is =
    written ∙ ap (set ys i) is ∙ map_over_more f xs ys i (get_or ys i 0) within kept (get_or_default ys i 0 (get_or ys i 0) (omega arith))

pub spread_up : (digit p : ℕ) → digit ≤ p → p + 1 ≡ spread digit p
spread_up digit p le = grind (arith, nat_tests)

pub spread_same : (digit p : ℕ) → p < digit → p ≡ spread digit p
spread_same digit p lt = grind (arith, nat_tests)

pub exchanged_up : (position other : ℕ) → other ≡ position → position + 1 ≡ exchanged_position position other
exchanged_up position other same = grind (arith, nat_tests)

pub exchanged_down : (position other : ℕ) → other ≡ position + 1 → position ≡ exchanged_position position other
exchanged_down position other same = grind (arith, nat_tests)

pub exchanged_same : (position other : ℕ) → other ≢ position → other ≢ position + 1 → other ≡ exchanged_position position other
exchanged_same position other one two = grind (arith, nat_tests)

-- the positions of the first tiles are written, and what is left of the order
pub record IsWritten (order : ℕ) (positions : List ℕ) (tile rest : ℕ) : Type 0 where
  pub rest_is : rest ≡ order / factorial tile
  pub list_is : take tile positions ≡ positions_at tile (order % factorial tile)

pub length-positions_at : (n k : ℕ) → length (positions_at n k) ≡ n
unfolding positions_at
length-positions_at zero k = refl
length-positions_at (suc n) k =
    length_push (map (spread (k / factorial n)) (positions_at n (k % factorial n))) (k / factorial n)
    ∙ ap (λ m. m + 1) (length-map (positions_at n (k % factorial n)) (spread (k / factorial n)) ∙ length-positions_at n (k % factorial n))
    ∙ add-one n

pub written_none : (order : ℕ) (positions : List ℕ) → IsWritten order positions 0 order
unfolding positions_at
written_none order positions = record { rest_is = omega arith; list_is = refl }

written_next : (order : ℕ) (positions : List ℕ) (tile rest : ℕ) (later : List ℕ) → tile < length positions → IsWritten order positions tile rest → later ≡ map (spread (rest % suc tile)) (take tile positions) → IsWritten order (set (later ++ drop tile positions) tile (rest % suc tile)) (suc tile) (rest / suc tile)
unfolding positions_at
written_next order positions tile rest later within written is =
    let f = factorial tile in
    let some = factorial_some tile in
    let parts = split_digit order f (suc tile) some (omega arith) in
    let d = rest % suc tile in
    let digit : d ≡ order % (suc tile * f) / f = (λ j. written.rest_is j % suc tile) ∙ sym parts.0 in
    let size : length later ≡ tile = ap length is ∙ length-map (take tile positions) (spread d) ∙ length-take-le tile positions (omega arith) in
    let long : length (later ++ drop tile positions) ≡ length later + (length positions - tile) = length-append later (drop tile positions) ∙ ap (λ m. length later + m) (length-drop tile positions) in
    let shape : tile + 1 ≡ suc tile = add-one tile in
    let made : later ≡ map (spread d) (positions_at tile (order % (suc tile * f) % f)) = is ∙ ap (map (spread d)) (written.list_is ∙ ap (positions_at tile) (sym parts.1)) in
    record {
      rest_is = (λ j. written.rest_is j / suc tile) ∙ sym parts.2;
      list_is = ap (λ m. take m (set (later ++ drop tile positions) tile d)) (sym shape)
          ∙ take_more_set (later ++ drop tile positions) tile d (omega arith)
          ∙ ap (λ xs. xs ++ d ∷ []) (take_at later (drop tile positions) tile size ∙ made)
          ∙ (λ j. map (spread (digit j)) (positions_at tile (order % (suc tile * f) % f)) ++ digit j ∷ []);
    }

pub written_step : (order : ℕ) (positions : List ℕ) (tile rest : ℕ) (later : List ℕ) → tile < length positions → IsWritten order positions tile rest → later ≡ map (spread (rest % (tile + 1))) (take tile positions) → IsWritten order (set (later ++ drop tile positions) tile (rest % (tile + 1))) (tile + 1) (rest / (tile + 1))
written_step order positions tile rest later within written =
    subst (λ m. later ≡ map (spread (rest % m)) (take tile positions) → IsWritten order (set (later ++ drop tile positions) tile (rest % m)) m (rest / m)) (sym (add-one tile))
    (written_next order positions tile rest later within written)

pub written_small : (order : ℕ) (positions : List ℕ) (tile rest : ℕ) → tile ≤ 9 → IsWritten order positions tile rest → All (λ position. position < 255) (take tile positions)
written_small order positions tile rest short written =
    let positions = positions_are tile (order % factorial tile) (mod_below order (factorial tile) (factorial_some tile)) in
    subst (λ xs. All (λ position. position < 255) xs) (sym written.list_is) (λ k d within. let low = positions.0.in_range k d within in omega arith)

pub written_all : (order : ℕ) (positions : List ℕ) (tile rest n : ℕ) → tile ≡ n → length positions ≡ n → order < factorial n → IsWritten order positions tile rest → positions ≡ positions_at n order
written_all order positions tile rest n all size low written =
    let at : IsWritten order positions n rest = subst (λ m. IsWritten order positions m rest) all written in
    sym (take_all n positions (omega arith)) ∙ at.list_is ∙ ap (positions_at n) (mod_is order (factorial n) low)
  where
    mod_is : (a b : ℕ) → a < b → a % b ≡ a
    mod_is a b lt = mod-eq_of_lt lt

-- ---- what is kept for each order

-- the front of an array, where positions are written
pub front_is : (n m order : ℕ) (zeros written rest : List ℕ) → length zeros ≡ 9 → n ≤ 9 → m ≡ n → written ≡ positions_at (length (take n zeros)) order → take m (written ++ rest) ≡ positions_at n order
front_is n m order zeros written rest nine short same is =
    let made : written ≡ positions_at n order = is ∙ ap (λ k. positions_at k order) (length-take-le n zeros (omega arith)) in
    take_at written rest m (ap length made ∙ length-positions_at n order ∙ sym same) ∙ made

pub tile_found : (n m order position result : ℕ) (zeros written rest : List ℕ) → length zeros ≡ 9 → n ≤ 9 → m ≡ n → written ≡ positions_at (length (take n zeros)) order → result ≡ position_or_len (λ other. eqb other position) (take m (written ++ rest)) → result ≡ tile_of n order position
tile_found n m order position result zeros written rest nine short same is found =
    found ∙ ap (position_or_len (λ other. eqb other position)) (front_is n m order zeros written rest nine short same is)

pub passed_found : (n m order position result : ℕ) (zeros written rest passed rest' : List ℕ) → length zeros ≡ 9 → n ≤ 9 → m ≡ n → written ≡ positions_at (length (take n zeros)) order → passed ≡ map (exchanged_position position) (take m (written ++ rest)) → result ≡ order_of (take m (passed ++ rest')) → result ≡ order_of (map (exchanged_position position) (positions_at n order))
passed_found n m order position result zeros written rest passed rest' nine short same is exchanging found =
    let made : passed ≡ map (exchanged_position position) (positions_at n order) = exchanging ∙ ap (map (exchanged_position position)) (front_is n m order zeros written rest nine short same is) in
    let size : length passed ≡ m = ap length made ∙ length-map (positions_at n order) (exchanged_position position) ∙ length-positions_at n order ∙ sym same in
    found ∙ ap order_of (take_at passed rest' m size ∙ made)

-- the orders after an exchange are orders
pub passed_low : (n order position : ℕ) → order_of (map (exchanged_position position) (positions_at n order)) < factorial n
passed_low n order position =
    subst (λ k. order_of (map (exchanged_position position) (positions_at n order)) < factorial k) (length-map (positions_at n order) (exchanged_position position) ∙ length-positions_at n order)
    (order_below (map (exchanged_position position) (positions_at n order)))

-- one more is put at the end
pub pushed : (f : ℕ → ℕ) (old items items' : List ℕ) (i x : ℕ) → items ≡ old ++ map f (range_with_len 0 i) → items' ≡ items ++ x ∷ [] → x ≡ f i → items' ≡ old ++ map f (range_with_len 0 (i + 1))
pushed f old items items' i x kept put is =
    put
    ∙ (λ j. kept j ++ is j ∷ [])
    ∙ append_assoc old (map f (range_with_len 0 i)) (f i ∷ [])
    ∙ ap (λ xs. old ++ xs) (sym (map-range_with_len_more f 0 i i (omega arith)))

-- a table of rows of one width gains a row
table_more : (f : ℕ → ℕ → ℕ) (w made : ℕ) (old new : List ℕ) → length old ≡ made * w → ((o p : ℕ) → o < made → p < w → get_or old (o * w + p) 0 ≡ f o p) → new ≡ old ++ map (f made) (range_with_len 0 w) → (length new ≡ (made + 1) * w) × ((o p : ℕ) → o < made + 1 → p < w → get_or new (o * w + p) 0 ≡ f o p)
table_more f w made old new size kept is =
    let row : length (map (f made) (range_with_len 0 w)) ≡ w = length-map (range_with_len 0 w) (f made) ∙ length-range_with_len 0 w in (
      ap length is ∙ length-append old (map (f made) (range_with_len 0 w)) ∙ (λ i. size i + row i) ∙ omega arith,
      λ o p o_in p_in.
          ⊎_elim
          (λ (lt : o < made).
          let within : o * w + p < length old = let m = mul-add-lt o w p made lt p_in in let turned = mul_comm w made in omega arith in
          ap (λ (xs : List ℕ). get_or xs (o * w + p) 0) is ∙ get_or_append_left old (map (f made) (range_with_len 0 w)) 0 (o * w + p) within ∙ kept o p lt p_in)
          (λ (le : made ≤ o).
          let same : o ≡ made = omega arith in
          let at : o * w + p ≡ length old + p = ap (λ m. m * w + p) same ∙ ap (λ m. m + p) (sym size) in
          (λ i. get_or (is i) (at i) 0)
          ∙ get_or-append-add old (map (f made) (range_with_len 0 w)) p 0
          ∙ get_or-map-range_with_len (f made) 0 w p p 0 p_in (omega arith)
          ∙ ap (λ m. f m p) (sym same))
          (cases_lt o made),
    )

-- what is kept for one order more
pub kept_more : (count made : ℕ) (o o' : Orders) → HasPassesTo count made o → o'.count ≡ o.count → o'.size ≡ o.size → o'.tiles.items ≡ o.tiles.items ++ map (tile_of o.count made) (range_with_len 0 o.count) → o'.passes.items ≡ o.passes.items ++ map (λ position. order_of (map (exchanged_position position) (positions_at o.count made))) (range_with_len 0 (o.count - 1)) → HasPassesTo count (made + 1) o'
kept_more count made o o' kept number size tiles passes =
    let same = kept.number in
    let tiles_more = table_more (tile_of count) count made o.tiles.items o'.tiles.items kept.tiles_length kept.tiles (tiles ∙ (λ i. o.tiles.items ++ map (tile_of (same i) made) (range_with_len 0 (same i)))) in
    let passes_more = table_more (λ order position. order_of (map (exchanged_position position) (positions_at count order))) (count - 1) made o.passes.items o'.passes.items kept.passes_length (λ order position low within. kept.passes order position low (omega (arith, within))) (passes ∙ (λ i. o.passes.items ++ map (λ position. order_of (map (exchanged_position position) (positions_at (same i) made))) (range_with_len 0 (same i - 1)))) in
    record {
      number = number ∙ same;
      some = kept.some;
      short = kept.short;
      size = size ∙ kept.size;
      tiles_length = tiles_more.0;
      tiles = tiles_more.1;
      passes_length = passes_more.0;
      passes = λ order position low within. passes_more.1 order position low (omega (arith, within));
    }

-- those before one, by the count that they have
pub kept_own : (count made : ℕ) (o : Orders) → HasPassesTo count made o → HasPassesTo o.count made o
kept_own count made o kept = subst (λ n. HasPassesTo n made o) (sym kept.number) kept

pub kept_next : (count made : ℕ) (o o' : Orders) → HasPassesTo count made o → HasPassesTo o.count (made + 1) o' → HasPassesTo count (made + 1) o'
kept_next count made o o' kept next = subst (λ n. HasPassesTo n (made + 1) o') kept.number next

pub kept_all : (count made : ℕ) (o : Orders) → made ≡ factorial count → HasPassesTo count made o → HasPasses count o
kept_all count made o all kept = subst (λ m. HasPassesTo count m o) all kept

-- ---- each position has a tile

pub tile_low : (n order position : ℕ) → order < factorial n → position < n → tile_of n order position < n
tile_low n order position low within =
    let positions = positions_are n order low in
    let xs : List ℕ = positions_at n order in
    let full = below_full n position xs (below_in n xs positions.0) (differ_in n xs positions.0) positions.1 (omega arith) in
    let full_next = below_full n (suc position) xs (below_in n xs positions.0) (differ_in n xs positions.0) positions.1 within in
    ⊎_elim
    (λ (there : Contains xs position).
    let found = (tile_is n position xs positions.0 there).0 in
    let same : tile_of (length xs) (order_of xs) (below position xs) ≡ tile_of n order position = λ i. tile_of (positions.1 i) (positions.2 i) (full i) in
    omega (arith, positions.1))
    (λ (absent : ¬ Contains xs position). let same = below_absent position xs absent in absurd (omega arith))
    (in_or_out position xs)

pub tile_read : (count : ℕ) (o : Orders) (order position result : ℕ) → HasPasses count o → order < factorial count → position < count → result ≡ get_or o.tiles.items (order * count + position) result → result < count
tile_read count o order position result orders low within read =
    let m = mul-add-lt order count position (factorial count) low within in
    let turned = mul_comm count (factorial count) in
    let at = get_or_read o.tiles.items (order * count + position) result (omega (arith, orders.tiles_length)) read 0 in
    let is = orders.tiles order position low within in
    let few = tile_low count order position low within in
    omega arith

-- the order after an exchange, as it is read
pub pass_read : (count : ℕ) (o : Orders) (order position : ℕ) → HasPasses count o → order < factorial count → suc position < count → (order * (count - 1) + position < length o.passes.items) × ((result : ℕ) → result ≡ get_or o.passes.items (order * (count - 1) + position) result → result ≡ order_of (map (exchanged_position position) (positions_at count order)))
pass_read count o order position orders low within =
    let m = mul-add-lt order (count - 1) position (factorial count) low (omega arith) in
    let turned = mul_comm (count - 1) (factorial count) in
    let lt : order * (count - 1) + position < length o.passes.items = omega (arith, orders.passes_length) in
    (lt, λ result read. get_or_read o.passes.items (order * (count - 1) + position) result lt read 0 ∙ orders.passes order position low within)

-- ---- the moves, for few tiles

pub moved_low : (count order from to : ℕ) → moved_order count order from to < factorial count
moved_low count order from to =
    subst (λ k. moved_order count order from to < factorial k) (length-map (positions_at count order) (moved_position from to) ∙ length-positions_at count order)
    (order_below (map (moved_position from to) (positions_at count order)))

-- what is kept for the pairs of positions before one
pub record HaveMoves (count made : ℕ) (moves : List ℕ) : Type 0 where
  pub size : length moves ≡ made * factorial count
  pub are : (pair order : ℕ) → pair < made → order < factorial count → get_or moves (pair * factorial count + order) 0 ≡ moved_order count order (pair / count) (pair % count)

-- the moves of one pair more are put at the end
pub moves_more : (count from to : ℕ) (old new : List ℕ) → to < count → HaveMoves count (from * count + to) old → new ≡ old ++ map (λ order. moved_order count order from to) (range_with_len 0 (factorial count)) → HaveMoves count (from * count + (to + 1)) new
moves_more count from to old new within kept is =
    let first : from ≡ (from * count + to) / count = sym (div-mul-add from count to within) in
    let second : to ≡ (from * count + to) % count = sym (mod-mul-add from count to within) in
    let more = table_more (λ pair order. moved_order count order (pair / count) (pair % count)) (factorial count) (from * count + to) old new kept.size kept.are
    (is ∙ (λ i. old ++ map (λ order. moved_order count order (first i) (second i)) (range_with_len 0 (factorial count)))) in
    let made : HaveMoves count (from * count + to + 1) new = record { size = more.0; are = more.1 } in
    subst (λ m. HaveMoves count m new) (next (from * count) to) made
  where
    next : (a b : ℕ) → a + b + 1 ≡ a + (b + 1)
    next a b = omega arith

-- all of them
pub moves_all : (count from : ℕ) (moves : List ℕ) → from ≡ count → HaveMoves count (from * count) moves → AreMoves count moves
moves_all count from moves all kept =
    let at : HaveMoves count (count * count) moves = subst (λ m. HaveMoves count (m * count) moves) all kept in
    record {
      size = at.size;
      are = λ order from to low from_low to_low.
          at.are (from * count + to) order (let m = mul-add-lt from count to count from_low to_low in omega arith) low
          ∙ (λ i. moved_order count order (div-mul-add from count to to_low i) (mod-mul-add from count to to_low i));
    }

-- the order after a move, as it is read
pub move_read : (count order from to result : ℕ) (o : Orders) → IsOrders count o → count ≤ MOST_MOVED → order < factorial count → from < count → to < count → result ≡ get_or o.moves.items ((from * count + to) * o.size + order) result → result < factorial count
move_read count order from to result o orders few low from_low to_low read =
    let moves = orders.moves few in
    let pair = mul-add-lt from count to count from_low to_low in
    let place = mul-add-lt (from * count + to) (factorial count) order (count * count) (omega arith) low in
    let turned = mul_comm (factorial count) (count * count) in
    let sized : result ≡ get_or o.moves.items ((from * count + to) * factorial count + order) result = read ∙ ap (λ k. get_or o.moves.items ((from * count + to) * k + order) result) orders.passes.size in
    let is = get_or_read o.moves.items ((from * count + to) * factorial count + order) result (omega (arith, moves.size)) sized 0 ∙ moves.are order from to low from_low to_low in
    let small = moved_low count order from to in
    omega arith

-- ---- Tiles that are exchanged with their neighbours one after another.

-- a tile that has not moved
moved_none : (from p : ℕ) → moved_position from from p ≡ p
moved_none from p = grind (arith, nat_tests)

-- one place further up
moved_up : (from at p : ℕ) → from ≤ at → exchanged_position at (moved_position from at p) ≡ moved_position from (at + 1) p
moved_up from at p le = grind (arith, nat_tests)

-- one place further down
moved_down : (from at p : ℕ) → at < from → exchanged_position at (moved_position from (at + 1) p) ≡ moved_position from at p
moved_down from at p lt = grind (arith, nat_tests)

exchanged_differ : (at x y : ℕ) → x ≢ y → exchanged_position at x ≢ exchanged_position at y
exchanged_differ at x y ne = grind (arith, nat_tests)

exchanged_low : (n at x : ℕ) → suc at < n → x < n → exchanged_position at x < n
exchanged_low n at x within lt = grind (arith, nat_tests)

map_twice : (f g h : ℕ → ℕ) → ((x : ℕ) → f (g x) ≡ h x) → (xs : List ℕ) → map f (map g xs) ≡ map h xs
map_twice f g h same [] = refl
map_twice f g h same (x ∷ xs) = λ i. same x i ∷ map_twice f g h same xs i

map_none : (f : ℕ → ℕ) → ((x : ℕ) → f x ≡ x) → (xs : List ℕ) → map f xs ≡ xs
map_none f same [] = refl
map_none f same (x ∷ xs) = λ i. same x i ∷ map_none f same xs i

map_below : (n at : ℕ) (xs : List ℕ) → suc at < n → Below n xs → Below n (map (exchanged_position at) xs)
map_below n at [] within below = tt
map_below n at (x ∷ xs) within below = (exchanged_low n at x within below.0, map_below n at xs within below.1)

map_other : (at x : ℕ) (xs : List ℕ) → Other x xs → Other (exchanged_position at x) (map (exchanged_position at) xs)
map_other at x [] other = tt
map_other at x (y ∷ ys) other = (exchanged_differ at x y other.0, map_other at x ys other.1)

map_differ : (at : ℕ) (xs : List ℕ) → Differ xs → Differ (map (exchanged_position at) xs)
map_differ at [] differ = tt
map_differ at (x ∷ xs) differ = (map_other at x xs differ.0, map_differ at xs differ.1)

exchanged_listing : (n at : ℕ) (xs : List ℕ) → suc at < n → IsListing n xs → IsListing n (map (exchanged_position at) xs)
exchanged_listing n at xs within listing = listing_from n (map (exchanged_position at) xs) (map_below n at xs within (below_in n xs listing)) (map_differ at xs (differ_in n xs listing))

-- the tile at a position has come to another: the positions are a list of the order
pub record IsMoved (count order from at current : ℕ) : Type 0 where
  pub place : at < count
  pub low : current < factorial count
  pub listing : IsListing count (map (moved_position from at) (positions_at count order))
  pub is : current ≡ order_of (map (moved_position from at) (positions_at count order))

pub moved_start : (count order from : ℕ) → order < factorial count → from < count → IsMoved count order from from order
moved_start count order from low place =
    let positions = positions_are count order low in
    let same : map (moved_position from from) (positions_at count order) ≡ positions_at count order = map_none (moved_position from from) (moved_none from) (positions_at count order) in
    record {
      place = place;
      low = low;
      listing = subst (λ xs. IsListing count xs) (sym same) positions.0;
      is = sym positions.2 ∙ ap order_of (sym same);
    }

-- the positions of the order on the way
on_way : (count order from at current : ℕ) → IsMoved count order from at current → positions_at count current ≡ map (moved_position from at) (positions_at count order)
on_way count order from at current moved =
    let ys : List ℕ = map (moved_position from at) (positions_at count order) in
    let size : length ys ≡ count = length-map (positions_at count order) (moved_position from at) ∙ length-positions_at count order in
    (λ i. positions_at (sym size i) (moved.is i)) ∙ positions_back ys (subst (λ n. IsListing n ys) (sym size) moved.listing)

-- an exchange on the way
passed : (count order from at other next current : ℕ) → suc next < count → other < count → ((p : ℕ) → exchanged_position next (moved_position from at p) ≡ moved_position from other p) → IsMoved count order from at current → IsMoved count order from other (order_of (map (exchanged_position next) (positions_at count current)))
passed count order from at other next current within place turned moved =
    let twice : map (exchanged_position next) (map (moved_position from at) (positions_at count order)) ≡ map (moved_position from other) (positions_at count order) = map_twice (exchanged_position next) (moved_position from at) (moved_position from other) turned (positions_at count order) in
    record {
      place = place;
      low = passed_low count current next;
      listing = subst (λ xs. IsListing count xs) twice (exchanged_listing count next (map (moved_position from at) (positions_at count order)) within moved.listing);
      is = ap order_of (ap (map (exchanged_position next)) (on_way count order from at current moved) ∙ twice);
    }

pub passed_up : (count order from at current result : ℕ) (o : Orders) → HasPasses count o → from ≤ at → at + 1 < count → IsMoved count order from at current → result ≡ get_or o.passes.items (current * (count - 1) + at) result → IsMoved count order from (at + 1) result
passed_up count order from at current result o orders le within moved read =
    let is = (pass_read count o current at orders moved.low (omega arith)).1 result read in
    subst (λ r. IsMoved count order from (at + 1) r) (sym is) (passed count order from at (at + 1) at current (omega arith) within (λ p. moved_up from at p le) moved)

pub passed_down : (count order from at next current result : ℕ) (o : Orders) → HasPasses count o → at ≡ next + 1 → at ≤ from → IsMoved count order from at current → result ≡ get_or o.passes.items (current * (count - 1) + next) result → IsMoved count order from next result
passed_down count order from at next current result o orders above le moved read =
    let place = moved.place in
    let here : IsMoved count order from (next + 1) current = subst (λ k. IsMoved count order from k current) above moved in
    let is = (pass_read count o current next orders moved.low (omega arith)).1 result read in
    subst (λ r. IsMoved count order from next r) (sym is) (passed count order from (next + 1) next next current (omega arith) (omega arith) (λ p. moved_down from next p (omega arith)) here)

pub moved_end : (count order from at to current : ℕ) → at ≡ to → IsMoved count order from at current → current ≡ moved_order count order from to
moved_end count order from at to current same moved = moved.is ∙ ap (λ k. order_of (map (moved_position from k) (positions_at count order))) same
