-- The hash of a list in which one number is replaced, that of a board whose tiles are put on their cells one by one, and the board to which a slide leads.
use Rattle.std.proofs.Common.{◌≡◌, ◌≢◌, ◌+◌, ◌<◌, ◌≤◌, ℕ, zero, suc, cond, ltb, List, [], ◌∷◌, length, map, set, get_or, bit_xor, refl, sym, ap, subst, ◌∙◌, ⊎_elim, arith}
use Rattle.std.specs.Int.Bits.{xor_assoc, xor_self, xor_zero_r}
use Rattle.std.proofs.lemmas.Bool.{cases_eq, cases_lt, cond-true, cond-false, lt-ltb, le-ltb}
use Rattle.std.proofs.lemmas.Grind.{same_number_lists}
use Rattle.std.proofs.lemmas.List.{get_or-map, get_or-set_other, get_or-set_same, length-map, length-set}
use Rattle.std.proofs.lemmas.List.Elements.{All-get_or}
use Rattle.std.proofs.lemmas.Nat.{xor_comm}
use Rattle.board.specs.Shapes.{ShapeModel, cell_count}
use Rattle.board.specs.Moves.{blank_exchange}
use Rattle.board.specs.Boards.{BoardModel, IsBoard, blank_of, cell_of}
use Rattle.board.proofs.MoveLemmas.{blank_after}
use Rattle.board.proofs.TileLemmas.{cell_is, has_cell}
use Rattle.search_keys.specs.SearchKeys.{HasSearchKey}
use Rattle.search_keys.proofs.SearchKeyLemmas.{one_board as same_board}
use Rattle.owners.specs.Owners.{hash_by}
use Rattle.owners.specs.Slides.{IsMoved}
use Rattle.owners.specs.declared.spread.Moved.{Moved}

-- ---- hashes

-- a number that comes twice into an exclusive or cancels out
goes_out : (a b : ℕ) → bit_xor (bit_xor a b) a ≡ b
goes_out a b = ap (λ (x : ℕ). bit_xor x a) (xor_comm a b) ∙ xor_assoc b a a ∙ ap (bit_xor b) (xor_self a) ∙ xor_zero_r b

module _ (word_of : ℕ → ℕ → ℕ) where
  -- where a number is replaced, the words of the old one and of the new one on its cell come into the exclusive or
  pub hash-set : (tiles : List ℕ) (k i cell tile : ℕ) → i < length tiles → cell ≡ k + i → hash_by word_of k (set tiles i tile) ≡ bit_xor (bit_xor (hash_by word_of k tiles) (word_of (get_or tiles i 0) cell)) (word_of tile cell)
  hash-set [] k i cell tile within at = absurd (omega (arith, within))
  hash-set (t ∷ ts) k zero cell tile within at =
      let here : k ≡ cell = omega (arith, at) in
      let h = hash_by word_of (k + 1) ts in
      xor_comm (word_of tile k) h
      ∙ ap (λ (x : ℕ). bit_xor x (word_of tile k)) (sym (goes_out (word_of t k) h))
      ∙ ap (λ (x : ℕ). bit_xor (bit_xor (bit_xor (word_of t k) h) (word_of t x)) (word_of tile x)) here
  hash-set (t ∷ ts) k (suc i) cell tile within at =
      let a = word_of t k in
      let h = hash_by word_of (k + 1) ts in
      let old = word_of (get_or ts i 0) cell in
      ap (bit_xor a) (hash-set ts (k + 1) i cell tile (omega (arith, within)) (omega (arith, at)))
      ∙ sym (xor_assoc a (bit_xor h old) (word_of tile cell))
      ∙ ap (λ (x : ℕ). bit_xor x (word_of tile cell)) (sym (xor_assoc a h old))

-- a tile below n, and 0 for any other
abbrev pub below : ℕ → ℕ → ℕ
below n tile = cond (ltb tile n) tile 0

below_yes : (n tile : ℕ) → tile < n → below n tile ≡ tile
below_yes n tile low = cond-true (ltb tile n) tile 0 (lt-ltb tile n low)

below_no : (n tile : ℕ) → n ≤ tile → below n tile ≡ 0
below_no n tile high = cond-false (ltb tile n) tile 0 (le-ltb tile n high)

-- the blank has no word, so the hash of no tile at all is 0
pub hash_begun : (word_of : ℕ → ℕ → ℕ) → ((cell : ℕ) → word_of 0 cell ≡ 0) → (k : ℕ) (tiles : List ℕ) → hash_by word_of k (map (below 1) tiles) ≡ 0
hash_begun word_of zero_word k [] = refl
hash_begun word_of zero_word k (t ∷ ts) =
    let none : below 1 t ≡ 0 = ⊎_elim (λ (low : t < 1). let zero_is : t ≡ 0 = omega (arith, low) in below_yes 1 t low ∙ zero_is) (below_no 1 t) (cases_lt t 1) in
    ap (λ (x : ℕ). bit_xor (word_of x k) (hash_by word_of (k + 1) (map (below 1) ts))) none
    ∙ ap (λ (x : ℕ). bit_xor x (hash_by word_of (k + 1) (map (below 1) ts))) (zero_word k)
    ∙ hash_begun word_of zero_word (k + 1) ts

-- the tiles below n + 1 are those below n, and n on its cell
pub tiles_more : (b : BoardModel) (n : ℕ) → IsBoard b → n < cell_count b.grid → map (below (n + 1)) b.tiles ≡ set (map (below n) b.tiles) (cell_of b n) n
tiles_more b n board within =
    let place = cell_of b n in
    let stands = has_cell b board n within in
    let one_each = board.one_each in
    let before = map (below n) b.tiles in
    let long : length before ≡ length b.tiles = length-map b.tiles (below n) in
    let room : place < length before = omega (arith, stands.0, one_each, long) in
    same_number_lists (map (below (n + 1)) b.tiles) (set before place n) (length-map b.tiles (below (n + 1)) ∙ sym (length-set before place n ∙ long))
    (λ (c : ℕ) (c_in : c < length (map (below (n + 1)) b.tiles)).
    let within_c : c < length b.tiles = omega (arith, c_in, length-map b.tiles (below (n + 1))) in
    let tile = get_or b.tiles c 0 in
    get_or-map (below (n + 1)) b.tiles c 0 0 within_c
    ∙ ⊎_elim
    (λ (same : c ≡ place).
    let is : tile ≡ n = ap (λ (i : ℕ). get_or b.tiles i 0) same ∙ stands.1 in
    ap (below (n + 1)) is
    ∙ below_yes (n + 1) n (omega arith)
    ∙ sym (ap (λ (i : ℕ). get_or (set before place n) i 0) same ∙ get_or-set_same before place n 0 room))
    (λ (other : c ≢ place).
    let differs : tile ≢ n = λ is. other (sym (cell_is b board.different c n within_c is)) in
    ⊎_elim
    (λ (low : tile < n). below_yes (n + 1) tile (omega (arith, low)) ∙ sym (below_yes n tile low))
    (λ (high : n ≤ tile). below_no (n + 1) tile (omega (arith, high, differs)) ∙ sym (below_no n tile high))
    (cases_lt tile n)
    ∙ sym (get_or-set_other before place c n 0 other ∙ get_or-map (below n) b.tiles c 0 0 within_c))
    (cases_eq c place))

module _ (word_of : ℕ → ℕ → ℕ) (b : BoardModel) (n hash : ℕ) (board : IsBoard b) where
  -- the hash of the tiles below n + 1 is the exclusive or of that of the tiles below n and the word of tile n on its cell
  pub hash_more : ((cell : ℕ) → word_of 0 cell ≡ 0) → n < cell_count b.grid → hash ≡ hash_by word_of 0 (map (below n) b.tiles) → bit_xor hash (word_of n (cell_of b n)) ≡ hash_by word_of 0 (map (below (n + 1)) b.tiles)
  hash_more zero_word within is =
      let place = cell_of b n in
      let stands = has_cell b board n within in
      let one_each = board.one_each in
      let before = map (below n) b.tiles in
      let room : place < length before = omega (arith, stands.0, one_each, length-map b.tiles (below n)) in
      let was : get_or before place 0 ≡ 0 =
      get_or-map (below n) b.tiles place 0 0 (omega (arith, stands.0, one_each)) ∙ ap (below n) stands.1 ∙ below_no n n (omega arith) in
      let none : word_of (get_or before place 0) place ≡ 0 = ap (λ (x : ℕ). word_of x place) was ∙ zero_word place in
      ap (λ (x : ℕ). bit_xor x (word_of n place)) (is ∙ sym (xor_zero_r (hash_by word_of 0 before)))
      ∙ ap (λ (x : ℕ). bit_xor (bit_xor (hash_by word_of 0 before) x) (word_of n place)) (sym none)
      ∙ sym (hash-set word_of before 0 place place n room (omega arith))
      ∙ ap (hash_by word_of 0) (sym (tiles_more b n board within))

  -- the hash of all tiles is the board's
  pub hash_ended : cell_count b.grid ≤ n → hash ≡ hash_by word_of 0 (map (below n) b.tiles) → hash ≡ hash_by word_of 0 b.tiles
  hash_ended all is =
      let same : map (below n) b.tiles ≡ b.tiles =
      same_number_lists (map (below n) b.tiles) b.tiles (length-map b.tiles (below n))
      (λ (c : ℕ) (c_in : c < length (map (below n) b.tiles)).
      let within : c < length b.tiles = omega (arith, c_in, length-map b.tiles (below n)) in
      let low : get_or b.tiles c 0 < cell_count b.grid = All-get_or (λ (t : ℕ). t < cell_count b.grid) b.tiles c 0 within board.in_range in
      get_or-map (below n) b.tiles c 0 0 within ∙ below_yes n (get_or b.tiles c 0) (omega (arith, low, all))) in
      is ∙ ap (hash_by word_of 0) same

-- ---- the board after a slide

-- two boards of a grid that have one search key are one
pub one_board : (grid : ShapeModel) (key : ℕ) (a b : BoardModel) → HasSearchKey grid key a → HasSearchKey grid key b → a ≡ b
one_board grid key a b has has' = same_board a b has.board has'.board (has.sides ∙ sym has'.sides) (has.packed ∙ sym has'.packed)

-- the board with the key is that after the slide
pub after_slide : (b c : BoardModel) (moved : Moved) → IsMoved b moved → HasSearchKey moved.shape moved.key c → c ≡ blank_exchange b moved.slide.from
after_slide b c moved is has = one_board moved.shape moved.key c (blank_exchange b moved.slide.from) has is.key

-- and its blank is where the tile was
pub blank_moved : (b c : BoardModel) (moved : Moved) → IsMoved b moved → HasSearchKey moved.shape moved.key c → blank_of c ≡ moved.slide.from
blank_moved b c moved is has =
    let slide = is.slide in
    ap blank_of (after_slide b c moved is has) ∙ blank_after b slide.board moved.slide.from (subst (λ (grid : ShapeModel). moved.slide.from < cell_count grid) (sym slide.sides) slide.within)
