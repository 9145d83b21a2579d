use Rattle.std.proofs.Common.{◌≡◌, ◌≢◌, ◌<◌, ℕ, List, length, bit_xor, sym, ap, ◌∙◌, arith}
use Rattle.std.specs.List.{swap}
use Rattle.std.specs.Int.Bits.{xor_zero_r}
use Rattle.std.proofs.Math.ListN.{set, get_or}
use Rattle.std.proofs.lemmas.List.{get_or-set_other, length-set}
use Rattle.std.proofs.lemmas.List.Edits.{swap_is}
use Rattle.board.specs.Shapes.{ShapeModel, cell_count}
use Rattle.board.specs.Boards.{BoardModel, blank_of}
use Rattle.board.proofs.StepLemmas.{blank_stands}
use Rattle.owners.specs.Owners.{hash_by}
use Rattle.owners.specs.Slides.{IsSlide}
use Rattle.owners.specs.declared.spread.Slide.{Slide}
use Rattle.owners.proofs.OwnerLemmas.{after_slide, hash-set}
use Rattle.owners.proofs.zobrist.hash_after.Goals as goal

module _ (word_of : ℕ → ℕ → ℕ) (zero_word : (cell : ℕ) → word_of 0 cell ≡ 0) where
  -- a tile and the blank change places
  hash-swap : (tiles : List ℕ) (blank cell tile : ℕ) → blank < length tiles → cell < length tiles → get_or tiles blank 0 ≡ 0 → get_or tiles cell 0 ≡ tile → 0 < tile → hash_by word_of 0 (swap tiles blank cell) ≡ bit_xor (bit_xor (hash_by word_of 0 tiles) (word_of tile blank)) (word_of tile cell)
  hash-swap tiles blank cell tile from to zero_there tile_there some =
      let apart : cell ≢ blank = λ same. let z = ap (λ (x : ℕ). get_or tiles x 0) same in absurd (omega (arith, z, zero_there, tile_there, some)) in
      let first = set tiles blank (get_or tiles cell 0) in
      let kept : get_or first cell 0 ≡ tile = get_or-set_other tiles blank cell (get_or tiles cell 0) 0 apart ∙ tile_there in
      let none : (place at : ℕ) → place ≡ 0 → word_of place at ≡ 0 = λ place at is. ap (λ (x : ℕ). word_of x at) is ∙ zero_word at in
      let filled : hash_by word_of 0 first ≡ bit_xor (hash_by word_of 0 tiles) (word_of tile blank) =
      hash-set word_of tiles 0 blank blank (get_or tiles cell 0) from (omega arith)
      ∙ ap (λ (x : ℕ). bit_xor (bit_xor (hash_by word_of 0 tiles) x) (word_of (get_or tiles cell 0) blank)) (none (get_or tiles blank 0) blank zero_there)
      ∙ ap (λ (x : ℕ). bit_xor x (word_of (get_or tiles cell 0) blank)) (xor_zero_r (hash_by word_of 0 tiles))
      ∙ ap (λ (x : ℕ). bit_xor (hash_by word_of 0 tiles) (word_of x blank)) tile_there in
      ap (hash_by word_of 0) (sym (swap_is tiles blank cell 0 from to))
      ∙ hash-set word_of first 0 cell cell (get_or tiles blank 0) (omega (arith, length-set tiles blank (get_or tiles cell 0), to)) (omega arith)
      ∙ ap (λ (x : ℕ). bit_xor (bit_xor (hash_by word_of 0 first) (word_of (get_or first cell 0) cell)) x) (none (get_or tiles blank 0) cell zero_there)
      ∙ xor_zero_r (bit_xor (hash_by word_of 0 first) (word_of (get_or first cell 0) cell))
      ∙ ap (λ (x : ℕ). bit_xor (hash_by word_of 0 first) (word_of x cell)) kept
      ∙ ap (λ (x : ℕ). bit_xor x (word_of tile cell)) filled

-- the hash of a board after a slide
hash-slide : (word_on : ℕ → ℕ → ℕ → ℕ) → ((cells cell : ℕ) → word_on cells 0 cell ≡ 0) → (grid : ShapeModel) (b : BoardModel) (slide : Slide) (hash there here : ℕ) → IsSlide grid b slide → hash ≡ hash_by (word_on (cell_count b.grid)) 0 b.tiles → there ≡ word_on (cell_count grid) slide.tile slide.to → here ≡ word_on (cell_count grid) slide.tile slide.from → bit_xor (bit_xor hash there) here ≡ hash_by (word_on (cell_count b.grid)) 0 (swap b.tiles (blank_of b) slide.from)
hash-slide word_on zero_word grid b slide hash there here is hashed to from =
    let n = cell_count grid in
    let stands = blank_stands b is.board in
    let count : cell_count b.grid ≡ n = ap cell_count is.sides in
    let all = is.board.one_each in
    let swapped = hash-swap (word_on n) (zero_word n) b.tiles (blank_of b) slide.from slide.tile (omega (arith, stands.0, all)) (omega (arith, is.within, count, all)) stands.1 is.tile is.some in
    ap (λ (x : ℕ). bit_xor (bit_xor x there) here) (hashed ∙ ap (λ (k : ℕ). hash_by (word_on k) 0 b.tiles) count)
    ∙ ap (λ (x : ℕ). bit_xor (bit_xor (hash_by (word_on n) 0 b.tiles) x) here) (to ∙ ap (word_on n slide.tile) (sym is.blank))
    ∙ ap (bit_xor (bit_xor (hash_by (word_on n) 0 b.tiles) (word_on n slide.tile (blank_of b)))) from
    ∙ sym swapped
    ∙ ap (λ (k : ℕ). hash_by (word_on k) 0 (swap b.tiles (blank_of b) slide.from)) (sym count)

pub word-there-requires-clause-cell : goal.word-there-requires-clause-cell
word-there-requires-clause-cell g c =
    let is = c.requires.1.slide in
    omega (arith, (blank_stands c.requires.0 is.board).0, ap cell_count is.sides, is.blank, c.cells-cells.ensures.value)

pub returns : goal.returns
returns g c = λ b has.
    let word_on = g.W.Words.word_on in
    let before = c.requires.0 in
    let moved = c.args.moved in
    let slide = moved.slide in
    let is = c.requires.1 in
    let after = hash-slide word_on g.met.W.Words.none_of_the_blank moved.shape before slide c.args.before c.word-there.result c.word-here.result is.slide c.requires.2 (c.word-there.ensures ∙ ap (λ n. word_on n slide.tile slide.to) c.cells-cells.ensures.value) (c.word-here.ensures ∙ ap (λ n. word_on n slide.tile slide.from) c.cells-cells.ensures.value) in
    after ∙ ap (λ (p : BoardModel). hash_by (word_on (cell_count p.grid)) 0 p.tiles) (sym (after_slide before b moved is has))
