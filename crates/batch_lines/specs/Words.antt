-- The words of a line, and the board that they spell.
use Rattle.std.specs.Prelude.{ℕ, ◌≡◌, ◌≢◌, ◌<◌, ◌≤◌, List, [], ◌∷◌, filter, length, nat_lt, slice_get, Some, IsUtf8, All, codes}
use Rattle.std.specs.List.{slice_split}
use Rattle.std.specs.Char.{IsAsciiDigit}
use Rattle.std.specs.Str.Parse.{digits_value}
use Rattle.board.specs.Shapes.{ShapeModel, cell_count}
use Rattle.board.specs.Boards.{BoardModel, IsBoard}
use Rattle.board.specs.Faults.{tiles_code}
use Rattle.board.specs.declared.faults.TilesFault.{TilesFault}
use Rattle.board.specs.declared.faults.TilesFault.TheVariants.{WrongCount, TileOutOfRange, TileRepeated}
use Rattle.batch_lines.specs.Lines.{is_blank}
use Rattle.batch_lines.specs.declared.words.EntryFault.{EntryFault}
use Rattle.batch_lines.specs.declared.words.EntryFault.TheVariants.{NoText, NoBoard}

-- the texts between runs of spaces and tabs
abbrev pub words_of : List ℕ → List (List ℕ)
words_of line = filter (λ word. nat_lt 0 (length word)) (slice_split is_blank line)

-- the first word, which may be any text
abbrev pub id_of : List (List ℕ) → List ℕ
id_of [] = []
id_of (id ∷ tiles) = id

-- the other words
abbrev pub tile_words : List (List ℕ) → List (List ℕ)
tile_words [] = []
tile_words (id ∷ tiles) = tiles

-- the word is one or more digits and nothing else, and they have this value; leading zeros count for nothing
pub record SpellsDecimal (word : List ℕ) (n : ℕ) : Type 0 where
  pub some : word ≢ []
  pub digits : All IsAsciiDigit word
  pub value : digits_value 10 word ≡ n

-- word by word, these words spell these numbers
abbrev pub SpellEach : List (List ℕ) → List ℕ → Type 0
SpellEach [] [] = Unit {0}
SpellEach [] (n ∷ ns) = ⊥
SpellEach (word ∷ words) [] = ⊥
SpellEach (word ∷ words) (n ∷ ns) = SpellsDecimal word n × SpellEach words ns

-- the line is a text; its first word is the id, and the others spell the tiles of the board
pub record IsEntry (grid : ShapeModel) (line id : List ℕ) (b : BoardModel) : Type 0 where
  pub text : IsUtf8 line
  pub named : id ≡ id_of (words_of line)
  pub spelled : SpellEach (tile_words (words_of line)) b.tiles
  pub board : IsBoard b
  pub sides : b.grid ≡ grid

-- there are as many words as cells, and those before this place spell different numbers below the count of cells
pub record IsFirstWord (grid : ShapeModel) (words : List (List ℕ)) (place : ℕ) : Type 0 where
  pub one_each : length words ≡ cell_count grid
  pub within : place < length words
  pub in_range : (k : ℕ) (word : List ℕ) → k < place → slice_get words k ≡ Some word → (n : ℕ) × SpellsDecimal word n × (n < cell_count grid)
  pub different : (j k : ℕ) (first second : List ℕ) (n : ℕ) → j < k → k < place → slice_get words j ≡ Some first → slice_get words k ≡ Some second → SpellsDecimal first n → ¬ SpellsDecimal second n

-- the first fault of tile words: their count, else that of the first offending place
abbrev pub IsFirstWordFault : ShapeModel → List (List ℕ) → TilesFault → Type 0
IsFirstWordFault grid words WrongCount = length words ≢ cell_count grid
IsFirstWordFault grid words (TileOutOfRange place) =
    (word : List ℕ) × IsFirstWord grid words place × (slice_get words place ≡ Some word) × ((n : ℕ) → SpellsDecimal word n → cell_count grid ≤ n)
IsFirstWordFault grid words (TileRepeated place) =
    (word : List ℕ) × (n k : ℕ) × (before : List ℕ) × IsFirstWord grid words place × (slice_get words place ≡ Some word) × SpellsDecimal word n × (n < cell_count grid) × (k < place) × (slice_get words k ≡ Some before) × SpellsDecimal before n

-- the first fault of a line: that it is no text, else that of its tile words
abbrev pub IsFirstEntryFault : ShapeModel → List ℕ → EntryFault → Type 0
IsFirstEntryFault grid line NoText = ¬ IsUtf8 line
IsFirstEntryFault grid line (NoBoard fault) = IsUtf8 line × IsFirstWordFault grid (tile_words (words_of line)) fault

-- the code that a fault is reported by
abbrev pub entry_code : EntryFault → List ℕ
entry_code NoText = codes "E12"
entry_code (NoBoard fault) = tiles_code fault
