-- Reading from front to back: each field is judged as a whole before the next is read, and the first fault decides.
use Rattle.std.specs.Prelude.{ℕ, ◌≡◌, ◌==◌, ◌&&◌, ◌-◌, zero, suc, Bool, true, nat_lt, nat_le, not, List, [], ◌∷◌, ◌++◌, length, take, drop, slice_index, Option, None, Some, Result, Ok, Err, if◌then◌else◌, codes}
use Rattle.std.specs.List.{list_all, list_any}
use Rattle.std.specs.Int.{w32, w64, from_le_bytes}
use Rattle.std.specs.Str.{bytes_eq}
use Rattle.board.specs.declared.costs.TheConstants.{GREATEST_COST}
use Rattle.board.specs.declared.moves.Move.{Move}
use Rattle.board.specs.Letters.{move_of_letter}
use Rattle.board.specs.Shapes.{ShapeModel, cell_count}
use Rattle.board.specs.Boards.{BoardModel}
use Rattle.board.specs.Weights.{WeightsModel, listed_rule, unit_rule, face_rule}
use Rattle.board.specs.Keys.{key_of}
use Rattle.pattern_index.specs.declared.group.TheConstants.{MAX_SIZE}
use Rattle.pattern_index.specs.Groups.{GroupModel, size_of}
use Rattle.pattern_index.specs.Partitions.{PartitionModel}
use Rattle.certificate.specs.declared.certificate.TheConstants.{GREATEST_BOUND}
use Rattle.certificate.specs.declared.certificate.Version.{Version}
use Rattle.certificate.specs.declared.certificate.Version.TheVariants.{One, Two}
use Rattle.certificate.specs.Certificates.{CertificateModel}
use Rattle.certificate.specs.Spellings.{cost_kind_of}
use Rattle.certificate.specs.declared.faults.FormatFault.{FormatFault}
use Rattle.certificate.specs.declared.faults.FormatFault.TheVariants.{OtherMagic, Truncated, OutOfRange, NotRising, BytesAfterEnd}

-- what is read from the front: a value and the bytes behind it, or a fault and the bytes from the faulty field on
abbrev pub Reading : Type 0 → Type 0
Reading X = Result (X × List ℕ) (FormatFault × List ℕ)

abbrev pub Reader : Type 0 → Type 0
Reader X = List ℕ → Reading X

-- the next field is read behind one that was found
abbrev pub next_reading : {X Y : Type 0} → (X → Reader Y) → Reading X → Reading Y
next_reading next (Ok found) = next found.0 found.1
next_reading next (Err fault) = Err fault

-- one after the other
infixl 10 ◌>>=◌
unfoldable pub ◌>>=◌ : {X Y : Type 0} → Reader X → (X → Reader Y) → Reader Y
(first >>= next) bytes = next_reading next (first bytes)

-- nothing is read, and the value is known
unfoldable pub give : {X : Type 0} → X → Reader X
give x bytes = Ok (x, bytes)

-- the value of a field that was found, or a fault where it has none
abbrev pub field_reading : {X : Type 0} → FormatFault → List ℕ → List ℕ → Option X → Reading X
field_reading fault bytes rest None = Err (fault, bytes)
field_reading fault bytes rest (Some x) = Ok (x, rest)

-- a field of n bytes
unfoldable pub field : {X : Type 0} → FormatFault → ℕ → (List ℕ → Option X) → Reader X
field fault n value bytes = if nat_lt (length bytes) n then Err (Truncated, bytes) else field_reading fault bytes (drop n bytes) (value (take n bytes))

-- what is read as one field: a fault within counts from its beginning
abbrev pub whole_reading : {X : Type 0} → List ℕ → Reading X → Reading X
whole_reading bytes (Ok found) = Ok found
whole_reading bytes (Err fault) = Err (fault.0, bytes)

unfoldable pub as_one : {X : Type 0} → Reader X → Reader X
as_one reader bytes = whole_reading bytes (reader bytes)

-- ---- the fields

unfoldable pub version_in : List ℕ → Option Version
version_in text = if bytes_eq text (codes "TILECRT1") then Some One else if bytes_eq text (codes "TILECRT2") then Some Two else None

abbrev pub version : Reader Version
version = field OtherMagic 8 version_in

-- one byte within a range
unfoldable pub byte_in : ℕ → ℕ → List ℕ → Option ℕ
byte_in low high text = if nat_le low (slice_index text 0) && nat_le (slice_index text 0) high then Some (slice_index text 0) else None

abbrev pub byte_within : ℕ → ℕ → Reader ℕ
byte_within low high = field OutOfRange 1 (byte_in low high)

-- a number that is at most this one
unfoldable pub number_in : ℕ → List ℕ → Option ℕ
number_in high text = if nat_le (from_le_bytes w32 text) high then Some (from_le_bytes w32 text) else None

abbrev pub number_within : ℕ → Reader ℕ
number_within high = field OutOfRange 4 (number_in high)

-- a cost, or the length of a plan
abbrev pub number : Reader ℕ
number = number_within GREATEST_COST

-- the number of rows, whatever it is
unfoldable pub count_in : List ℕ → Option ℕ
count_in text = Some (from_le_bytes w64 text)

abbrev pub count : Reader ℕ
count = field OutOfRange 8 count_in

-- no two numbers are the same
abbrev pub all_differ : List ℕ → Bool
all_differ [] = true
all_differ (x ∷ xs) = list_all (λ y. not (x == y)) xs && all_differ xs

-- each number is below the count of cells, and no two are the same
unfoldable pub board_from : ShapeModel → List ℕ → Option BoardModel
board_from grid text = if list_all (λ tile. nat_lt tile (cell_count grid)) text && all_differ text then Some (record { grid = grid; tiles = text }) else None

abbrev pub board : ShapeModel → Reader BoardModel
board grid = field OutOfRange (cell_count grid) (board_from grid)

-- each number is above 0 and below the count of cells
abbrev pub are_tiles : ShapeModel → List ℕ → Bool
are_tiles grid text = list_all (λ tile. nat_lt 0 tile && nat_lt tile (cell_count grid)) text

-- each number is below all later ones
abbrev pub rises : List ℕ → Bool
rises [] = true
rises (x ∷ xs) = list_all (λ y. nat_lt x y) xs && rises xs

-- no number is in both lists
abbrev pub shares_none : List ℕ → List ℕ → Bool
shares_none xs ys = list_all (λ y. not (list_any (λ x. x == y) xs)) ys

-- The tiles of a group, in rising order: it has no more views than a group may have, and shares no tile with the groups before it.
unfoldable pub group_in : ShapeModel → List GroupModel → List ℕ → Option GroupModel
group_in grid before text =
    if (are_tiles grid text && rises text) && (nat_le (size_of (record { grid = grid; tiles = text })) MAX_SIZE && list_all (λ h. shares_none h.tiles text) before) then Some (record { grid = grid; tiles = text }) else None

abbrev pub tiles : ShapeModel → List GroupModel → ℕ → Reader GroupModel
tiles grid before n = field OutOfRange n (group_in grid before)

unfoldable pub letter_in : List ℕ → Option Move
letter_in text = move_of_letter (slice_index text 0)

abbrev pub letter : Reader Move
letter = field OutOfRange 1 letter_in

-- the weights of tiles 1, 2, .. in order: none is 0, and they are neither unit nor face costs
unfoldable pub weights_in : ShapeModel → List ℕ → Option WeightsModel
weights_in grid text = if list_all (λ weight. nat_lt 0 weight) text && (cost_kind_of (listed_rule grid text) == 2) then Some (listed_rule grid text) else None

-- ---- the certificate

abbrev pub grid_with : ℕ → ℕ → ShapeModel
grid_with rows cols = record { rows = rows; cols = cols }

-- kind 0 is unit cost, kind 1 face cost; for kind 2 the weights follow
abbrev pub costs_of : ShapeModel → ℕ → Reader WeightsModel
costs_of grid zero = give (unit_rule grid)
costs_of grid (suc zero) = give (face_rule grid)
costs_of grid (suc (suc kind)) = field OutOfRange (cell_count grid - 1) (weights_in grid)

-- 0 where a plan is claimed, 1 where a bound is: a byte of version 2
abbrev pub claim : Version → Reader ℕ
claim One = give 0
claim Two = byte_within 0 1

unfoldable pub beginning : Reader (Version × ℕ)
beginning = do
  v ← version
  n ← claim v
  give (v, n)

unfoldable pub opening_fields : Reader WeightsModel
opening_fields = do
  rows ← byte_within 2 5
  cols ← byte_within 2 5
  kind ← byte_within 0 2
  costs_of (grid_with rows cols) kind

-- the number of tiles, and the tiles
unfoldable pub group : ShapeModel → List GroupModel → Reader GroupModel
group grid before = do
  n ← byte_within 1 24
  tiles grid before n

-- n groups, after those before them
unfoldable pub groups : ShapeModel → List GroupModel → ℕ → Reader (List GroupModel)
groups grid before zero = give []
groups grid before (suc n) = do
  first ← group grid before
  others ← groups grid (before ++ first ∷ []) n
  give (first ∷ others)

unfoldable pub all_groups : ShapeModel → Reader PartitionModel
all_groups grid = do
  n ← byte_within 0 24
  found ← groups grid [] n
  give (record { grid = grid; groups = found })

unfoldable pub letters : ℕ → Reader (List Move)
letters zero = give []
letters (suc n) = do
  m ← letter
  ms ← letters n
  give (m ∷ ms)

unfoldable pub plan : Reader (List Move)
plan = do
  n ← number
  letters n

-- a plan and its cost, or a bound
abbrev pub claimed : ℕ → Reader (ℕ × Option (List Move))
claimed zero = do
  cost ← number
  moves ← plan
  give (cost, Some moves)
claimed (suc claim) = do
  bound ← number_within GREATEST_BOUND
  give (bound, None)

-- whether the board may be in the row after that of `before`, if there is one: keys of a grid's boards are in the order of their lists of tiles
abbrev pub may_follow : Option BoardModel → BoardModel → Bool
may_follow None b = true
may_follow (Some before) b = nat_lt (key_of before) (key_of b)

unfoldable pub row_order : Option BoardModel → BoardModel × ℕ → Reader (BoardModel × ℕ)
row_order before row bytes = if may_follow before row.0 then Ok (row, bytes) else Err (NotRising, bytes)

-- a row is read as one field, and its order is judged last
unfoldable pub row : ShapeModel → Option BoardModel → Reader (BoardModel × ℕ)
row grid before = as_one (do
  b ← board grid
  g ← number
  row_order before (b, g))

unfoldable pub rows : ShapeModel → Option BoardModel → ℕ → Reader (List (BoardModel × ℕ))
rows grid before zero = give []
rows grid before (suc n) = do
  first ← row grid before
  others ← rows grid (Some first.0) n
  give (first ∷ others)

unfoldable pub all_rows : ShapeModel → Reader (List (BoardModel × ℕ))
all_rows grid = do
  n ← count
  rows grid None n

-- no byte is left
unfoldable pub end : Reader (Unit {0})
end [] = Ok (tt, [])
end (b ∷ bytes) = Err (BytesAfterEnd, b ∷ bytes)

-- the boards, and what is claimed
unfoldable pub body : Version → ℕ → WeightsModel → PartitionModel → Reader CertificateModel
body v n costs groups = do
  start ← board costs.grid
  goal ← board costs.grid
  found ← claimed n
  give (record { version = v; grid = costs.grid; costs = costs; groups = groups; start = start; goal = goal; cost = found.0; plan = found.1; rows = [] })

-- all before the rows
unfoldable pub front : Reader CertificateModel
front = do
  form ← beginning
  costs ← opening_fields
  split ← all_groups costs.grid
  body form.0 form.1 costs split

unfoldable pub certificate : Reader CertificateModel
certificate = do
  c ← front
  proof ← all_rows c.grid
  _ ← end
  give (record c { rows = proof })

-- this is the fault that the reader finds in the bytes
abbrev pub IsFaultOf : {X : Type 0} → Reader X → List ℕ → FormatFault → Type 0
IsFaultOf reader bytes fault = (from : List ℕ) × (reader bytes ≡ Err (fault, from))

-- the fault of the bytes is that they are cut off within what is read
abbrev pub IsCutOff : {X : Type 0} → Reader X → List ℕ → Type 0
IsCutOff reader bytes = IsFaultOf reader bytes Truncated

-- the bytes have no fault, except that they may be cut off
abbrev pub HasNoFault : {X : Type 0} → Reader X → List ℕ → Type 0
HasNoFault reader bytes = (fault : FormatFault) → IsFaultOf reader bytes fault → fault ≡ Truncated

-- this is the first fault of the bytes, and `from` is what they have from the faulty field or row on
abbrev pub IsFaultAt : List ℕ → FormatFault → List ℕ → Type 0
IsFaultAt bytes fault from = certificate bytes ≡ Err (fault, from)

-- this is the first fault of the bytes
abbrev pub IsFirstFormatFault : List ℕ → FormatFault → Type 0
IsFirstFormatFault bytes fault = (from : List ℕ) × IsFaultAt bytes fault from
