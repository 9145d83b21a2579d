-- The first fault of the numbers that words say is that of these words.
use Rattle.std.proofs.Common.{◌≡◌, ◌≢◌, ℕ, suc, ◌-◌, ◌<◌, ◌≤◌, min, Bool, true, false, List, [], ◌∷◌, ◌++◌, length, get_or, take, refl, sym, ap, ◌∙◌, arith, length-append, append_assoc, if◌then◌else◌, subst, ⊎_elim, length-take}
use Rattle.std.specs.Prelude.{◌&&◌, map, nat_lt, ◌↔◌, All, IsErrOf, IsUtf8, Ok, Err, slice_get, Some}
use Rattle.std.specs.List.{list_all}
use Rattle.std.specs.Char.{is_ascii_digit}
use Rattle.std.specs.Str.Parse.{digits_value}
use Rattle.std.proofs.lemmas.Bool.{lt-ltb, cases_lt}
use Rattle.std.proofs.lemmas.List.{append-nil, take_all, length-map, get_or-take, get_or_default}
use Rattle.std.proofs.Math.Seq.{take-nil}
use Rattle.batch_lines.specs.TileNumbers.{tile_number}
use Rattle.batch_lines.specs.Words.{words_of, id_of, tile_words, SpellsDecimal, SpellEach, IsEntry, IsFirstWord, IsFirstWordFault, IsFirstEntryFault}
use Rattle.batch_lines.proofs.WordLemmas.{words_none, first_and_others}
use Rattle.batch_lines.proofs.NumberLemmas.{digits_of, all_digits, number_at}
use Rattle.std.proofs.lemmas.List.Elements.{All-head, All-tail, All-weaker}
use Rattle.std.proofs.lemmas.Option.{slice_get_within, slice_get-get_or}
use Rattle.board.specs.Shapes.{ShapeModel, cell_count}
use Rattle.board.specs.Boards.{BoardModel, IsBoard}
use Rattle.board.specs.Faults.{IsFirstTilesPlace, IsFirstTilesFault}
use Rattle.board.specs.declared.faults.TilesFault.{TilesFault}
use Rattle.board.specs.declared.faults.TilesFault.TheVariants.{WrongCount, TileOutOfRange, TileRepeated}
use Rattle.batch_lines.specs.declared.words.EntryFault.{EntryFault}
use Rattle.batch_lines.specs.declared.words.EntryFault.TheVariants.{NoText, NoBoard}

-- ---- The numbers that words say, word by word.

-- `numbers` are those of the words of `text` before `rest`, and they are 26 at most
pub record AreRead (text rest numbers : List ℕ) : Type 0 where
  pub few : length numbers ≤ 26
  pub read : map tile_number (take 26 (words_of text)) ≡ numbers ++ map tile_number (take (26 - length numbers) (words_of rest))

-- no word is read yet
pub AreRead-none : (text : List ℕ) → AreRead text text []
AreRead-none text = record { few = omega arith; read = refl }

-- one more word
pub AreRead-more : (text rest behind word numbers : List ℕ) (n : ℕ) → AreRead text rest numbers → length numbers < 26 → word ≡ id_of (words_of rest) → 0 < length word → words_of behind ≡ tile_words (words_of rest) → n ≡ tile_number word → AreRead text behind (numbers ++ n ∷ [])
AreRead-more text rest behind word numbers n before room first some others is =
    let words : words_of rest ≡ word ∷ words_of behind = first_and_others (words_of rest) word (words_of behind) first some others in
    let left : 26 - length numbers ≡ suc (26 - length (numbers ++ n ∷ [])) = omega (arith, length-append numbers (n ∷ [])) in
    let tail = map tile_number (take (26 - length (numbers ++ n ∷ [])) (words_of behind)) in
    record {
      few = omega (arith, length-append numbers (n ∷ []));
      read = before.read ∙ ap (λ (ws : List (List ℕ)). numbers ++ map tile_number (take (26 - length numbers) ws)) words ∙ ap (λ (k : ℕ). numbers ++ map tile_number (take k (word ∷ words_of behind))) left ∙ ap (λ (m : ℕ). numbers ++ (m ∷ tail)) (sym is) ∙ sym (append_assoc numbers (n ∷ []) tail);
    }

-- no word is left
pub AreRead-end : (text rest word numbers : List ℕ) → AreRead text rest numbers → word ≡ id_of (words_of rest) → length word ≡ 0 → numbers ≡ map tile_number (take 26 (words_of text))
AreRead-end text rest [] numbers before first none = sym (before.read ∙ ap (λ (ws : List (List ℕ)). numbers ++ map tile_number (take (26 - length numbers) ws)) (words_none rest (sym first)) ∙ ap (λ (ws : List (List ℕ)). numbers ++ map tile_number ws) (take-nil (26 - length numbers)) ∙ append-nil numbers)
AreRead-end text rest (b ∷ bs) numbers before first none = absurd (omega arith)

-- as many words as are read
pub AreRead-full : (text rest numbers : List ℕ) → AreRead text rest numbers → 26 ≤ length numbers → numbers ≡ map tile_number (take 26 (words_of text))
AreRead-full text rest numbers before full =
    let none : 26 - length numbers ≡ 0 = omega arith in
    sym (before.read ∙ ap (λ (k : ℕ). numbers ++ map tile_number (take k (words_of rest))) none ∙ append-nil numbers)

digits_of_small : (some all : Bool) (value : ℕ) → (if some && all then min 255 value else 255) < 255 → (some ≡ true) × (all ≡ true) × (value ≡ if some && all then min 255 value else 255)
digits_of_small true true value small = (refl, refl, omega arith)
digits_of_small true false value small = absurd (omega arith)
digits_of_small false all value small = absurd (omega arith)

-- a word with a number below 255 spells that number
pub Spells-from_number : (word : List ℕ) → tile_number word < 255 → SpellsDecimal word (tile_number word)
Spells-from_number word small =
    let parts = digits_of_small (nat_lt 0 (length word)) (list_all is_ascii_digit word) (digits_value 10 word) small in
    record {
      some = λ none. let e = ap (λ (w : List ℕ). nat_lt 0 (length w)) none in absurd (let some = parts.0 in cc);
      digits = digits_of word parts.1;
      value = parts.2;
    }

length_some : (word : List ℕ) → word ≢ [] → 0 < length word
length_some [] some = absurd (some refl)
length_some (b ∷ bs) some = omega arith

-- the number of a word that spells one
pub number-from_Spells : (word : List ℕ) (n : ℕ) → SpellsDecimal word n → tile_number word ≡ min 255 n
number-from_Spells word n spells =
    let some : nat_lt 0 (length word) ≡ true = lt-ltb 0 (length word) (length_some word spells.some) in
    let all = all_digits word spells.digits in
    rw (some, all) (ap (min 255) spells.value)

-- a number before a place
number_before : (words : List (List ℕ)) (place k : ℕ) (d : ℕ) (word : List ℕ) → k < place → slice_get words k ≡ Some word → get_or (take place (map tile_number words)) k d ≡ tile_number word
number_before words place k d word before at =
    let within : k < length (map tile_number words) = omega (arith, slice_get_within words k word at, length-map words tile_number) in
    get_or-take place (map tile_number words) k d before ∙ get_or_default (map tile_number words) k d 0 within ∙ number_at tile_number words k word at

-- where no number before a place is faulty, no word before it is
first_word : (grid : ShapeModel) (words : List (List ℕ)) (place : ℕ) → cell_count grid ≤ 25 → IsFirstTilesPlace grid (map tile_number words) place → IsFirstWord grid words place
first_word grid words place few first =
    let size = length-map words tile_number in
    let taken = length-take place (map tile_number words) in
    record {
      one_each = sym size ∙ first.one_each;
      within = omega (arith, size, first.within);
      in_range = λ k word before at.
          let low : get_or (take place (map tile_number words)) k 0 < cell_count grid = first.in_range k 0 (omega (arith, taken, first.within)) in
          let is = number_before words place k 0 word before at in
          let small : tile_number word < cell_count grid = subst (λ (n : ℕ). n < cell_count grid) is low in
          (tile_number word, Spells-from_number word (omega arith), small);
      different = λ j k one two n below before at_one at_two spells_one spells_two.
          let first_is = number_before words place j 0 one (omega arith) at_one ∙ number-from_Spells one n spells_one in
          let second_is = number_before words place k 0 two before at_two ∙ number-from_Spells two n spells_two in
          first.different j k 0 below (omega (arith, taken, first.within)) (first_is ∙ sym second_is);
    }

-- a word before a place, where no word before it is faulty
word_before : (grid : ShapeModel) (words : List (List ℕ)) (place k : ℕ) → cell_count grid ≤ 25 → IsFirstWord grid words place → k < place → (word : List ℕ) × (slice_get words k ≡ Some word) × (tile_number word < cell_count grid)
word_before grid words place k few first before =
    let at = slice_get-get_or words k [] (omega (arith, first.within)) in
    let known = first.in_range k (get_or words k []) before at in
    let is = number-from_Spells (get_or words k []) known.0 known.1 in
    let low = known.2 in
    (get_or words k [], at, omega (arith, is, low))

-- and the other way
first_place : (grid : ShapeModel) (words : List (List ℕ)) (place : ℕ) → cell_count grid ≤ 25 → IsFirstWord grid words place → IsFirstTilesPlace grid (map tile_number words) place
first_place grid words place few first =
    let size = length-map words tile_number in
    let taken = length-take place (map tile_number words) in
    record {
      one_each = size ∙ first.one_each;
      within = omega (arith, size, first.within);
      in_range = λ k d inside.
          let before : k < place = omega (arith, taken, inside) in
          let word = word_before grid words place k few first before in
          subst (λ (n : ℕ). n < cell_count grid) (sym (number_before words place k d word.0 before word.1)) word.2;
      different = λ j k d below inside same.
          let before : k < place = omega (arith, taken, inside) in
          let one = word_before grid words place j few first (omega arith) in
          let two = word_before grid words place k few first before in
          let e : tile_number two.0 ≡ tile_number one.0 = sym (number_before words place k d two.0 before two.1) ∙ sym same ∙ number_before words place j d one.0 (omega arith) one.1 in
          let one_low : tile_number one.0 < 255 = omega (arith, one.2) in
          let two_low : tile_number two.0 < 255 = omega (arith, two.2) in
          first.different j k one.0 two.0 (tile_number one.0) below before one.1 two.1 (Spells-from_number one.0 one_low) (subst (λ (n : ℕ). SpellsDecimal two.0 n) e (Spells-from_number two.0 two_low));
    }

out_of_range : (grid : ShapeModel) (words : List (List ℕ)) (place : ℕ) → cell_count grid ≤ 25 → IsFirstTilesFault grid (map tile_number words) (TileOutOfRange place) ↔ IsFirstWordFault grid words (TileOutOfRange place)
out_of_range grid words place few = (
  (λ fault.
      let first = first_word grid words place few fault.0 in
      let at = slice_get-get_or words place [] first.within in
      let is = number_at tile_number words place (get_or words place []) at in
      (get_or words place [], first, at, λ n spells. omega (arith, number-from_Spells (get_or words place []) n spells, is, fault.1))),
  (λ fault.
      let is = number_at tile_number words place fault.0 fault.2 in
      let high : cell_count grid ≤ tile_number fault.0 = ⊎_elim (λ (small : tile_number fault.0 < 255). fault.3 (tile_number fault.0) (Spells-from_number fault.0 small)) (λ (big : 255 ≤ tile_number fault.0). omega arith) (cases_lt (tile_number fault.0) 255) in
      (first_place grid words place few fault.1, subst (λ (n : ℕ). cell_count grid ≤ n) (sym is) high)),
)

repeated : (grid : ShapeModel) (words : List (List ℕ)) (place : ℕ) → cell_count grid ≤ 25 → IsFirstTilesFault grid (map tile_number words) (TileRepeated place) ↔ IsFirstWordFault grid words (TileRepeated place)
repeated grid words place few = (
  (λ fault.
      let first = first_word grid words place few fault.0 in
      let at = slice_get-get_or words place [] first.within in
      let is = number_at tile_number words place (get_or words place []) at in
      let low : tile_number (get_or words place []) < cell_count grid = subst (λ (n : ℕ). n < cell_count grid) is fault.1 in
      let k : ℕ = fault.2.0 in
      let before : k < place = omega (arith, fault.2.1, length-take place (map tile_number words)) in
      let earlier = word_before grid words place k few first before in
      let same : tile_number earlier.0 ≡ tile_number (get_or words place []) = sym (number_before words place k (get_or (map tile_number words) place 0) earlier.0 before earlier.1) ∙ fault.2.2 ∙ is in
      let earlier_low : tile_number earlier.0 < 255 = omega (arith, earlier.2) in
      (get_or words place [], tile_number (get_or words place []), k, earlier.0, first, at, Spells-from_number (get_or words place []) (omega arith), low, before, earlier.1, subst (λ (n : ℕ). SpellsDecimal earlier.0 n) same (Spells-from_number earlier.0 earlier_low))),
  (λ fault.
      let first = first_place grid words place few fault.4 in
      let is = number_at tile_number words place fault.0 fault.5 ∙ number-from_Spells fault.0 fault.1 fault.6 in
      let earlier = number_before words place fault.2 (get_or (map tile_number words) place 0) fault.3 fault.8 fault.9 ∙ number-from_Spells fault.3 fault.1 fault.10 in
      (first, omega (arith, is, fault.7), (fault.2, omega (arith, fault.8, first.within, length-take place (map tile_number words)), earlier ∙ sym is))),
)

-- the numbers and their words have the same first fault
same_fault : (grid : ShapeModel) (words : List (List ℕ)) → cell_count grid ≤ 25 → (fault : TilesFault) → IsFirstTilesFault grid (map tile_number words) fault ↔ IsFirstWordFault grid words fault
same_fault grid words few WrongCount = (λ wrong e. wrong (length-map words tile_number ∙ e), λ wrong e. wrong (sym (length-map words tile_number) ∙ e))
same_fault grid words few (TileOutOfRange place) = out_of_range grid words place few
same_fault grid words few (TileRepeated place) = repeated grid words place few

-- a surplus of words is a surplus of numbers
surplus : (grid : ShapeModel) (words : List (List ℕ)) → cell_count grid ≤ 25 → 26 < length words → (fault : TilesFault) → IsFirstTilesFault grid (map tile_number (take 26 words)) fault ↔ IsFirstWordFault grid words fault
surplus grid words few more WrongCount = (λ wrong e. absurd (omega arith), λ wrong e. absurd (omega (arith, length-map (take 26 words) tile_number, length-take 26 words)))
surplus grid words few more (TileOutOfRange place) = (λ fault. absurd (let e = fault.0.one_each in omega (arith, length-map (take 26 words) tile_number, length-take 26 words)), λ fault. absurd (let e = fault.1.one_each in omega arith))
surplus grid words few more (TileRepeated place) = (λ fault. absurd (let e = fault.0.one_each in omega (arith, length-map (take 26 words) tile_number, length-take 26 words)), λ fault. absurd (let e = fault.4.one_each in omega arith))

-- the numbers that are read and all words have the same first fault
pub read_fault : (grid : ShapeModel) (words : List (List ℕ)) (numbers : List ℕ) → cell_count grid ≤ 25 → numbers ≡ map tile_number (take 26 words) → (fault : TilesFault) → IsFirstTilesFault grid numbers fault ↔ IsFirstWordFault grid words fault
read_fault grid words numbers few read fault =
    subst (λ (ns : List ℕ). IsFirstTilesFault grid ns fault ↔ IsFirstWordFault grid words fault) (sym read)
    (⊎_elim
    (λ (more : 26 < length words). surplus grid words few more fault)
    (λ (all : length words ≤ 26). subst (λ (ws : List (List ℕ)). IsFirstTilesFault grid (map tile_number ws) fault ↔ IsFirstWordFault grid words fault) (sym (take_all 26 words all)) (same_fault grid words few fault))
    (cases_lt 26 (length words)))

spell_each : (words : List (List ℕ)) → All (λ n. n < 255) (map tile_number words) → SpellEach words (map tile_number words)
spell_each [] small = tt
spell_each (word ∷ words) small = (Spells-from_number word (All-head (λ n. n < 255) (tile_number word) (map tile_number words) small), spell_each words (All-tail (λ n. n < 255) (tile_number word) (map tile_number words) small))

-- words whose numbers are the tiles of a board spell these tiles
pub spelled : (grid : ShapeModel) (words : List (List ℕ)) (numbers : List ℕ) → cell_count grid ≤ 25 → numbers ≡ map tile_number (take 26 words) → IsBoard (record { grid = grid; tiles = numbers }) → SpellEach words numbers
spelled grid words numbers few read board =
    let all : length words ≤ 26 = omega (arith, board.one_each, ap length read, length-map (take 26 words) tile_number, length-take 26 words) in
    let same : numbers ≡ map tile_number words = read ∙ ap (λ (ws : List (List ℕ)). map tile_number ws) (take_all 26 words all) in
    let small : All (λ n. n < 255) numbers = All-weaker (λ n. n < cell_count grid) (λ n. n < 255) (λ n low. omega arith) numbers board.in_range in
    subst (λ (ns : List ℕ). SpellEach words ns) (sym same) (spell_each words (subst (λ (ns : List ℕ). All (λ n. n < 255) ns) same small))

-- the numbers that are read behind the id are those of the tile words
pub tiles_read : (line text rest items numbers : List ℕ) → text ≡ line → words_of rest ≡ tile_words (words_of text) → items ≡ map tile_number (take 26 (words_of rest)) → numbers ≡ items → numbers ≡ map tile_number (take 26 (tile_words (words_of line)))
tiles_read line text rest items numbers whole behind read same = same ∙ read ∙ ap (λ (words : List (List ℕ)). map tile_number (take 26 words)) (behind ∙ ap (λ (bs : List ℕ). tile_words (words_of bs)) whole)

-- an id and a board make an entry
pub entry_is : (grid : ShapeModel) (line id numbers : List ℕ) (b : BoardModel) → cell_count grid ≤ 25 → numbers ≡ map tile_number (take 26 (tile_words (words_of line))) → IsUtf8 line → id ≡ id_of (words_of line) → IsBoard (record { grid = grid; tiles = numbers }) → b ≡ record { grid = grid; tiles = numbers } → IsEntry grid line id b
entry_is grid line id numbers b few read text named board is =
    subst (λ (p : BoardModel). IsEntry grid line id p) (sym is)
    (record {
      text = text;
      named = named;
      spelled = spelled grid (tile_words (words_of line)) numbers few read board;
      board = board;
      sides = refl;
    })

-- where the numbers have no fault, the line has none
pub no_fault : {A B : Type 0} (grid : ShapeModel) (line numbers : List ℕ) (board : A) (entry : B) → cell_count grid ≤ 25 → numbers ≡ map tile_number (take 26 (tile_words (words_of line))) → IsUtf8 line → ((fault : TilesFault) → IsErrOf {T = A} {E = TilesFault} (Ok board) fault ↔ IsFirstTilesFault grid numbers fault) → (fault : EntryFault) → IsErrOf {T = B} {E = EntryFault} (Ok entry) fault ↔ IsFirstEntryFault grid line fault
no_fault grid line numbers board entry few read text none NoText = (λ e. absurd (cc), λ no. absurd (no text))
no_fault grid line numbers board entry few read text none (NoBoard fault) = (
  (λ e. absurd (cc)),
  (λ first. absurd (let e = (none fault).1 ((read_fault grid (tile_words (words_of line)) numbers few read fault).1 first.1) in cc)),
)

-- the fault of the numbers is the fault of the line
pub entry_fault : {A B : Type 0} (grid : ShapeModel) (line numbers : List ℕ) (found : TilesFault) → cell_count grid ≤ 25 → numbers ≡ map tile_number (take 26 (tile_words (words_of line))) → IsUtf8 line → ((fault : TilesFault) → IsErrOf {T = A} {E = TilesFault} (Err found) fault ↔ IsFirstTilesFault grid numbers fault) → (fault : EntryFault) → IsErrOf {T = B} {E = EntryFault} (Err (NoBoard found)) fault ↔ IsFirstEntryFault grid line fault
entry_fault grid line numbers found few read text same NoText = (λ e. absurd (cc), λ no. absurd (no text))
entry_fault grid line numbers found few read text same (NoBoard fault) = (
  (λ e. let is : found ≡ fault = cc in (text, (read_fault grid (tile_words (words_of line)) numbers few read fault).0 ((same fault).0 (ap Err is)))),
  (λ first. let e = (same fault).1 ((read_fault grid (tile_words (words_of line)) numbers few read fault).1 first.1) in let is : found ≡ fault = cc in ap (λ (f : TilesFault). Err (NoBoard f)) is),
)
