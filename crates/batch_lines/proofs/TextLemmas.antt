-- Words that are read, and the groups that they say.
use Rattle.std.proofs.Common.{◌≡◌, ℕ, zero, suc, ◌<◌, List, [], ◌∷◌, length, get_or, Some, refl, sym, ap, subst, ◌∙◌, arith, ◌≤◌, ◌++◌, map, take, Result, Ok, Err, ⊎_elim, length-take}
use Rattle.std.specs.Prelude.{slice_get, IfOk, IsOk, IsErrOf, ◌↔◌, IsPermutation, Contains}
use Rattle.std.specs.Borrow.{Bor}
use Rattle.std.proofs.lemmas.Bool.{cases_lt}
use Rattle.std.proofs.lemmas.List.{take_all, get_or-take}
use Rattle.board.specs.Shapes.{ShapeModel, cell_count, IsShape}
use Rattle.board.specs.Boards.{BoardModel, IsBoard}
use Rattle.board.specs.declared.faults.TilesFault.{TilesFault}
use Rattle.board.proofs.NeighbourLemmas.{cells_above}
use Rattle.pattern_index.specs.Groups.{GroupModel, IsTile, AreGroupTiles, IsGroup, size_of}
use Rattle.pattern_index.specs.Faults.{IsFirstGroupPlace, IsFirstGroupFault}
use Rattle.pattern_index.specs.declared.group.TheConstants.{MAX_SIZE}
use Rattle.pattern_index.specs.declared.faults.GroupFault.{GroupFault}
use Rattle.pattern_index.specs.declared.faults.GroupFault.TheVariants.{Empty, NotATile, Repeated, TooManyViews}
use Rattle.pattern_index.proofs.GroupLemmas.{group_room, cells_high}
use Rattle.batch_lines.specs.TileNumbers.{tile_number}
use Rattle.batch_lines.proofs.FaultLemmas.{spelled}
use Rattle.batch_lines.specs.Texts.{comma_words, IsGoalOf, group_numbers, IsGroupOf, AreGroupsOf}
use Rattle.std.proofs.lemmas.Option.{slice_get_within}
use Rattle.board.specs.declared.faults.TilesFault.TheVariants.{WrongCount, TileOutOfRange, TileRepeated}
use Rattle.batch_lines.specs.Words.{SpellsDecimal, SpellEach, IsFirstWordFault}

-- what is read of each item, item by item
pub read_each : {Y : Type 0} (f : List ℕ → Y) (words : List (Bor (List ℕ))) → map (λ (word : Bor (List ℕ)). f word.now) words ≡ map f (map (λ (word : Bor (List ℕ)). word.now) words)
read_each f [] = refl
read_each f (word ∷ words) = ap (λ ys. f word.now ∷ ys) (read_each f words)

-- what is read of words and one more
pub read_more : {Y : Type 0} (f : List ℕ → Y) (words : List (Bor (List ℕ))) (word : Bor (List ℕ)) → map (λ (w : Bor (List ℕ)). f w.now) (words ++ word ∷ []) ≡ map (λ (w : Bor (List ℕ)). f w.now) words ++ f word.now ∷ []
read_more f [] word = refl
read_more f (w ∷ words) word = ap (λ ys. f w.now ∷ ys) (read_more f words word)

-- a text of some bytes has the numbers of its words
pub numbers_of_words : (text : List ℕ) → 0 < length text → map tile_number (comma_words text) ≡ group_numbers text
numbers_of_words [] some = absurd (omega arith)
numbers_of_words (byte ∷ bytes) some = refl

-- ---- goals

-- the board of the numbers that are read is the goal of the text
pub goal_read : (grid : ShapeModel) (text numbers : List ℕ) (result : Result BoardModel TilesFault) → cell_count grid ≤ 25 → numbers ≡ map tile_number (take 26 (comma_words text)) → (IsOk result → IsBoard (record { grid = grid; tiles = numbers })) → IfOk result (λ b. b ≡ record { grid = grid; tiles = numbers }) → IfOk result (IsGoalOf grid text)
goal_read grid text numbers (Ok b) few read board is =
    subst (IsGoalOf grid text) (sym is)
    (record {
      spelled = spelled grid (comma_words text) numbers few read (board refl);
      board = board refl;
      sides = refl;
    })
goal_read grid text numbers (Err fault) few read board is = tt

-- ---- the first numbers of a group

-- a group has fewer numbers than are read
few_tiles : (grid : ShapeModel) (ts : List ℕ) → IsShape grid → AreGroupTiles grid ts → length ts ≤ 24
few_tiles grid ts sides group =
    let room = group_room grid ts (cells_above grid sides) group in
    let high = cells_high grid sides in
    omega (arith)

take_twice : (i j : ℕ) (ys : List ℕ) → i ≤ j → take i (take j ys) ≡ take i ys
take_twice zero j ys le = refl
take_twice (suc i) zero ys le = absurd (omega arith)
take_twice (suc i) (suc j) [] le = refl
take_twice (suc i) (suc j) (y ∷ ys) le = ap (λ (zs : List ℕ). y ∷ zs) (take_twice i j ys (omega arith))

module _ (grid : ShapeModel) (numbers : List ℕ) (sides : IsShape grid) where
  -- where the first numbers make a group, there are no others
  group_front : AreGroupTiles grid (take 26 numbers) → take 26 numbers ≡ numbers
  group_front group =
      let few = few_tiles grid (take 26 numbers) sides group in
      take_all 26 numbers (⊎_elim (λ (more : 26 < length numbers). absurd (omega (arith, few, length-take 26 numbers))) (λ (all : length numbers ≤ 26). all) (cases_lt 26 (length numbers)))

  -- the first offending place is among the first
  place_front : (place : ℕ) → IsFirstGroupPlace grid numbers place → place < 26
  place_front place first =
      let few = few_tiles grid (take place numbers) sides first.before in
      omega (arith, few, length-take place numbers, first.within)

  to_front : (place : ℕ) → IsFirstGroupPlace grid numbers place → IsFirstGroupPlace grid (take 26 numbers) place
  to_front place first = record {
    within = omega (arith, place_front place first, first.within, length-take 26 numbers);
    before = subst (AreGroupTiles grid) (sym (take_twice place 26 numbers (omega (arith, place_front place first)))) first.before;
  }

  from_front : (place : ℕ) → IsFirstGroupPlace grid (take 26 numbers) place → (place < 26) × IsFirstGroupPlace grid numbers place
  from_front place first =
      let low : place < 26 = omega (arith, first.within, length-take 26 numbers) in (
        low,
        record {
          within = omega (arith, first.within, length-take 26 numbers);
          before = subst (AreGroupTiles grid) (take_twice place 26 numbers (omega (arith, low))) first.before;
        },
      )

  -- the first fault of all numbers is that of the first
  pub front_fault : (fault : GroupFault) → IsFirstGroupFault grid (take 26 numbers) fault ↔ IsFirstGroupFault grid numbers fault
  front_fault Empty = (
    (λ none. let long = ap length none in nothing (omega (arith, long, length-take 26 numbers))),
    (λ none. ap (take 26) none),
  )
    where
      nothing : length numbers ≡ 0 → numbers ≡ []
      nothing e = sym (take_all 0 numbers (omega (arith, e)))
  front_fault NotATile = (
    (λ fault. let first = from_front fault.0 fault.1 in (fault.0, first.1, subst (λ (n : ℕ). ¬ IsTile grid n) (get_or-take 26 numbers fault.0 0 first.0) fault.2)),
    (λ fault. (fault.0, to_front fault.0 fault.1, subst (λ (n : ℕ). ¬ IsTile grid n) (sym (get_or-take 26 numbers fault.0 0 (place_front fault.0 fault.1))) fault.2)),
  )
  front_fault Repeated = (
    (λ fault.
        let first = from_front fault.0 fault.1 in
        let is = get_or-take 26 numbers fault.0 0 first.0 in
        let found = subst (λ (ns : List ℕ). Contains ns (get_or (take 26 numbers) fault.0 0)) (take_twice fault.0 26 numbers (omega (arith, first.0))) fault.3 in
        (fault.0, first.1, subst (IsTile grid) is fault.2, subst (Contains (take fault.0 numbers)) is found)),
    (λ fault.
        let low = place_front fault.0 fault.1 in
        let is = get_or-take 26 numbers fault.0 0 low in
        let found = subst (λ (ns : List ℕ). Contains ns (get_or numbers fault.0 0)) (sym (take_twice fault.0 26 numbers (omega (arith, low)))) fault.3 in
        (fault.0, to_front fault.0 fault.1, subst (IsTile grid) (sym is) fault.2, subst (Contains (take fault.0 (take 26 numbers))) (sym is) found)),
  )
  front_fault TooManyViews = (
    (λ fault. subst (λ (ns : List ℕ). IsFirstGroupFault grid ns TooManyViews) (group_front fault.1) fault),
    (λ fault.
        let few = few_tiles grid numbers sides fault.1 in
        subst (λ (ns : List ℕ). IsFirstGroupFault grid ns TooManyViews) (sym (take_all 26 numbers (omega (arith, few)))) fault),
  )

-- the group of the numbers that are read is the group of the text
pub group_read : (grid : ShapeModel) (text numbers : List ℕ) (result : Result GroupModel GroupFault) → IsShape grid → numbers ≡ take 26 (group_numbers text) → (IsOk result → (0 < length numbers) × AreGroupTiles grid numbers × (size_of (record { grid = grid; tiles = numbers }) ≤ MAX_SIZE)) → IfOk result (λ g. g.grid ≡ grid) → IfOk result (λ g. IsPermutation numbers g.tiles) → IfOk result IsGroup → IfOk result (IsGroupOf grid text)
group_read grid text numbers (Ok g) sides read accepted of_grid moved sound =
    let group = subst (AreGroupTiles grid) read (accepted refl).1 in
    record {
      tiles = subst (λ (ns : List ℕ). IsPermutation ns g.tiles) (read ∙ group_front grid (group_numbers text) sides group) moved;
      group = sound;
      sides = of_grid;
    }
group_read grid text numbers (Err fault) sides read accepted of_grid moved sound = tt

-- its fault is the fault of the text
pub fault_read : {A : Type 0} (grid : ShapeModel) (text numbers : List ℕ) (result : Result A GroupFault) → IsShape grid → numbers ≡ take 26 (group_numbers text) → ((fault : GroupFault) → IsErrOf result fault ↔ IsFirstGroupFault grid numbers fault) → (fault : GroupFault) → IsErrOf result fault ↔ IsFirstGroupFault grid (group_numbers text) fault
fault_read grid text numbers result sides read exact fault =
    let same = front_fault grid (group_numbers text) sides fault in (
      (λ is. same.0 (subst (λ (ns : List ℕ). IsFirstGroupFault grid ns fault) read ((exact fault).0 is))),
      (λ first. (exact fault).1 (subst (λ (ns : List ℕ). IsFirstGroupFault grid ns fault) (sym read) (same.1 first))),
    )

-- one text more, and its group
pub groups_more : (grid : ShapeModel) (texts : List (List ℕ)) (groups : List GroupModel) (text : List ℕ) (g : GroupModel) → AreGroupsOf grid texts groups → IsGroupOf grid text g → AreGroupsOf grid (texts ++ text ∷ []) (groups ++ g ∷ [])
groups_more grid [] [] text g made more = (more, tt)
groups_more grid [] (h ∷ groups) text g made more = absurd made
groups_more grid (t ∷ texts) [] text g made more = absurd made
groups_more grid (t ∷ texts) (h ∷ groups) text g made more = (made.0, groups_more grid texts groups text g made.1 more)

-- all groups are of the grid
pub groups_fit : (grid : ShapeModel) (texts : List (List ℕ)) (groups : List GroupModel) → AreGroupsOf grid texts groups → (k : ℕ) (d : GroupModel) → k < length groups → (get_or groups k d).grid ≡ grid
groups_fit grid texts [] made k d within = absurd (omega (arith, within))
groups_fit grid [] (g ∷ groups) made k d within = absurd made
groups_fit grid (t ∷ texts) (g ∷ groups) made zero d within = made.0.sides
groups_fit grid (t ∷ texts) (g ∷ groups) made (suc k) d within = groups_fit grid texts groups made.1 k d (omega (arith, within))

-- ---- The goal that words say, and that these words have no fault.

-- a word spells one number
one_number : (word : List ℕ) (n m : ℕ) → SpellsDecimal word n → SpellsDecimal word m → m ≡ n
one_number word n m first second = sym second.value ∙ first.value

-- words spell one list of numbers
pub same_numbers : (words : List (List ℕ)) (ns ms : List ℕ) → SpellEach words ns → SpellEach words ms → ms ≡ ns
same_numbers [] [] [] first second = refl
same_numbers [] [] (m ∷ ms) first second = absurd second
same_numbers [] (n ∷ ns) ms first second = absurd first
same_numbers (word ∷ words) [] ms first second = absurd first
same_numbers (word ∷ words) (n ∷ ns) [] first second = absurd second
same_numbers (word ∷ words) (n ∷ ns) (m ∷ ms) first second = λ i. one_number word n m first.0 second.0 i ∷ same_numbers words ns ms first.1 second.1 i

as_many : (words : List (List ℕ)) (ns : List ℕ) → SpellEach words ns → length words ≡ length ns
as_many [] [] spelled = refl
as_many [] (n ∷ ns) spelled = absurd spelled
as_many (word ∷ words) [] spelled = absurd spelled
as_many (word ∷ words) (n ∷ ns) spelled = ap suc (as_many words ns spelled.1)

some_word : (word found : List ℕ) → Some word ≡ Some found → word ≡ found
some_word word found e = cc

-- the word at a place spells the number there
spelled_at : (words : List (List ℕ)) (ns : List ℕ) (place : ℕ) (word : List ℕ) → SpellEach words ns → slice_get words place ≡ Some word → SpellsDecimal word (get_or ns place 0)
spelled_at [] ns place word spelled at = absurd (omega (arith, slice_get_within [] place word at))
spelled_at (first ∷ words) [] place word spelled at = absurd spelled
spelled_at (first ∷ words) (n ∷ ns) zero word spelled at = subst (λ (w : List ℕ). SpellsDecimal w n) (some_word first word at) spelled.0
spelled_at (first ∷ words) (n ∷ ns) (suc place) word spelled at = spelled_at words ns place word spelled.1 at

pub one_goal : (grid : ShapeModel) (text : List ℕ) (goal goal' : BoardModel) → IsGoalOf grid text goal → IsGoalOf grid text goal' → goal' ≡ goal
one_goal grid text goal goal' said said' =
    let tiles : goal'.tiles ≡ goal.tiles = same_numbers (comma_words text) goal.tiles goal'.tiles said.spelled said'.spelled in
    let sides : goal'.grid ≡ goal.grid = said'.sides ∙ sym said.sides in
    λ i. record { grid = sides i; tiles = tiles i }

-- words that spell the tiles of a board have no fault
pub no_word_fault : (grid : ShapeModel) (words : List (List ℕ)) (b : BoardModel) → SpellEach words b.tiles → IsBoard b → b.grid ≡ grid → (fault : TilesFault) → ¬ IsFirstWordFault grid words fault
no_word_fault grid words b spells board sides = by_fault
  where
    many : length words ≡ length b.tiles
    many = as_many words b.tiles spells

    cells : cell_count b.grid ≡ cell_count grid
    cells = ap cell_count sides

    within : (place : ℕ) (word : List ℕ) → slice_get words place ≡ Some word → place < length b.tiles
    within place word at = let inside = slice_get_within words place word at in omega (arith, inside, many)

    by_fault : (fault : TilesFault) → ¬ IsFirstWordFault grid words fault
    by_fault WrongCount first = first (many ∙ board.one_each ∙ cells)
    by_fault (TileOutOfRange place) (word, before, at, high) =
        let low = board.in_range place 0 (within place word at) in
        let past = high (get_or b.tiles place 0) (spelled_at words b.tiles place word spells at) in
        omega (arith, low, past, cells)
    by_fault (TileRepeated place) (word, n, k, earlier, before, at, spelled, low, sooner, at_k, spelled_k) =
        let here : n ≡ get_or b.tiles place 0 = one_number word (get_or b.tiles place 0) n (spelled_at words b.tiles place word spells at) spelled in
        let there : n ≡ get_or b.tiles k 0 = one_number earlier (get_or b.tiles k 0) n (spelled_at words b.tiles k earlier spells at_k) spelled_k in
        board.different k place 0 sooner (within place word at) (sym there ∙ here)

pub no_goal_fault : (grid : ShapeModel) (text : List ℕ) (goal : BoardModel) (fault : TilesFault) → IsGoalOf grid text goal → IsFirstWordFault grid (comma_words text) fault → ⊥
no_goal_fault grid text goal fault said first = no_word_fault grid (comma_words text) goal said.spelled said.board said.sides fault first
