-- Texts that say the groups of a partition have no fault.
use Rattle.std.proofs.Common.{◌≡◌, ◌≢◌, ℕ, zero, suc, ◌+◌, ◌-◌, ◌*◌, ◌^◌, ◌<◌, ◌≤◌, Bool, true, false, cond, leb, List, [], ◌∷◌, ◌++◌, length, map, min, get_or, refl, sym, ap, subst, ◌∙◌, ⊎_elim, arith, ◌⊎◌, eqb, take, Some}
use Rattle.std.specs.Prelude.{All, IsPermutation, Contains, slice_get, codes}
use Rattle.memory.specs.declared.OutOfMemory.{OutOfMemory}
use Rattle.std.proofs.lemmas.Bool.{cases_lt, cases_eq, cases_order}
use Rattle.std.proofs.lemmas.Bool.Decides.{nat_tests, Decides-eqb}
use Rattle.std.proofs.lemmas.List.Sorted.{All-permutation, length_permutation, Contains-permutation, IsPermutation-sym}
use Rattle.std.proofs.lemmas.Map.Keys.{IsDistinct-IsPermutation}
use Rattle.std.proofs.lemmas.Map.Made.{IsDistinct-from_AllPairs, AllPairs-from_IsDistinct}
use Rattle.std.proofs.lemmas.Option.{same_Some, none-some}
use Rattle.board.specs.Shapes.{ShapeModel, IsShape, cell_count}
use Rattle.pattern_index.specs.Ranks.{ways}
use Rattle.pattern_index.specs.declared.group.TheConstants.{MAX_SIZE}
use Rattle.pattern_index.specs.Groups.{GroupModel, IsTile, AreGroupTiles, size_of}
use Rattle.pattern_index.specs.Partitions.{AreApart, PartitionModel, IsPartition}
use Rattle.pattern_index.specs.Faults.{IsFirstGroupFault}
use Rattle.pattern_index.specs.declared.faults.GroupFault.{GroupFault}
use Rattle.pattern_index.specs.declared.faults.PartitionFault.{PartitionFault}
use Rattle.pattern_index.specs.declared.faults.PartitionFault.TheVariants.{SharedTile, TooManyGroups}
use Rattle.pattern_index.proofs.FaultLemmas.{no_fault, one_fault, no_split_fault}
use Rattle.batch_lines.specs.declared.group_faults.GroupsFault.{GroupsFault}
use Rattle.batch_lines.specs.declared.group_faults.GroupsFault.TheVariants.{NoGroup, NoPartition, Memory}
use Rattle.batch_lines.specs.Texts.{group_texts, group_numbers, IsGroupOf, AreGroupsOf}
use Rattle.batch_lines.specs.GroupFaults.{IsFirstGroupsFault}
use Rattle.batch_lines.specs.OptionLaws.{IsMemoryRefusal, MemoryIsRefusedForGroups}
use Rattle.std.specs.List.{concat, range_with_len}
use Rattle.std.specs.List.Sorted.{IsStrictlyIncreasing}
use Rattle.std.specs.Int.{div_ceil}
use Rattle.std.proofs.lemmas.Grind.{same_number_lists, div_ceil_times}
use Rattle.std.proofs.lemmas.List.{get_or-map, length-map}
use Rattle.std.proofs.lemmas.List.FromFn.{length-range_with_len, get_or-range_with_len, get_or-map-range_with_len, length-map-range_with_len}
use Rattle.std.proofs.lemmas.Nat.{mul-le}
use Rattle.std.proofs.Math.Nat.{pow-le-pow_right}
use native.Mathlib.Numerals.{unary_clauses}
use Rattle.pattern_index.proofs.RankLemmas.{ways-suc}
use Rattle.batch_lines.specs.Defaults.{default_size, default_tiles, default_groups}

eqb_comm : (x y : ℕ) → eqb x y ≡ eqb y x
eqb_comm x y = grind (arith, nat_tests)

-- what is the tiles of a group in another order is a group
group_moved : (grid : ShapeModel) (numbers tiles : List ℕ) → IsPermutation numbers tiles → AreGroupTiles grid tiles → AreGroupTiles grid numbers
group_moved grid numbers tiles moved group =
    let back = IsPermutation-sym numbers tiles moved in
    record {
      tiles = All-permutation (IsTile grid) tiles numbers back group.tiles;
      different = AllPairs-from_IsDistinct Decides-eqb numbers (IsDistinct-IsPermutation eqb eqb_comm tiles numbers back (IsDistinct-from_AllPairs Decides-eqb tiles group.different));
    }

-- the group of a text at a place
group_at : (grid : ShapeModel) (texts : List (List ℕ)) (groups : List GroupModel) (place : ℕ) (text : List ℕ) → AreGroupsOf grid texts groups → slice_get texts place ≡ Some text → (g : GroupModel) × IsGroupOf grid text g
group_at grid [] [] place text made at = absurd (none-some text at)
group_at grid [] (g ∷ groups) place text made at = absurd made
group_at grid (t ∷ texts) [] place text made at = absurd made
group_at grid (t ∷ texts) (g ∷ groups) zero text made at = (g, subst (λ (bytes : List ℕ). IsGroupOf grid bytes g) (same_Some t text at) made.0)
group_at grid (t ∷ texts) (g ∷ groups) (suc place) text made at = group_at grid texts groups place text made.1 at

-- two lists of groups that the same texts say are as long, and their groups are of the same tiles
same_count : (grid : ShapeModel) (texts : List (List ℕ)) (ones others : List GroupModel) → AreGroupsOf grid texts ones → AreGroupsOf grid texts others → length ones ≡ length others
same_count grid [] [] [] one other = refl
same_count grid [] (g ∷ ones) others one other = absurd one
same_count grid [] [] (h ∷ others) one other = absurd other
same_count grid (t ∷ texts) [] others one other = absurd one
same_count grid (t ∷ texts) (g ∷ ones) [] one other = absurd other
same_count grid (t ∷ texts) (g ∷ ones) (h ∷ others) one other = ap suc (same_count grid texts ones others one.1 other.1)

same_tiles : (grid : ShapeModel) (texts : List (List ℕ)) (ones others : List GroupModel) → AreGroupsOf grid texts ones → AreGroupsOf grid texts others → (i : ℕ) (d : GroupModel) (tile : ℕ) → i < length others → Contains (get_or others i d).tiles tile → Contains (get_or ones i d).tiles tile
same_tiles grid [] ones [] one other i d tile within found = absurd (omega (arith, within))
same_tiles grid [] ones (h ∷ others) one other i d tile within found = absurd other
same_tiles grid (t ∷ texts) [] others one other i d tile within found = absurd one
same_tiles grid (t ∷ texts) (g ∷ ones) [] one other i d tile within found = absurd other
same_tiles grid (t ∷ texts) (g ∷ ones) (h ∷ others) one other zero d tile within found =
    Contains-permutation (group_numbers t) g.tiles tile one.0.tiles (Contains-permutation h.tiles (group_numbers t) tile (IsPermutation-sym (group_numbers t) h.tiles other.0.tiles) found)
same_tiles grid (t ∷ texts) (g ∷ ones) (h ∷ others) one other (suc i) d tile within found = same_tiles grid texts ones others one.1 other.1 i d tile (omega (arith, within)) found

-- a text that says a group has no fault
said_no_fault : (grid : ShapeModel) (text : List ℕ) (g : GroupModel) (fault : GroupFault) → IsGroupOf grid text g → IsFirstGroupFault grid (group_numbers text) fault → ⊥
said_no_fault grid text g fault said first =
    let numbers = group_numbers text in
    let long : length g.tiles ≡ length numbers = length_permutation numbers g.tiles said.tiles in
    let group : AreGroupTiles grid numbers = group_moved grid numbers g.tiles said.tiles (subst (λ (of : ShapeModel). AreGroupTiles of g.tiles) said.sides said.group.group) in
    let small : ways (cell_count grid) (suc (length numbers)) ≤ MAX_SIZE = subst (λ (n : ℕ). ways (cell_count grid) (suc n) ≤ MAX_SIZE) long (subst (λ (of : ShapeModel). ways (cell_count of) (suc (length g.tiles)) ≤ MAX_SIZE) said.sides said.group.small) in
    no_fault grid numbers (omega (arith, long, said.group.some)) group small fault first

-- memory is not refused where the first text is faulty
memory_first : (grid : ShapeModel) (text : List ℕ) (texts : List (List ℕ)) (fault : GroupFault) (refused : OutOfMemory) → IsFirstGroupFault grid (group_numbers text) fault → IsFirstGroupsFault grid (text ∷ texts) (Memory refused) → ⊥
memory_first grid text texts fault refused faulty (zero, here, before, group, at, said, is) = said_no_fault grid text group fault (subst (λ (bytes : List ℕ). IsGroupOf grid bytes group) (sym (same_Some text here at)) is) faulty
memory_first grid text texts fault refused faulty (suc place, here, before, group, at, said, is) =
    let first = group_at grid (take (suc place) (text ∷ texts)) before zero text said refl in
    said_no_fault grid text first.0 fault first.1 faulty

-- nor where there is no text
none_free : (grid : ShapeModel) (refused : OutOfMemory) → IsFirstGroupsFault grid (group_texts (codes "none")) (Memory refused) → ⊥
none_free grid refused (place, here, before, group, at, said, is) = none-some here at

pub for_groups : MemoryIsRefusedForGroups
for_groups = record { faults = memory_first; none = none_free }

-- groups that the texts say are apart where others that they say are
apart_alike : (grid : ShapeModel) (texts : List (List ℕ)) (ones others : List GroupModel) → AreGroupsOf grid texts ones → AreGroupsOf grid texts others → AreApart ones → AreApart others
apart_alike grid texts ones others one other apart i j d lt within tile first second =
    let count = same_count grid texts ones others one other in
    apart i j d lt (omega (arith, count, within)) tile (same_tiles grid texts ones others one other i d tile (omega (arith, lt, within)) first) (same_tiles grid texts ones others one other j d tile within second)

pub no_groups_fault : (split : PartitionModel) (texts : List (List ℕ)) (fault : GroupsFault) → IsPartition split → AreGroupsOf split.grid texts split.groups → IsFirstGroupsFault split.grid texts fault → IsMemoryRefusal fault
no_groups_fault split texts (Memory refused) is said first = tt
no_groups_fault split texts (NoGroup fault) is said first =
    let here = group_at split.grid texts split.groups first.0 first.1 said first.3 in
    absurd (said_no_fault split.grid first.1 here.0 fault here.1 first.5)
no_groups_fault split texts (NoPartition fault) is said first =
    let others : List GroupModel = first.0 in
    let count = same_count split.grid texts split.groups others said first.1 in
    absurd (no_split_fault others (omega (arith, count, is.few)) (apart_alike split.grid texts split.groups others said first.1 is.apart) fault first.2)

-- ---- one fault

-- a text before a place
text_before : (texts : List (List ℕ)) (p q : ℕ) (text : List ℕ) → p < q → slice_get texts p ≡ Some text → slice_get (take q texts) p ≡ Some text
text_before [] p q text lt at = absurd (none-some text at)
text_before (t ∷ texts) p zero text lt at = absurd (omega arith)
text_before (t ∷ texts) zero (suc q) text lt at = at
text_before (t ∷ texts) (suc p) (suc q) text lt at = text_before texts p q text (omega arith) at

-- no text before a fault is faulty
none_before : (grid : ShapeModel) (texts : List (List ℕ)) (p q : ℕ) (text : List ℕ) (before : List GroupModel) (fault : GroupFault) → p < q → slice_get texts p ≡ Some text → AreGroupsOf grid (take q texts) before → IsFirstGroupFault grid (group_numbers text) fault → ⊥
none_before grid texts p q text before fault lt at said first =
    let here = group_at grid (take q texts) before p text said (text_before texts p q text lt at) in
    said_no_fault grid text here.0 fault here.1 first

one_group_fault : (grid : ShapeModel) (texts : List (List ℕ)) (fault fault' : GroupFault) → IsFirstGroupsFault grid texts (NoGroup fault) → IsFirstGroupsFault grid texts (NoGroup fault') → fault' ≡ fault
one_group_fault grid texts fault fault' first second =
    ⊎_elim
    (λ (same : first.0 ≡ second.0).
    let text : second.1 ≡ first.1 = same_Some second.1 first.1 (sym second.3 ∙ ap (slice_get texts) (sym same) ∙ first.3) in
    one_fault grid (group_numbers first.1) fault fault' first.5 (subst (λ (bytes : List ℕ). IsFirstGroupFault grid (group_numbers bytes) fault') text second.5))
    (λ (apart : (first.0 < second.0) ⊎ (second.0 < first.0)).
    ⊎_elim (λ (lt : first.0 < second.0). absurd (none_before grid texts first.0 second.0 first.1 second.2 fault lt first.3 second.4 first.5))
    (λ (lt : second.0 < first.0). absurd (none_before grid texts second.0 first.0 second.1 first.2 fault' lt second.3 first.4 second.5)) apart)
    (cases_order first.0 second.0)

one_or_other : (grid : ShapeModel) (texts : List (List ℕ)) (fault : GroupFault) (fault' : PartitionFault) → IsFirstGroupsFault grid texts (NoGroup fault) → IsFirstGroupsFault grid texts (NoPartition fault') → ⊥
one_or_other grid texts fault fault' first second =
    let here = group_at grid texts second.0 first.0 first.1 second.1 first.3 in
    said_no_fault grid first.1 here.0 fault here.1 first.5

one_partition_fault : (grid : ShapeModel) (texts : List (List ℕ)) (fault fault' : PartitionFault) → IsFirstGroupsFault grid texts (NoPartition fault) → IsFirstGroupsFault grid texts (NoPartition fault') → fault' ≡ fault
one_partition_fault grid texts TooManyGroups TooManyGroups first second = refl
one_partition_fault grid texts SharedTile SharedTile first second = refl
one_partition_fault grid texts TooManyGroups SharedTile first second = let count = same_count grid texts first.0 second.0 first.1 second.1 in absurd (omega (arith, count, first.2, second.2.0))
one_partition_fault grid texts SharedTile TooManyGroups first second = let count = same_count grid texts first.0 second.0 first.1 second.1 in absurd (omega (arith, count, second.2, first.2.0))

pub one_groups_fault : (grid : ShapeModel) (texts : List (List ℕ)) (fault fault' : GroupsFault) → ¬ IsMemoryRefusal fault → ¬ IsMemoryRefusal fault' → IsFirstGroupsFault grid texts fault → IsFirstGroupsFault grid texts fault' → fault' ≡ fault
one_groups_fault grid texts (Memory refused) fault' given given' first second = absurd (given tt)
one_groups_fault grid texts (NoGroup fault) (Memory refused) given given' first second = absurd (given' tt)
one_groups_fault grid texts (NoPartition fault) (Memory refused) given given' first second = absurd (given' tt)
one_groups_fault grid texts (NoGroup fault) (NoGroup fault') given given' first second = ap NoGroup (one_group_fault grid texts fault fault' first second)
one_groups_fault grid texts (NoGroup fault) (NoPartition fault') given given' first second = absurd (one_or_other grid texts fault fault' first second)
one_groups_fault grid texts (NoPartition fault) (NoGroup fault') given given' first second = absurd (one_or_other grid texts fault' fault second first)
one_groups_fault grid texts (NoPartition fault) (NoPartition fault') given given' first second = ap NoPartition (one_partition_fault grid texts fault fault' first second)

-- ---- Tiles in rising order make groups that share no tile.

range_suc_more : (a n : ℕ) → range_with_len a (suc n) ≡ range_with_len a n ++ (a + n) ∷ []
range_suc_more a zero = let same : a ≡ a + 0 = omega arith in ap (λ (k : ℕ). k ∷ []) same
range_suc_more a (suc n) =
    let same : a + 1 + n ≡ a + suc n = omega arith in
    ap (λ (ks : List ℕ). a ∷ ks) (range_suc_more (a + 1) n ∙ ap (λ (k : ℕ). range_with_len (a + 1) n ++ k ∷ []) same)

-- one number more
pub range_one_more : (a n : ℕ) → range_with_len a (n + 1) ≡ range_with_len a n ++ (a + n) ∷ []
range_one_more a n =
    let next : n + 1 ≡ suc n = omega arith in
    ap (range_with_len a) next ∙ range_suc_more a n

-- ---- one group

sizes_low : (a b c : Bool) → cond a 2 (cond b 4 (cond c 5 4)) ≤ 5
sizes_low true b c = omega arith
sizes_low false true c = omega arith
sizes_low false false true = omega arith
sizes_low false false false = omega arith

-- a group has 5 tiles at most
pub size_low : (cells : ℕ) → default_size cells ≤ 5
size_low cells = sizes_low (leb cells 6) (leb cells 10) (leb cells 16)

sizes_lower : (a b c : Bool) → c ≡ false → cond a 2 (cond b 4 (cond c 5 4)) ≤ 4
sizes_lower true b c e = omega arith
sizes_lower false true c e = omega arith
sizes_lower false false c e = let is = ap (λ (t : Bool). cond {A = ℕ} t 5 4) e in omega arith

-- and 4 at most where there are more than 16 cells
size_lower : (cells : ℕ) → 16 < cells → default_size cells ≤ 4
size_lower cells many = sizes_lower (leb cells 6) (leb cells 10) (leb cells 16) (grind (arith, nat_tests))

-- ways are no more than a power
ways_low : (n r k : ℕ) → r ≤ n → n ≤ k → ways n r ≤ k ^ r
unfolding ways
ways_low n zero k le low = let one : k ^ 0 ≡ 1 = simp unary_clauses refl in omega (arith, one)
ways_low zero (suc r) k le low = absurd (omega arith)
ways_low (suc n) (suc r) k le low =
    let rest = ways_low n r k (omega arith) (omega arith) in
    let w = ways-suc n r in
    let m : suc n * ways n r ≤ k * k ^ r = mul-le (suc n) (ways n r) k (k ^ r) low rest in
    let power : k ^ suc r ≡ k ^ r * k = simp unary_clauses refl in
    omega arith

few_views : (cells count : ℕ) → suc count ≤ cells → cells ≤ 25 → count ≤ default_size cells → ways cells (suc count) ≤ MAX_SIZE
few_views cells count room high few =
    ⊎_elim
    (λ (many : 16 < cells).
    let low = size_lower cells many in
    let a = ways_low cells (suc count) 25 room high in
    let b : 25 ^ suc count ≤ 25 ^ 5 = pow-le-pow_right (omega arith) {i = suc count} {j = 5} (omega (arith, low, few)) in
    omega arith)
    (λ (some : cells ≤ 16).
    let low = size_low cells in
    let a = ways_low cells (suc count) 16 room some in
    let b : 16 ^ suc count ≤ 16 ^ 6 = pow-le-pow_right (omega arith) {i = suc count} {j = 6} (omega (arith, low, few)) in
    omega arith)
    (cases_lt 16 cells)

-- some tiles in rising order make a group
pub rising_is_group : (grid : ShapeModel) (numbers : List ℕ) (a n : ℕ) → numbers ≡ range_with_len a n → 0 < a → 0 < n → a + n ≤ cell_count grid → cell_count grid ≤ 25 → n ≤ default_size (cell_count grid) → (0 < length numbers) × AreGroupTiles grid numbers × (size_of (record { grid = grid; tiles = numbers }) ≤ MAX_SIZE)
rising_is_group grid numbers a n is first some room high few =
    let count : length numbers ≡ n = ap length is ∙ length-range_with_len a n in
    let same : suc (length numbers) ≡ suc n = ap suc count in (
      omega arith,
      record {
        tiles = λ k d within. subst (IsTile grid) (sym (at k d within)) (omega arith, omega arith);
        different = λ i j d lt within e. let here = at i d (omega arith) in let there = at j d within in omega arith;
      },
      subst (λ (r : ℕ). ways (cell_count grid) r ≤ MAX_SIZE) (sym same) (few_views (cell_count grid) n (omega arith) high few),
    )
  where
    at : (k d : ℕ) → k < length numbers → get_or numbers k d ≡ a + k
    at k d within = ap (λ (ns : List ℕ). get_or ns k d) is ∙ get_or-range_with_len a n k d (omega (arith, within, ap length is, length-range_with_len a n))

module _ (a n : ℕ) (tiles : List ℕ) (moved : IsPermutation (range_with_len a n) tiles) (rising : IsStrictlyIncreasing tiles) where
  count_is : length tiles ≡ n
  count_is = length_permutation (range_with_len a n) tiles moved ∙ length-range_with_len a n

  between : All (λ x. (a ≤ x) × (x < a + n)) tiles
  between =
      All-permutation (λ x. (a ≤ x) × (x < a + n)) (range_with_len a n) tiles moved
      (λ k d within. let low : k < n = omega (arith, within, length-range_with_len a n) in let is = get_or-range_with_len a n k d low in (omega (arith, is), omega (arith, is, low)))

  low_at : (k : ℕ) → k < n → a + k ≤ get_or tiles k 0
  low_at zero within = let is = (between 0 0 (omega (arith, within, count_is))).0 in omega arith
  low_at (suc k) within =
      let rest = low_at k (omega arith) in
      let next : k + 1 ≡ suc k = omega arith in
      let more : get_or tiles k 0 < get_or tiles (suc k) 0 = subst (λ (m : ℕ). get_or tiles k 0 < get_or tiles m 0) next (rising k (omega (arith, within, count_is))) in
      omega arith

  high_at : (j k : ℕ) → suc (j + k) ≡ n → get_or tiles k 0 ≤ a + k
  high_at zero k e = let is = (between k 0 (omega (arith, e, count_is))).1 in omega (arith, e)
  high_at (suc j) k e =
      let rest = high_at j (suc k) (omega (arith, e)) in
      let next : k + 1 ≡ suc k = omega arith in
      let more : get_or tiles k 0 < get_or tiles (suc k) 0 = subst (λ (m : ℕ). get_or tiles k 0 < get_or tiles m 0) next (rising k (omega (arith, e, count_is))) in
      omega arith

  -- and these in rising order are themselves
  pub rising_is : tiles ≡ range_with_len a n
  rising_is =
      same_number_lists tiles (range_with_len a n) (count_is ∙ sym (length-range_with_len a n))
      (λ k within.
      let inside : k < n = omega (arith, within, count_is) in
      let low = low_at k inside in
      let high = high_at (n - suc k) k (omega (arith, inside)) in
      let is = get_or-range_with_len a n k 0 inside in
      omega arith)

-- ---- all groups

-- there are no more groups than tiles
pub groups_few : (tiles size : ℕ) → 0 < size → tiles ≤ 24 → div_ceil tiles size ≤ 24
groups_few tiles size some few =
    ⊎_elim (λ (low : div_ceil tiles size < 25). omega arith)
    (λ (many : 25 ≤ div_ceil tiles size).
    let room = (div_ceil_times tiles size some).1 in
    let all : 25 * size ≤ div_ceil tiles size * size = mul-le 25 size (div_ceil tiles size) size many (omega arith) in
    absurd (omega arith))
    (cases_lt (div_ceil tiles size) 25)

module _ (groups : List GroupModel) (cells size count : ℕ) (is : map (λ (g : GroupModel). g.tiles) groups ≡ map (default_tiles cells size) (range_with_len 0 count)) where
  pub groups_count : length groups ≡ count
  groups_count = sym (length-map groups (λ (g : GroupModel). g.tiles)) ∙ ap length is ∙ length-map-range_with_len (default_tiles cells size) 0 count

  tiles_at : (i : ℕ) (d : GroupModel) → i < length groups → (get_or groups i d).tiles ≡ default_tiles cells size i
  tiles_at i d within =
      sym (get_or-map (λ (g : GroupModel). g.tiles) groups i d d.tiles within) ∙ ap (λ (ls : List (List ℕ)). get_or ls i d.tiles) is
      ∙ get_or-map-range_with_len (default_tiles cells size) 0 count i i d.tiles (omega (arith, within, groups_count)) (omega arith)

  -- a tile of a group is not before its first, and not past its last
  tile_within : (i tile : ℕ) → Contains (default_tiles cells size i) tile → (1 + i * size ≤ tile) × (tile < 1 + i * size + size)
  tile_within i tile found =
      let first = 1 + i * size in
      let long = length-range_with_len first (min size (cells - first)) in
      let low : found.0 < min size (cells - first) = omega (arith, found.1, long) in
      let at = get_or-range_with_len first (min size (cells - first)) found.0 tile low in
      let here : first + found.0 ≡ tile = sym at ∙ found.2 in
      let lower : found.0 < size = omega (arith, low) in
      (omega (arith, here), omega (arith, here, lower))

  -- no two share a tile
  pub defaults_apart : AreApart groups
  defaults_apart i j d lt within tile one two =
      let first = tile_within i tile (subst (λ (ts : List ℕ). Contains ts tile) (tiles_at i d (omega (arith, lt, within))) one) in
      let second = tile_within j tile (subst (λ (ts : List ℕ). Contains ts tile) (tiles_at j d within) two) in
      let next : suc i * size ≤ j * size = mul-le (suc i) size j size (omega (arith, lt)) (omega arith) in
      omega (arith, first.1, second.0)

-- ---- each tile

abbrev HasEachTile : ℕ → ℕ → Type 0
HasEachTile rows cols = concat (default_groups (record { rows = rows; cols = cols })) ≡ range_with_len 1 (rows * cols - 1)

-- what holds of each side holds of all that a puzzle may have
each_side : (P : ℕ → Type 0) → P 2 → P 3 → P 4 → P 5 → (side : ℕ) → 2 ≤ side → side ≤ 5 → P side
each_side P two three four five side low high =
    ⊎_elim (λ (e : side ≡ 2). subst P (sym e) two)
    (λ (n2 : side ≢ 2).
    ⊎_elim (λ (e : side ≡ 3). subst P (sym e) three)
    (λ (n3 : side ≢ 3).
    ⊎_elim (λ (e : side ≡ 4). subst P (sym e) four) (λ (n4 : side ≢ 4). let e : side ≡ 5 = grind (arith, nat_tests) in subst P (sym e) five) (cases_eq side 4))
    (cases_eq side 3))
    (cases_eq side 2)

-- each tile is in the groups, shape by shape
pub each_tile : (grid : ShapeModel) → IsShape grid → concat (default_groups grid) ≡ range_with_len 1 (cell_count grid - 1)
each_tile grid sides =
    each_side (λ rows. HasEachTile rows grid.cols) (of_rows 2 refl refl refl refl) (of_rows 3 refl refl refl refl) (of_rows 4 refl refl refl refl) (of_rows 5 refl refl refl refl) grid.rows sides.rows_low sides.rows_high
  where
    of_rows : (rows : ℕ) → HasEachTile rows 2 → HasEachTile rows 3 → HasEachTile rows 4 → HasEachTile rows 5 → HasEachTile rows grid.cols
    of_rows rows two three four five = each_side (HasEachTile rows) two three four five grid.cols sides.cols_low sides.cols_high
