-- How views and groups lie in memory: their numbers, and zeros behind them.
use Rattle.std.specs.Prelude.{◌≡◌, ℕ, zero, suc, ◌<◌, ◌≤◌, List, [], ◌∷◌, length, take, drop, slice_index}
use Rattle.std.proofs.Common.{refl, sym, ap, ◌∙◌, arith}
use Rattle.std.proofs.lemmas.List.{length-take-le}
use Rattle.board.specs.Padding.{array_of, IsPadded, array_of-take}
use Rattle.pattern_index.specs.Views.{ViewModel}
use Rattle.pattern_index.specs.Groups.{GroupModel, IsGroup, size_of}
use Rattle.pattern_index.specs.declared.view.View.TheInside as view
use Rattle.pattern_index.specs.declared.group.Group.TheInside as group

-- the first `count` of the `most` numbers of the array are used, and those behind them are 0
pub record IsFilled (most count : ℕ) (array : List ℕ) : Type 0 where
  pub few : count ≤ most
  pub all : length array ≡ most
  pub unused : IsPadded most count array

-- as many are read as are used
pub length_used : (most count : ℕ) (array : List ℕ) → IsFilled most count array → length (take count array) ≡ count
length_used most count array filled = let few = filled.few in let all = filled.all in length-take-le count array (omega arith)

-- ---- views

-- what readers see of a view's memory, where the blank's cell is first
abbrev pub sight_in : view.Inside → ViewModel
sight_in inside = record { blank = slice_index inside.places 0; cells = drop 1 (take inside.count inside.places) }

-- the memory of a view
abbrev pub view_storage : ViewModel → view.Inside
view_storage v = record { count = suc (length v.cells); places = array_of 10 (v.blank ∷ v.cells) }

-- the memory holds the blank's cell at least
pub record IsStoredView (inside : view.Inside) : Type 0 where
  pub some : 0 < inside.count
  pub places : IsFilled 10 inside.count inside.places

take_first : (count : ℕ) (places : List ℕ) → 0 < count → count ≤ length places → slice_index places 0 ∷ drop 1 (take count places) ≡ take count places
take_first count [] some le = absurd (omega arith)
take_first zero (x ∷ xs) some le = absurd (omega arith)
take_first (suc count) (x ∷ xs) some le = refl

pub view_storage-sight_in : (inside : view.Inside) → IsStoredView inside → view_storage (sight_in inside) ≡ inside
view_storage-sight_in inside stored =
    let all = stored.places.all in
    let few = stored.places.few in
    let used : length (take inside.count inside.places) ≡ inside.count = length_used 10 inside.count inside.places stored.places in
    let first : slice_index inside.places 0 ∷ drop 1 (take inside.count inside.places) ≡ take inside.count inside.places = take_first inside.count inside.places stored.some (omega arith) in
    let back : array_of 10 (take inside.count inside.places) ≡ inside.places = array_of-take 10 inside.count inside.places used stored.places.unused in
    λ i. record { count = (ap length first ∙ used) i; places = (ap (array_of 10) first ∙ back) i }

-- ---- groups

-- what readers see of a group's memory
abbrev pub selection_in : group.Inside → GroupModel
selection_in inside = record { grid = inside.shape; tiles = take inside.count inside.tiles }

-- the memory of a group
abbrev pub group_storage : GroupModel → group.Inside
group_storage g = record { shape = g.grid; count = length g.tiles; tiles = array_of 9 g.tiles; size = size_of g }

-- the memory holds a group and its size
pub record IsStoredGroup (inside : group.Inside) : Type 0 where
  pub selection : IsGroup (selection_in inside)
  pub tiles : IsFilled 9 inside.count inside.tiles
  pub size : inside.size ≡ size_of (selection_in inside)

pub group_storage-selection_in : (inside : group.Inside) → IsStoredGroup inside → group_storage (selection_in inside) ≡ inside
group_storage-selection_in inside stored =
    let used : length (take inside.count inside.tiles) ≡ inside.count = length_used 9 inside.count inside.tiles stored.tiles in
    let tiles : array_of 9 (take inside.count inside.tiles) ≡ inside.tiles = array_of-take 9 inside.count inside.tiles used stored.tiles.unused in
    λ i. record { shape = inside.shape; count = used i; tiles = tiles i; size = sym stored.size i }
