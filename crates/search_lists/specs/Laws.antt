-- The laws of lists that have more room.
use Rattle.std.specs.Prelude.{ℕ, ◌<◌, ◌⊎◌}
use Rattle.open_buckets.specs.OpenLists.{places_at, IsNextEntry}
use Rattle.search_lists.specs.Lists.{SearchListsModel, empty_lists, HasMoreRoom}
use Rattle.search_lists.specs.Orders.{Guide, IsInOrder}

-- lists that stay as they are have lost nothing
abbrev pub SameListsLoseNothing : Type 0
SameListsLoseNothing = (lists : SearchListsModel) → HasMoreRoom lists lists

-- where room is made twice, room is made
abbrev pub RoomIsMadeTwice : Type 0
RoomIsMadeTwice = (old between new : SearchListsModel) → HasMoreRoom old between → HasMoreRoom between new → HasMoreRoom old new

-- where a place is lost, for a new board or at some f, there is no more room
abbrev pub LostPlacesAreNoRoom : Type 0
LostPlacesAreNoRoom = (old new : SearchListsModel) (f : ℕ) → (new.closed.room < old.closed.room) ⊎ (places_at new.waiting f < places_at old.waiting f) → ¬ HasMoreRoom old new

-- what was in order is in order where there is more room
abbrev pub MoreRoomLeavesTheOrder : Type 0
MoreRoomLeavesTheOrder = (guide : Guide) (old new : SearchListsModel) → HasMoreRoom old new → IsInOrder guide old → IsInOrder guide new

-- lists that know no board are in order, whatever room they have
abbrev pub EmptyListsAreInOrder : Type 0
EmptyListsAreInOrder = (guide : Guide) (lists : SearchListsModel) → HasMoreRoom empty_lists lists → IsInOrder guide lists

-- more room leaves the next entry the next one
abbrev pub MoreRoomLeavesTheNext : Type 0
MoreRoomLeavesTheNext = (f : ℕ) (entry : ℕ × ℕ) (old new : SearchListsModel) → HasMoreRoom old new → IsNextEntry f entry old.waiting → IsNextEntry f entry new.waiting
