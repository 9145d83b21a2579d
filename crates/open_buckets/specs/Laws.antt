-- The laws of open lists.
use Rattle.std.specs.Prelude.{ℕ, ◌≡◌, ◌≤◌, ◌+◌, length, Option, Some, slice_get, Contains, IsPermutation}
use Rattle.open_buckets.specs.OpenLists.{OpenModel, entries_at, places_at, PutsEntry, Sorts, BringsLast, TakesEntry, IsLastAt, IsNextEntry, IsLeastF}

-- the entry that is taken is the next one
abbrev pub TheNextIsTaken : Type 0 → Type 0
TheNextIsTaken K = (f g : ℕ) (next entry : K × ℕ) (old new : OpenModel K) → IsNextEntry f next old → TakesEntry g entry old new → (f ≡ g) × (next ≡ entry)

-- what is taken where something was put is what was put there; then the entries are as before, and no place is lost
abbrev pub TheLastPutIsTaken : Type 0 → Type 0
TheLastPutIsTaken K = (f : ℕ) (put taken : K × ℕ) (old between new : OpenModel K) → PutsEntry f put old between → TakesEntry f taken between new → (taken ≡ put) × ((h : ℕ) → (entries_at new h ≡ entries_at old h) × (places_at old h ≤ places_at new h))

-- where the entries at an f were put in order, the next one is one of them
abbrev pub TheNextWasThere : Type 0 → Type 0
TheNextWasThere K = (f : ℕ) (next : K × ℕ) (old new : OpenModel K) → Sorts f old new → IsNextEntry f next new → Contains (entries_at old f) next

-- and none of them costs more
abbrev pub NoneCostsMore : Type 0 → Type 0
NoneCostsMore K = (f : ℕ) (next other : K × ℕ) (old new : OpenModel K) → Sorts f old new → IsNextEntry f next new → Contains (entries_at old f) other → other.1 ≤ next.1

-- after an entry was made the last one at f, the last one there is that entry
abbrev pub TheBroughtIsLast : Type 0 → Type 0
TheBroughtIsLast K = (f before : ℕ) (brought last : K × ℕ) (old new : OpenModel K) → BringsLast f before old new → slice_get (entries_at old f) before ≡ Some brought → IsLastAt f last new → last ≡ brought

-- and at each f the same entries wait, in some order, with as many places
abbrev pub NoneIsLost : Type 0 → Type 0
NoneIsLost K = (f before : ℕ) (old new : OpenModel K) → BringsLast f before old new → (h : ℕ) → IsPermutation (entries_at old h) (entries_at new h) × (places_at new h ≡ places_at old h)

-- where there are no more entries at f, nothing changes
abbrev pub NoneIsBrought : Type 0 → Type 0
NoneIsBrought K = (f before : ℕ) (old new : OpenModel K) → BringsLast f before old new → length (entries_at old f) ≤ before → new ≡ old

-- the least f is that of the next entry; so where there is none, no entry is next
abbrev pub TheNextHasTheLeastF : Type 0 → Type 0
TheNextHasTheLeastF K = (f : ℕ) (next : K × ℕ) (list : OpenModel K) (least : Option ℕ) → IsLeastF list least → IsNextEntry f next list → least ≡ Some f

-- where the entries at an f were put in order, none costs more than one behind it
abbrev pub AllAreInOrder : Type 0 → Type 0
AllAreInOrder K = (f i j : ℕ) (one other : K × ℕ) (old new : OpenModel K) → Sorts f old new → i ≤ j → slice_get (entries_at new f) i ≡ Some one → slice_get (entries_at new f) j ≡ Some other → one.1 ≤ other.1

-- the same entries wait at each f, in some order, with as many places
abbrev pub NoneIsLostInOrder : Type 0 → Type 0
NoneIsLostInOrder K = (f : ℕ) (old new : OpenModel K) → Sorts f old new → (h : ℕ) → IsPermutation (entries_at old h) (entries_at new h) × (places_at new h ≡ places_at old h)

-- an entry that is taken gives one place back
abbrev pub OnePlaceIsGivenBack : Type 0 → Type 0
OnePlaceIsGivenBack K = (f : ℕ) (taken : K × ℕ) (old new : OpenModel K) → TakesEntry f taken old new → places_at new f ≡ places_at old f + 1
