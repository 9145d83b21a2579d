-- What contracts see of an open list: for each f its entries, and how many more have a place. An entry is a key and a cost; its f is the
-- cost of a board plus its sum.
use Rattle.std.specs.Prelude.{ℕ, ◌≡◌, ◌≢◌, ◌<◌, ◌≤◌, ◌+◌, ◌-◌, List, swap, length, [], ◌∷◌, ◌++◌, Option, None, Some, slice_index, slice_get, slice_index_or, IsPermutation}
use Rattle.std.specs.List.Sorted.{IsNonDecreasingBy}

-- Entries and places, both by f.
pub record OpenModel (K : Type 0) : Type 0 where
  pub entries : List (List (K × ℕ))
  pub places : List ℕ

-- no entry, and no place for one
abbrev pub empty_list : {K : Type 0} → OpenModel K
empty_list = record { entries = []; places = [] }

-- the entries at f: the last is taken first, and one that was put there twice is there twice
abbrev pub entries_at : {K : Type 0} → OpenModel K → ℕ → List (K × ℕ)
entries_at list f = slice_index_or list.entries f []

-- for how many more entries there is a place at f
abbrev pub places_at : {K : Type 0} → OpenModel K → ℕ → ℕ
places_at list f = slice_index list.places f

-- no entry is below f
abbrev pub NothingWaits : {K : Type 0} → OpenModel K → ℕ → Type 0
NothingWaits list f = (h : ℕ) → h < f → entries_at list h ≡ []

-- all but f is as it was
abbrev pub OthersStay : {K : Type 0} → ℕ → OpenModel K → OpenModel K → Type 0
OthersStay f old new = (h : ℕ) → h ≢ f → (entries_at new h ≡ entries_at old h) × (places_at new h ≡ places_at old h)

-- the last entry at f, which is taken there first
abbrev pub IsLastAt : {K : Type 0} → ℕ → K × ℕ → OpenModel K → Type 0
IsLastAt {K} f entry list = (rest : List (K × ℕ)) × (entries_at list f ≡ rest ++ entry ∷ [])

-- an entry is added at f, and takes one place at most
pub record PutsEntry {K : Type 0} (f : ℕ) (entry : K × ℕ) (old new : OpenModel K) : Type 0 where
  pub here : entries_at new f ≡ entries_at old f ++ entry ∷ []
  pub places : places_at old f ≤ places_at new f + 1
  pub others : OthersStay f old new

-- the entries at f are put in order of their costs
pub record Sorts {K : Type 0} (f : ℕ) (old new : OpenModel K) : Type 0 where
  pub moved : IsPermutation (entries_at old f) (entries_at new f)
  pub sorted : IsNonDecreasingBy (λ (entry : K × ℕ). entry.1) (entries_at new f)
  pub places : places_at new f ≡ places_at old f
  pub others : OthersStay f old new

-- the entry at f with this many before it is made the last one there, by an exchange of the two; where there is none, nothing moves
pub record BringsLast {K : Type 0} (f before : ℕ) (old new : OpenModel K) : Type 0 where
  pub exchanged : IsPermutation (entries_at old f) (entries_at new f)
  pub swapped : before < length (entries_at old f) → entries_at new f ≡ swap (entries_at old f) before (length (entries_at old f) - 1)
  pub last : (entry : K × ℕ) → slice_get (entries_at old f) before ≡ Some entry → IsLastAt f entry new
  pub none : length (entries_at old f) ≤ before → new ≡ old
  pub places : places_at new f ≡ places_at old f
  pub others : OthersStay f old new

-- an entry is taken out at f, which is the least f of all, and gives its place back
pub record TakesEntry {K : Type 0} (f : ℕ) (entry : K × ℕ) (old new : OpenModel K) : Type 0 where
  pub here : entries_at old f ≡ entries_at new f ++ entry ∷ []
  pub least : NothingWaits old f
  pub places : places_at new f ≡ places_at old f + 1
  pub others : OthersStay f old new

-- the entry that is taken next: the last one at f, which is the least f of all
pub record IsNextEntry {K : Type 0} (f : ℕ) (entry : K × ℕ) (list : OpenModel K) : Type 0 where
  pub last : IsLastAt f entry list
  pub least : NothingWaits list f

-- the least f of all entries; none where nothing waits
abbrev pub IsLeastF : {K : Type 0} → OpenModel K → Option ℕ → Type 0
IsLeastF list None = (h : ℕ) → entries_at list h ≡ []
IsLeastF list (Some f) = (entries_at list f ≢ []) × NothingWaits list f
