-- What contracts see of the two lists of a search: the known boards, and what waits to be expanded, which are places of known boards.
use Rattle.std.specs.Prelude.{ℕ, ◌≡◌, ◌<◌, ◌≤◌, List, length, Contains, IsPermutation, refl}
use Rattle.std.specs.Coded.{Coded, code_by, coded×, coded_ℕ, coded_list}
use Rattle.closed_table.specs.Tables.{ClosedModel, empty_table, closed_code}
use Rattle.open_buckets.specs.OpenLists.{OpenModel, empty_list, entries_at, places_at}

-- The closed list has all known boards, the open ones too; what waits is the place of a known board, with the cost that it had when
-- it was put there.
pub record SearchListsModel : Type 0 where
  pub closed : ClosedModel
  pub waiting : OpenModel ℕ

-- no board is known
abbrev pub empty_lists : SearchListsModel
empty_lists = record { closed = empty_table; waiting = empty_list }

-- the two together
abbrev pub both : ClosedModel → OpenModel ℕ → SearchListsModel
both closed waiting = record { closed = closed; waiting = waiting }

-- what waits is known
abbrev pub AreKnown : SearchListsModel → Type 0
AreKnown lists = (f place cost : ℕ) → Contains (entries_at lists.waiting f) (place, cost) → place < length lists.closed.keys

-- nothing has changed, except that there may be more places
pub record HasMoreRoom (old new : SearchListsModel) : Type 0 where
  pub keys : new.closed.keys ≡ old.closed.keys
  pub known : new.closed.known ≡ old.closed.known
  pub room : old.closed.room ≤ new.closed.room
  pub entries : (h : ℕ) → entries_at new.waiting h ≡ entries_at old.waiting h
  pub places : (h : ℕ) → places_at old.waiting h ≤ places_at new.waiting h

-- the same entries wait at each f, in some order, with as many places
pub record HasEntriesOf (old new : OpenModel ℕ) : Type 0 where
  pub entries : (h : ℕ) → IsPermutation (entries_at old h) (entries_at new h)
  pub places : (h : ℕ) → places_at new h ≡ places_at old h

-- lists as numbers, by which a proof tells them apart
abbrev pub lists_code : Coded SearchListsModel
lists_code = code_by (ClosedModel × (List (List (ℕ × ℕ)) × List ℕ)) (coded× closed_code (coded× (coded_list (coded_list (coded× coded_ℕ coded_ℕ))) (coded_list coded_ℕ))) (λ s. (s.closed, (s.waiting.entries, s.waiting.places))) (λ p. record { closed = p.0; waiting = record { entries = p.1.0; places = p.1.1 } }) (λ _. refl)
