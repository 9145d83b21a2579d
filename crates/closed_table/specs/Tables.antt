-- What contracts see of known boards: their keys in order of arrival, what is known of each, and for how many more there is a place.
use Rattle.std.specs.Prelude.{ℕ, ◌-◌, ◌↔◌, nat_eq, if◌then◌else◌, true, List, [], ◌∷◌, ◌++◌, Option, None, Some, IsSome, Contains, refl}
use Rattle.std.specs.List.{IsDistinct}
use Rattle.std.specs.FinMap as map
use Rattle.std.specs.Coded.{Coded, code_by, coded×, coded_ℕ, coded_list}
use Rattle.board.specs.declared.moves.Move.{Move}
use Rattle.world_model.specs.declared.parts.Known.{Known}
use Rattle.world_model.specs.Knowledge.{Knowledge, is_news, relaxation_at}
use Rattle.world_model.specs.Codes.{knowledge_code}
use Rattle.closed_table.specs.declared.table.Relaxed.{Relaxed}
use Rattle.closed_table.specs.declared.table.Relaxed.TheVariants.{New, Lower, Kept}

-- Keys in order of arrival, what is known of their boards, and for how many new keys there is a place.
pub record ClosedModel : Type 0 where
  pub keys : List ℕ
  pub known : Knowledge
  pub room : ℕ

-- no board is known
abbrev pub empty_table : ClosedModel
empty_table = record { keys = []; known = map.empty; room = 0 }

-- the keys are those at which something is known, each once
pub record IsTable (t : ClosedModel) : Type 0 where
  pub each : (key : ℕ) → Contains t.keys key ↔ IsSome (map.get t.known key)
  pub once : IsDistinct nat_eq t.keys

-- the answer for a board that is met at a cost, where this is known of it
abbrev pub relaxation_answer : Option Known → ℕ → Relaxed
relaxation_answer None cost = New
relaxation_answer (Some known) cost = if is_news (Some known) cost then Lower else Kept

-- the keys, after one that is new or known
abbrev pub arrivals : Option Known → List ℕ → ℕ → List ℕ
arrivals None keys key = keys ++ key ∷ []
arrivals (Some known) keys key = keys

-- the places that are left, after a key that is new or known
abbrev pub room_after : Option Known → ℕ → ℕ
room_after None room = room - 1
room_after (Some known) room = room

-- the board with this key is relaxed; a new one takes a place
abbrev pub table_relaxation : ClosedModel → ℕ → ℕ → Move → ClosedModel
table_relaxation t key cost via = record { keys = arrivals (map.get t.known key) t.keys key; known = relaxation_at t.known key cost via; room = room_after (map.get t.known key) t.room }

-- a board that is known so is closed
abbrev pub table_closure : ClosedModel → ℕ → Option Known → ClosedModel
table_closure t key None = t
table_closure t key (Some known) = record t { known = map.insert t.known key (record known { expanded = true }) }

-- tables as numbers, by which a proof tells them apart
abbrev pub closed_code : Coded ClosedModel
closed_code = code_by (List ℕ × (Knowledge × ℕ)) (coded× (coded_list coded_ℕ) (coded× knowledge_code coded_ℕ)) (λ t. (t.keys, (t.known, t.room))) (λ p. record { keys = p.0; known = p.1.0; room = p.1.1 }) (λ _. refl)
