-- How many of the offers go to each worker.
use Rattle.std.specs.Prelude.{ℕ, ◌+◌, ◌<◌, ◌≤◌, ◌==◌, if◌then◌else◌, List, [], length, slice_index_or, Option, Some, None}
use Rattle.world_model.specs.declared.limits.TheConstants.{PACKET_LIMIT}
use Rattle.world_model.specs.Workers.{Packet}
use Rattle.owners.specs.declared.offer.Offer.{Offer}
use Rattle.owners.specs.Offers.{Offers}

-- how many items of what one move offers go from worker `me` to another, `to`: one or none
abbrev pub goes : ℕ → ℕ → Option Offer → ℕ
goes me to None = 0
goes me to (Some offer) = if offer.owner == me then 0 else if offer.owner == to then 1 else 0

-- the same of all four
abbrev pub go : ℕ → ℕ → Offers → ℕ
go me to offers = goes me to offers.up + goes me to offers.left + goes me to offers.right + goes me to offers.down

-- no packet gets more items than it may have
abbrev pub HasRoom : ℕ → List Packet → Offers → Type 0
HasRoom me unsent offers = (to : ℕ) → to < length unsent → length (slice_index_or unsent to []) + go me to offers ≤ PACKET_LIMIT
