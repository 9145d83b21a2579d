-- What is left in the rings of a run, as the lanes of a world.
use Rattle.std.specs.Prelude.{ℕ, ◌≡◌, ◌≢◌, ◌≤◌, ◌++◌, List, [], Vec, length, map, Some, slice_get, slice_index_or}
use Rattle.std.specs.List.{range_with_len}
use Rattle.std.specs.declared.alloc.Global.{Global}
use Rattle.board.specs.Boards.{BoardModel}
use Rattle.thread_parts.specs.Rings.{SenderModel, ReceiverModel, rings_of_outs, rings_of_ins, sent_rows, received_rows, left_rows, lane_at}
use Rattle.world_model.specs.declared.limits.TheConstants.{LANE_LIMIT}
use Rattle.world_model.specs.Workers.{Lane}
use Rattle.hda_run.specs.Lanes.{IsOfOne, IsInLane}

-- what was received by a ring and what is left in it is what was sent, and not too many packets are left
abbrev pub IsTied : Lane → Lane → Lane → Type 0
IsTied sent received left = (received ++ left ≡ sent) × (length left ≤ LANE_LIMIT)

-- the ends of all workers after those from worker `from` were looked at: only what they have seen and not taken may be another
pub record AreLookedAt (from : ℕ) (ins ins' : List (Vec ReceiverModel Global)) : Type 0 where
  pub rings : rings_of_ins ins' ≡ rings_of_ins ins
  pub received : received_rows ins' ≡ received_rows ins
  pub others : (j k : ℕ) → k ≢ from → lane_at (left_rows ins') j k ≡ lane_at (left_rows ins) j k

-- the ends of all rings after both of each were looked at: of the same rings, by which the same was sent and received
pub record AreSameEnds (outs outs' : List (Vec SenderModel Global)) (ins ins' : List (Vec ReceiverModel Global)) : Type 0 where
  pub out_rings : rings_of_outs outs' ≡ rings_of_outs outs
  pub sent : sent_rows outs' ≡ sent_rows outs
  pub in_rings : rings_of_ins ins' ≡ rings_of_ins ins
  pub received : received_rows ins' ≡ received_rows ins

-- the lanes from one worker to each, of rows that have for each worker the lanes to it
abbrev pub lanes_from : ℕ → List (List Lane) → List Lane
lanes_from from rows = map (λ row. slice_index_or row from []) rows

-- for each of n workers the lanes from it
abbrev pub by_sender : ℕ → List (List Lane) → List (List Lane)
by_sender n rows = map (λ from. lanes_from from rows) (range_with_len 0 n)

-- each row has n ends
abbrev pub AreOfWidth : ℕ → List (Vec ReceiverModel Global) → Type 0
AreOfWidth n ins = (to : ℕ) (row : Vec ReceiverModel Global) → slice_get ins to ≡ Some row → length row.items ≡ n

-- the cost plus sum of an item in a packet that this end has seen and not taken
abbrev pub IsLeft : (BoardModel → ℕ) → ReceiverModel → ℕ → Type 0
IsLeft sum end f = IsInLane sum end.left f

-- that of one of these ends
abbrev pub IsLeftInRow : (BoardModel → ℕ) → List ReceiverModel → ℕ → Type 0
IsLeftInRow sum row f = IsOfOne (IsLeft sum) row f

-- that of one of the ends of all workers
abbrev pub IsLeftInRows : (BoardModel → ℕ) → List (Vec ReceiverModel Global) → ℕ → Type 0
IsLeftInRows sum rows f = IsOfOne (λ row. IsLeftInRow sum row.items) rows f
