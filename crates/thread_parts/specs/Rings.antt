-- The two ends of a ring, and those of all rings of a run.
use Rattle.std.specs.Prelude.{◌≡◌, ◌≢◌, ℕ, ◌<◌, ◌≤◌, List, [], ◌∷◌, ◌++◌, Vec, map, length, replicate, Some, slice_get, slice_index_or}
use denote.RawPtr.{Ptr}
use Rattle.std.specs.declared.alloc.Global.{Global}
use Rattle.rtrb.specs.Shared.{Names}
use Rattle.rtrb.specs.Ring.{sent, received, known_items}
use Rattle.rtrb.specs.declared.producer.Producer.{Producer}
use Rattle.rtrb.specs.declared.consumer.Consumer.{Consumer}
use Rattle.world_model.specs.declared.limits.TheConstants.{LANE_LIMIT}
use Rattle.world_model.specs.Workers.{Packet, Lane}

-- what tells one ring from another: its memory
abbrev pub Ring : Type 0
Ring = Ptr × Ptr × Names × Global

-- for how many packets a ring has room
abbrev pub room_of : Ring → ℕ
room_of ring = ring.2.0

-- the room of a ring between two workers: a worker sends nothing to itself
abbrev pub IsRoomBetween : ℕ → ℕ → ℕ → Type 0
IsRoomBetween from to room = (from ≡ to → room ≡ 1) × (from ≢ to → room ≡ LANE_LIMIT)

-- the end at which packets go in: its ring, and the packets that were sent by it, the first one first
pub record SenderModel : Type 0 where
  pub ring : Ring
  pub sent : Lane

-- the end at which packets come out: its ring, the packets that were received by it, the first one first, and those after them that it has
-- seen in the ring and not taken
pub record ReceiverModel : Type 0 where
  pub ring : Ring
  pub received : Lane
  pub left : Lane

module _ {P : Type 0} where
  abbrev pub sending_end : Producer Packet Global P → SenderModel
  sending_end p = record { ring = (p.end.words, p.end.slots, p.end.names, p.end.heap); sent = sent p }

  abbrev pub receiving_end : Consumer Packet Global P → ReceiverModel
  receiving_end c = record { ring = (c.end.words, c.end.slots, c.end.names, c.end.heap); received = received c; left = known_items c }

-- one packet more was sent
abbrev pub TakesIn : SenderModel → Packet → SenderModel → Type 0
TakesIn before packet after = after ≡ record before { sent = before.sent ++ packet ∷ [] }

-- one packet more was received; more may have been seen in the ring
abbrev pub GivesOut : ReceiverModel → Packet → ReceiverModel → Type 0
GivesOut before packet after = (after.ring ≡ before.ring) × (after.received ≡ before.received ++ packet ∷ [])

-- nothing was received; more may have been seen in the ring
abbrev pub Looks : ReceiverModel → ReceiverModel → Type 0
Looks before after = (after.ring ≡ before.ring) × (after.received ≡ before.received)

-- the rings of these ends
abbrev pub out_rings : List SenderModel → List Ring
out_rings outs = map (λ out. out.ring) outs

abbrev pub in_rings : List ReceiverModel → List Ring
in_rings ins = map (λ into. into.ring) ins

-- what was sent by each
abbrev pub sent_lanes : List SenderModel → List Lane
sent_lanes outs = map (λ out. out.sent) outs

-- what was received by each
abbrev pub received_lanes : List ReceiverModel → List Lane
received_lanes ins = map (λ into. into.received) ins

-- what each has seen and not taken
abbrev pub left_lanes : List ReceiverModel → List Lane
left_lanes ins = map (λ into. into.left) ins

-- the same of the ends that each worker has
abbrev pub rings_of_outs : List (Vec SenderModel Global) → List (List Ring)
rings_of_outs outs = map (λ row. out_rings row.items) outs

abbrev pub rings_of_ins : List (Vec ReceiverModel Global) → List (List Ring)
rings_of_ins ins = map (λ row. in_rings row.items) ins

abbrev pub sent_rows : List (Vec SenderModel Global) → List (List Lane)
sent_rows outs = map (λ row. sent_lanes row.items) outs

abbrev pub received_rows : List (Vec ReceiverModel Global) → List (List Lane)
received_rows ins = map (λ row. received_lanes row.items) ins

abbrev pub left_rows : List (Vec ReceiverModel Global) → List (List Lane)
left_rows ins = map (λ row. left_lanes row.items) ins

-- the lane at this row and this place in it
abbrev pub lane_at : List (List Lane) → ℕ → ℕ → Lane
lane_at rows i j = slice_index_or (slice_index_or rows i []) j []

-- n workers have the two ends of n rings from each to each: the j-th way out of worker i is the i-th way in of worker j
pub record ArePaired (n : ℕ) (outs ins : List (List Ring)) : Type 0 where
  pub outs_len : length outs ≡ n
  pub ins_len : length ins ≡ n
  pub rows_out : (i : ℕ) → i < n → length (slice_index_or outs i []) ≡ n
  pub rows_in : (j : ℕ) → j < n → length (slice_index_or ins j []) ≡ n
  pub pairs : (i j : ℕ) → i < n → j < n → slice_get (slice_index_or outs i []) j ≡ slice_get (slice_index_or ins j []) i

-- each ring has its room
abbrev pub HaveRoom : List (List Ring) → Type 0
HaveRoom outs = (i j : ℕ) (ring : Ring) → slice_get (slice_index_or outs i []) j ≡ Some ring → IsRoomBetween i j (room_of ring)

-- the rings of n workers as they begin: nothing was sent or received by them, and each has its room
pub record AreNew (n : ℕ) (outs : List (Vec SenderModel Global)) (ins : List (Vec ReceiverModel Global)) : Type 0 where
  pub paired : ArePaired n (rings_of_outs outs) (rings_of_ins ins)
  pub sent : sent_rows outs ≡ replicate n (replicate n [])
  pub received : received_rows ins ≡ replicate n (replicate n [])
  pub rooms : HaveRoom (rings_of_outs outs)

-- a new ring from a worker to itself has room for one packet, and each other one for as many as a lane
abbrev pub NewRingsHaveRoom : Type 0
NewRingsHaveRoom = (n : ℕ) (outs : List (Vec SenderModel Global)) (ins : List (Vec ReceiverModel Global)) (i j : ℕ) (ring : Ring) → AreNew n outs ins → slice_get (slice_index_or (rings_of_outs outs) i []) j ≡ Some ring → (i ≡ j → room_of ring ≡ 1) × (i ≢ j → room_of ring ≡ LANE_LIMIT)

-- as many packets were sent to worker `to` as the ring to it has room for: before that, the ring has a place
abbrev pub MayBeFull : List Ring → List Lane → ℕ → Type 0
MayBeFull rings sent to = (ring : Ring) × (slice_get rings to ≡ Some ring) × (room_of ring ≤ length (slice_index_or sent to []))

-- the ring at `to` of the one list is that at `from` of the other
pub record IsSameRing (outs : List Ring) (to : ℕ) (ins : List Ring) (from : ℕ) : Type 0 where
  pub sender : to < length outs
  pub receiver : from < length ins
  pub same : slice_get outs to ≡ slice_get ins from

-- the ends of one worker after the one from worker `from` was looked at: only what it has seen and not taken may be another
pub record IsLookedAt (from : ℕ) (ins ins' : List ReceiverModel) : Type 0 where
  pub rings : in_rings ins' ≡ in_rings ins
  pub received : received_lanes ins' ≡ received_lanes ins
  pub others : (k : ℕ) → k ≢ from → slice_index_or (left_lanes ins') k [] ≡ slice_index_or (left_lanes ins) k []
