-- Lists of ends where one has changed.
use Rattle.std.proofs.Common.{◌≡◌, ◌≢◌, ℕ, ◌<◌, List, [], map, set, get_or, length, ap, ◌∙◌}
use Rattle.std.proofs.Math.Seq.{map-set_same}
use Rattle.std.proofs.lemmas.List.{map-set, set-get_or, get_or-set_same, get_or-set_other, length-map}
use Rattle.thread_parts.specs.Rings.{SenderModel, ReceiverModel, in_rings, received_lanes, left_lanes, Looks}

pub map_at_set : {X Y : Type 0} (f : X → Y) (xs : List X) (i : ℕ) (q : X) (e : Y) → i < length xs → get_or (map f (set xs i q)) i e ≡ f q
map_at_set {X} {Y} f xs i q e inside = ap (λ (ys : List Y). get_or ys i e) (map-set f xs i q) ∙ get_or-set_same (map f xs) i (f q) e (simp length-map inside)

pub map_at_other : {X Y : Type 0} (f : X → Y) (xs : List X) (i k : ℕ) (q : X) (e : Y) → k ≢ i → get_or (map f (set xs i q)) k e ≡ get_or (map f xs) k e
map_at_other {X} {Y} f xs i k q e other = ap (λ (ys : List Y). get_or ys k e) (map-set f xs i q) ∙ get_or-set_other (map f xs) i k (f q) e other

-- what an end has looked at is of the same ring, and has received the same
pub rings_looked : (ins : List ReceiverModel) (i : ℕ) (q p : ReceiverModel) → p ≡ get_or ins i p → Looks p q → in_rings (set ins i q) ≡ in_rings ins
rings_looked ins i q p at looked = map-set_same (λ (e : ReceiverModel). e.ring) ins i q p (looked.0 ∙ ap (λ (e : ReceiverModel). e.ring) at)

pub received_looked : (ins : List ReceiverModel) (i : ℕ) (q p : ReceiverModel) → p ≡ get_or ins i p → Looks p q → received_lanes (set ins i q) ≡ received_lanes ins
received_looked ins i q p at looked = map-set_same (λ (e : ReceiverModel). e.received) ins i q p (looked.1 ∙ ap (λ (e : ReceiverModel). e.received) at)

-- an end that is as before
pub outs_kept : (outs : List SenderModel) (i : ℕ) (q p : SenderModel) → p ≡ get_or outs i p → q ≡ p → set outs i q ≡ outs
outs_kept outs i q p at same = ap (λ (e : SenderModel). set outs i e) (same ∙ at) ∙ set-get_or outs i p

pub left_others : (ins : List ReceiverModel) (i : ℕ) (q : ReceiverModel) (k : ℕ) → k ≢ i → get_or (left_lanes (set ins i q)) k [] ≡ get_or (left_lanes ins) k []
left_others ins i q k other = map_at_other (λ (e : ReceiverModel). e.left) ins i k q [] other

pub ruleset looks = (rings_looked, received_looked, outs_kept, left_others)
