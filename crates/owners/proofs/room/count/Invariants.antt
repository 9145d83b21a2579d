use Rattle.std.proofs.Common.{◌≡◌, ◌+◌, ◌≤◌, drop}
use Rattle.std.specs.Prelude.{sum_by}
use Rattle.owners.specs.Room.{go}
use Rattle.owners.proofs.OfferLemmas.{entry_goes}
use Rattle.successor_sums.specs.ByMoves.{entries_of}
use Rattle.owners.proofs.room.count.Given as goal

abbrev pub invariant-offers : goal.invariant-offers
invariant-offers l = record {
  value : l.count + sum_by (entry_goes l.me l.to) (drop l.place (entries_of l.offers)) ≡ go l.me l.to l.offers;
  few : l.count ≤ l.place;
}
