use Rattle.std.proofs.Common.{◌≡◌, ◌≤◌, ℕ, ◌≢◌}
use Rattle.open_buckets.specs.OpenLists.{places_at}
use Rattle.owners.specs.Offers.{OfEach}
use Rattle.search_lists.specs.Lists.{HasMoreRoom}
use Rattle.worker_core.specs.Expanding.{HasAllPlaces}
use Rattle.worker_core.proofs.ExpandLemmas.{HavePlaces}
use Rattle.worker_core.proofs.expanding.make_places.Given as goal

-- for the entries so far there are places
abbrev pub invariant-offers : goal.invariant-offers
invariant-offers l = record {
  same : HasMoreRoom l.fn.lists l.lists;
  boards : 4 ≤ l.lists.closed.room;
  places : HavePlaces l.me l.lists l.offers l.place;
  enough : HasAllPlaces l.me l.fn.lists l.offers → l.lists ≡ l.fn.lists;
  others : (h : ℕ) → OfEach (λ offer. offer.owner ≡ l.me → offer.f ≢ h) l.offers → places_at l.lists.waiting h ≡ places_at l.fn.lists.waiting h;
}
