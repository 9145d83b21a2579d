use Rattle.std.proofs.Common.{◌≡◌, ◌<◌, ℕ, Some, length, get_or}
use Rattle.board.specs.declared.moves.Move.{Move}
use Rattle.lower_bound.specs.Bounds.{sum_of}
use Rattle.lower_bound.specs.Tables.{parts_of}
use Rattle.successor_sums.specs.ByMoves.{entries_of}
use Rattle.owners.specs.declared.offer.Offer.{Offer}
use Rattle.owners.specs.Offers.{item_by, IsOffered, IsWithin}
use Rattle.owners.proofs.offer.offers_of.Given as goal

-- by the moves before, their successors were offered
abbrev pub invariant-exits : goal.invariant-exits
invariant-exits g l = record {
  all : length (entries_of l.offers) ≡ l.place;
  moves : (j : ℕ) (d : Move × Offer) (e : Move × ℕ) → j < l.place → (get_or (entries_of l.offers) j d).0 ≡ (get_or (entries_of l.exits) j e).0;
  offered : (j : ℕ) (d : Move × Offer) → j < l.place → IsOffered (sum_of (parts_of l.terms.tables)) (g.S.Spread.owner_of l.terms.owners l.terms.workers) (item_by l.terms.rule l.origin.board l.origin.cost (get_or (entries_of l.offers) j d).0) (Some (get_or (entries_of l.offers) j d).1);
  within : (j : ℕ) (d : Move × Offer) → j < l.place → IsWithin l.origin.board.grid l.origin.cost l.terms.workers (get_or (entries_of l.offers) j d).1;
}
