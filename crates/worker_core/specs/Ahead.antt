-- What the moves of boards offer, found before these are expanded.
use Rattle.std.specs.Prelude.{ℕ, ◌≡◌, ◌+◌, ◌<◌, ◌≤◌, All, IfSome, Option, Some, None, length, slice_get}
use Rattle.board.specs.declared.costs.TheConstants.{GREATEST_EXPANDED_COST}
use Rattle.board.specs.declared.moves.Move.{Move}
use Rattle.board.specs.Boards.{BoardModel}
use Rattle.lower_bound.specs.Bounds.{sum_of}
use Rattle.lower_bound.specs.Tables.{parts_of}
use Rattle.owners.specs.Offers.{AreOffered, IsWithin, OfEach, Offers, item_by}
use Rattle.owners.specs.Terms.{TermsModel}
use Rattle.search_keys.specs.SearchKeys.{HasSearchKey}
use Rattle.search_lists.specs.declared.lists.Next.{Next}
use Rattle.successor_sums.specs.Unpacked.{but}
use Rattle.worker_core.specs.Contexts.{ContextModel}
use Rattle.worker_core.specs.declared.ahead.Ahead.{Ahead}
use Rattle.worker_core.specs.declared.ahead.Found.{Found}

-- the search in which moves are offered, as steps are lent it
abbrev pub terms_of : {S : Type 0} → ContextModel S → TermsModel S
terms_of context = record { rule = context.rule; tables = context.tables; owners = context.owners; workers = context.workers }

-- this is what the moves from the board with this search key offer at this cost, without the move that is left out
pub record AreOffersOf {S : Type 0} (owner_of : S → ℕ → BoardModel → ℕ) (terms : TermsModel S) (key cost : ℕ) (left_out : Option Move) (offers : Offers) : Type 0 where
  pub board : BoardModel
  pub has : HasSearchKey terms.tables.split.grid key board
  pub offered : AreOffered (sum_of (parts_of terms.tables)) (owner_of terms.owners terms.workers) (but left_out (item_by terms.rule board cost)) offers
  pub within : OfEach (IsWithin board.grid cost terms.workers) offers

-- what was found for a board is what its moves offer
abbrev pub IsFoundAhead : {S : Type 0} → (S → ℕ → BoardModel → ℕ) → TermsModel S → Found → Type 0
IsFoundAhead owner_of terms found = AreOffersOf owner_of terms found.key found.cost found.left_out found.offers

-- all that was found is what moves offer in this search
abbrev pub AreFoundAhead : {S : Type 0} → (S → ℕ → BoardModel → ℕ) → TermsModel S → Ahead → Type 0
AreFoundAhead owner_of terms ahead = All (IsFoundAhead owner_of terms) ahead.batch.items

-- it was found for the board with this key, at this cost, with this move left out
pub record IsOf (key cost : ℕ) (left_out : Option Move) (found : Found) : Type 0 where
  pub key_is : found.key ≡ key
  pub cost_is : found.cost ≡ cost
  pub left_out_is : found.left_out ≡ left_out

-- the place is one of the batch, or the one beside it
abbrev pub IsThere : Ahead → Option ℕ → Type 0
IsThere ahead place = IfSome place (λ place. place < length ahead.batch.items)

-- these offers are at the place
abbrev pub AreAt : Ahead → Option ℕ → Offers → Type 0
AreAt ahead None offers = offers ≡ ahead.one
AreAt ahead (Some place) offers = (found : Found) × (slice_get ahead.batch.items place ≡ Some found) × (offers ≡ found.offers)

-- the key is that of a board of the search, whose sum and cost add up to an f at which boards are expanded
pub record AddsUpAs {S : Type 0} (context : ContextModel S) (next : Next) : Type 0 where
  pub board : BoardModel
  pub has : HasSearchKey context.goal.grid next.key board
  pub adds : next.f ≡ next.cost + sum_of (parts_of context.tables) board
  pub low : next.f ≤ GREATEST_EXPANDED_COST
