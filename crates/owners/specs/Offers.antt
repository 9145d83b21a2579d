-- What the moves from a board offer.
use Rattle.std.specs.Prelude.{⊤, ℕ, ◌≡◌, ◌+◌, ◌<◌, ◌≤◌, IfSome, Option, Some, None, option_map}
use Rattle.board.specs.declared.moves.Move.{Move}
use Rattle.board.specs.declared.moves.Move.TheVariants.{U, L, R, D}
use Rattle.board.specs.Weights.{WeightsModel}
use Rattle.board.specs.Shapes.{ShapeModel}
use Rattle.board.specs.Moves.{successor}
use Rattle.board.specs.Boards.{BoardModel}
use Rattle.search_keys.specs.SearchKeys.{search_key, HasSearchKey}
use Rattle.world_model.specs.declared.parts.Item.{Item}
use Rattle.lower_bound.specs.declared.bound.TheConstants.{GREATEST_SUM}
use Rattle.owners.specs.declared.offer.Offer.{Offer}
use Rattle.successor_sums.specs.ByMoves.{ByMovesModel}

-- what the four moves from a board offer: nothing where the blank would leave the board, and by a move that is left out
abbrev pub Offers : Type 0
Offers = ByMovesModel Offer

-- the successor of a board that costs this much, by a move
abbrev pub item_by : WeightsModel → BoardModel → ℕ → Move → Option Item
item_by rule b cost m = option_map (λ next. record { board = next.0; cost = cost + next.1; via = m }) (successor rule b m)

-- the offer is of this item: it has the search key of its board, its cost, its cost plus sum, and its owner
pub record IsOfferOf (sum owner : BoardModel → ℕ) (item : Item) (offer : Offer) : Type 0 where
  pub key : offer.key ≡ search_key item.board
  pub cost : offer.cost ≡ item.cost
  pub adds : offer.f ≡ item.cost + sum item.board
  pub owned : offer.owner ≡ owner item.board

-- an offer of this item, and none where there is none
abbrev pub IsOffered : (BoardModel → ℕ) → (BoardModel → ℕ) → Option Item → Option Offer → Type 0
IsOffered sum owner None None = ⊤
IsOffered sum owner None (Some offer) = ⊥
IsOffered sum owner (Some item) None = ⊥
IsOffered sum owner (Some item) (Some offer) = IsOfferOf sum owner item offer

-- the offers are of these items, by the four moves
pub record AreOffered (sum owner : BoardModel → ℕ) (items : Move → Option Item) (offers : Offers) : Type 0 where
  pub up : IsOffered sum owner (items U) offers.up
  pub left : IsOffered sum owner (items L) offers.left
  pub right : IsOffered sum owner (items R) offers.right
  pub down : IsOffered sum owner (items D) offers.down

-- each offer that there is has this
abbrev pub OfEach : (Offer → Type 0) → Offers → Type 0
OfEach P offers = IfSome offers.up P × IfSome offers.left P × IfSome offers.right P × IfSome offers.down P

-- what is offered from a board at this cost has the search key of a board of its sides, no cost plus sum above what one move more can make
-- it, and one of this number of workers as owner
pub record IsWithin (grid : ShapeModel) (cost workers : ℕ) (offer : Offer) : Type 0 where
  pub board : (b : BoardModel) × HasSearchKey grid offer.key b
  pub low : offer.f ≤ cost + 255 + GREATEST_SUM
  pub owned : offer.owner < workers
