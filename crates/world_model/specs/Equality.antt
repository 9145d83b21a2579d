-- What `==` answers of items: whether they are the same.
use Rattle.std.specs.Prelude.{◌≡◌, ◌==◌, ◌&&◌, Bool}
use Rattle.std.specs.Bool.{Decides}
use Rattle.std.specs.Cmp.{IsEquivalence, decided}
use Rattle.std.proofs.Common.{ap}
use Rattle.std.proofs.lemmas.Bool.Decides.{Decides-and, Decides-like, Decides-eqb}
use Rattle.board.specs.Equality.{move_eq, moves_Decide, position_eq, positions_Decide}
use Rattle.world_model.specs.declared.parts.Item.{Item}

-- they have the same board, cost and last move
abbrev pub item_eq : Item → Item → Bool
item_eq a b = position_eq a.board b.board && (a.cost == b.cost && move_eq a.via b.via)

pub items_Decide : (a b : Item) → Decides (item_eq a b) (a ≡ b)
items_Decide a b = Decides-like _ same (λ e. (ap (λ (x : Item). x.board) e, (ap (λ (x : Item). x.cost) e, ap (λ (x : Item). x.via) e))) (Decides-and _ _ (positions_Decide _ _) (Decides-and _ _ (Decides-eqb _ _) (moves_Decide _ _)))
  where
    same : (a.board ≡ b.board) × ((a.cost ≡ b.cost) × (a.via ≡ b.via)) → a ≡ b
    same p = λ i. record { board = p.0 i; cost = p.1.0 i; via = p.1.1 i }

pub item_eq-laws : IsEquivalence item_eq
item_eq-laws = decided item_eq items_Decide
