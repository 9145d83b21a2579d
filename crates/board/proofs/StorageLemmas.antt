-- What lies in memory, and `==` of it.
use Rattle.std.proofs.Common.{◌≡◌, ℕ, ◌-◌, ◌+◌, ◌<◌, Bool, true, List, ◌++◌, ◌∷◌, [], length, set, take, drop, replicate, suc, sym, ap, ◌∙◌, arith, append_assoc}
use Rattle.std.specs.Bool.{Decides}
use Rattle.std.specs.List.{range_with_len}
use Rattle.std.specs.Str.{bytes_eq}
use Rattle.std.proofs.lemmas.Bool.Decides.{Decides-at, Decides-like}
use Rattle.std.proofs.lemmas.List.{set_at, take_at, drop_at, map-id}
use Rattle.std.proofs.lemmas.List.FromFn.{map-range_with_len_more}
use Rattle.std.proofs.lemmas.Slice.Eq.{bytes_eq-Decides}
use Rattle.board.specs.Shapes.{cell_count}
use Rattle.board.specs.Equality.{grid_eq, grids_Decide}
use Rattle.board.specs.Storage.{position_in, storage_of, IsStored, storage_of-position_in}
use Rattle.board.specs.CostStorage.{rule_in}
use Rattle.board.specs.CostStorage as cost
use Rattle.board.specs.declared.boards.Board.TheInside as board
use Rattle.board.specs.declared.costs.Weights.TheInside as weights

-- arrays in memory are equal exactly where what readers see is the same, given that the rest is
pub same_stored : {Value Inside : Type 0} (view : Inside → Value) (storage : Value → Inside) (array : Inside → List ℕ) (a b : Inside) (r : Bool) → storage (view a) ≡ a → storage (view b) ≡ b → (array a ≡ array b → view a ≡ view b) → r ≡ bytes_eq (array a) (array b) → Decides r (view a ≡ view b)
same_stored view storage array a b r whole_a whole_b there answer =
    let back : view a ≡ view b → array a ≡ array b = λ e. ap array (sym whole_a ∙ ap storage e ∙ whole_b) in
    Decides-at r (bytes_eq (array a) (array b)) answer (Decides-like (bytes_eq (array a) (array b)) there back (bytes_eq-Decides (array a) (array b)))

-- so it is with the tiles of boards
pub same_board : (a b : board.Inside) (r : Bool) → IsStored a → IsStored b → grid_eq a.shape b.shape ≡ true → r ≡ bytes_eq a.tiles b.tiles → Decides r (position_in a ≡ position_in b)
same_board a b r stored stored' shapes =
    let grids : a.shape ≡ b.shape = (grids_Decide a.shape b.shape).0 shapes in
    same_stored position_in storage_of (λ (x : board.Inside). x.tiles) a b r (storage_of-position_in a stored) (storage_of-position_in b stored')
    (λ e i. record { grid = grids i; tiles = take (cell_count (grids i)) (e i) })

-- and with the weights of cost rules
pub same_rule : (a b : weights.Inside) (r : Bool) → cost.IsStored a → cost.IsStored b → grid_eq a.shape b.shape ≡ true → r ≡ bytes_eq a.weights b.weights → Decides r (rule_in a ≡ rule_in b)
same_rule a b r stored stored' shapes =
    let grids : a.shape ≡ b.shape = (grids_Decide a.shape b.shape).0 shapes in
    same_stored rule_in cost.storage_of (λ (x : weights.Inside). x.weights) a b r (cost.storage_of-rule_in a stored) (cost.storage_of-rule_in b stored')
    (λ e i. record { grid = grids i; weights = take (cell_count (grids i)) (e i) })

-- the next number of an array that was filled up to k
pub filled_more : (n k : ℕ) (front : List ℕ) (v : ℕ) → length front ≡ k → k < n → set (front ++ replicate (n - k) 0) k v ≡ (front ++ v ∷ []) ++ replicate (n - (k + 1)) 0
filled_more n k front v counted within =
    let next : n - k ≡ suc (n - (k + 1)) = omega arith in
    ap (λ (m : ℕ). set (front ++ replicate m 0) k v) next ∙ set_at front 0 (replicate (n - (k + 1)) 0) v k counted ∙ sym (append_assoc front (v ∷ []) (replicate (n - (k + 1)) 0))

-- the next number of a list that counts from 0
pub counted_more : (n : ℕ) → range_with_len 0 (n + 1) ≡ range_with_len 0 n ++ n ∷ []
counted_more n =
    sym (map-id (range_with_len 0 (n + 1))) ∙ map-range_with_len_more (λ (x : ℕ). x) 0 n n (omega arith) ∙ ap (λ (front : List ℕ). front ++ n ∷ []) (map-id (range_with_len 0 n))

-- the two parts of an array that begins with a list of n numbers
pub filled_parts : (n : ℕ) (front whole : List ℕ) → length front ≡ n → whole ≡ front ++ replicate (25 - n) 0 → (take n whole ≡ front) × (drop n whole ≡ replicate (25 - n) 0)
filled_parts n front whole counted all = (
  ap (take n) all ∙ take_at front (replicate (25 - n) 0) n counted,
  ap (drop n) all ∙ drop_at front (replicate (25 - n) 0) n counted,
)
