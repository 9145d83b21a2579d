-- The ranks of views.
use Rattle.std.proofs.Common.{◌≡◌, ℕ, suc, ◌<◌, ◌≤◌, List, [], ◌∷◌, length, refl, sym, ap, ◌∙◌, subst, arith}
use Rattle.board.specs.Shapes.{ShapeModel, cell_count}
use Rattle.pattern_index.specs.Ranks.{ways, IsListing, rank_of, list_at}
use Rattle.pattern_index.specs.Views.{ViewModel, IsView}
use Rattle.pattern_index.specs.Groups.{rank_in}
use Rattle.pattern_index.proofs.RankLemmas.{Below, Differ, below_in, differ_in, listing_from, rank_below, rank_differs, list_at_below, list_at_differ, length-list_at, rank_of-list_at}

abbrev pub cells_of : ViewModel → List ℕ
cells_of v = v.blank ∷ v.cells

pub listing : (grid : ShapeModel) (group : List ℕ) (v : ViewModel) → IsView grid group v → IsListing (cell_count grid) (cells_of v)
listing grid group v view = record { in_range = view.in_range; different = view.different }

pub sight_below : (grid : ShapeModel) (group : List ℕ) (v : ViewModel) → IsView grid group v → rank_in grid v < ways (cell_count grid) (suc (length group))
sight_below grid group v view =
    subst (λ n. rank_in grid v < ways (cell_count grid) (suc n)) view.one_each
    (rank_below (cell_count grid) (cells_of v) (below_in (cell_count grid) (cells_of v) (listing grid group v view)) (differ_in (cell_count grid) (cells_of v) (listing grid group v view)))

tail : List ℕ → List ℕ
tail [] = []
tail (x ∷ xs) = xs

first : List ℕ → ℕ
first [] = 0
first (x ∷ xs) = x

first_and_tail : (xs : List ℕ) → 0 < length xs → first xs ∷ tail xs ≡ xs
unfolding first tail
first_and_tail [] some = absurd (omega arith)
first_and_tail (x ∷ xs) some = refl

same_sight : (v w : ViewModel) → cells_of v ≡ cells_of w → v ≡ w
unfolding tail first
same_sight v w e = λ i. record { blank = first (e i); cells = tail (e i) }

-- views with one rank are one view
pub sight_from_rank : (grid : ShapeModel) (group : List ℕ) (v w : ViewModel) → IsView grid group v → IsView grid group w → rank_in grid v ≡ rank_in grid w → v ≡ w
sight_from_rank grid group v w view other same =
    let a = listing grid group v view in
    let b = listing grid group w other in
    same_sight v w
    (rank_differs (cell_count grid) (cells_of v) (cells_of w) (below_in (cell_count grid) (cells_of v) a) (differ_in (cell_count grid) (cells_of v) a) (below_in (cell_count grid) (cells_of w) b) (differ_in (cell_count grid) (cells_of w) b)
    (ap suc (view.one_each ∙ sym other.one_each)) same)

-- the list of a rank is a view
pub sight_of_list : (grid : ShapeModel) (group : List ℕ) (v : ViewModel) (k : ℕ) → suc (length group) ≤ cell_count grid → k < ways (cell_count grid) (suc (length group)) → cells_of v ≡ list_at (cell_count grid) (suc (length group)) k → IsView grid group v × (rank_in grid v ≡ k)
sight_of_list grid group v k room low is =
    let n = cell_count grid in
    let r = suc (length group) in
    let below : Below n (cells_of v) = subst (Below n) (sym is) (list_at_below n r k room low) in
    let differ : Differ (cells_of v) = subst Differ (sym is) (list_at_differ n r k) in
    let long : suc (length v.cells) ≡ suc (length group) = ap length is ∙ length-list_at n r k room in
    let made = listing_from n (cells_of v) below differ in
    (record { one_each = omega arith; in_range = made.in_range; different = made.different }, ap (rank_of n) is ∙ rank_of-list_at n r k room low)

-- some view has each rank below the size
pub sight_at : (grid : ShapeModel) (group : List ℕ) (k : ℕ) → suc (length group) ≤ cell_count grid → k < ways (cell_count grid) (suc (length group)) → (v : ViewModel) × IsView grid group v × (rank_in grid v ≡ k)
sight_at grid group k room low =
    let n = cell_count grid in
    let r = suc (length group) in
    let xs : List ℕ = list_at n r k in
    let v : ViewModel = record { blank = first xs; cells = tail xs } in
    let long : length xs ≡ r = length-list_at n r k room in
    let is = sight_of_list grid group v k room low (first_and_tail xs (omega arith)) in
    (v, is.0, is.1)
