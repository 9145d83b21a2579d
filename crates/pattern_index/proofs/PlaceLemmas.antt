-- The ranks of views without the blank's cell.
use Rattle.std.proofs.Common.{◌≡◌, ℕ, zero, suc, ◌+◌, ◌-◌, ◌*◌, ◌/◌, ◌<◌, ◌≤◌, List, ◌∷◌, length, sym, ap, ◌∙◌, subst, arith}
use Rattle.std.proofs.Math.Nat.{mul_assoc, mul-le-mul_left}
use Rattle.std.proofs.lemmas.Nat.{div-mul-add}
use Rattle.board.specs.Shapes.{ShapeModel, cell_count}
use Rattle.pattern_index.specs.Ranks.{ways, IsListing}
use Rattle.pattern_index.specs.Views.{ViewModel, IsView}
use Rattle.pattern_index.specs.Groups.{place_in}
use Rattle.pattern_index.proofs.RankLemmas.{below_in, differ_in, listing_from, rank_below, rank_differs, ways-suc}
use Rattle.pattern_index.proofs.SightLemmas.{listing}

-- the ways with one place more
pub ways-last : (n r : ℕ) → r ≤ n → ways n (suc r) ≡ ways n r * (n - r)
unfolding ways
ways-last n zero le = omega arith
ways-last zero (suc r) le = absurd (omega arith)
ways-last (suc n) (suc r) le =
    let rest = ways-last n r (omega arith) in
    let same : n - r ≡ suc n - suc r = omega arith in
    ways-suc n (suc r) ∙ ap (λ m. suc n * m) rest ∙ sym (mul_assoc (suc n) (ways n r) (n - r)) ∙ (λ i. sym (ways-suc n r) i * same i)

-- there are no more ways with a place less
pub ways-less : (n r : ℕ) → suc r ≤ n → ways n r ≤ ways n (suc r)
ways-less n r le =
    let e = ways-last n r (omega arith) in
    let m : ways n r * 1 ≤ ways n r * (n - r) = mul-le-mul_left (ways n r) (omega arith) in
    omega arith

-- the ways with a place less are a quotient
pub ways-quot : (n r : ℕ) → suc r ≤ n → ways n (suc r) / (n - r) ≡ ways n r
ways-quot n r le =
    let e = ways-last n r (omega arith) in
    let f : ways n (suc r) ≡ ways n r * (n - r) + 0 = omega arith in
    ap (λ m. m / (n - r)) f ∙ div-mul-add (ways n r) (n - r) 0 (omega arith)

-- what is behind the first of a listing is one
pub listing_tail : (n x : ℕ) (xs : List ℕ) → IsListing n (x ∷ xs) → IsListing n xs
listing_tail n x xs is = listing_from n xs (below_in n (x ∷ xs) is).1 (differ_in n (x ∷ xs) is).1

pub place_listing : (grid : ShapeModel) (group : List ℕ) (v : ViewModel) → IsView grid group v → IsListing (cell_count grid) v.cells
place_listing grid group v view = listing_tail (cell_count grid) v.blank v.cells (listing grid group v view)

pub place_below : (grid : ShapeModel) (group : List ℕ) (v : ViewModel) → IsView grid group v → place_in grid v < ways (cell_count grid) (length group)
place_below grid group v view =
    let is = place_listing grid group v view in
    subst (λ n. place_in grid v < ways (cell_count grid) n) view.one_each (rank_below (cell_count grid) v.cells (below_in (cell_count grid) v.cells is) (differ_in (cell_count grid) v.cells is))

-- views with one place show the tiles on the same cells
pub same_cells : (grid : ShapeModel) (group : List ℕ) (v w : ViewModel) → IsView grid group v → IsView grid group w → place_in grid v ≡ place_in grid w → v.cells ≡ w.cells
same_cells grid group v w view other same =
    let a = place_listing grid group v view in
    let b = place_listing grid group w other in
    rank_differs (cell_count grid) v.cells w.cells (below_in (cell_count grid) v.cells a) (differ_in (cell_count grid) v.cells a) (below_in (cell_count grid) w.cells b) (differ_in (cell_count grid) w.cells b) (view.one_each ∙ sym other.one_each) same
