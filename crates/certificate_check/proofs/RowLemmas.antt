-- Rows of a certificate: they rise by their keys, and prove what they prove with greater sums too.
use Rattle.std.proofs.Common.{◌≡◌, inl, inr, ⊎_elim, ℕ, zero, suc, ◌+◌, ◌<◌, ◌≤◌, Bool, true, false, not, eq-eqb, List, [], ◌∷◌, length, get_or, Option, None, Some, is_some, unwrap_or, refl, sym, ap, ◌∙◌, subst, arith, ◌⊎◌, min, ◌-◌, ◌*◌, ◌/◌, leb, eqb, eqb-true}
use Rattle.std.specs.Prelude.{slice_get, ◌↔◌, IsTrue, IfSome, option_map, All}
use Rattle.std.specs.List.{AllZip, range_with_len, AllByRecursion}
use Rattle.std.specs.List.Sorted.{IsNonDecreasingBy, IsPartitionPoint}
use Rattle.std.proofs.lemmas.Bool.{cases_lt, true≢false, cases_order, leb-true}
use Rattle.std.proofs.lemmas.Bool.Decides.{leb_tells}
use Rattle.std.proofs.lemmas.Option.{slice_get_within, get_or_from_slice_get, slice_get-get_or}
use Rattle.std.proofs.lemmas.List.Elements.{recursion_from_All, All-contains}
use Rattle.std.proofs.lemmas.List.{get_or_default}
use Rattle.board.specs.Shapes.{ShapeModel, cell_count}
use Rattle.board.specs.Boards.{BoardModel, IsBoard}
use Rattle.board.specs.Rows.{HasRow, Proves}
use Rattle.board.specs.Keys.{key_of, Precedes}
use Rattle.board.proofs.KeyLemmas.{packed_in_order, tiles_small, same_board}
use Rattle.board.specs.Weights.{WeightsModel}
use Rattle.board.proofs.MoveLemmas.{one_move, moved_board}
use Rattle.pattern_index.specs.Views.{IsView, view_of}
use Rattle.pattern_index.specs.Groups.{GroupModel, AreGroupTiles, IsGroup}
use Rattle.pattern_index.proofs.ViewMoveLemmas.{board_view}
use Rattle.database_build.specs.Tables.{TableModel, value_in}
use Rattle.database_build.specs.Folds.{FoldedModel, IsFoldOf, folded_in}
use Rattle.lower_bound.specs.Folded.{value_for}
use Rattle.certificate.specs.Certificates.{CertificateModel, IsBoardOf, IsRow, RiseAfter, IsCertificate}
use Rattle.certificate_check.specs.Refusals.{sum_in, LeavesOpen, LeavesOpenAt, IsFirstOpen, AreClosed, HasRowAt}
use Rattle.certificate_check.specs.Lookups.{IsTold, AreLower, AreNotLower}
use Rattle.certificate_check.proofs.RefusalLemmas.{contains_at, at_contains}
use Rattle.std.specs.Borrow.{Bor}
use Rattle.std.proofs.Math.Nat.{lt-div-mul-add, le-div_iff_mul-le}
use Rattle.rayon.specs.Lists.{filter_by_mask}
use Rattle.rayon.proofs.ListFacts.{AllZip-weaken}
use Rattle.board.specs.declared.moves.Move.{Move}
use Rattle.board.specs.declared.moves.Move.TheVariants.{U, L, R, D}
use Rattle.board.specs.Equality.{number_of, moves_Decide}
use Rattle.board.specs.Moves.{Moves, successor, all_moves}
use Rattle.board.proofs.NeighbourLemmas.{successor_moves}
use Rattle.lower_bound.specs.Tables.{BoundModel, parts_of}
use Rattle.successor_sums.specs.Unpacked.{told_of, successors_of}
use Rattle.successor_sums.specs.declared.unpacked.Successor.{Successor}
use Rattle.certificate_check.specs.Refusals.{IsClosedBlock}
use Rattle.certificate_check.specs.declared.parallel.TheConstants.{BLOCK_ROWS}

-- ---- the rows of a certificate rise by their keys, so a board has one row at most

abbrev Rows : Type 0
Rows = List (BoardModel × ℕ)

-- the key of a row's board
abbrev pub row_key : BoardModel × ℕ → ℕ
row_key row = key_of row.0

-- a board that comes before another one has the lower key
lower_key : (grid : ShapeModel) (a b : BoardModel) → IsBoardOf grid a → IsBoardOf grid b → Precedes a.tiles b.tiles → key_of a < key_of b
lower_key grid a b is is' =
    (packed_in_order a.tiles b.tiles (is.board.one_each ∙ ap cell_count (is.sides ∙ sym is'.sides) ∙ sym is'.board.one_each) (recursion_from_All (λ x. x < 32) a.tiles (tiles_small a is.board)) (recursion_from_All (λ x. x < 32) b.tiles (tiles_small b is'.board))).1

-- each row that comes after a board has a greater key
keys_above : (grid : ShapeModel) (before : BoardModel) (rows : Rows) → IsBoardOf grid before → AllByRecursion (IsRow grid) rows → RiseAfter (Some before) rows → (j : ℕ) (d : BoardModel × ℕ) → j < length rows → key_of before < row_key (get_or rows j d)
keys_above grid before [] is all rise j d within = absurd (omega (arith, within))
keys_above grid before (row ∷ rows) is all rise zero d within = lower_key grid before row.0 is all.0.board rise.0
keys_above grid before (row ∷ rows) is all rise (suc j) d within =
    let first = lower_key grid before row.0 is all.0.board rise.0 in
    let rest = keys_above grid row.0 rows all.0.board all.1 rise.1 j d (omega (arith, within)) in
    omega (arith, first, rest)

keys_rise_after : (grid : ShapeModel) (before : Option BoardModel) (rows : Rows) → AllByRecursion (IsRow grid) rows → RiseAfter before rows → (i j : ℕ) (d : BoardModel × ℕ) → i < j → j < length rows → row_key (get_or rows i d) < row_key (get_or rows j d)
keys_rise_after grid before [] all rise i j d less within = absurd (omega (arith, within))
keys_rise_after grid before (row ∷ rows) all rise i zero d less within = absurd (omega (arith, less))
keys_rise_after grid before (row ∷ rows) all rise zero (suc j) d less within = keys_above grid row.0 rows all.0.board all.1 rise.1 j d (omega (arith, within))
keys_rise_after grid before (row ∷ rows) all rise (suc i) (suc j) d less within = keys_rise_after grid (Some row.0) rows all.1 rise.1 i j d (omega (arith, less)) (omega (arith, within))

pub keys_rise : (c : CertificateModel) → IsCertificate c → (i j : ℕ) (d : BoardModel × ℕ) → i < j → j < length c.rows → row_key (get_or c.rows i d) < row_key (get_or c.rows j d)
keys_rise c is = keys_rise_after c.grid None c.rows is.rows is.rising

pub keys_never_fall : (c : CertificateModel) → IsCertificate c → IsNonDecreasingBy row_key c.rows
keys_never_fall c is i j d le within = ⊎_elim
    (λ (e : i ≡ j). subst (λ (k : ℕ). row_key (get_or c.rows i d) ≤ row_key (get_or c.rows k d)) e (omega arith))
    (λ (o : (i < j) ⊎ (j < i)). ⊎_elim (λ (l : i < j). let low = keys_rise c is i j d l within in omega (arith, low)) (λ (l : j < i). absurd (omega (arith, l, le))) o)
    (cases_order i j)

-- a row at a place is a row
row_of : (grid : ShapeModel) (rows : Rows) (place : ℕ) (row : BoardModel × ℕ) → AllByRecursion (IsRow grid) rows → slice_get rows place ≡ Some row → IsRow grid row
row_of grid [] place row all at = let low = slice_get_within [] place row at in absurd (omega (arith, low))
row_of grid (r ∷ rows) zero row all at = subst (IsRow grid) (cc) all.0
row_of grid (r ∷ rows) (suc place) row all at = row_of grid rows place row all.1 at

pub row_at : (c : CertificateModel) → IsCertificate c → (place : ℕ) (row : BoardModel × ℕ) → slice_get c.rows place ≡ Some row → IsRow c.grid row
row_at c is place row at = row_of c.grid c.rows place row is.rows at

-- the key at the place of a board's row is the board's
key_there : (c : CertificateModel) (b : BoardModel) (place : ℕ) (d : BoardModel × ℕ) → HasRowAt c b place → row_key (get_or c.rows place d) ≡ key_of b
key_there c b place d (g, at) = ap row_key (get_or_from_slice_get c.rows place (b, g) d at)

-- a board has one row at most
pub one_row : (c : CertificateModel) → IsCertificate c → (b : BoardModel) (p q : ℕ) → HasRowAt c b p → HasRowAt c b q → q ≡ p
one_row c is b p q (g, at) (g', at') =
    let d : BoardModel × ℕ = (b, g) in
    let key = key_there c b p d (g, at) in
    let key' = key_there c b q d (g', at') in
    let p_in = slice_get_within c.rows p (b, g) at in
    let q_in = slice_get_within c.rows q (b, g') at' in
    ⊎_elim (λ (e : q ≡ p). e)
    (λ (o : (q < p) ⊎ (p < q)).
    ⊎_elim (λ (l : q < p). let low = keys_rise c is q p d l p_in in absurd (omega (arith, low, key, key'))) (λ (l : p < q). let low = keys_rise c is p q d l q_in in absurd (omega (arith, low, key, key'))) o)
    (cases_order q p)

-- a board's row is at the first place from which on no row's key is below the board's
found_there : (c : CertificateModel) → IsCertificate c → (b : BoardModel) (place : ℕ) → IsPartitionPoint (λ row. row_key row < key_of b) (λ row. key_of b ≤ row_key row) c.rows place → (p : ℕ) → HasRowAt c b p → p ≡ place
found_there c is b place parted p has =
    let d : BoardModel × ℕ = (b, has.0) in
    let key = key_there c b p d has in
    let within = slice_get_within c.rows p (b, has.0) has.1 in
    ⊎_elim (λ (e : p ≡ place). e)
    (λ (o : (p < place) ⊎ (place < p)).
    ⊎_elim
    (λ (l : p < place). let low = parted.0 p d (omega arith) l in absurd (omega (arith, low, key)))
    (λ (l : place < p).
    let less = keys_rise c is place p d l within in
    let high = parted.1 place d (omega arith) (omega (arith, l, within)) in
    absurd (omega (arith, less, high, key)))
    o)
    (cases_order p place)

-- the same where the rows and the key have other names
pub found_by : (c : CertificateModel) → IsCertificate c → (b : BoardModel) (rows : Rows) (key place : ℕ) → rows ≡ c.rows → key ≡ key_of b → IsPartitionPoint (λ row. row_key row < key) (λ row. key ≤ row_key row) rows place → (p : ℕ) → HasRowAt c b p → p ≡ place
found_by c is b rows key place same same_key parted =
    let among : IsPartitionPoint (λ row. row_key row < key) (λ row. key ≤ row_key row) c.rows place = subst (λ (rs : Rows). IsPartitionPoint (λ row. row_key row < key) (λ row. key ≤ row_key row) rs place) same parted in
    found_there c is b place (subst (λ (k : ℕ). IsPartitionPoint (λ row. row_key row < k) (λ row. k ≤ row_key row) c.rows place) same_key among)

-- the row at a place, whose board is this one
pub has_row_here : (c : CertificateModel) (b : BoardModel) (rows : Rows) (place : ℕ) (row : BoardModel × ℕ) → rows ≡ c.rows → place < length rows → row ≡ get_or rows place row → (get_or rows place row).0 ≡ b → HasRowAt c b place
has_row_here c b rows place row same within is board =
    let at : slice_get rows place ≡ Some row = slice_get-get_or rows place row within ∙ ap Some (sym is) in
    (row.1, subst (λ (rs : Rows). slice_get rs place ≡ Some (b, row.1)) same (at ∙ ap (λ (x : BoardModel). Some (x, row.1)) (ap (λ (r : BoardModel × ℕ). r.0) is ∙ board)))

-- the row at a place
pub row_here_at : (c : CertificateModel) (rows : Rows) (place : ℕ) (row : BoardModel × ℕ) → rows ≡ c.rows → place < length rows → row ≡ get_or rows place row → slice_get c.rows place ≡ Some row
row_here_at c rows place row same within is = subst (λ (rs : Rows). slice_get rs place ≡ Some row) same (slice_get-get_or rows place row within ∙ ap Some (sym is))

-- the row at the place of a board's row is one of that board
pub board_there : (c : CertificateModel) (b : BoardModel) (rows : Rows) (place : ℕ) (d : BoardModel × ℕ) → rows ≡ c.rows → HasRowAt c b place → (get_or rows place d).0 ≡ b
board_there c b rows place d same (g, at) = ap (λ (rs : Rows). (get_or rs place d).0) same ∙ ap (λ (row : BoardModel × ℕ). row.0) (get_or_from_slice_get c.rows place (b, g) d at)

pub place_within : (c : CertificateModel) (b : BoardModel) (rows : Rows) (place : ℕ) → rows ≡ c.rows → HasRowAt c b place → place < length rows
place_within c b rows place same (g, at) = subst (λ (rs : Rows). place < length rs) (sym same) (slice_get_within c.rows place (b, g) at)

-- an answer that names the one place of a board's row, and the answer that there is none
pub found_one : (c : CertificateModel) (b : BoardModel) (at : ℕ) → HasRowAt c b at → ((p : ℕ) → HasRowAt c b p → p ≡ at) → (place : ℕ) → (Some at ≡ Some place) ↔ HasRowAt c b place
found_one c b at has once place = ((λ e. let same : at ≡ place = ap (λ (o : Option ℕ). unwrap_or o 0) e in subst (λ (p : ℕ). HasRowAt c b p) same has), (λ h. ap Some (sym (once place h))))

pub found_none : (c : CertificateModel) (b : BoardModel) → ((p : ℕ) → HasRowAt c b p → ⊥) → (place : ℕ) → ◌↔◌ (◌≡◌ {A = Option ℕ} None (Some place)) (HasRowAt c b place)
found_none c b none place = ((λ e. absurd (cc)), (λ h. absurd (none place h)))

leb_from_le : (a b : ℕ) → a ≤ b → leb a b ≡ true
leb_from_le a b le = ⊎_elim (λ (t : (leb a b ≡ true) × (a ≤ b)). t.0) (λ (f : (leb a b ≡ false) × (b < a)). let high = f.1 in absurd (omega (arith, le, high))) (leb_tells a b)

-- where a board has a row, it has one with at most this cost if that row has
pub row_within : (c : CertificateModel) → IsCertificate c → (b : BoardModel) (rows : Rows) (place : ℕ) (d : BoardModel × ℕ) (cost : ℕ) → rows ≡ c.rows → HasRowAt c b place → IsTrue (leb (get_or rows place d).1 cost) ↔ HasRow c.rows b cost
row_within c is b rows place d cost same (g, at) =
    let here : (get_or rows place d).1 ≡ g = ap (λ (rs : Rows). (get_or rs place d).1) same ∙ ap (λ (row : BoardModel × ℕ). row.1) (get_or_from_slice_get c.rows place (b, g) d at) in (
      (λ test. let low = leb-true (get_or rows place d).1 cost test in (g, contains_at c.rows place (b, g) at, omega (arith, low, here))),
      (λ h.
          let there = at_contains c.rows (b, h.0) h.1 in
          let one : there.0 ≡ place = one_row c is b place there.0 (g, at) (h.0, there.1) in
          let row : slice_get c.rows place ≡ Some (b, h.0) = subst (λ (p : ℕ). slice_get c.rows p ≡ Some (b, h.0)) one there.1 in
          let cost_is : g ≡ h.0 = ap (λ (o : Option (BoardModel × ℕ)). (unwrap_or o d).1) (sym at ∙ row) in
          leb_from_le (get_or rows place d).1 cost (omega (arith, here, cost_is, h.2))),
    )

pub no_row_within : (c : CertificateModel) (b : BoardModel) (cost : ℕ) → ((p : ℕ) → HasRowAt c b p → ⊥) → IsTrue false ↔ HasRow c.rows b cost
no_row_within c b cost none = ((λ e. absurd (true≢false (sym e))), (λ h. let there = at_contains c.rows (b, h.0) h.1 in absurd (none there.0 (h.0, there.1))))

-- ---- rows by their keys

-- where the row at a place has a board's key, the board has a row with at most this cost if that row has
pub reached_within : (c : CertificateModel) → IsCertificate c → (rows : Rows) (at : ℕ) (row : BoardModel × ℕ) (found key cost : ℕ) → rows ≡ c.rows → at < length rows → row ≡ get_or rows at row → found ≡ row_key row → found ≡ key → (b : BoardModel) → IsBoardOf c.grid b → key_of b ≡ key → IsTrue (leb row.1 cost) ↔ HasRow c.rows b cost
reached_within c is rows at row found key cost same within here value one b board named =
    let place : slice_get c.rows at ≡ Some row = row_here_at c rows at row same within here in
    let row_is = (row_at c is at row place).board in
    let board_is : row.0 ≡ b = same_board row.0 b row_is.board board.board (row_is.sides ∙ sym board.sides) (sym value ∙ one ∙ sym named) in
    let has : HasRowAt c b at = (row.1, subst (λ (x : BoardModel). slice_get c.rows at ≡ Some (x, row.1)) board_is place) in
    let cost_is : (get_or rows at row).1 ≡ row.1 = ap (λ (r : BoardModel × ℕ). r.1) (sym here) in
    subst (λ (n : ℕ). IsTrue (leb n cost) ↔ HasRow c.rows b cost) cost_is (row_within c is b rows at row cost same has)

-- where it has another key than the first that is not lower, the board has no row
pub reached_elsewhere : (c : CertificateModel) → IsCertificate c → (rows : Rows) (at : ℕ) (row : BoardModel × ℕ) (found key cost : ℕ) → rows ≡ c.rows → at < length rows → row ≡ get_or rows at row → found ≡ row_key row → (found ≡ key → ⊥) → IsPartitionPoint (λ row. row_key row < key) (λ row. key ≤ row_key row) c.rows at → (b : BoardModel) → IsBoardOf c.grid b → key_of b ≡ key → IsTrue (eqb found key) ↔ HasRow c.rows b cost
reached_elsewhere c is rows at row found key cost same within here value other parted b board named = (
  (λ e. absurd (other (eqb-true found key e))),
  (λ has. absurd (
      let there = at_contains c.rows (b, has.0) has.1 in
      let place = there.0 in
      let is_at : place ≡ at = found_by c is b c.rows key at refl (sym named) parted place (has.0, there.1) in
      let here' : slice_get c.rows at ≡ Some row = row_here_at c rows at row same within here in
      let one : row ≡ (b, has.0) = ap (λ (o : Option (BoardModel × ℕ)). unwrap_or o row) (sym here' ∙ subst (λ (p : ℕ). slice_get c.rows p ≡ Some (b, has.0)) is_at there.1) in
      other (value ∙ ap row_key one ∙ named))),
)

-- behind the last row no board has one
pub reached_behind : (c : CertificateModel) → IsCertificate c → (at key cost : ℕ) → length c.rows ≤ at → IsPartitionPoint (λ row. row_key row < key) (λ row. key ≤ row_key row) c.rows at → (b : BoardModel) → key_of b ≡ key → HasRow c.rows b cost → ⊥
reached_behind c is at key cost behind parted b named has =
    let there = at_contains c.rows (b, has.0) has.1 in
    let is_at : there.0 ≡ at = found_by c is b c.rows key at refl (sym named) parted there.0 (has.0, there.1) in
    let within = slice_get_within c.rows there.0 (b, has.0) there.1 in
    omega (arith, is_at, within, behind)

-- ---- where rows of lower keys end, among rows that rise by their keys

-- where a row has a lower key, so have those before it
pub lower_up_to : (rows : Rows) (key place : ℕ) (e : BoardModel × ℕ) (found : ℕ) → IsNonDecreasingBy row_key rows → place < length rows → found ≡ row_key (get_or rows place e) → found < key → AreLower rows key (place + 1)
lower_up_to rows key place e found sorted within is low k d less =
    let here : row_key (get_or rows place e) ≡ row_key (get_or rows place d) = ap row_key (get_or_default rows place e d within) in
    let below = sorted k place d (omega (arith, less)) within in
    omega (arith, here, below, low, is)

-- where a row's key is not lower, those behind it are not lower either
pub not_lower_from : (rows : Rows) (key place : ℕ) (e : BoardModel × ℕ) (found : ℕ) → IsNonDecreasingBy row_key rows → found ≡ row_key (get_or rows place e) → key ≤ found → AreNotLower rows key place
not_lower_from rows key place e found sorted is high k d from within =
    let here : row_key (get_or rows place e) ≡ row_key (get_or rows place d) = ap row_key (get_or_default rows place e d (omega (arith, from, within))) in
    let above = sorted place k d from within in
    omega (arith, here, above, high, is)

-- ---- what rows prove with sums they prove with greater ones, and folded tables give no greater ones

pub proved_above : (rule : WeightsModel) (rows : List (BoardModel × ℕ)) (low high : BoardModel → ℕ) (b goal : BoardModel) (k : ℕ) → IsBoard b → b.grid ≡ goal.grid → All (λ row. IsBoard row.0 × (row.0.grid ≡ goal.grid)) rows
    → ((r : BoardModel) → IsBoard r → r.grid ≡ goal.grid → low r ≤ high r) → Proves rule rows low b goal k → Proves rule rows high b goal k
proved_above rule rows low high b goal k board same boards above proves = record {
  start = ⊎_elim (λ (row : HasRow rows b 0). inl row) (λ (most : k ≤ low b). let more = above b board same in inr (omega (arith, most, more))) proves.start;
  no_goal = proves.no_goal;
  closed = λ r g within m r' c moves.
      let row = All-contains (λ (row : BoardModel × ℕ). IsBoard row.0 × (row.0.grid ≡ goal.grid)) rows (r, g) boards within in
      let more = above r' (moved_board rule r row.0 m r' c moves) (ap (λ (x : BoardModel). x.grid) moves.after ∙ row.1) in
      ⊎_elim (λ (most : k ≤ low r' + (g + c)). inl (omega (arith, most, more))) (λ (next : HasRow rows r' (g + c)). inr next) (proves.closed r g within m r' c moves);
}

-- what a folded table says of a board is no more than what the table says that it was folded from
pub folded_below : (table : TableModel) (fold : FoldedModel) (b : BoardModel) → IsFoldOf table fold → IsBoard b → IsGroup table.selection → table.selection.grid ≡ b.grid → value_for b fold ≤ value_in table (view_of table.selection.tiles b)
folded_below table fold b is board group sides =
    let tiles = table.selection.tiles in
    let view : IsView table.selection.grid tiles (view_of tiles b) = subst (λ (g : ShapeModel). IsView g tiles (view_of tiles b)) (sym sides) (board_view tiles b board (subst (λ (g : ShapeModel). AreGroupTiles g tiles) sides group.group)) in
    let low = (is.least (view_of tiles b) view).none_below (view_of tiles b) view refl in
    let at : value_for b fold ≡ folded_in fold (view_of tiles b) = ap (λ (s : GroupModel). folded_in fold (view_of s.tiles b)) is.selection in
    omega (arith, low, at)

-- ---- Boards that the successors of rows leave open, row by row and block by block.

-- ---- boards that the successors of rows leave open: what is known of a successor

-- what is known of the board that a move leads to: its key, the cost of the move, and its sum
pub record Reaches (rule : WeightsModel) (t : BoundModel) (b : BoardModel) (m : Move) (told : Successor) : Type 0 where
  pub next : BoardModel
  pub moves : Moves rule b m next told.cost
  pub key : key_of next ≡ told.key
  pub sum : told.sum ≡ sum_in t next

reaches_by : (rule : WeightsModel) (t : BoundModel) (b : BoardModel) (m : Move) (told : Successor) → IsBoard b → (moved : Option (BoardModel × ℕ)) → successor rule b m ≡ moved → Some told ≡ option_map (told_of (parts_of t) b) moved → Reaches rule t b m told
reaches_by rule t b m told board None is same = absurd (true≢false (ap is_some same))
reaches_by rule t b m told board (Some (next, k)) is same =
    let one : told ≡ told_of (parts_of t) b (next, k) = ap (λ (o : Option Successor). unwrap_or o told) same in
    let cost : told.cost ≡ k = ap (λ (s : Successor). s.cost) one in
    record {
      next = next;
      moves = subst (λ (n : ℕ). Moves rule b m next n) (sym cost) ((successor_moves rule b m next k board).0 is);
      key = sym (ap (λ (s : Successor). s.key) one);
      sum = ap (λ (s : Successor). s.sum) one;
    }

pub reaches : (rule : WeightsModel) (t : BoundModel) (b : BoardModel) (m : Move) (told : Successor) → IsBoard b → IsTold rule t b m (Some told) → Reaches rule t b m told
reaches rule t b m told board is = reaches_by rule t b m told board (successor rule b m) refl is

pub reaches_none : (rule : WeightsModel) (t : BoundModel) (b : BoardModel) (m : Move) → IsBoard b → IsTold rule t b m None → (next : BoardModel) (k : ℕ) → Moves rule b m next k → ⊥
reaches_none rule t b m board is next k moves =
    let there : successor rule b m ≡ Some (next, k) = (successor_moves rule b m next k board).1 moves in
    true≢false (sym (ap is_some (is ∙ ap (option_map (told_of (parts_of t) b)) there)))

-- a board that a move leads to is one of the same grid
pub reached_board : (grid : ShapeModel) (rule : WeightsModel) (b : BoardModel) (m : Move) (next : BoardModel) (k : ℕ) → IsBoardOf grid b → Moves rule b m next k → IsBoardOf grid next
reached_board grid rule b m next k is moves = record {
  board = moved_board rule b is.board m next k moves;
  sides = ap (λ (x : BoardModel). x.grid) moves.after ∙ is.sides;
}

-- ---- open successors

pub opens : (c : CertificateModel) (t : BoundModel) (row : BoardModel × ℕ) (m : Move) (next : BoardModel) (k : ℕ) → Moves c.costs row.0 m next k → sum_in t next + (row.1 + k) < c.cost → (r : Bool) → (IsTrue r ↔ HasRow c.rows next (row.1 + k)) → IsTrue (not r) ↔ LeavesOpen c t row m
opens c t row m next k moves low true test = (
  (λ e. absurd (true≢false (sym e))),
  (λ o.
      let one = one_move c.costs row.0 m next o.0 k o.1 moves o.2 in
      let has : HasRow c.rows o.0 (row.1 + o.1) = subst (λ (x : BoardModel). HasRow c.rows x (row.1 + o.1)) (sym one.0) (subst (λ (n : ℕ). HasRow c.rows next (row.1 + n)) (sym one.1) (test.0 refl)) in
      absurd (o.4 has)),
)
opens c t row m next k moves low false test = ((λ e. (next, k, moves, low, (λ has. true≢false (sym (test.1 has))))), (λ o. refl))

pub opens_not : (c : CertificateModel) (t : BoundModel) (row : BoardModel × ℕ) (m : Move) (next : BoardModel) (k : ℕ) → Moves c.costs row.0 m next k → c.cost ≤ sum_in t next + (row.1 + k) → IsTrue false ↔ LeavesOpen c t row m
opens_not c t row m next k moves high = (
  (λ e. absurd (true≢false (sym e))),
  (λ o.
      let one = one_move c.costs row.0 m next o.0 k o.1 moves o.2 in
      let there : sum_in t o.0 ≡ sum_in t next = ap (sum_in t) one.0 in
      let low = o.3 in
      absurd (omega (arith, low, high, there, one.1))),
)

pub opens_never : (c : CertificateModel) (t : BoundModel) (row : BoardModel × ℕ) (m : Move) → ((next : BoardModel) (k : ℕ) → Moves c.costs row.0 m next k → ⊥) → IsTrue false ↔ LeavesOpen c t row m
opens_never c t row m edge = ((λ e. absurd (true≢false (sym e))), (λ o. absurd (edge o.0 o.1 o.2)))

-- ---- by what is known of a successor

pub leaves_none : (c : CertificateModel) (t : BoundModel) (row : BoardModel × ℕ) (m : Move) → IsBoardOf c.grid row.0 → IsTold c.costs t row.0 m None → IsTrue false ↔ LeavesOpen c t row m
leaves_none c t row m is told = opens_never c t row m (reaches_none c.costs t row.0 m is.board told)

pub leaves_dear : (c : CertificateModel) (t : BoundModel) (row : BoardModel × ℕ) (m : Move) (told : Successor) (cost : ℕ) → IsBoardOf c.grid row.0 → IsTold c.costs t row.0 m (Some told) → cost ≡ c.cost → cost ≤ told.sum + (row.1 + told.cost) → IsTrue false ↔ LeavesOpen c t row m
leaves_dear c t row m told cost is by same high =
    let r = reaches c.costs t row.0 m told is.board by in
    let sum = r.sum in
    opens_not c t row m r.next told.cost r.moves (omega (arith, high, same, sum))

pub leaves_by : (c : CertificateModel) (t : BoundModel) (row : BoardModel × ℕ) (m : Move) (told : Successor) (cost : ℕ) → IsBoardOf c.grid row.0 → IsTold c.costs t row.0 m (Some told) → cost ≡ c.cost → told.sum + (row.1 + told.cost) < cost → (has : Bool) → ((b : BoardModel) → IsBoardOf c.grid b → key_of b ≡ told.key → IsTrue has ↔ HasRow c.rows b (row.1 + told.cost)) → IsTrue (not has) ↔ LeavesOpen c t row m
leaves_by c t row m told cost is by same low has test =
    let r = reaches c.costs t row.0 m told is.board by in
    let sum = r.sum in
    opens c t row m r.next told.cost r.moves (omega (arith, low, same, sum)) has (test r.next (reached_board c.grid c.costs row.0 m r.next told.cost is r.moves) r.key)

-- what is known of the successors by the four moves, each at its place
told_of_all : (rule : WeightsModel) (t : BoundModel) (b : BoardModel) (i : ℕ) → i < 4 → IsTold rule t b (get_or all_moves i U) (get_or (successors_of rule (parts_of t) b) i None)
told_of_all rule t b zero low = refl
told_of_all rule t b (suc zero) low = refl
told_of_all rule t b (suc (suc zero)) low = refl
told_of_all rule t b (suc (suc (suc zero))) low = refl
told_of_all rule t b (suc (suc (suc (suc i)))) low = absurd (omega (arith, low))

pub told_at : (rule rule' : WeightsModel) (t : BoundModel) (b b' : BoardModel) (i : ℕ) → i < 4 → (told : List (Option Successor)) → told ≡ successors_of rule' (parts_of t) b' → rule' ≡ rule → b' ≡ b → IsTold rule t b (get_or all_moves i U) (get_or told i None)
told_at rule rule' t b b' i low told is same_rule same = subst (λ (list : List (Option Successor)). IsTold rule t b (get_or all_moves i U) (get_or list i None)) (sym (is ∙ (λ j. successors_of (same_rule j) (parts_of t) (same j)))) (told_of_all rule t b i low)

pub number_at : (i : ℕ) → i < 4 → number_of (get_or (U ∷ L ∷ R ∷ D ∷ []) i U) ≡ i
number_at zero low = refl
number_at (suc zero) low = refl
number_at (suc (suc zero)) low = refl
number_at (suc (suc (suc zero))) low = refl
number_at (suc (suc (suc (suc i)))) low = absurd (omega (arith, low))

pub number_low : (m : Move) → number_of m < 4
number_low U = omega arith
number_low L = omega arith
number_low R = omega arith
number_low D = omega arith

pub same_move : (m m' : Move) → number_of m ≡ number_of m' → m ≡ m'
same_move m m' e = (moves_Decide m m').0 (eq-eqb (number_of m) (number_of m') e)

-- one move more, in their order
pub one_move_more : (c : CertificateModel) (t : BoundModel) (place i : ℕ) → i < 4 → ((m : Move) → number_of m < i → LeavesOpenAt c t place m → ⊥) → (LeavesOpenAt c t place (get_or (U ∷ L ∷ R ∷ D ∷ []) i U) → ⊥) → (m : Move) → number_of m < i + 1 → LeavesOpenAt c t place m → ⊥
one_move_more c t place i low before here m less open_here =
    ⊎_elim (λ (l : number_of m < i). before m l open_here)
    (λ (le : i ≤ number_of m).
    let at : Move = get_or (U ∷ L ∷ R ∷ D ∷ []) i U in
    let number : number_of at ≡ i = number_at i low in
    let same : m ≡ at = same_move m at (omega (arith, number, le, less)) in
    here (subst (LeavesOpenAt c t place) same open_here))
    (cases_lt (number_of m) i)

-- what is left open from the row at a place is left open from that row
pub row_again : (c : CertificateModel) (t : BoundModel) (p place : ℕ) (row : BoardModel × ℕ) (m : Move) → p ≡ place → slice_get c.rows place ≡ Some row → LeavesOpenAt c t p m → LeavesOpen c t row m
row_again c t p place row m same at o =
    let there : slice_get c.rows place ≡ Some o.0 = subst (λ (k : ℕ). slice_get c.rows k ≡ Some o.0) same o.1 in
    let one : o.0 ≡ row = ap (λ (x : Option (BoardModel × ℕ)). unwrap_or x row) (sym there ∙ at) in
    subst (λ (r : BoardModel × ℕ). LeavesOpen c t r m) one o.2

-- the first open successor of a row is the first of all where the rows before have none
pub first_here : (c : CertificateModel) (t : BoundModel) (place : ℕ) (m : Move) → LeavesOpenAt c t place m → ((m' : Move) → number_of m' < number_of m → LeavesOpenAt c t place m' → ⊥) → AreClosed c t 0 place → IsFirstOpen c t place m
first_here c t place m opened first before = (opened, earlier)
  where
    earlier : (p : ℕ) (m' : Move) → Precedes (p ∷ number_of m' ∷ []) (place ∷ number_of m ∷ []) → LeavesOpenAt c t p m' → ⊥
    earlier p m' (inl l) o = before p m' (omega arith) l o
    earlier p m' (inr (same, inl l)) o = first m' l (subst (λ (k : ℕ). LeavesOpenAt c t k m') same o)
    earlier p m' (inr (same, inr e)) o = e.1

-- one row more
pub closed_more : (c : CertificateModel) (t : BoundModel) (from place : ℕ) → AreClosed c t from place → ((m : Move) → LeavesOpenAt c t place m → ⊥) → AreClosed c t from (place + 1)
closed_more c t from place before here p m low less o =
    ⊎_elim (λ (l : p < place). before p m low l o) (λ (le : place ≤ p). let same : p ≡ place = omega (arith, le, less) in here m (subst (λ (k : ℕ). LeavesOpenAt c t k m) same o)) (cases_lt p place)

-- rows are not closed where one of them leaves a board open
pub not_closed_there : (c : CertificateModel) (t : BoundModel) (from end place : ℕ) → from ≤ place → place < end → (found : Option Move) → IfSome found (LeavesOpenAt c t place) → is_some found ≡ true → AreClosed c t from end → ⊥
not_closed_there c t from end place low less None opened some closed = true≢false (sym some)
not_closed_there c t from end place low less (Some m) opened some closed = closed place m low less opened

-- where all rows are closed, no row leaves a board open
pub all_closed : (c : CertificateModel) (t : BoundModel) (end : ℕ) → length c.rows ≤ end → AreClosed c t 0 end → (place : ℕ) (m : Move) → LeavesOpenAt c t place m → ⊥
all_closed c t end all closed place m o = let within = slice_get_within c.rows place o.0 o.1 in closed place m (omega arith) (omega (arith, within, all)) o

-- behind the last row nothing is left open
pub closed_behind : (c : CertificateModel) (t : BoundModel) (from end further : ℕ) → length c.rows ≤ end → AreClosed c t from end → AreClosed c t from further
closed_behind c t from end further all closed p m low less o = let within = slice_get_within c.rows p o.0 o.1 in closed p m low (omega (arith, within, all)) o

-- fewer rows are closed where more are
pub closed_less : (c : CertificateModel) (t : BoundModel) (from end further : ℕ) → end ≤ further → AreClosed c t from further → AreClosed c t from end
closed_less c t from end further all closed p m low less o = closed p m low (omega (arith, less, all)) o

-- ---- blocks of rows that leave no board open: the first place at which a test doesn't fail

-- P holds of the places from a on: of those before the one found, or of the next n where none is found
abbrev HoldsBefore : (ℕ → Type 0) → ℕ → ℕ → Option ℕ → Type 0
HoldsBefore P a n None = (k : ℕ) → a ≤ k → k < a + n → P k
HoldsBefore P a n (Some i) = (a ≤ i) × (i < a + n) × ((k : ℕ) → a ≤ k → k < i → P k)

one_before : (P : ℕ → Type 0) (a n : ℕ) → P a → (found : Option ℕ) → HoldsBefore P (a + 1) n found → HoldsBefore P a (suc n) found
one_before P a n here None later = λ k low high. elim (cases_lt a k) [
  | inl above ↦ later k (omega arith) (omega arith)
  | inr below ↦ (let same : a ≡ k = omega arith in subst P same here)
]
one_before P a n here (Some i) later = let l1 = later.0 in let l2 = later.1 in (
  omega arith,
  omega arith,
  λ k low high. elim (cases_lt a k) [
    | inl above ↦ later.2 k (omega arith) high
    | inr below ↦ (let same : a ≡ k = omega arith in subst P same here)
  ],
)

holds_before : (P : ℕ → Type 0) (a n : ℕ) (bs : List Bool) → AllZip (λ k b. b ≡ false → P k) (range_with_len a n) bs → HoldsBefore P a n (slice_get (filter_by_mask (range_with_len a n) bs) 0)
holds_before P a zero bs answers = λ k low high. absurd (omega arith)
holds_before P a (suc n) [] answers = absurd answers
holds_before P a (suc n) (true ∷ bs) answers = (omega arith, omega arith, λ k low high. absurd (omega arith))
holds_before P a (suc n) (false ∷ bs) answers = one_before P a n (answers.0 refl) (slice_get (filter_by_mask (range_with_len (a + 1) n) bs) 0) (holds_before P (a + 1) n bs answers.1)

-- P holds of the places below the one found, or of those below n where none is found
abbrev pub HoldsBelow : (ℕ → Type 0) → ℕ → Option ℕ → Type 0
HoldsBelow P n None = (k : ℕ) → k < n → P k
HoldsBelow P n (Some i) = (i < n) × ((k : ℕ) → k < i → P k)

from_0 : (P : ℕ → Type 0) (n : ℕ) (found : Option ℕ) → HoldsBefore P 0 n found → HoldsBelow P n found
from_0 P n None before = λ k high. before k (omega arith) (omega arith)
from_0 P n (Some i) before = let within = before.1 in (omega arith, λ k high. before.2 k (omega arith) high)

-- the same as a search of the places below n gives it
found_before : (P : ℕ → Type 0) (start end n : ℕ) → start ≡ 0 → end ≡ n → (places : List ℕ) (bs : List Bool) → places ≡ range_with_len start (end - start) → AllZip (λ k b. (p : Bor ℕ) × (p.now ≡ k) × (b ≡ false → P p.now)) places bs → (found : Option ℕ) → found ≡ slice_get (filter_by_mask places bs) 0 → HoldsBelow P n found
found_before P start end n first last places bs listed answers found is =
    let count : end - start ≡ n = omega arith in
    let range : places ≡ range_with_len 0 n = listed ∙ (λ i. range_with_len (first i) (count i)) in
    let tested : AllZip (λ k b. b ≡ false → P k) places bs = AllZip-weaken (λ k b. (p : Bor ℕ) × (p.now ≡ k) × (b ≡ false → P p.now)) (λ k b. b ≡ false → P k) (λ k b test. subst (λ (j : ℕ). b ≡ false → P j) test.1 test.2) places bs answers in
    from_0 P n found (subst (HoldsBefore P 0 n) (sym (is ∙ ap (λ (ks : List ℕ). slice_get (filter_by_mask ks bs) 0) range)) (holds_before P 0 n bs (subst (λ (ks : List ℕ). AllZip (λ k b. b ≡ false → P k) ks bs) range tested)))

-- ---- blocks

-- the rows of the first blocks leave no board open where none of these blocks does
pub closed_blocks : (c : CertificateModel) (t : BoundModel) (n : ℕ) → ((k : ℕ) → k < n → IsClosedBlock c t k) → AreClosed c t 0 (n * BLOCK_ROWS)
closed_blocks c t zero all p m low less = absurd (omega (arith, less))
closed_blocks c t (suc n) all p m low less =
    ⊎_elim (λ (l : p < n * BLOCK_ROWS). closed_blocks c t n (λ k high. all k (omega (arith, high))) p m low l)
    (λ (le : n * BLOCK_ROWS ≤ p). all n (omega arith) p m le (omega (arith, less)))
    (cases_lt p (n * BLOCK_ROWS))

-- where each of these blocks is closed, all rows are: each row is in one of them
pub closed_by_blocks : (c : CertificateModel) (t : BoundModel) → ((k : ℕ) → k < length c.rows / BLOCK_ROWS + 1 → IsClosedBlock c t k) → AreClosed c t 0 (length c.rows)
closed_by_blocks c t all =
    let most = lt-div-mul-add {a = length c.rows} {b = BLOCK_ROWS} (omega arith) in
    closed_less c t 0 (length c.rows) ((length c.rows / BLOCK_ROWS + 1) * BLOCK_ROWS) (omega (arith, most)) (closed_blocks c t (length c.rows / BLOCK_ROWS + 1) all)

-- a block begins at a row, or where the last one ends
pub begins_within : (count block : ℕ) → block < count / BLOCK_ROWS + 1 → block * BLOCK_ROWS ≤ count
begins_within count block low = (le-div_iff_mul-le {k = BLOCK_ROWS} {x = block} {y = count} (omega arith)).0 (omega (arith, low))

-- a block is closed where the rows that it has are closed
closed_rows : (c : CertificateModel) (t : BoundModel) (block count : ℕ) → count ≡ BLOCK_ROWS ⊎ (length c.rows ≤ block * BLOCK_ROWS + count) → count ≤ BLOCK_ROWS → AreClosed c t (block * BLOCK_ROWS) (block * BLOCK_ROWS + count) ↔ IsClosedBlock c t block
closed_rows c t block count full few = (
  (λ closed.
      ⊎_elim (λ (e : count ≡ BLOCK_ROWS). subst (λ (k : ℕ). AreClosed c t (block * BLOCK_ROWS) (block * BLOCK_ROWS + k)) e closed)
      (λ (all : length c.rows ≤ block * BLOCK_ROWS + count). closed_behind c t (block * BLOCK_ROWS) (block * BLOCK_ROWS + count) (block * BLOCK_ROWS + BLOCK_ROWS) all closed)
      full),
  (λ closed. closed_less c t (block * BLOCK_ROWS) (block * BLOCK_ROWS + count) (block * BLOCK_ROWS + BLOCK_ROWS) (omega (arith, few)) closed),
)

pub closed_block : (c : CertificateModel) (t : BoundModel) (block count len : ℕ) → len ≡ length c.rows → block * BLOCK_ROWS ≤ length c.rows → count ≡ min BLOCK_ROWS (len - block * BLOCK_ROWS) → AreClosed c t (block * BLOCK_ROWS) (block * BLOCK_ROWS + count) ↔ IsClosedBlock c t block
closed_block c t block count len same within is =
    closed_rows c t block count
    (⊎_elim (λ (l : len - block * BLOCK_ROWS < BLOCK_ROWS). inr (omega (arith, l, is, within, same))) (λ (le : BLOCK_ROWS ≤ len - block * BLOCK_ROWS). inl (omega (arith, le, is))) (cases_lt (len - block * BLOCK_ROWS) BLOCK_ROWS))
    (omega (arith, is))

-- ---- what a search of all blocks tells

-- all rows are in the blocks below the end of a range
pub last_block : (c : CertificateModel) (rows : List (BoardModel × ℕ)) (end : ℕ) → rows ≡ c.rows → end ≡ length rows / BLOCK_ROWS + 1 → end ≡ length c.rows / BLOCK_ROWS + 1
last_block c rows end same is = is ∙ ap (λ (rs : List (BoardModel × ℕ)). length rs / BLOCK_ROWS + 1) same

-- the blocks before the one found leave no board open, or all of them where none is found
pub blocks_before : (c : CertificateModel) (t : BoundModel) (start end : ℕ) → start ≡ 0 → end ≡ length c.rows / BLOCK_ROWS + 1 → (places : List ℕ) (bs : List Bool) → places ≡ range_with_len start (end - start) → AllZip (λ k b. (p : Bor ℕ) × (p.now ≡ k) × (b ≡ false → IsClosedBlock c t p.now)) places bs → (result found : Option ℕ) → result ≡ slice_get (filter_by_mask places bs) 0 → result ≡ found → HoldsBelow (IsClosedBlock c t) (length c.rows / BLOCK_ROWS + 1) found
blocks_before c t start end first last places bs listed answers result found is same = subst (HoldsBelow (IsClosedBlock c t) (length c.rows / BLOCK_ROWS + 1)) same (found_before (IsClosedBlock c t) start end (length c.rows / BLOCK_ROWS + 1) first last places bs listed answers result is)
