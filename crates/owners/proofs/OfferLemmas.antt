-- What the moves from a board offer.
use Rattle.std.proofs.Common.{◌≡◌, ℕ, zero, suc, ◌+◌, ◌<◌, List, [], ◌∷◌, length, get_or, drop, Option, Some, None, refl, ap, ◌∙◌, arith, ⊎_elim, true, false, slice_index, subst, sym}
use Rattle.std.specs.Prelude.{IfSome, sum_by, option_map}
use Rattle.std.proofs.lemmas.Bool.{cases_Bool, cond-true, cond-false}
use Rattle.board.specs.declared.moves.Move.{Move}
use Rattle.board.specs.declared.moves.Move.TheVariants.{U, L, R, D}
use Rattle.board.specs.Weights.{WeightsModel, weight_of}
use Rattle.board.specs.Shapes.{ShapeModel, cell_count}
use Rattle.board.specs.Neighbours.{LiesTowards, neighbour}
use Rattle.board.specs.Moves.{successor_at, blank_exchange}
use Rattle.board.specs.Boards.{BoardModel, IsBoard, blank_of}
use Rattle.board.proofs.MoveLemmas.{blank_after, cell_below, exchange_board}
use Rattle.board.proofs.NeighbourLemmas.{neighbour_lies}
use Rattle.board.proofs.StepLemmas.{blank_stands}
use Rattle.search_keys.specs.SearchKeys.{search_key}
use Rattle.owners.specs.Slides.{IsMoved}
use Rattle.world_model.specs.declared.parts.Item.{Item}
use Rattle.lower_bound.specs.Slides.{IsMoveOf}
use Rattle.successor_sums.specs.ByMoves.{ByMovesModel, OfFour, before, entries_of, of_move}
use Rattle.successor_sums.specs.Unpacked.{is_left_out, but}
use Rattle.successor_sums.proofs.EntryLemmas.{absent_too, exits_of, found, led_by, of_four_by}
use Rattle.owners.specs.declared.offer.Offer.{Offer}
use Rattle.owners.specs.Offers.{Offers, item_by, AreOffered, IsOffered}
use Rattle.std.proofs.lemmas.List.{drop_more}
use Rattle.std.proofs.lemmas.List.Sums.{sum_by-cons, sum_by-drop_more}
use Rattle.owners.specs.Room.{go, goes}

-- ---- one move, which takes the blank to a cell beside it
module _ (b : BoardModel) (m : Move) (to : ℕ) (board : IsBoard b) (beside : neighbour b.grid m (blank_of b) ≡ Some to) where
  lies : LiesTowards b.grid m (blank_of b) to
  lies = (neighbour_lies b.grid m (blank_of b) to (blank_stands b board).0).0 beside

  pub below : to < cell_count b.grid
  below = cell_below b.grid m (blank_of b) to lies

  pub board_after : IsBoard (blank_exchange b to)
  board_after = exchange_board b (blank_of b) to board (blank_stands b board).0 below

  -- it moves the tile on that cell
  pub is_move : (rule : WeightsModel) (tile : ℕ) → tile ≡ slice_index b.tiles to → IsMoveOf tile b (blank_exchange b to)
  is_move rule tile is = record {
    rule = rule;
    direction = m;
    cost = weight_of rule (slice_index b.tiles to);
    moves = record { cell = to; towards = lies; after = refl; cost = refl };
    moved = is ∙ sym (ap (slice_index b.tiles) (blank_after b board to below));
  }

  -- which slides onto the blank's cell
  pub is_moved : (shape : ShapeModel) (blank tile key : ℕ) → shape ≡ b.grid → blank ≡ blank_of b → tile ≡ slice_index b.tiles to → 0 < tile → key ≡ search_key (blank_exchange b to) → IsMoved b (record { shape = shape; key = key; slide = record { tile = tile; from = to; to = blank } })
  is_moved shape blank tile key sides at is some packed = record {
    slide = record {
      board = board;
      sides = sym sides;
      within = subst (λ (g : ShapeModel). to < cell_count g) (sym sides) below;
      tile = sym is;
      some = some;
      blank = sym at;
    };
    key = record { board = board_after; sides = sym sides; packed = sym packed };
  }

  -- an offer of the board to which it leads
  pub is_offered : (rule : WeightsModel) (cost : ℕ) (sum owner : BoardModel → ℕ) (offer : Offer) → offer.key ≡ search_key (blank_exchange b to) → offer.cost ≡ cost + weight_of rule (slice_index b.tiles to) → offer.f ≡ cost + weight_of rule (slice_index b.tiles to) + sum (blank_exchange b to) → offer.owner ≡ owner (blank_exchange b to) → IsOffered sum owner (item_by rule b cost m) (Some offer)
  is_offered rule cost sum owner offer key reached f owned = rw beside (record { key = key; cost = reached; adds = f; owned = owned })

-- ---- all moves

-- the item of a move by the cell to which the blank goes
abbrev item_at : WeightsModel → BoardModel → ℕ → Move → Option ℕ → Option Item
item_at rule b cost m to = option_map (λ next. record { board = next.0; cost = cost + next.1; via = m }) (option_map (successor_at rule b) to)

-- offers by just the moves that lead to a cell are those of all moves without the one that is left out
pub all_offered : (rule : WeightsModel) (left_out : Option Move) (b : BoardModel) (cost : ℕ) (sum owner : BoardModel → ℕ) (exits : ByMovesModel ℕ) (offers : Offers) → exits ≡ exits_of left_out b → length (entries_of offers) ≡ length (entries_of exits) → ((j : ℕ) (d : Move × Offer) (e : Move × ℕ) → j < length (entries_of exits) → (get_or (entries_of offers) j d).0 ≡ (get_or (entries_of exits) j e).0) → ((j : ℕ) (d : Move × Offer) → j < length (entries_of exits) → IsOffered sum owner (item_by rule b cost (get_or (entries_of offers) j d).0) (Some (get_or (entries_of offers) j d).1)) → AreOffered sum owner (but left_out (item_by rule b cost)) offers
all_offered rule left_out b cost sum owner exits offers is all moves offered = record { up = one U; left = one L; right = one R; down = one D }
  where
    nothing : IsOffered sum owner None None
    nothing = tt

    none : (m : Move) → of_move exits m ≡ None → IsOffered sum owner (but left_out (item_by rule b cost) m) None
    none m absent =
        let at : but left_out (λ k. neighbour b.grid k (blank_of b)) m ≡ None = sym (of_four_by (but left_out (λ k. neighbour b.grid k (blank_of b))) m) ∙ ap (λ (four : ByMovesModel ℕ). of_move four m) (sym is) ∙ absent in
        ⊎_elim
        (λ (out : is_left_out left_out m ≡ true). subst (λ (item : Option Item). IsOffered sum owner item None) (sym (cond-true _ _ _ out)) nothing)
        (λ (stays : is_left_out left_out m ≡ false).
        let off : neighbour b.grid m (blank_of b) ≡ None = sym (cond-false _ _ _ stays) ∙ at in
        let no_item : None ≡ item_by rule b cost m = ap (item_at rule b cost m) (sym off) in
        subst (λ (item : Option Item). IsOffered sum owner item None) (no_item ∙ sym (cond-false _ _ _ stays)) nothing)
        (cases_Bool (is_left_out left_out m))

    by : (m : Move) (o : Option Offer) → of_move offers m ≡ o → IsOffered sum owner (but left_out (item_by rule b cost) m) o
    by m None absent = none m (absent_too exits offers all moves m absent)
    by m (Some offer) at =
        let place = found offers m offer at in
        let there = place.2 (m, offer) in
        let low = place.1 in
        let within : place.0 < length (entries_of exits) = omega (arith, low, all) in
        let here : IsOffered sum owner (item_by rule b cost m) (Some offer) = subst (λ (e : Move × Offer). IsOffered sum owner (item_by rule b cost e.0) (Some e.1)) there (offered place.0 (m, offer) within) in
        subst (λ (item : Option Item). IsOffered sum owner item (Some offer)) (sym (cond-false _ _ _ (stays place.0 within (λ e. sym (moves place.0 (m, offer) e within) ∙ ap (λ (x : Move × Offer). x.0) there)))) here
      where
        stays : (j : ℕ) → j < length (entries_of exits) → ((e : Move × ℕ) → (get_or (entries_of exits) j e).0 ≡ m) → is_left_out left_out m ≡ false
        stays j within same =
            let e : Move × ℕ = (m, 0) in
            subst (λ (k : Move). is_left_out left_out k ≡ false) (same e) (led_by left_out b exits is j e within).0

    one : (m : Move) → IsOffered sum owner (but left_out (item_by rule b cost) m) (of_move offers m)
    one m = by m (of_move offers m) refl

-- ---- Entries of four options: what is said of each, and sums over them.

-- ---- what is said of each

-- what holds of a move with its value, and of the other entries, holds of each entry
before_has : {A : Type 0} (P : Move × A → Type 0) (d : Move × A) (m : Move) (item : Option A) (others : List (Move × A)) → ((x : A) → item ≡ Some x → P (m, x)) → ((i : ℕ) → i < length others → P (get_or others i d)) → (i : ℕ) → i < length (before m item others) → P (get_or (before m item others) i d)
before_has P d m None others here there i within = there i within
before_has P d m (Some x) others here there zero within = here x refl
before_has P d m (Some x) others here there (suc i) within = there i (omega (arith, within))

-- and the other way round
before_gives : {A : Type 0} (P : A → Type 0) (d : Move × A) (m : Move) (item : Option A) (others : List (Move × A)) → ((i : ℕ) → i < length (before m item others) → P (get_or (before m item others) i d).1) → IfSome item P × ((i : ℕ) → i < length others → P (get_or others i d).1)
before_gives P d m None others all = (tt, all)
before_gives P d m (Some x) others all = (all 0 (omega arith), λ i within. all (suc i) (omega (arith, within)))

module _ {A : Type 0} (four : ByMovesModel A) (d : Move × A) where
  -- each entry has the value of its move
  pub entry_is : (i : ℕ) → i < length (entries_of four) → of_move four (get_or (entries_of four) i d).0 ≡ Some (get_or (entries_of four) i d).1
  entry_is =
      let P = λ (e : Move × A). of_move four e.0 ≡ Some e.1 in
      before_has P d U four.up _ (λ x is. is) (
      before_has P d L four.left _ (λ x is. is) (
      before_has P d R four.right _ (λ x is. is) (
      before_has P d D four.down [] (λ x is. is) (λ i within. absurd (omega (arith, within))))))

  -- what holds of each entry holds of what is there
  pub entries_give : (P : A → Type 0) → ((i : ℕ) → i < length (entries_of four) → P (get_or (entries_of four) i d).1) → OfFour P four
  entries_give P all =
      let up = before_gives P d U four.up _ all in
      let left = before_gives P d L four.left _ up.1 in
      let right = before_gives P d R four.right _ left.1 in
      let down = before_gives P d D four.down [] right.1 in
      (up.0, left.0, right.0, down.0)

-- what is left of the entries begins with one, and goes on with what is left after it
pub entries_on : {A : Type 0} (four : ByMovesModel A) (i : ℕ) (entry : Move × A) → ((d : Move × A) → get_or (entries_of four) i d ≡ entry) → i < length (entries_of four) → drop i (entries_of four) ≡ entry ∷ drop (i + 1) (entries_of four)
entries_on {A = A} four i entry is within =
    drop_more (entries_of four) i entry within ∙ ap (λ (e : Move × A). e ∷ drop (i + 1) (entries_of four)) (is entry)

-- what holds of the values that are there holds of the value of a move
pub of_one : {A : Type 0} (P : A → Type 0) (four : ByMovesModel A) (m : Move) → OfFour P four → IfSome (of_move four m) P
of_one P four U all = all.0
of_one P four L all = all.1
of_one P four R all = all.2
of_one P four D all = all.3

-- ---- sums

-- how many items of an entry go from worker `me` to another, `to`
abbrev pub entry_goes : ℕ → ℕ → Move × Offer → ℕ
entry_goes me to entry = goes me to (Some entry.1)

sum_before : (me to : ℕ) (m : Move) (item : Option Offer) (others : List (Move × Offer)) → sum_by (entry_goes me to) (before m item others) ≡ goes me to item + sum_by (entry_goes me to) others
sum_before me to m None others = omega arith
sum_before me to m (Some x) others = sum_by-cons (entry_goes me to) (m, x) others

-- as many go of the entries as of all four
pub sum_entries : (me to : ℕ) (offers : Offers) → sum_by (entry_goes me to) (entries_of offers) ≡ go me to offers
sum_entries me to offers =
    let up = sum_before me to U offers.up (before L offers.left (before R offers.right (before D offers.down []))) in
    let left = sum_before me to L offers.left (before R offers.right (before D offers.down [])) in
    let right = sum_before me to R offers.right (before D offers.down []) in
    let down = sum_before me to D offers.down [] in
    omega (arith, up, left, right, down)

-- one entry on
pub sum_on : (me to : ℕ) (offers : Offers) (i : ℕ) (entry : Move × Offer) → ((d : Move × Offer) → get_or (entries_of offers) i d ≡ entry) → i < length (entries_of offers) → sum_by (entry_goes me to) (drop i (entries_of offers)) ≡ entry_goes me to entry + sum_by (entry_goes me to) (drop (i + 1) (entries_of offers))
sum_on me to offers i entry is within =
    sum_by-drop_more (entry_goes me to) (entries_of offers) i entry within ∙ ap (λ (e : Move × Offer). entry_goes me to e + sum_by (entry_goes me to) (drop (i + 1) (entries_of offers))) (is entry)
