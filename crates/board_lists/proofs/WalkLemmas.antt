-- Moves that lead on, and the walks that they make.
use Rattle.std.proofs.Common.{◌≡◌, ℕ, zero, suc, ◌+◌, ◌<◌, ◌≤◌, cond, Bool, true, false, not, List, [], ◌∷◌, ◌++◌, length, refl, sym, ap, subst, ◌∙◌, arith, eqb, ◌-◌}
use Rattle.std.specs.Prelude.{◌≢◌, IsPermutation, All, Option, None, Some, ◌&&◌, is_some, slice_index_or}
use Rattle.std.proofs.lemmas.Bool.{false≢true, ne_eqb}
use Rattle.std.proofs.lemmas.List.{length_push}
use Rattle.std.proofs.lemmas.List.Elements.{All-from_get_or}
use Rattle.std.proofs.lemmas.List.Sorted.{All-permutation, IsPermutation-sym, length_permutation}
use Rattle.board.specs.declared.moves.Move.{Move}
use Rattle.board.specs.declared.moves.Move.TheVariants.{U, L, R, D}
use Rattle.board.specs.Shapes.{ShapeModel, IsShape, row_of, column_of}
use Rattle.board.specs.Equality.{moves_Decide}
use Rattle.board.specs.Neighbours.{LiesTowards, neighbour, opposite}
use Rattle.board.specs.Boards.{BoardModel, IsBoard, blank_of}
use Rattle.board.specs.Classes.{SameClass, taxicab}
use Rattle.board.specs.Weights.{WeightsModel, unit_rule}
use Rattle.board.specs.Moves.{Moves, all_moves}
use Rattle.board.specs.Plans.{Leads}
use Rattle.board.proofs.MoveLemmas.{cell_below, blank_after, moved_board, taken_back}
use Rattle.board.proofs.PlanLemmas.{one_more, led_board}
use Rattle.board.proofs.ClassLemmas.{same_class_led}
use Rattle.board_lists.specs.Classes.{IsOfClass}
use Rattle.board_lists.specs.Laws.{NoMoveIsTakenBack}
use Rattle.board_lists.specs.Walks.{IsNotBack, TakesNoneBack, IsWalkedTo}
use Rattle.board_lists.specs.Walks.{takes_back, leads_on}

-- ---- a move that leads on

-- there is a neighbour below in the top row, and above in every other
up_or_down : (grid : ShapeModel) (cell : ℕ) → IsShape grid → (is_some (neighbour grid U cell) ≡ false) → is_some (neighbour grid D cell) ≡ true
up_or_down grid cell sides none = by_rows (row_of grid cell) grid.rows sides.rows_low none
  where
    by_rows : (row rows : ℕ) → 2 ≤ rows → is_some (cond (eqb row 0) None (Some (cell - grid.cols))) ≡ false → is_some (cond (eqb (row + 1) rows) None (Some (cell + grid.cols))) ≡ true
    by_rows zero rows low none = rw (ne_eqb (0 + 1) rows (omega arith)) refl
    by_rows (suc row) rows low none =
        let there : is_some (cond (eqb (suc row) 0) None (Some (cell - grid.cols))) ≡ true = rw (ne_eqb (suc row) 0 (omega arith)) refl in
        absurd (false≢true (sym none ∙ there))

left_or_right : (grid : ShapeModel) (cell : ℕ) → IsShape grid → (is_some (neighbour grid L cell) ≡ false) → is_some (neighbour grid R cell) ≡ true
left_or_right grid cell sides none = by_cols (column_of grid cell) grid.cols sides.cols_low none
  where
    by_cols : (col cols : ℕ) → 2 ≤ cols → is_some (cond (eqb col 0) None (Some (cell - 1))) ≡ false → is_some (cond (eqb (col + 1) cols) None (Some (cell + 1))) ≡ true
    by_cols zero cols low none = rw (ne_eqb (0 + 1) cols (omega arith)) refl
    by_cols (suc col) cols low none =
        let there : is_some (cond (eqb (suc col) 0) None (Some (cell - 1))) ≡ true = rw (ne_eqb (suc col) 0 (omega arith)) refl in
        absurd (false≢true (sym none ∙ there))

-- one of two ways is there
free : (u d : Bool) → (u ≡ false → d ≡ true) → (u && true) ≡ false → (d && true) ≡ false → ⊥
free true d v nu nd = false≢true (sym nu)
free false true v nu nd = false≢true (sym nd)
free false false v nu nd = false≢true (v refl)

-- not all four tests fail: up or down is there, and so is left or right, and only one move takes the last one back
stuck : (u l r d : Bool) (last : Option Move) → (u ≡ false → d ≡ true) → (l ≡ false → r ≡ true) → (u && not (takes_back last U)) ≡ false → (l && not (takes_back last L)) ≡ false → (r && not (takes_back last R)) ≡ false → (d && not (takes_back last D)) ≡ false → ⊥
stuck u l r d None v h nu nl nr nd = free u d v nu nd
stuck u l r d (Some U) v h nu nl nr nd = free l r h nl nr
stuck u l r d (Some L) v h nu nl nr nd = free u d v nu nd
stuck u l r d (Some R) v h nu nl nr nd = free u d v nu nd
stuck u l r d (Some D) v h nu nl nr nd = free l r h nl nr

-- some move leads on
pub some_leads : (b : BoardModel) (last : Option Move) → IsBoard b → ¬ All (λ m. leads_on b last m ≡ false) all_moves
some_leads b last board none =
    let at = blank_of b in
    stuck (is_some (neighbour b.grid U at)) (is_some (neighbour b.grid L at)) (is_some (neighbour b.grid R at)) (is_some (neighbour b.grid D at)) last (up_or_down b.grid at board.sides) (left_or_right b.grid at board.sides)
    (none 0 U (omega arith)) (none 1 U (omega arith)) (none 2 U (omega arith)) (none 3 U (omega arith))

-- of four moves in any order the last leads on where no other does
pub last_leads : (b : BoardModel) (last : Option Move) (order : List Move) → IsBoard b → IsPermutation all_moves order → leads_on b last (slice_index_or order 0 U) ≡ false → leads_on b last (slice_index_or order 1 U) ≡ false → leads_on b last (slice_index_or order 2 U) ≡ false → leads_on b last (slice_index_or order 3 U) ≡ true
last_leads b last order board shuffled first second third = either (leads_on b last (slice_index_or order 3 U)) refl
  where
    four : length order ≡ 4
    four = length_permutation all_moves order shuffled

    all : leads_on b last (slice_index_or order 3 U) ≡ false → (k : ℕ) → k < length order → leads_on b last (slice_index_or order k U) ≡ false
    all fourth zero k_in = first
    all fourth (suc zero) k_in = second
    all fourth (suc (suc zero)) k_in = third
    all fourth (suc (suc (suc zero))) k_in = fourth
    all fourth (suc (suc (suc (suc k)))) k_in = absurd (omega (arith, four))

    none : leads_on b last (slice_index_or order 3 U) ≡ false → ⊥
    none fourth = some_leads b last board (All-permutation (λ m. leads_on b last m ≡ false) order all_moves (IsPermutation-sym all_moves order shuffled) (All-from_get_or (λ m. leads_on b last m ≡ false) order U (all fourth)))

    either : (answer : Bool) → leads_on b last (slice_index_or order 3 U) ≡ answer → leads_on b last (slice_index_or order 3 U) ≡ true
    either true e = e
    either false e = absurd (none e)

-- ---- walks

-- the last move of a plan, or the one before it
abbrev pub last_of : Option Move → List Move → Option Move
last_of last [] = last
last_of last (m ∷ plan) = last_of (Some m) plan

last_of-more : (last : Option Move) (plan : List Move) (m : Move) → last_of last (plan ++ m ∷ []) ≡ Some m
last_of-more last [] m = refl
last_of-more last (n ∷ plan) m = last_of-more (Some n) plan m

none_back-more : (last : Option Move) (plan : List Move) (m : Move) → TakesNoneBack last plan → IsNotBack (last_of last plan) m → TakesNoneBack last (plan ++ m ∷ [])
none_back-more last [] m none on = (on, tt)
none_back-more last (n ∷ plan) m none on = (none.0, none_back-more (Some n) plan m none.1 on)

none_back-at : (last : Option Move) (before after : List Move) (m m' : Move) → TakesNoneBack last (before ++ m ∷ m' ∷ after) → m ≢ opposite m'
none_back-at last [] after m m' none same = none.1.0 (ap Some same)
none_back-at last (n ∷ before) after m m' none same = none_back-at (Some n) before after m m' none.1 same

pub none_taken_back : NoMoveIsTakenBack
none_taken_back before after m m' none = none_back-at None before after m m' none

-- a move that leads on doesn't take the last one back
goes_on : (b : BoardModel) (last : Option Move) (m : Move) → leads_on b last m ≡ true → IsNotBack last m
goes_on b last m leads = by_test (is_some (neighbour b.grid m (blank_of b))) last leads
  where
    by_test : (way : Bool) (last : Option Move) → (way && not (takes_back last m)) ≡ true → IsNotBack last m
    by_test way None e same = cc
    by_test false (Some before) e same = false≢true e
    by_test true (Some before) e same = let back : before ≡ opposite m = cc in false≢true (ap not (sym ((moves_Decide before (opposite m)).1 back)) ∙ e)

-- a walk of `moves` moves so far, and its last move
pub record IsUnderWay (goal : BoardModel) (moves : ℕ) (b : BoardModel) (last : Option Move) : Type 0 where
  pub walked : IsWalkedTo goal moves b
  pub grid : b.grid ≡ goal.grid
  pub last_is : last_of None walked.plan ≡ last

-- no move is made yet
pub IsUnderWay-none : (goal : BoardModel) → IsUnderWay goal 0 goal None
IsUnderWay-none goal = record { walked = record { plan = []; cost = 0; leads = (refl, refl); counted = refl; onward = tt }; grid = refl; last_is = refl }

-- one more move
pub IsUnderWay-more : (goal : BoardModel) (moves : ℕ) (b : BoardModel) (last : Option Move) (m : Move) (next : BoardModel) (c : ℕ) → IsUnderWay goal moves b last → leads_on b last m ≡ true → Moves (unit_rule goal.grid) b m next c → IsUnderWay goal (moves + 1) next (Some m)
IsUnderWay-more goal moves b last m next c walk onward made =
    let w = walk.walked in
    record {
      walked = record {
        plan = w.plan ++ m ∷ [];
        cost = w.cost + c;
        leads = one_more (unit_rule goal.grid) goal w.plan b w.cost m next c w.leads made;
        counted = length_push w.plan m ∙ ap (λ (k : ℕ). k + 1) w.counted;
        onward = none_back-more None w.plan m w.onward (subst (λ (l : Option Move). IsNotBack l m) (sym walk.last_is) (goes_on b last m onward));
      };
      grid = ap (λ (p : BoardModel). p.grid) made.after ∙ walk.grid;
      last_is = last_of-more None w.plan m;
    }

-- the classes of two boards of one grid are the same either way
class_sym : (b q : BoardModel) → b.grid ≡ q.grid → SameClass b q → SameClass q b
class_sym b q sides same =
    let far : taxicab b.grid (blank_of b) (blank_of q) ≡ taxicab q.grid (blank_of b) (blank_of q) = ap (λ (g : ShapeModel). taxicab g (blank_of b) (blank_of q)) sides in
    omega arith

pub walk_keeps_class : (goal : BoardModel) (moves : ℕ) (b : BoardModel) → IsBoard goal → IsWalkedTo goal moves b → IsOfClass goal b
walk_keeps_class goal moves b board walked =
    let rule = unit_rule goal.grid in
    let sides = led_grid rule goal walked.plan b walked.cost walked.leads in
    record {
      board = led_board rule goal walked.plan b walked.cost board walked.leads;
      sides = sides;
      class = class_sym goal b (sym sides) (same_class_led rule goal board walked.plan b walked.cost walked.leads);
    }
  where
    led_grid : (rule : WeightsModel) (p : BoardModel) (plan : List Move) (q : BoardModel) (k : ℕ) → Leads rule p plan q k → q.grid ≡ p.grid
    led_grid rule p [] q k leads = ap (λ (x : BoardModel). x.grid) leads.0
    led_grid rule p (m ∷ plan) q k leads = led_grid rule leads.0 plan q leads.2 leads.4 ∙ ap (λ (x : BoardModel). x.grid) leads.3.after

-- ---- two moves

-- a cell lies in one direction from another, up to the names of opposites: what leads there and back is a move and its opposite
ways_back : (grid : ShapeModel) (m n : Move) (from to : ℕ) → LiesTowards grid n from to → LiesTowards grid (opposite m) from to → m ≡ opposite n
ways_back grid U U from to there back = absurd (omega (arith, there.1, there.2, back.1, back.2))
ways_back grid U L from to there back = absurd (omega (arith, there.1, there.2, back.1, back.2))
ways_back grid U R from to there back = absurd (omega (arith, there.1, there.2, back.1, back.2))
ways_back grid U D from to there back = refl
ways_back grid L U from to there back = absurd (omega (arith, there.1, there.2, back.1, back.2))
ways_back grid L L from to there back = absurd (omega (arith, there.1, there.2, back.1, back.2))
ways_back grid L R from to there back = refl
ways_back grid L D from to there back = absurd (omega (arith, there.1, there.2, back.1, back.2))
ways_back grid R U from to there back = absurd (omega (arith, there.1, there.2, back.1, back.2))
ways_back grid R L from to there back = refl
ways_back grid R R from to there back = absurd (omega (arith, there.1, there.2, back.1, back.2))
ways_back grid R D from to there back = absurd (omega (arith, there.1, there.2, back.1, back.2))
ways_back grid D U from to there back = refl
ways_back grid D L from to there back = absurd (omega (arith, there.1, there.2, back.1, back.2))
ways_back grid D R from to there back = absurd (omega (arith, there.1, there.2, back.1, back.2))
ways_back grid D D from to there back = absurd (omega (arith, there.1, there.2, back.1, back.2))

-- a second move that leads back takes the first one back
back_by_two : (rule : WeightsModel) (b : BoardModel) (m : Move) (p : BoardModel) (c : ℕ) (n : Move) (d : ℕ) → IsBoard b → Moves rule b m p c → Moves rule p n b d → m ≡ opposite n
back_by_two rule b m p c n d board made back =
    let there = moved_board rule b board m p c made in
    let undone = taken_back rule b m p c board made in
    let at : blank_of b ≡ back.cell = ap blank_of back.after ∙ blank_after p there back.cell (cell_below p.grid n (blank_of p) back.cell back.towards) in
    let also : blank_of b ≡ undone.cell = ap blank_of undone.after ∙ blank_after p there undone.cell (cell_below p.grid (opposite m) (blank_of p) undone.cell undone.towards) in
    let same : undone.cell ≡ back.cell = sym also ∙ at in
    ways_back p.grid m n (blank_of p) back.cell back.towards (subst (λ (x : ℕ). LiesTowards p.grid (opposite m) (blank_of p) x) same undone.towards)

pub two_lead_away : (goal b : BoardModel) → IsBoard goal → IsWalkedTo goal 2 b → b ≢ goal
two_lead_away goal b board walked same = by_plan walked.plan walked.cost walked.leads walked.counted walked.onward
  where
    by_plan : (plan : List Move) (k : ℕ) → Leads (unit_rule goal.grid) goal plan b k → length plan ≡ 2 → TakesNoneBack None plan → ⊥
    by_plan [] k leads two none = omega (arith, two)
    by_plan (m ∷ []) k leads two none = omega (arith, two)
    by_plan (m ∷ n ∷ o ∷ plan) k leads two none = omega (arith, two)
    by_plan (m ∷ n ∷ []) k (p, c, rest, made, (q, d, more, then, (is, zero_left), sum), total) two none =
        let to : q ≡ goal = sym is ∙ same in
        none.1.0 (ap Some (back_by_two (unit_rule goal.grid) goal m p c n d board made (subst (λ (x : BoardModel). Moves (unit_rule goal.grid) p n x d) to then)))
