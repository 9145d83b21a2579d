-- A move changes the parity of the inversions and of the blank's distance.
use Rattle.std.proofs.Common.{◌≡◌, ◌≢◌, ℕ, zero, suc, ◌+◌, ◌%◌, ◌<◌, cond, List, [], ◌∷◌, length, get_or, set, refl, sym, ap, ◌∙◌, arith, get_or-set_other, length-set}
use Rattle.std.specs.Prelude.{◌↔◌, count_by, nat_lt}
use Rattle.std.proofs.lemmas.Bool.Decides.{nat_tests}
use Rattle.std.proofs.lemmas.List.Sums.{sum_by-cons, sum_by-set}
use Rattle.std.proofs.lemmas.List.Edits.{swap_is}
use Rattle.board.specs.declared.moves.Move.{Move}
use Rattle.board.specs.declared.moves.Move.TheVariants.{U, L, R, D}
use Rattle.board.specs.Shapes.{ShapeModel, cell_count}
use Rattle.board.specs.Neighbours.{LiesTowards}
use Rattle.board.specs.Boards.{BoardModel, IsBoard, blank_of}
use Rattle.board.specs.Weights.{WeightsModel}
use Rattle.board.specs.Moves.{Moves}
use Rattle.board.specs.Plans.{Leads}
use Rattle.board.specs.Classes.{inversions, taxicab, SameClass}
use Rattle.board.proofs.TileLemmas.{across, has_cell, same_place}
use Rattle.board.proofs.MoveLemmas.{cell_below, other_cell, moved_board, blank_after, exchange, cell_of-exchange}

-- 1 if x is below y
below : ℕ → ℕ → ℕ
below x y = cond (nat_lt x y) 1 0

one_way : (x y : ℕ) → x ≢ y → below x y + below y x ≡ 1
unfolding below
one_way x y apart = grind (arith, nat_tests)

-- how many of the list are below x
count_below : ℕ → List ℕ → ℕ
count_below x xs = count_by (λ y. nat_lt y x) xs

count_below-cons : (w x : ℕ) (xs : List ℕ) → count_below w (x ∷ xs) ≡ below x w + count_below w xs
unfolding below count_below
count_below-cons w x xs = sum_by-cons (λ y. cond (nat_lt y w) 1 0) x xs

count_below-set : (w : ℕ) (xs : List ℕ) (i y d : ℕ) → i < length xs → count_below w (set xs i y) + below (get_or xs i d) w ≡ count_below w xs + below y w
unfolding below count_below
count_below-set w xs i y d i_in = sum_by-set (λ y. cond (nat_lt y w) 1 0) xs i y d i_in

inversions-cons : (x : ℕ) (xs : List ℕ) → inversions (x ∷ xs) ≡ count_below x xs + inversions xs
unfolding count_below
inversions-cons x xs = refl

-- x in front of the list changes places with its k-th number
front : (x : ℕ) (xs : List ℕ) (k d : ℕ) → k < length xs → ((i : ℕ) → i < length xs → get_or xs i d ≢ x) → ((i : ℕ) → i < length xs → i ≢ k → get_or xs i d ≢ get_or xs k d) → (inversions (x ∷ xs) + inversions (get_or xs k d ∷ set xs k x)) % 2 ≡ 1
front x [] k d k_in apart others = absurd (omega arith)
front x (y ∷ zs) zero d k_in apart others =
    let one = one_way x y (λ e. apart 0 (omega arith) (sym e)) in
    let a = inversions-cons x (y ∷ zs) in
    let b = inversions-cons y (x ∷ zs) in
    let c = count_below-cons x y zs in
    let e = count_below-cons y x zs in
    let f = inversions-cons y zs in
    let g = inversions-cons x zs in
    omega arith
front x (w ∷ zs) (suc k) d k_in apart others =
    let y = get_or zs k d in
    let rest = front x zs k d (omega arith) (λ i i_in. apart (suc i) (omega arith)) (λ i i_in ne. others (suc i) (omega arith) (omega arith)) in
    let one = one_way x w (λ e. apart 0 (omega arith) (sym e)) in
    let two = one_way y w (λ e. others 0 (omega arith) (omega arith) (sym e)) in
    let a = inversions-cons x (w ∷ zs) in
    let b = inversions-cons y (w ∷ set zs k x) in
    let c = count_below-cons x w zs in
    let e = count_below-cons y w (set zs k x) in
    let f = inversions-cons w zs in
    let g = inversions-cons w (set zs k x) in
    let h = count_below-set w zs k x d (omega arith) in
    let i = inversions-cons x zs in
    let j = inversions-cons y (set zs k x) in
    omega arith

-- the numbers at i and at j in each other's place
swapped : List ℕ → ℕ → ℕ → ℕ → List ℕ
swapped xs i j d = set (set xs i (get_or xs j d)) j (get_or xs i d)

count_below-swapped : (w : ℕ) (xs : List ℕ) (i j d : ℕ) → i < length xs → j < length xs → i ≢ j → count_below w (swapped xs i j d) ≡ count_below w xs
unfolding swapped
count_below-swapped w xs i j d i_in j_in apart =
    let first = count_below-set w xs i (get_or xs j d) d i_in in
    let n : length (set xs i (get_or xs j d)) ≡ length xs = length-set xs i (get_or xs j d) in
    let second = count_below-set w (set xs i (get_or xs j d)) j (get_or xs i d) d (omega arith) in
    let ne : j ≢ i = λ e. apart (sym e) in
    let other : get_or (set xs i (get_or xs j d)) j d ≡ get_or xs j d = rw get_or-set_other refl in
    let same = ap (λ v. below v w) other in
    omega arith

-- an exchange of two different numbers changes the parity of the inversions
exchanged : (xs : List ℕ) (i j d : ℕ) → i < length xs → j < length xs → i ≢ j → ((x y : ℕ) → x < length xs → y < length xs → x ≢ y → get_or xs x d ≢ get_or xs y d) → (inversions xs + inversions (swapped xs i j d)) % 2 ≡ 1
unfolding swapped
exchanged [] i j d i_in j_in apart different = absurd (omega arith)
exchanged (x ∷ xs) zero zero d i_in j_in apart different = absurd (apart refl)
exchanged (x ∷ xs) zero (suc k) d i_in j_in apart different =
    front x xs k d (omega arith) (λ i i_lt e. different (suc i) 0 (omega arith) (omega arith) (omega arith) e) (λ i i_lt ne. different (suc i) (suc k) (omega arith) (omega arith) (omega arith))
exchanged (x ∷ xs) (suc k) zero d i_in j_in apart different =
    front x xs k d (omega arith) (λ i i_lt e. different (suc i) 0 (omega arith) (omega arith) (omega arith) e) (λ i i_lt ne. different (suc i) (suc k) (omega arith) (omega arith) (omega arith))
exchanged (x ∷ xs) (suc i) (suc j) d i_in j_in apart different =
    let rest = exchanged xs i j d (omega arith) (omega arith) (omega arith) (λ a b a_in b_in ne. different (suc a) (suc b) (omega arith) (omega arith) (omega arith)) in
    let a = inversions-cons x xs in
    let b = inversions-cons x (swapped xs i j d) in
    let c = count_below-swapped x xs i j d (omega arith) (omega arith) (omega arith) in
    omega arith

-- a move brings the blank one cell nearer to a cell, or one farther
one_nearer : (grid : ShapeModel) (m : Move) (from to cell : ℕ) → LiesTowards grid m from to → (taxicab grid from cell + taxicab grid to cell) % 2 ≡ 1
one_nearer grid U from to cell lies = omega arith
one_nearer grid L from to cell lies = omega arith
one_nearer grid R from to cell lies = omega arith
one_nearer grid D from to cell lies = omega arith

-- a move changes the parity of the inversions
inversions_turn : (rule : WeightsModel) (b : BoardModel) → IsBoard b → (m : Move) (b' : BoardModel) (c : ℕ) → Moves rule b m b' c → (inversions b.tiles + inversions b'.tiles) % 2 ≡ 1
unfolding swapped
inversions_turn rule b board m b' c moves =
    let i = blank_of b in
    let j = moves.cell in
    let n = board.one_each in
    let j_below = cell_below b.grid m i j moves.towards in
    let zero_in : 0 < cell_count b.grid = omega arith in
    let i_in : i < length b.tiles = omega (arith, (has_cell b board 0 zero_in).0) in
    let j_in : j < length b.tiles = omega arith in
    let other = other_cell b.grid m i j moves.towards in
    let turned = exchanged b.tiles i j 0 i_in j_in (λ e. other (sym e)) (λ x y x_in y_in ne same. ne (same_place b.tiles board.different x y x_in y_in same)) in
    let is : b'.tiles ≡ swapped b.tiles i j 0 = ap (λ p. p.tiles) moves.after ∙ sym (swap_is b.tiles i j 0 i_in j_in) in
    rw is turned

-- an exchange of two tiles changes the class
pub class_changed : (b : BoardModel) (i j : ℕ) (q : BoardModel) → IsBoard b → i < cell_count b.grid → j < cell_count b.grid → i ≢ j → i ≢ blank_of b → j ≢ blank_of b → SameClass (exchange b i j) q ↔ (¬ SameClass b q)
unfolding swapped
class_changed b i j q board i_below j_below apart i_tile j_tile =
    let n = board.one_each in
    let i_in : i < length b.tiles = omega arith in
    let j_in : j < length b.tiles = omega arith in
    let turned = exchanged b.tiles i j 0 i_in j_in apart (λ x y x_in y_in ne same. ne (same_place b.tiles board.different x y x_in y_in same)) in
    let is = swap_is b.tiles i j 0 i_in j_in in
    let odd : (inversions b.tiles + inversions (exchange b i j).tiles) % 2 ≡ 1 = rw (sym is) turned in
    let stays : across i j (blank_of b) ≡ blank_of b = grind (arith, nat_tests) in
    let blank : blank_of (exchange b i j) ≡ blank_of b = cell_of-exchange b i j board i_below j_below 0 (omega arith) ∙ stays in
    let far : taxicab (exchange b i j).grid (blank_of (exchange b i j)) (blank_of q) ≡ taxicab b.grid (blank_of b) (blank_of q) = rw blank refl in
    ((λ one other. omega arith), (λ no. omega (arith, no)))

-- a move keeps the class
pub same_class_kept : (rule : WeightsModel) (b : BoardModel) → IsBoard b → (m : Move) (b' : BoardModel) (c : ℕ) → Moves rule b m b' c → (q : BoardModel) → SameClass b q ↔ SameClass b' q
same_class_kept rule b board m b' c moves q =
    let below = cell_below b.grid m (blank_of b) moves.cell moves.towards in
    let turned = inversions_turn rule b board m b' c moves in
    let nearer = one_nearer b.grid m (blank_of b) moves.cell (blank_of q) moves.towards in
    let blank : blank_of b' ≡ moves.cell = ap blank_of moves.after ∙ blank_after b board moves.cell below in
    let grid : b'.grid ≡ b.grid = ap (λ p. p.grid) moves.after in
    let far : taxicab b'.grid (blank_of b') (blank_of q) ≡ taxicab b.grid moves.cell (blank_of q) = rw (grid, blank) refl in
    ((λ same. omega arith), (λ same. omega arith))

pub same_class_self : (b : BoardModel) → SameClass b b
same_class_self b = omega arith

-- where a plan leads from b to q they are in one class
pub same_class_led : (rule : WeightsModel) (b : BoardModel) → IsBoard b → (plan : List Move) (q : BoardModel) (k : ℕ) → Leads rule b plan q k → SameClass b q
same_class_led rule b board [] q k leads = rw leads.0 (same_class_self b)
same_class_led rule b board (m ∷ plan) q k leads =
    (same_class_kept rule b board m leads.0 leads.1 leads.3 q).1 (same_class_led rule leads.0 (moved_board rule b board m leads.0 leads.1 leads.3) plan q leads.2 leads.4)
