-- All boards of a class, in the order of their places.
use Rattle.std.proofs.Common.{◌≡◌, ℕ, zero, suc, ◌+◌, ◌<◌, ◌≤◌, ◌⊎◌, inl, inr, List, [], ◌∷◌, ◌++◌, length, get_or, refl, sym, ap, subst, ◌∙◌, arith, append-nil, append_assoc, take}
use Rattle.std.specs.Prelude.{◌↔◌, AllPairs, Contains}
use Rattle.std.proofs.lemmas.Bool.{cases_lt, cases_eq}
use Rattle.std.proofs.lemmas.List.{length_push, get_or_push, get_or_append_left, get_or_default}
use Rattle.std.proofs.lemmas.List.Elements.{recursion_from_All}
use Rattle.board.specs.Shapes.{ShapeModel, IsShape, cell_count}
use Rattle.board.specs.Boards.{BoardModel, IsBoard}
use Rattle.board.specs.Classes.{SameClass}
use Rattle.board.specs.Keys.{key_of}
use Rattle.board.proofs.KeyLemmas.{packed_in_order, tiles_small}
use Rattle.pattern_index.specs.Ranks.{ways, rank_of, list_at, IsListing}
use Rattle.pattern_index.proofs.RankLemmas.{listing_from, list_at_below, list_at_differ, length-list_at, rank_of-list_at, rank_differs, rank_below, order_from_rank, below_in, differ_in}
use Rattle.board_lists.specs.Classes.{IsOfClass, AreWholeClass}
use Rattle.board_lists.specs.Classes.{board_at}
use Rattle.board_lists.proofs.DrawLemmas.{take_front}

-- in how many orders the tiles of a board can be
abbrev pub orders_of : ShapeModel → ℕ
orders_of grid = ways (cell_count grid) (cell_count grid)

-- the place of a board
abbrev pub place_of : BoardModel → ℕ
place_of b = rank_of (cell_count b.grid) b.tiles

-- a place is that of a board
pub listed_board : (grid : ShapeModel) (k : ℕ) → IsShape grid → k < ways (cell_count grid) (cell_count grid) → IsBoard (board_at grid k)
listed_board grid k sides low =
    let n = cell_count grid in
    let le : n ≤ n = omega arith in
    let listing = listing_from n (list_at n n k) (list_at_below n n k le low) (list_at_differ n n k) in
    record { sides = sides; one_each = length-list_at n n k le; in_range = listing.in_range; different = listing.different }

-- the board at a place, with its tiles read from the front of an array
pub listed_front : (grid : ShapeModel) (n m k : ℕ) (list behind : List ℕ) → IsShape grid → n ≡ cell_count grid → m ≡ n → k < ways (cell_count grid) (cell_count grid) → list ≡ list_at n m k → (IsBoard (record { grid = grid; tiles = take n (list ++ behind) })) × (take n (list ++ behind) ≡ list_at (cell_count grid) (cell_count grid) k)
listed_front grid n m k list behind sides is also low at =
    let board = listed_board grid k sides low in
    let whole : list ≡ list_at (cell_count grid) (cell_count grid) k = at ∙ (λ i. list_at (is i) ((also ∙ is) i) k) in
    let front : take n (list ++ behind) ≡ list = take_front n list behind (ap length whole ∙ board.one_each ∙ sym is) in
    (subst (λ (l : List ℕ). IsBoard (record { grid = grid; tiles = l })) (sym (front ∙ whole)) board, front ∙ whole)

listing_of : (b : BoardModel) → IsBoard b → IsListing (cell_count b.grid) b.tiles
listing_of b board = record { in_range = board.in_range; different = board.different }

-- the place of the board that is at a place
place_at : (grid : ShapeModel) (k : ℕ) → k < orders_of grid → place_of (board_at grid k) ≡ k
place_at grid k low = rank_of-list_at (cell_count grid) (cell_count grid) k (omega arith) low

-- a board has one of the places
place_below : (b : BoardModel) → IsBoard b → place_of b < orders_of b.grid
place_below b board =
    let listing = listing_of b board in
    subst (λ (r : ℕ). rank_of (cell_count b.grid) b.tiles < ways (cell_count b.grid) r) board.one_each (rank_below (cell_count b.grid) b.tiles (below_in _ b.tiles listing) (differ_in _ b.tiles listing))

-- two boards of a grid at one place are one board
same_place : (a b : BoardModel) → IsBoard a → IsBoard b → a.grid ≡ b.grid → place_of a ≡ place_of b → a ≡ b
same_place a b is is' sides same =
    let n = cell_count b.grid in
    let count : cell_count a.grid ≡ n = ap cell_count sides in
    let la : IsListing n a.tiles = subst (λ (m : ℕ). IsListing m a.tiles) count (listing_of a is) in
    let lb = listing_of b is' in
    let rank : rank_of n a.tiles ≡ rank_of n b.tiles = ap (λ (m : ℕ). rank_of m a.tiles) (sym count) ∙ same in
    let tiles = rank_differs n a.tiles b.tiles (below_in n a.tiles la) (differ_in n a.tiles la) (below_in n b.tiles lb) (differ_in n b.tiles lb) (is.one_each ∙ count ∙ sym is'.one_each) rank in
    λ i. record { grid = sides i; tiles = tiles i }

-- the board at the lower place has the smaller key
key_order : (a b : BoardModel) → IsBoard a → IsBoard b → a.grid ≡ b.grid → place_of a < place_of b → key_of a < key_of b
key_order a b is is' sides less =
    let n = cell_count b.grid in
    let count : cell_count a.grid ≡ n = ap cell_count sides in
    let la : IsListing n a.tiles = subst (λ (m : ℕ). IsListing m a.tiles) count (listing_of a is) in
    let lb = listing_of b is' in
    let even : length a.tiles ≡ length b.tiles = is.one_each ∙ count ∙ sym is'.one_each in
    let lower : rank_of n a.tiles < rank_of n b.tiles = subst (λ (m : ℕ). rank_of m a.tiles < rank_of n b.tiles) count less in
    (packed_in_order a.tiles b.tiles even (recursion_from_All (λ x. x < 32) a.tiles (tiles_small a is)) (recursion_from_All (λ x. x < 32) b.tiles (tiles_small b is'))).1
    (order_from_rank n a.tiles b.tiles (below_in n a.tiles la) (differ_in n a.tiles la) (below_in n b.tiles lb) (differ_in n b.tiles lb) even lower)

-- ---- lists with one more element

in_longer : {X : Type 0} (xs : List X) (y x : X) → Contains xs x → Contains (xs ++ y ∷ []) x
in_longer xs y x (k, k_in, is) = (k, omega (arith, length_push xs y), get_or_append_left xs (y ∷ []) x k k_in ∙ is)

at_end : {X : Type 0} (xs : List X) (y : X) → Contains (xs ++ y ∷ []) y
at_end xs y = (length xs, omega (arith, length_push xs y), get_or_push xs y y (length xs) refl)

in_shorter : {X : Type 0} (xs : List X) (y x : X) → Contains (xs ++ y ∷ []) x → Contains xs x ⊎ (y ≡ x)
in_shorter xs y x (k, k_in, is) = elim (cases_lt k (length xs)) [
  | inl low ↦ inl (k, low, sym (get_or_append_left xs (y ∷ []) x k low) ∙ is)
  | inr high ↦ inr (sym (get_or_push xs y x k (omega (arith, length_push xs y))) ∙ is)
]

has_at : {X : Type 0} (xs : List X) (i : ℕ) (d : X) → i < length xs → Contains xs (get_or xs i d)
has_at xs i d i_in = (i, i_in, get_or_default xs i (get_or xs i d) d i_in)

both : {X : Type 0} (R : X → X → Type 0) (a b x y : X) → x ≡ a → y ≡ b → R a b → R x y
both R a b x y e f r = subst (λ z. R z y) (sym e) (subst (R a) (sym f) r)

pairs_longer : {X : Type 0} (R : X → X → Type 0) (xs : List X) (y : X) → AllPairs R xs → ((x : X) → Contains xs x → R x y) → AllPairs R (xs ++ y ∷ [])
pairs_longer R xs y pairs all i j d less j_in =
    let long = length_push xs y in
    let first : get_or (xs ++ y ∷ []) i d ≡ get_or xs i d = get_or_append_left xs (y ∷ []) d i (omega arith) in
    elim (cases_lt j (length xs)) [
      | inl low ↦ both R (get_or xs i d) (get_or xs j d) _ _ first (get_or_append_left xs (y ∷ []) d j low) (pairs i j d less low)
      | inr high ↦ both R (get_or xs i d) y _ _ first (get_or_push xs y d j (omega arith)) (all (get_or xs i d) (has_at xs i d (omega arith)))
    ]

-- ---- the class, board by board

-- these are the boards of the goal's class at the places below k, in the order of their keys
pub record AreBelow (goal : BoardModel) (k : ℕ) (boards : List BoardModel) : Type 0 where
  pub each : (b : BoardModel) → Contains boards b ↔ (IsOfClass goal b × (place_of b < k))
  pub rising : AllPairs (λ x y. key_of x < key_of y) boards
  pub few : length boards ≤ k

pub AreBelow-none : (goal : BoardModel) → AreBelow goal 0 []
AreBelow-none goal = record {
  each = λ b. ((λ (k, k_in, is). absurd (omega arith)), (λ (class, low). absurd (omega arith)));
  rising = λ i j d less j_in. absurd (omega arith);
  few = omega arith;
}

-- the next board is of the class
pub AreBelow-more : (goal : BoardModel) (k : ℕ) (boards : List BoardModel) → IsBoard goal → AreBelow goal k boards → k < ways (cell_count goal.grid) (cell_count goal.grid) → SameClass (board_at goal.grid k) goal → AreBelow goal (k + 1) (boards ++ board_at goal.grid k ∷ [])
AreBelow-more goal k boards goal_is before low same =
    let here = board_at goal.grid k in
    let board = listed_board goal.grid k goal_is.sides low in
    let place = place_at goal.grid k low in
    let class : IsOfClass goal here = record { board = board; sides = refl; class = same } in
    record {
      each = λ b. (
        (λ has. elim (in_shorter boards here b has) [
          | inl there ↦ let old = (before.each b).0 there in (old.0, omega (arith, old.1))
          | inr is ↦ (subst (IsOfClass goal) is class, subst (λ (p : BoardModel). place_of p < k + 1) is (omega (arith, place)))
        ]),
        (λ (is, less). elim (cases_lt (place_of b) k) [
          | inl lower ↦ in_longer boards here b ((before.each b).1 (is, lower))
          | inr last ↦ subst (Contains (boards ++ here ∷ [])) (same_place here b board is.board (sym is.sides) (place ∙ omega arith)) (at_end boards here)
        ]),
      );
      rising = pairs_longer (λ x y. key_of x < key_of y) boards here before.rising
          (λ b there. let old = (before.each b).0 there in key_order b here old.0.board board old.0.sides (omega (arith, place, old.1)));
      few = omega (arith, length_push boards here, before.few);
    }

-- it isn't
pub AreBelow-same : (goal : BoardModel) (k : ℕ) (boards : List BoardModel) → IsBoard goal → AreBelow goal k boards → k < ways (cell_count goal.grid) (cell_count goal.grid) → ¬ SameClass (board_at goal.grid k) goal → AreBelow goal (k + 1) boards
AreBelow-same goal k boards goal_is before low other =
    let here = board_at goal.grid k in
    let board = listed_board goal.grid k goal_is.sides low in
    let place = place_at goal.grid k low in
    record {
      each = λ b. (
        (λ has. let old = (before.each b).0 has in (old.0, omega (arith, old.1))),
        (λ (is, less). elim (cases_lt (place_of b) k) [
          | inl lower ↦ (before.each b).1 (is, lower)
          | inr last ↦ absurd (other (subst (λ (p : BoardModel). SameClass p goal) (sym (same_place here b board is.board (sym is.sides) (place ∙ omega arith))) is.class))
        ]),
      );
      rising = before.rising;
      few = omega (arith, before.few);
    }

-- below the count of places are all boards of the class
pub AreBelow-all : (goal : BoardModel) (boards : List BoardModel) → AreBelow goal (ways (cell_count goal.grid) (cell_count goal.grid)) boards → AreWholeClass goal boards
AreBelow-all goal boards all = record {
  each = λ b. (
    (λ has. ((all.each b).0 has).0),
    (λ is. (all.each b).1 (is, subst (λ (g : ShapeModel). place_of b < ways (cell_count g) (cell_count g)) is.sides (place_below b is.board))),
  );
  rising = λ i j d less j_in. omega (arith, all.rising i j d less j_in);
}

class_cases : (b q : BoardModel) → SameClass b q ⊎ (¬ SameClass b q)
class_cases b q = cases_eq _ _

-- the boards of the class so far are a beginning of all
pub AreBelow-on : (goal : BoardModel) (left k : ℕ) (boards : List BoardModel) → IsBoard goal → AreBelow goal k boards → k + left ≡ ways (cell_count goal.grid) (cell_count goal.grid) → (rest : List BoardModel) × AreWholeClass goal (boards ++ rest)
AreBelow-on goal zero k boards goal_is before all =
    let whole : AreBelow goal (ways (cell_count goal.grid) (cell_count goal.grid)) boards = subst (λ (n : ℕ). AreBelow goal n boards) (omega arith) before in
    ([], subst (AreWholeClass goal) (sym (append-nil boards)) (AreBelow-all goal boards whole))
AreBelow-on goal (suc left) k boards goal_is before all = elim (class_cases (board_at goal.grid k) goal) [
  | inl same ↦
      let more = AreBelow-on goal left (k + 1) (boards ++ board_at goal.grid k ∷ []) goal_is (AreBelow-more goal k boards goal_is before (omega arith) same) (omega arith) in
      (board_at goal.grid k ∷ more.0, subst (AreWholeClass goal) (append_assoc boards (board_at goal.grid k ∷ []) more.0) more.1)
  | inr other ↦ AreBelow-on goal left (k + 1) boards goal_is (AreBelow-same goal k boards goal_is before (omega arith) other) (omega arith)
]

-- ---- a class is one list

-- the keys of these boards rise
abbrev Rise : List BoardModel → Type 0
Rise boards = AllPairs (λ x y. key_of x < key_of y) boards

none_in : (b : BoardModel) → Contains [] b → ⊥
none_in b (k, k_in, is) = omega arith

in_front : (b : BoardModel) (bs : List BoardModel) → Contains (b ∷ bs) b
in_front b bs = (0, omega arith, refl)

in_behind : (b : BoardModel) (bs : List BoardModel) (c : BoardModel) → Contains bs c → Contains (b ∷ bs) c
in_behind b bs c (k, k_in, is) = (suc k, omega arith, is)

-- a board of a list is its first or one of the others
front_or_behind : (b : BoardModel) (bs : List BoardModel) (c : BoardModel) → Contains (b ∷ bs) c → (b ≡ c) ⊎ Contains bs c
front_or_behind b bs c (zero, k_in, is) = inl is
front_or_behind b bs c (suc k, k_in, is) = inr (k, omega arith, is)

-- the first of a list whose keys rise has the least
front_least : (b : BoardModel) (bs : List BoardModel) → Rise (b ∷ bs) → (c : BoardModel) → Contains bs c → key_of b < key_of c
front_least b bs rising c (k, k_in, is) = subst (λ (x : BoardModel). key_of b < key_of x) is (rising 0 (suc k) c (omega arith) (omega arith))

rise_behind : (b : BoardModel) (bs : List BoardModel) → Rise (b ∷ bs) → Rise bs
rise_behind b bs rising i j d less j_in = rising (suc i) (suc j) d (omega arith) (omega arith)

-- each is the first of its list, and also in the other
fronts_same : (b c : BoardModel) (bs cs : List BoardModel) → Rise (b ∷ bs) → Rise (c ∷ cs) → Contains (c ∷ cs) b → Contains (b ∷ bs) c → b ≡ c
fronts_same b c bs cs rising rising' b_in c_in = elim (front_or_behind c cs b b_in) [
  | inl is ↦ sym is
  | inr b_behind ↦ elim (front_or_behind b bs c c_in) [
    | inl is ↦ is
    | inr c_behind ↦ absurd (omega (arith, front_least c cs rising' b b_behind, front_least b bs rising c c_behind))
  ]
]

-- what comes behind the first of one list does so in the other
both_behind : (b c : BoardModel) (bs cs : List BoardModel) → Rise (b ∷ bs) → b ≡ c → (d : BoardModel) → (Contains (b ∷ bs) d → Contains (c ∷ cs) d) → Contains bs d → Contains cs d
both_behind b c bs cs rising same d to d_in = elim (front_or_behind c cs d (to (in_behind b bs d d_in))) [
  | inl is ↦ absurd (omega (arith, subst (λ (x : BoardModel). key_of b < key_of x) (sym (same ∙ is)) (front_least b bs rising d d_in)))
  | inr there ↦ there
]

-- two lists of the same boards whose keys rise are one list
pub one_rising : (bs cs : List BoardModel) → Rise bs → Rise cs → ((d : BoardModel) → Contains bs d ↔ Contains cs d) → bs ≡ cs
one_rising [] [] rising rising' same = refl
one_rising [] (c ∷ cs) rising rising' same = absurd (none_in c ((same c).1 (in_front c cs)))
one_rising (b ∷ bs) [] rising rising' same = absurd (none_in b ((same b).0 (in_front b bs)))
one_rising (b ∷ bs) (c ∷ cs) rising rising' same =
    let fronts = fronts_same b c bs cs rising rising' ((same b).0 (in_front b bs)) ((same c).1 (in_front c cs)) in
    let rest = one_rising bs cs (rise_behind b bs rising) (rise_behind c cs rising') (λ d. (both_behind b c bs cs rising fronts d (same d).0, both_behind c b cs bs rising' (sym fronts) d (same d).1)) in
    λ i. fronts i ∷ rest i
