-- Moves of views.
use Rattle.std.proofs.Common.{◌≡◌, ◌≢◌, ℕ, zero, suc, ◌<◌, cond, true, false, eqb, List, [], ◌∷◌, map, length, get_or, refl, sym, ap, ◌∙◌, subst, ⊎_elim, arith, Option, Some, None}
use Rattle.std.specs.Prelude.{◌↔◌, Contains, option_map, ◌==◌, if◌then◌else◌}
use Rattle.std.specs.List.{AllByRecursion}
use Rattle.std.proofs.lemmas.Bool.{eqb-true, cases_Bool, cond-true, cond-false, eq-eqb, ne_eqb, false≢true}
use Rattle.std.proofs.lemmas.Bool.Decides.{nat_tests}
use Rattle.std.proofs.lemmas.List.{length-map, get_or-map}
use Rattle.std.proofs.lemmas.List.Elements.{recursion_from_All, All-from_recursion}
use Rattle.board.specs.declared.moves.Move.{Move}
use Rattle.board.specs.declared.moves.Move.TheVariants.{U, L, R, D}
use Rattle.board.specs.Shapes.{ShapeModel, cell_count}
use Rattle.board.specs.Neighbours.{LiesTowards, neighbour, opposite}
use Rattle.board.specs.Boards.{BoardModel, IsBoard, cell_of, blank_of}
use Rattle.board.specs.Weights.{WeightsModel, weight_of}
use Rattle.board.specs.Moves.{Moves}
use Rattle.board.proofs.TileLemmas.{same_place, all_differ, cell_is, has_cell}
use Rattle.board.proofs.MoveLemmas.{exchange, cell_of-exchange, blank_after, other_cell, cell_below, one_cell}
use Rattle.board.proofs.NeighbourLemmas.{neighbour_lies, cells_above}
use Rattle.pattern_index.specs.Views.{ViewModel, IsView, Abstraction, ViewMoves, ViewLeads, view_of, weight_on}
use Rattle.pattern_index.specs.Groups.{IsTile, AreGroupTiles, view_successor_at, view_successor}
use Rattle.pattern_index.proofs.RankLemmas.{Below, Differ, Other, pairs_from_differ, differ_from_pairs}
use Rattle.pattern_index.proofs.SightLemmas.{cells_of}

some_move : (a : Abstraction) (v : ViewModel) (o : Option ℕ) (v' : ViewModel) (c : ℕ) → option_map (view_successor_at a v) o ≡ Some (v', c) → (cell : ℕ) × (o ≡ Some cell) × (view_successor_at a v cell ≡ (v', c))
some_move a v None v' c is = cc
some_move a v (Some cell) v' c is = (cell, refl, cc)

-- what is computed of a view's move is what it does
pub successor_of_sight : (a : Abstraction) (v : ViewModel) (m : Move) (v' : ViewModel) (c : ℕ) → v.blank < cell_count a.grid → (view_successor a v m ≡ Some (v', c)) ↔ ViewMoves a v m v' c
successor_of_sight a v m v' c inside = (
  (λ is.
      let h = some_move a v (neighbour a.grid m v.blank) v' c is in
      let at : h.0 ≡ v'.blank = ap (λ p. p.0.blank) h.2 in
      record {
        towards = subst (λ to. LiesTowards a.grid m v.blank to) at ((neighbour_lies a.grid m v.blank h.0 inside).0 h.1);
        exchanged = subst (λ to. v'.cells ≡ map (λ cell. if cell == to then v.blank else cell) v.cells) at (sym (ap (λ p. p.0.cells) h.2));
        cost = subst (λ to. c ≡ weight_on a.rule a.tiles v.cells to) at (sym (ap (λ p. p.1) h.2));
      }),
  (λ moves. rw ((neighbour_lies a.grid m v.blank v'.blank inside).1 moves.towards) (λ i. Some (record { blank = v'.blank; cells = sym moves.exchanged i }, sym moves.cost i))),
)

-- and so an answer that is the move computed
pub sight_moves_from : (a : Abstraction) (v : ViewModel) (m : Move) (answer : Option (ViewModel × ℕ)) → v.blank < cell_count a.grid → answer ≡ view_successor a v m → (v' : ViewModel) (c : ℕ) → (answer ≡ Some (v', c)) ↔ ViewMoves a v m v' c
sight_moves_from a v m answer inside is v' c =
    let moves = successor_of_sight a v m v' c inside in ((λ e. moves.0 (sym is ∙ e)), (λ h. is ∙ moves.1 h))

-- the other way round
pub lies_back : (grid : ShapeModel) (m : Move) (from to : ℕ) → from < cell_count grid → LiesTowards grid m from to → LiesTowards grid (opposite m) to from
lies_back grid U from to inside lies = (inside, omega (arith, lies.1), sym lies.2)
lies_back grid L from to inside lies = (inside, sym lies.1, omega (arith, lies.2))
lies_back grid R from to inside lies = (inside, sym lies.1, omega (arith, lies.2))
lies_back grid D from to inside lies = (inside, omega (arith, lies.1), sym lies.2)

-- the number that takes the blank's place
put : ℕ → ℕ → ℕ → ℕ
put from to x = cond (eqb x to) from x

put_back : (from to x : ℕ) → x ≢ from → put to from (put from to x) ≡ x
unfolding put
put_back from to x ne = grind (arith, nat_tests)

put_other : (from to x : ℕ) → to ≢ from → to ≢ put from to x
unfolding put
put_other from to x ne = grind (arith, nat_tests)

put_differ : (from to x y : ℕ) → x ≢ from → y ≢ from → x ≢ y → put from to x ≢ put from to y
unfolding put
put_differ from to x y h k ne = grind (arith, nat_tests)

put_below : (n from to x : ℕ) → from < n → x < n → put from to x < n
unfolding put
put_below n from to x h k = grind (arith, nat_tests)

put_eq : (from to x : ℕ) → x ≢ from → eqb (put from to x) from ≡ eqb x to
unfolding put
put_eq from to x ne = grind (arith, nat_tests)

all_put_back : (from to : ℕ) (xs : List ℕ) → Other from xs → map (put to from) (map (put from to) xs) ≡ xs
all_put_back from to [] other = refl
all_put_back from to (x ∷ xs) other = λ i. put_back from to x (λ e. other.0 (sym e)) i ∷ all_put_back from to xs other.1 i

all_put_other : (from to : ℕ) (xs : List ℕ) → to ≢ from → Other to (map (put from to) xs)
all_put_other from to [] ne = tt
all_put_other from to (x ∷ xs) ne = (put_other from to x ne, all_put_other from to xs ne)

all_put_apart : (from to x : ℕ) (xs : List ℕ) → from ≢ x → Other from xs → Other x xs → Other (put from to x) (map (put from to) xs)
all_put_apart from to x [] ne other apart = tt
all_put_apart from to x (y ∷ ys) ne other apart = (put_differ from to x y (λ e. ne (sym e)) (λ e. other.0 (sym e)) apart.0, all_put_apart from to x ys ne other.1 apart.1)

all_put_differ : (from to : ℕ) (xs : List ℕ) → Other from xs → Differ xs → Differ (map (put from to) xs)
all_put_differ from to [] other differ = tt
all_put_differ from to (x ∷ xs) other differ = (all_put_apart from to x xs other.0 other.1 differ.0, all_put_differ from to xs other.1 differ.1)

all_put_below : (n from to : ℕ) (xs : List ℕ) → from < n → Below n xs → Below n (map (put from to) xs)
all_put_below n from to [] lt below = tt
all_put_below n from to (x ∷ xs) lt below = (put_below n from to x lt below.0, all_put_below n from to xs lt below.1)

weight_put : (rule : WeightsModel) (group cells : List ℕ) (from to : ℕ) → Other from cells → weight_on rule group (map (put from to) cells) from ≡ weight_on rule group cells to
weight_put rule [] cells from to other = refl
weight_put rule (tile ∷ group) [] from to other = refl
weight_put rule (tile ∷ group) (x ∷ cells) from to other =
    let same = put_eq from to x (λ e. other.0 (sym e)) in
    let rest = weight_put rule group cells from to other.1 in
    λ i. cond (same i) (weight_of rule tile) (rest i)

pub blank_inside : (grid : ShapeModel) (group : List ℕ) (v : ViewModel) → IsView grid group v → v.blank < cell_count grid
blank_inside grid group v view = view.in_range 0 0 (omega arith)

module _ (a : Abstraction) (v : ViewModel) (m : Move) (v' : ViewModel) (c : ℕ) (view : IsView a.grid a.tiles v) (moves : ViewMoves a v m v' c) where
  differ : Differ (cells_of v)
  differ = differ_from_pairs (cells_of v) view.different

  below : Below (cell_count a.grid) (cells_of v)
  below = recursion_from_All (λ cell. cell < cell_count a.grid) (cells_of v) view.in_range

  -- a view's move leads to a view
  pub moved_view : IsView a.grid a.tiles v'
  unfolding put
  moved_view =
      let n = cell_count a.grid in
      let cells : v'.cells ≡ map (put v.blank v'.blank) v.cells = moves.exchanged in
      let other = other_cell a.grid m v.blank v'.blank moves.towards in
      let apart : Differ (cells_of v') = subst (λ xs. Differ (v'.blank ∷ xs)) (sym cells) (all_put_other v.blank v'.blank v.cells other, all_put_differ v.blank v'.blank v.cells differ.0 differ.1) in
      let low : Below n (cells_of v') = subst (λ xs. Below n (v'.blank ∷ xs)) (sym cells) (cell_below a.grid m v.blank v'.blank moves.towards, all_put_below n v.blank v'.blank v.cells below.0 below.1) in
      record {
        one_each = ap length cells ∙ length-map v.cells (put v.blank v'.blank) ∙ view.one_each;
        in_range = All-from_recursion (λ cell. cell < n) (cells_of v') low;
        different = pairs_from_differ (cells_of v') apart;
      }

  -- a view's move can be taken back, at the same cost
  pub moved_back : ViewMoves a v' (opposite m) v c
  unfolding put
  moved_back =
      let cells : v'.cells ≡ map (put v.blank v'.blank) v.cells = moves.exchanged in
      record {
        towards = lies_back a.grid m v.blank v'.blank (blank_inside a.grid a.tiles v view) moves.towards;
        exchanged = sym (ap (map (put v'.blank v.blank)) cells ∙ all_put_back v.blank v'.blank v.cells differ.0);
        cost = moves.cost ∙ sym (ap (λ xs. weight_on a.rule a.tiles xs v.blank) cells ∙ weight_put a.rule a.tiles v.cells v.blank v'.blank differ.0);
      }

-- ---- views of boards

-- a tile is not where the blank is
not_blank : (b : BoardModel) → IsBoard b → (t : ℕ) → IsTile b.grid t → cell_of b t ≢ blank_of b
not_blank b board t tile same =
    let at = has_cell b board t tile.1 in
    let blank = has_cell b board 0 (cells_above b.grid board.sides) in
    let none : t ≡ 0 = sym at.1 ∙ ap (λ k. get_or b.tiles k 0) same ∙ blank.1 in
    omega (arith, tile.0)

cell_after : (b : BoardModel) → IsBoard b → (to : ℕ) → to < cell_count b.grid → (t : ℕ) → IsTile b.grid t → cell_of (exchange b (blank_of b) to) t ≡ cond (eqb (cell_of b t) to) (blank_of b) (cell_of b t)
cell_after b board to to_below t tile =
    let blank = has_cell b board 0 (cells_above b.grid board.sides) in
    cell_of-exchange b (blank_of b) to board blank.0 to_below t tile.1
    ∙ cond-false (eqb (cell_of b t) (blank_of b)) to _ (ne_eqb _ _ (not_blank b board t tile))

cells_after : (b : BoardModel) → IsBoard b → (to : ℕ) → to < cell_count b.grid → (group : List ℕ) → AllByRecursion (IsTile b.grid) group → map (cell_of (exchange b (blank_of b) to)) group ≡ map (λ cell. cond (eqb cell to) (blank_of b) cell) (map (cell_of b) group)
cells_after b board to to_below [] tiles = refl
cells_after b board to to_below (t ∷ group) tiles = λ i. cell_after b board to to_below t tiles.0 i ∷ cells_after b board to to_below group tiles.1 i

-- what a group sees of a board is a view
pub board_view : (group : List ℕ) (b : BoardModel) → IsBoard b → AreGroupTiles b.grid group → IsView b.grid group (view_of group b)
board_view group b board is_group = record {
  one_each = length-map group (cell_of b);
  in_range = All-from_recursion (λ cell. cell < cell_count b.grid) (blank_of b ∷ map (cell_of b) group) ((has_cell b board 0 some).0, in_grid group (recursion_from_All (IsTile b.grid) group is_group.tiles));
  different = all_differ (map (cell_of b) (0 ∷ group)) (λ i j i_in j_in same. apart i j i_in j_in same);
}
  where
    some : 0 < cell_count b.grid
    some = cells_above b.grid board.sides

    in_grid : (ts : List ℕ) → AllByRecursion (IsTile b.grid) ts → AllByRecursion (λ cell. cell < cell_count b.grid) (map (cell_of b) ts)
    in_grid [] tiles = tt
    in_grid (t ∷ ts) tiles = ((has_cell b board t tiles.0.1).0, in_grid ts tiles.1)

    zero_apart : (i j d : ℕ) → i < j → j < length (0 ∷ group) → get_or (0 ∷ group) i d ≡ get_or (0 ∷ group) j d → ⊥
    zero_apart zero zero d lt j_in same = omega arith
    zero_apart zero (suc j) d lt j_in same = let tile = (is_group.tiles j d (omega arith)).0 in omega arith
    zero_apart (suc i) zero d lt j_in same = omega arith
    zero_apart (suc i) (suc j) d lt j_in same = is_group.different i j d (omega arith) (omega arith) same

    below : (i : ℕ) → i < length (0 ∷ group) → get_or (0 ∷ group) i 0 < cell_count b.grid
    below zero i_in = some
    below (suc i) i_in = (is_group.tiles i 0 (omega arith)).1

    found : (i : ℕ) → i < length (0 ∷ group) → get_or b.tiles (get_or (map (cell_of b) (0 ∷ group)) i 0) 0 ≡ get_or (0 ∷ group) i 0
    found i i_in = ap (λ k. get_or b.tiles k 0) (get_or-map (cell_of b) (0 ∷ group) i 0 0 i_in) ∙ (has_cell b board (get_or (0 ∷ group) i 0) (below i i_in)).1

    apart : (i j : ℕ) → i < length (map (cell_of b) (0 ∷ group)) → j < length (map (cell_of b) (0 ∷ group)) → get_or (map (cell_of b) (0 ∷ group)) i 0 ≡ get_or (map (cell_of b) (0 ∷ group)) j 0 → i ≡ j
    apart i j i_in j_in same =
        let n : length (map (cell_of b) (0 ∷ group)) ≡ length (0 ∷ group) = length-map (0 ∷ group) (cell_of b) in
        let i_in' : i < length (0 ∷ group) = omega arith in
        let j_in' : j < length (0 ∷ group) = omega arith in
        same_place (0 ∷ group) zero_apart i j i_in' j_in' (sym (found i i_in') ∙ ap (λ k. get_or b.tiles k 0) same ∙ found j j_in')

Contains-none : (y : ℕ) → ¬ Contains [] y
Contains-none y h = omega (arith, h.1)

Contains-cons : (x y : ℕ) (xs : List ℕ) → Contains xs y → Contains (x ∷ xs) y
Contains-cons x y xs h = (suc h.0, omega (arith, h.1), h.2)

Contains-rest : (x y : ℕ) (xs : List ℕ) → Contains (x ∷ xs) y → x ≢ y → Contains xs y
Contains-rest x y xs (zero, within, is) ne = absurd (ne is)
Contains-rest x y xs (suc k, within, is) ne = (k, omega (arith, within), is)

module _ (rule : WeightsModel) (b : BoardModel) (board : IsBoard b) (to : ℕ) (to_below : to < cell_count b.grid) where
  -- the tile on a cell
  stands : (t : ℕ) → IsTile b.grid t → eqb (cell_of b t) to ≡ true → t ≡ get_or b.tiles to 0
  stands t tile here = sym (has_cell b board t tile.1).1 ∙ ap (λ k. get_or b.tiles k 0) (eqb-true _ _ here)

  stands_there : (t : ℕ) → get_or b.tiles to 0 ≡ t → eqb (cell_of b t) to ≡ true
  stands_there t is = let e = board.one_each in eq-eqb _ _ (cell_is b board.different to t (omega arith) is)

  -- where it is the group's, its weight
  pub weight_seen : (group : List ℕ) → AllByRecursion (IsTile b.grid) group → Contains group (get_or b.tiles to 0) → weight_on rule group (map (cell_of b) group) to ≡ weight_of rule (get_or b.tiles to 0)
  weight_seen [] tiles within = absurd (Contains-none _ within)
  weight_seen (t ∷ group) tiles within =
      ⊎_elim (λ (here : eqb (cell_of b t) to ≡ true). cond-true _ _ _ here ∙ ap (weight_of rule) (stands t tiles.0 here))
      (λ (there : eqb (cell_of b t) to ≡ false).
      cond-false _ _ _ there ∙ weight_seen group tiles.1 (Contains-rest t (get_or b.tiles to 0) group within (λ same. false≢true (sym there ∙ stands_there t (sym same)))))
      (cases_Bool (eqb (cell_of b t) to))

  -- and else nothing
  pub weight_unseen : (group : List ℕ) → AllByRecursion (IsTile b.grid) group → ¬ Contains group (get_or b.tiles to 0) → weight_on rule group (map (cell_of b) group) to ≡ 0
  weight_unseen [] tiles without = refl
  weight_unseen (t ∷ group) tiles without =
      ⊎_elim (λ (here : eqb (cell_of b t) to ≡ true). absurd (without (0, omega arith, stands t tiles.0 here)))
      (λ (there : eqb (cell_of b t) to ≡ false). cond-false _ _ _ there ∙ weight_unseen group tiles.1 (λ within. without (Contains-cons t (get_or b.tiles to 0) group within)))
      (cases_Bool (eqb (cell_of b t) to))

-- a move of a board is a view move of what a group sees
pub seen_move : (rule : WeightsModel) (group : List ℕ) (b : BoardModel) (m : Move) (b' : BoardModel) (c : ℕ) → IsBoard b → AreGroupTiles b.grid group → Moves rule b m b' c → (seen : ℕ) × ViewMoves (record { grid = b.grid; rule = rule; tiles = group }) (view_of group b) m (view_of group b') seen × (Contains group (get_or b.tiles (blank_of b') 0) → seen ≡ c) × (¬ Contains group (get_or b.tiles (blank_of b') 0) → seen ≡ 0)
seen_move rule group b m b' c board is_group moves =
    let to = moves.cell in
    let tiles = recursion_from_All (IsTile b.grid) group is_group.tiles in
    let to_below = cell_below b.grid m (blank_of b) to moves.towards in
    let now : blank_of b' ≡ to = ap blank_of moves.after ∙ blank_after b board to to_below in
    let cells : map (cell_of b') group ≡ map (λ cell. cond (eqb cell to) (blank_of b) cell) (map (cell_of b) group) = ap (λ p. map (cell_of p) group) moves.after ∙ cells_after b board to to_below group tiles in (
      weight_on rule group (map (cell_of b) group) to,
      record {
        towards = subst (λ (x : ℕ). LiesTowards b.grid m (blank_of b) x) (sym now) moves.towards;
        exchanged = cells ∙ ap (λ (x : ℕ). map (λ cell. cond (eqb cell x) (blank_of b) cell) (map (cell_of b) group)) (sym now);
        cost = ap (weight_on rule group (map (cell_of b) group)) (sym now);
      },
      (λ within. weight_seen rule b board to to_below group tiles (subst (λ (x : ℕ). Contains group (get_or b.tiles x 0)) now within) ∙ sym moves.cost),
      (λ without. weight_unseen rule b board to to_below group tiles (subst (λ (x : ℕ). ¬ Contains group (get_or b.tiles x 0)) now without)),
    )

-- a view's move leads to one view, at one cost
pub one_view_move : (a : Abstraction) (v : ViewModel) (m : Move) (v' v'' : ViewModel) (c d : ℕ) → ViewMoves a v m v' c → ViewMoves a v m v'' d → (v'' ≡ v') × (d ≡ c)
one_view_move a v m v' v'' c d first second =
    let same : v''.blank ≡ v'.blank = one_cell a.grid m v.blank v'.blank v''.blank first.towards second.towards in
    let cells : v''.cells ≡ v'.cells = second.exchanged ∙ ap (λ (to : ℕ). map (λ cell. if cell == to then v.blank else cell) v.cells) same ∙ sym first.exchanged in
    ((λ i. record { blank = same i; cells = cells i }), second.cost ∙ ap (weight_on a.rule a.tiles v.cells) same ∙ sym first.cost)

-- a view plan leads to one view, at one cost
pub one_view_end : (a : Abstraction) (v : ViewModel) (plan : List Move) (w w' : ViewModel) (j k : ℕ) → ViewLeads a v plan w j → ViewLeads a v plan w' k → (w' ≡ w) × (k ≡ j)
one_view_end a v [] w w' j k first second = (second.0 ∙ sym first.0, second.1 ∙ sym first.1)
one_view_end a v (m ∷ plan) w w' j k first second =
    let one = one_view_move a v m first.0 second.0 first.1 second.1 first.3 second.3 in
    let rest = one_view_end a first.0 plan w w' first.2 second.2 first.4 (subst (λ (x : ViewModel). ViewLeads a x plan w' second.2) one.0 second.4) in
    (rest.0, omega (arith, first.5, second.5, one.1, rest.1))
