-- Entries for the moves, and what moves make that aren't left out.
use Rattle.std.proofs.Common.{◌≡◌, ℕ, zero, suc, ◌<◌, ◌≤◌, List, [], ◌∷◌, ◌++◌, length, get_or, Option, Some, None, refl, sym, ap, ◌∙◌, subst, arith, ◌+◌, Bool, true, false, set, ⊎_elim}
use Rattle.std.specs.Prelude.{⊤, IfSome, if◌then◌else◌}
use Rattle.std.specs.List.{AllByRecursion}
use Rattle.std.proofs.lemmas.List.Elements.{All-from_recursion, recursion_from_All}
use Rattle.std.proofs.lemmas.List.{length-set}
use Rattle.std.proofs.lemmas.Bool.{cases_Bool, cond-true, cond-false}
use mir.Val.{bool_byte}
use Rattle.board.specs.declared.moves.Move.{Move}
use Rattle.board.specs.declared.moves.Move.TheVariants.{U, L, R, D}
use Rattle.board.specs.Shapes.{ShapeModel}
use Rattle.board.specs.Boards.{BoardModel, blank_of}
use Rattle.board.specs.Neighbours.{neighbour}
use Rattle.successor_sums.specs.ByMoves.{ByMovesModel, IsBehind, OfFour, before, entries_of, four_by, of_move, IsListed, first_of, four_from, four_in, with_move}
use Rattle.successor_sums.specs.declared.by_moves.ByMoves.TheInside.{Inside}
use Rattle.successor_sums.specs.Unpacked.{but, is_left_out}

-- ---- the entries of items for some of the four moves: what holds of each entry

all_before : {A : Type 0} (P : Move × A → Type 0) (m : Move) (o : Option A) (rest : List (Move × A)) → IfSome o (λ x. P (m, x)) → AllByRecursion P rest → AllByRecursion P (before m o rest)
all_before P m None rest is all = all
all_before P m (Some x) rest is all = (is, all)

before_all : {A : Type 0} (P : Move × A → Type 0) (m : Move) (o : Option A) (rest : List (Move × A)) → AllByRecursion P (before m o rest) → IfSome o (λ x. P (m, x)) × AllByRecursion P rest
before_all P m None rest all = (tt, all)
before_all P m (Some x) rest all = (all.0, all.1)

pub all_four : {A : Type 0} (P : Move × A → Type 0) (four : ByMovesModel A) → IfSome four.up (λ x. P (U, x)) → IfSome four.left (λ x. P (L, x)) → IfSome four.right (λ x. P (R, x)) → IfSome four.down (λ x. P (D, x)) → AllByRecursion P (entries_of four)
all_four P four up left right down =
    all_before P U four.up (before L four.left (before R four.right (before D four.down []))) up
    (all_before P L four.left (before R four.right (before D four.down [])) left
    (all_before P R four.right (before D four.down []) right
    (all_before P D four.down [] down tt)))

itself : {A : Type 0} (o : Option A) → IfSome o (λ x. o ≡ Some x)
itself None = tt
itself (Some x) = refl

-- each entry has the item of its move
pub stands_at : {A : Type 0} (four : ByMovesModel A) (i : ℕ) (d : Move × A) → i < length (entries_of four) → of_move four (get_or (entries_of four) i d).0 ≡ Some (get_or (entries_of four) i d).1
stands_at {A = A} four i d low =
    All-from_recursion (λ (e : Move × A). of_move four e.0 ≡ Some e.1) (entries_of four)
    (all_four (λ (e : Move × A). of_move four e.0 ≡ Some e.1) four (itself four.up) (itself four.left) (itself four.right) (itself four.down)) i d low

-- ---- where the entry of a move is

abbrev IsAmong : {A : Type 0} → Move × A → List (Move × A) → Type 0
IsAmong {A} e es = (i : ℕ) × (i < length es) × ((d : Move × A) → get_or es i d ≡ e)

behind_others : {A : Type 0} (e : Move × A) (m : Move) (o : Option A) (rest : List (Move × A)) → IsAmong e rest → IsAmong e (before m o rest)
behind_others e m None rest at = at
behind_others e m (Some x) rest at = (suc at.0, (let low = at.1 in omega (arith, low)), at.2)

there_first : {A : Type 0} (m : Move) (o : Option A) (x : A) (rest : List (Move × A)) → o ≡ Some x → IsAmong (m, x) (before m o rest)
there_first m None x rest is = absurd (none is)
  where
    none : {A : Type 0} {y : A} → ◌≡◌ {A = Option A} None (Some y) → ⊥
    none e = cc
there_first {A = A} m (Some y) x rest is = (0, omega arith, λ d. ap (λ (z : A). (m, z)) (let same : y ≡ x = cc in same))

pub found : {A : Type 0} (four : ByMovesModel A) (m : Move) (x : A) → of_move four m ≡ Some x → IsAmong (m, x) (entries_of four)
found four U x is = there_first U four.up x (before L four.left (before R four.right (before D four.down []))) is
found four L x is = behind_others (L, x) U four.up (before L four.left (before R four.right (before D four.down []))) (there_first L four.left x (before R four.right (before D four.down [])) is)
found four R x is = behind_others (R, x) U four.up (before L four.left (before R four.right (before D four.down []))) (behind_others (R, x) L four.left (before R four.right (before D four.down [])) (there_first R four.right x (before D four.down []) is))
found four D x is = behind_others (D, x) U four.up (before L four.left (before R four.right (before D four.down []))) (behind_others (D, x) L four.left (before R four.right (before D four.down [])) (behind_others (D, x) R four.right (before D four.down []) (there_first D four.down x [] is)))

-- ---- the order of the entries

abbrev rank : Move → ℕ
rank U = 0
rank L = 1
rank R = 2
rank D = 3

abbrev IsAfter : {A : Type 0} → Move → List (Move × A) → Type 0
IsAfter m es = AllByRecursion (λ e. rank m < rank e.0) es

abbrev IsSorted : {A : Type 0} → List (Move × A) → Type 0
IsSorted [] = ⊤
IsSorted (e ∷ es) = IsAfter e.0 es × IsSorted es

of_any : {A : Type 0} (o : Option A) (a b : ℕ) → a < b → IfSome o (λ x. a < b)
of_any None a b is = tt
of_any (Some x) a b is = is

after_before : {A : Type 0} (m k : Move) (o : Option A) (rest : List (Move × A)) → rank m < rank k → IsAfter m rest → IsAfter m (before k o rest)
after_before {A = A} m k o rest low all = all_before (λ (e : Move × A). rank m < rank e.0) k o rest (of_any o (rank m) (rank k) low) all

sorted_before : {A : Type 0} (m : Move) (o : Option A) (rest : List (Move × A)) → IsAfter m rest → IsSorted rest → IsSorted (before m o rest)
sorted_before m None rest all is = is
sorted_before m (Some x) rest all is = (all, is)

sorted : {A : Type 0} (four : ByMovesModel A) → IsSorted (entries_of four)
sorted four =
    let down = before D four.down [] in
    let right = before R four.right down in
    let left = before L four.left right in
    sorted_before U four.up left (after_before U L four.left right (omega arith) (after_before U R four.right down (omega arith) (after_before U D four.down [] (omega arith) tt)))
    (sorted_before L four.left right (after_before L R four.right down (omega arith) (after_before L D four.down [] (omega arith) tt))
    (sorted_before R four.right down (after_before R D four.down [] (omega arith) tt)
    (sorted_before D four.down [] tt tt)))

lower : {A : Type 0} (es : List (Move × A)) (j i : ℕ) (d : Move × A) → IsSorted es → j < i → i < length es → rank (get_or es j d).0 < rank (get_or es i d).0
lower [] j i d is lt low = absurd (omega (arith, low))
lower (e ∷ es) j zero d is lt low = absurd (omega (arith, lt))
lower {A = A} (e ∷ es) zero (suc i) d is lt low = All-from_recursion (λ (x : Move × A). rank e.0 < rank x.0) es is.0 i d (omega (arith, low))
lower (e ∷ es) (suc j) (suc i) d is lt low = lower es j i d is.1 (omega (arith, lt)) (omega (arith, low))

none_of : {A : Type 0} (o : Option A) (m k : Move) → rank m ≤ rank k → IfSome o (λ x. rank k < rank m) → o ≡ None
none_of None m k low is = refl
none_of (Some x) m k low is = absurd (omega (arith, low, is))

behind_ranks : {A : Type 0} (four : ByMovesModel A) (m : Move) → AllByRecursion (λ (e : Move × A). rank e.0 < rank m) (entries_of four) → IsBehind four m
behind_ranks {A = A} four m all = by m up.0 left.0 right.0 down.0
  where
    up : IfSome four.up (λ x. rank U < rank m) × AllByRecursion (λ (e : Move × A). rank e.0 < rank m) (before L four.left (before R four.right (before D four.down [])))
    up = before_all (λ (e : Move × A). rank e.0 < rank m) U four.up (before L four.left (before R four.right (before D four.down []))) all

    left : IfSome four.left (λ x. rank L < rank m) × AllByRecursion (λ (e : Move × A). rank e.0 < rank m) (before R four.right (before D four.down []))
    left = before_all (λ (e : Move × A). rank e.0 < rank m) L four.left (before R four.right (before D four.down [])) up.1

    right : IfSome four.right (λ x. rank R < rank m) × AllByRecursion (λ (e : Move × A). rank e.0 < rank m) (before D four.down [])
    right = before_all (λ (e : Move × A). rank e.0 < rank m) R four.right (before D four.down []) left.1

    down : IfSome four.down (λ x. rank D < rank m) × AllByRecursion (λ (e : Move × A). rank e.0 < rank m) []
    down = before_all (λ (e : Move × A). rank e.0 < rank m) D four.down [] right.1

    by : (k : Move) → IfSome four.up (λ x. rank U < rank k) → IfSome four.left (λ x. rank L < rank k) → IfSome four.right (λ x. rank R < rank k) → IfSome four.down (λ x. rank D < rank k) → IsBehind four k
    by U a b c d = (none_of four.up U U (omega arith) a, none_of four.left U L (omega arith) b, none_of four.right U R (omega arith) c, none_of four.down U D (omega arith) d)
    by L a b c d = (none_of four.left L L (omega arith) b, none_of four.right L R (omega arith) c, none_of four.down L D (omega arith) d)
    by R a b c d = (none_of four.right R R (omega arith) c, none_of four.down R D (omega arith) d)
    by D a b c d = none_of four.down D D (omega arith) d

-- where the moves of one are the first of another's, the next move of that one comes behind them
pub behind_those : {A B : Type 0} (a : ByMovesModel A) (b : ByMovesModel B) (i : ℕ) (e : Move × A) → i < length (entries_of a) → length (entries_of b) ≡ i → ((j : ℕ) (d : Move × B) → j < i → (get_or (entries_of b) j d).0 ≡ (get_or (entries_of a) j e).0) → IsBehind b (get_or (entries_of a) i e).0
behind_those {B = B} a b i e low all same =
    let m = (get_or (entries_of a) i e).0 in
    behind_ranks b m
    (recursion_from_All (λ (x : Move × B). rank x.0 < rank m) (entries_of b)
    (λ j d within. (let lt : j < i = omega (arith, within, all) in subst (λ (k : Move). rank k < rank m) (sym (same j d lt)) (lower (entries_of a) j i e (sorted a) lt low))))

-- what holds of each entry's item holds of the item of each move
pub of_entries : {A : Type 0} (P : A → Type 0) (four : ByMovesModel A) → ((j : ℕ) (d : Move × A) → j < length (entries_of four) → P (get_or (entries_of four) j d).1) → OfFour P four
of_entries {A = A} P four all = (one U four.up refl, one L four.left refl, one R four.right refl, one D four.down refl)
  where
    one : (m : Move) (o : Option A) → of_move four m ≡ o → IfSome o P
    one m None is = tt
    one m (Some x) is =
        let place = found four m x is in
        subst (λ (e : Move × A). P e.1) (place.2 (m, x)) (all place.0 (m, x) place.1)

-- ---- one entry more

pub before_end : {A : Type 0} (xs : List A) (x : A) (j : ℕ) (d : A) → j < length xs → get_or (xs ++ x ∷ []) j d ≡ get_or xs j d
before_end [] x j d low = absurd (omega (arith, low))
before_end (y ∷ xs) x zero d low = refl
before_end (y ∷ xs) x (suc j) d low = before_end xs x j d (omega (arith, low))

pub at_end : {A : Type 0} (xs : List A) (x : A) (j : ℕ) (d : A) → j ≡ length xs → get_or (xs ++ x ∷ []) j d ≡ x
at_end [] x zero d is = refl
at_end [] x (suc j) d is = absurd (omega (arith, is))
at_end (y ∷ xs) x zero d is = absurd (omega (arith, is))
at_end (y ∷ xs) x (suc j) d is = at_end xs x j d (omega (arith, is))

-- ---- one made of another

-- what has the same moves as another has nothing where that one has nothing
pub absent_too : {A B : Type 0} (a : ByMovesModel A) (b : ByMovesModel B) → length (entries_of b) ≡ length (entries_of a) → ((j : ℕ) (d : Move × B) (e : Move × A) → j < length (entries_of a) → (get_or (entries_of b) j d).0 ≡ (get_or (entries_of a) j e).0) → (m : Move) → of_move b m ≡ None → of_move a m ≡ None
absent_too {A = A} {B = B} a b all same m is = by (of_move a m) refl
  where
    not_some : {x : B} → ◌≡◌ {A = Option B} None (Some x) → ⊥
    not_some e = cc

    any : (es : List (Move × B)) (k : ℕ) → k < length es → ((d : Move × B) → of_move b (get_or es k d).0 ≡ Some (get_or es k d).1) → ((d : Move × B) → (get_or es k d).0 ≡ m) → ⊥
    any [] k within stands at_k = absurd (omega (arith, within))
    any (x ∷ es) k within stands at_k = not_some (sym is ∙ ap (of_move b) (sym (at_k x)) ∙ stands x)

    by : (o : Option A) → of_move a m ≡ o → of_move a m ≡ None
    by None at = at
    by (Some y) at =
        let place = found a m y at in
        let low = place.1 in
        let within : place.0 < length (entries_of b) = omega (arith, low, all) in
        absurd (any (entries_of b) place.0 within (λ d. stands_at b place.0 d within) (λ d. same place.0 d (m, y) low ∙ ap (λ (e : Move × A). e.0) (place.2 (m, y))))

-- ---- entries in the order of the moves: the first of a list of moves, each with its item

pub first_of-length : {A : Type 0} (count : ℕ) (moves : List Move) (items : List A) → count ≤ length moves → count ≤ length items → length (first_of count moves items) ≡ count
first_of-length zero moves items low low' = refl
first_of-length (suc count) [] items low low' = absurd (omega (arith, low))
first_of-length (suc count) (m ∷ moves) [] low low' = absurd (omega (arith, low'))
first_of-length (suc count) (m ∷ moves) (x ∷ items) low low' = ap suc (first_of-length count moves items (omega (arith, low)) (omega (arith, low')))

pub first_of-at : {A : Type 0} (count : ℕ) (moves : List Move) (items : List A) (i : ℕ) (d : Move × A) (dm : Move) (dx : A) → i < length (first_of count moves items) → get_or (first_of count moves items) i d ≡ (get_or moves i dm, get_or items i dx)
first_of-at zero moves items i d dm dx low = absurd (omega (arith, low))
first_of-at (suc count) [] items i d dm dx low = absurd (omega (arith, low))
first_of-at (suc count) (m ∷ moves) [] i d dm dx low = absurd (omega (arith, low))
first_of-at (suc count) (m ∷ moves) (x ∷ items) zero d dm dx low = refl
first_of-at (suc count) (m ∷ moves) (x ∷ items) (suc i) d dm dx low = first_of-at count moves items i d dm dx (omega (arith, low))

-- one more is written behind them, and counted or not
written_behind : {A : Type 0} (count : ℕ) (moves : List Move) (items : List A) (m : Move) (x : A) → count < length moves → count < length items → first_of (suc count) (set moves count m) (set items count x) ≡ first_of count moves items ++ (m, x) ∷ []
written_behind count [] items m x low low' = absurd (omega (arith, low))
written_behind count (k ∷ moves) [] m x low low' = absurd (omega (arith, low'))
written_behind zero (k ∷ moves) (y ∷ items) m x low low' = refl
written_behind {A = A} (suc count) (k ∷ moves) (y ∷ items) m x low low' = ap (λ (es : List (Move × A)). (k, y) ∷ es) (written_behind count moves items m x (omega (arith, low)) (omega (arith, low')))

not_counted : {A : Type 0} (count : ℕ) (moves : List Move) (items : List A) (m : Move) (x : A) → first_of count (set moves count m) (set items count x) ≡ first_of count moves items
not_counted zero moves items m x = refl
not_counted (suc count) [] items m x = refl
not_counted (suc count) (k ∷ moves) [] m x = refl
not_counted {A = A} (suc count) (k ∷ moves) (y ∷ items) m x = ap (λ (es : List (Move × A)). (k, y) ∷ es) (not_counted count moves items m x)

-- ---- what is put behind others

-- it is the last entry
abbrev IsPut : {A : Type 0} → ByMovesModel A → Move → A → Type 0
IsPut four m x = (four_from (entries_of four ++ (m, x) ∷ []) ≡ with_move four m (Some x)) × (entries_of (with_move four m (Some x)) ≡ entries_of four ++ (m, x) ∷ []) × (with_move four m None ≡ four) × (length (entries_of four) ≤ 3)

put_by : {A : Type 0} (a b c d : Option A) (m : Move) (x : A) → IsBehind (record { up = a; left = b; right = c; down = d }) m → IsPut (record { up = a; left = b; right = c; down = d }) m x
put_by a b c d U x is = rw is.0 (rw is.1 (rw is.2 (rw is.3 (refl, refl, refl, omega arith))))
put_by None b c d L x is = rw is.0 (rw is.1 (rw is.2 (refl, refl, refl, omega arith)))
put_by (Some a) b c d L x is = rw is.0 (rw is.1 (rw is.2 (refl, refl, refl, omega arith)))
put_by None None c d R x is = rw is.0 (rw is.1 (refl, refl, refl, omega arith))
put_by None (Some b) c d R x is = rw is.0 (rw is.1 (refl, refl, refl, omega arith))
put_by (Some a) None c d R x is = rw is.0 (rw is.1 (refl, refl, refl, omega arith))
put_by (Some a) (Some b) c d R x is = rw is.0 (rw is.1 (refl, refl, refl, omega arith))
put_by None None None d D x is = rw is (refl, refl, refl, omega arith)
put_by None None (Some c) d D x is = rw is (refl, refl, refl, omega arith)
put_by None (Some b) None d D x is = rw is (refl, refl, refl, omega arith)
put_by None (Some b) (Some c) d D x is = rw is (refl, refl, refl, omega arith)
put_by (Some a) None None d D x is = rw is (refl, refl, refl, omega arith)
put_by (Some a) None (Some c) d D x is = rw is (refl, refl, refl, omega arith)
put_by (Some a) (Some b) None d D x is = rw is (refl, refl, refl, omega arith)
put_by (Some a) (Some b) (Some c) d D x is = rw is (refl, refl, refl, omega arith)

put_is : {A : Type 0} (four : ByMovesModel A) (m : Move) (x : A) → IsBehind four m → IsPut four m x
put_is four m x is = put_by four.up four.left four.right four.down m x is

-- and so it is in the list of entries
pub put_entry : {A : Type 0} (four : ByMovesModel A) (m : Move) (x : A) → IsBehind four m → entries_of (with_move four m (Some x)) ≡ entries_of four ++ (m, x) ∷ []
put_entry four m x is = (put_is four m x is).1

-- what lies in memory then
pub put_listed : {A : Type 0} (inside : Inside A) (m : Move) (x : A) (there : Bool) → IsListed inside → IsBehind (four_in inside) m → IsListed (record { moves = set inside.moves inside.count m; items = set inside.items inside.count x; count = inside.count + bool_byte there }) × (four_in (record { moves = set inside.moves inside.count m; items = set inside.items inside.count x; count = inside.count + bool_byte there }) ≡ with_move (four_in inside) m (if there then Some x else None))
put_listed {A = A} inside m x true listed behind =
    let put = put_is (four_in inside) m x behind in
    let all = listed.moves in
    let all' = listed.items in
    let size = first_of-length inside.count inside.moves inside.items (let few = listed.few in omega (arith, all, few)) (let few = listed.few in omega (arith, all', few)) in
    let same : length (first_of inside.count inside.moves inside.items) ≡ length (entries_of (four_in inside)) = ap length listed.order in
    let low = put.3 in
    let within : inside.count < 4 = omega (arith, size, same, low) in
    let one : inside.count + 1 ≡ suc inside.count = omega arith in
    let made = ap (λ (n : ℕ). first_of n (set inside.moves inside.count m) (set inside.items inside.count x)) one ∙ written_behind inside.count inside.moves inside.items m x (omega (arith, within, all)) (omega (arith, within, all')) ∙ ap (λ (es : List (Move × A)). es ++ (m, x) ∷ []) listed.order in
    let four = ap four_from made ∙ put.0 in
    (record { moves = length-set inside.moves inside.count m ∙ all; items = length-set inside.items inside.count x ∙ all'; few = omega (arith, within); order = made ∙ sym put.1 ∙ sym (ap entries_of four) }, four)
put_listed {A = A} inside m x false listed behind =
    let put = put_is (four_in inside) m x behind in
    let none : inside.count + bool_byte false ≡ inside.count = omega arith in
    let few = listed.few in
    let made = ap (λ (n : ℕ). first_of n (set inside.moves inside.count m) (set inside.items inside.count x)) none ∙ not_counted inside.count inside.moves inside.items m x in
    let four : four_from (first_of (inside.count + bool_byte false) (set inside.moves inside.count m) (set inside.items inside.count x)) ≡ four_in inside = ap four_from made in
    (record { moves = length-set inside.moves inside.count m ∙ listed.moves; items = length-set inside.items inside.count x ∙ listed.items; few = omega (arith, none, few); order = made ∙ listed.order ∙ sym (ap entries_of four) }, four ∙ sym put.2)

-- ---- what moves make that aren't left out

-- a move that isn't left out makes what it makes
but_some : {A : Type 0} (left_out : Option Move) (made : Move → Option A) (m : Move) (x : A) → but left_out made m ≡ Some x → (is_left_out left_out m ≡ false) × (made m ≡ Some x)
but_some {A = A} left_out made m x is =
    ⊎_elim
    (λ (out : is_left_out left_out m ≡ true). absurd (none (sym (cond-true _ _ _ out) ∙ is)))
    (λ (stays : is_left_out left_out m ≡ false). (stays, sym (cond-false _ _ _ stays) ∙ is))
    (cases_Bool (is_left_out left_out m))
  where
    none : {y : A} → ◌≡◌ {A = Option A} None (Some y) → ⊥
    none e = cc

pub of_four_by : {A : Type 0} (made : Move → Option A) (m : Move) → of_move (four_by made) m ≡ made m
of_four_by made U = refl
of_four_by made L = refl
of_four_by made R = refl
of_four_by made D = refl

-- each entry of what moves make that aren't left out is what its move makes
pub kept_by : {A : Type 0} (left_out : Option Move) (made : Move → Option A) (four : ByMovesModel A) → four ≡ four_by (but left_out made) → (i : ℕ) (e : Move × A) → i < length (entries_of four) → (is_left_out left_out (get_or (entries_of four) i e).0 ≡ false) × (made (get_or (entries_of four) i e).0 ≡ Some (get_or (entries_of four) i e).1)
kept_by {A = A} left_out made four is i e low =
    let m = (get_or (entries_of four) i e).0 in
    but_some left_out made m (get_or (entries_of four) i e).1 (sym (of_four_by (but left_out made) m) ∙ ap (λ (f : ByMovesModel A). of_move f m) (sym is) ∙ stands_at four i e low)

-- where the blank goes from the board by a move that isn't left out
abbrev pub exits_of : Option Move → BoardModel → ByMovesModel ℕ
exits_of left_out b = four_by (but left_out (λ m. neighbour b.grid m (blank_of b)))

-- each of these is a neighbour of the blank
pub led_by : (left_out : Option Move) (b : BoardModel) (exits : ByMovesModel ℕ) → exits ≡ exits_of left_out b → (i : ℕ) (e : Move × ℕ) → i < length (entries_of exits) → (is_left_out left_out (get_or (entries_of exits) i e).0 ≡ false) × (neighbour b.grid (get_or (entries_of exits) i e).0 (blank_of b) ≡ Some (get_or (entries_of exits) i e).1)
led_by left_out b exits is i e low = kept_by left_out (λ m. neighbour b.grid m (blank_of b)) exits is i e low

pub exits_here : (left_out : Option Move) (b : BoardModel) (shape : ShapeModel) (blank : ℕ) (exits : ByMovesModel ℕ) → exits ≡ four_by (but left_out (λ m. neighbour shape m blank)) → shape ≡ b.grid → blank ≡ blank_of b → exits ≡ exits_of left_out b
exits_here left_out b shape blank exits is same at = is ∙ (λ i. four_by (but left_out (λ m. neighbour (same i) m (at i))))
