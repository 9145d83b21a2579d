-- Items for some of the four moves, in their order.
use Rattle.std.specs.Prelude.{ℕ, Bool, true, zero, suc, ◌≡◌, ◌≤◌, ◌↔◌, List, [], ◌∷◌, length, Option, Some, None, IfSome}
use Rattle.board.specs.declared.moves.Move.{Move}
use Rattle.board.specs.declared.moves.Move.TheVariants.{U, L, R, D}
use Rattle.successor_sums.specs.declared.by_moves.ByMoves.TheInside.{Inside}

-- For each move an item, or none.
pub record ByMovesModel (A : Type 0) : Type 0 where
  pub up : Option A
  pub left : Option A
  pub right : Option A
  pub down : Option A

-- the item of a move, if it has one
abbrev pub of_move : {A : Type 0} → ByMovesModel A → Move → Option A
of_move four U = four.up
of_move four L = four.left
of_move four R = four.right
of_move four D = four.down

-- no move has an item
abbrev pub nothing : {A : Type 0} → ByMovesModel A
nothing = record { up = None; left = None; right = None; down = None }

-- the same with this for a move
abbrev pub with_move : {A : Type 0} → ByMovesModel A → Move → Option A → ByMovesModel A
with_move four U item = record { up = item; left = four.left; right = four.right; down = four.down }
with_move four L item = record { up = four.up; left = item; right = four.right; down = four.down }
with_move four R item = record { up = four.up; left = four.left; right = item; down = four.down }
with_move four D item = record { up = four.up; left = four.left; right = four.right; down = item }

-- what a function makes for each move
abbrev pub four_by : {A : Type 0} → (Move → Option A) → ByMovesModel A
four_by made = record { up = made U; left = made L; right = made R; down = made D }

-- neither the move nor those behind it have an item
abbrev pub IsBehind : {A : Type 0} → ByMovesModel A → Move → Type 0
IsBehind four U = (four.up ≡ None) × (four.left ≡ None) × (four.right ≡ None) × (four.down ≡ None)
IsBehind four L = (four.left ≡ None) × (four.right ≡ None) × (four.down ≡ None)
IsBehind four R = (four.right ≡ None) × (four.down ≡ None)
IsBehind four D = four.down ≡ None

-- a move with its item, if it has one, before others
abbrev pub before : {A : Type 0} → Move → Option A → List (Move × A) → List (Move × A)
before m None others = others
before m (Some item) others = (m, item) ∷ others

-- the moves that have an item, in their order, each with its item
abbrev pub entries_of : {A : Type 0} → ByMovesModel A → List (Move × A)
entries_of four = before U four.up (before L four.left (before R four.right (before D four.down [])))

-- P holds of each move's item
abbrev pub OfFour : {A : Type 0} → (A → Type 0) → ByMovesModel A → Type 0
OfFour P four = IfSome four.up P × IfSome four.left P × IfSome four.right P × IfSome four.down P

-- the item of each move is what the function makes for it
abbrev pub ItemsAreAsMade : Type 0 → Type 0
ItemsAreAsMade A = (made : Move → Option A) (m : Move) → of_move (four_by made) m ≡ made m

-- the items of the four moves pass a test exactly where what the function makes for every move passes it
abbrev pub FourAreAllMoves : Type 0 → Type 0
FourAreAllMoves A =
    (test : A → Bool) (made : Move → Option A)
    → OfFour (λ item. test item ≡ true) (four_by made) ↔ ((m : Move) → IfSome (made m) (λ item. test item ≡ true))

-- ---- what lies in memory

-- the first n moves, each with its item
abbrev pub first_of : {A : Type 0} → ℕ → List Move → List A → List (Move × A)
first_of zero moves items = []
first_of (suc count) [] items = []
first_of (suc count) (m ∷ moves) [] = []
first_of (suc count) (m ∷ moves) (item ∷ items) = (m, item) ∷ first_of count moves items

-- the items of the moves, by a list of moves with their items
abbrev pub four_from : {A : Type 0} → List (Move × A) → ByMovesModel A
four_from [] = nothing
four_from (entry ∷ entries) = with_move (four_from entries) entry.0 (Some entry.1)

-- what the memory holds
abbrev pub four_in : {A : Type 0} → Inside A → ByMovesModel A
four_in inside = four_from (first_of inside.count inside.moves inside.items)

-- the moves are in their order, and each is there once
pub record IsListed {A : Type 0} (inside : Inside A) : Type 0 where
  pub moves : length inside.moves ≡ 4
  pub items : length inside.items ≡ 4
  pub few : inside.count ≤ 4
  pub order : first_of inside.count inside.moves inside.items ≡ entries_of (four_in inside)
