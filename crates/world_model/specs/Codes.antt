-- What is known of a board as numbers, by which a proof tells it apart.
use Rattle.std.specs.Prelude.{ℕ, Bool, ◌≡◌, ◌==◌, if◌then◌else◌, refl}
use Rattle.std.specs.Coded.{Coded, code_by, coded×, coded_ℕ, coded_bool}
use Rattle.std.specs.FinMap as map
use Rattle.board.specs.declared.moves.Move.{Move}
use Rattle.board.specs.declared.moves.Move.TheVariants.{U, L, R, D}
use Rattle.world_model.specs.declared.parts.Known.{Known}
use Rattle.world_model.specs.Knowledge.{Knowledge}

-- a move as a number
abbrev pub move_number : Move → ℕ
move_number U = 0
move_number L = 1
move_number R = 2
move_number D = 3

-- the move of a number
abbrev pub move_of : ℕ → Move
move_of n = if n == 0 then U else if n == 1 then L else if n == 2 then R else D

-- a move is that of its number
abbrev pub same_move : (m : Move) → move_of (move_number m) ≡ m
same_move U = refl
same_move L = refl
same_move R = refl
same_move D = refl

-- moves are coded by their numbers
abbrev pub move_code : Coded Move
move_code = code_by ℕ coded_ℕ move_number move_of same_move

-- entries by cost, state and last move
abbrev pub known_code : Coded Known
known_code =
    code_by (ℕ × (Bool × Move)) (coded× coded_ℕ (coded× coded_bool move_code)) (λ k. (k.cost, (k.expanded, k.via))) (λ p. record { cost = p.0; expanded = p.1.0; via = p.1.1 }) (λ _. refl)

-- and what is known by its entries
abbrev pub knowledge_code : Coded Knowledge
knowledge_code = map.code coded_ℕ known_code
