-- What an expansion makes of a worker.
use Rattle.std.specs.Prelude.{ℕ, ◌+◌, ◌-◌, List, [], ◌∷◌, ◌++◌, slice_set, fold, filter, filter_map, option_map, Option, Some, None, not, ◌==◌, if◌then◌else◌}
use Rattle.board.specs.declared.moves.Move.{Move}
use Rattle.board.specs.Boards.{BoardModel}
use Rattle.board.specs.Weights.{WeightsModel}
use Rattle.board.specs.Equality.{move_eq}
use Rattle.board.specs.Neighbours.{opposite}
use Rattle.board.specs.Moves.{all_moves, successor}
use Rattle.world_model.specs.declared.parts.Item.{Item}
use Rattle.world_model.specs.declared.parts.Known.{Known}
use Rattle.world_model.specs.Knowledge.{relaxation, closure}
use Rattle.world_model.specs.Workers.{WorkerState, Role, packet_for}

-- the successors of a board that costs this much, by these moves
abbrev pub items_by : List Move → WeightsModel → BoardModel → ℕ → List Item
items_by moves rule b cost = filter_map (λ m. option_map (λ next. record { board = next.0; cost = cost + next.1; via = m }) (successor rule b m)) moves

-- and by all moves in their order
abbrev pub successor_items : WeightsModel → BoardModel → ℕ → List Item
successor_items rule b cost = items_by all_moves rule b cost

-- the worker with one successor more: its own is relaxed, another worker's goes to the end of the packet for that worker
abbrev pub with_successor : Role → WorkerState → Item → WorkerState
with_successor role worker item =
    if role.owner item.board == role.me
    then record worker { known = relaxation worker.known item }
    else record worker { unsent = slice_set worker.unsent (role.owner item.board) (packet_for worker (role.owner item.board) ++ item ∷ []) }

-- the worker with a board closed, which counts as an expansion
abbrev pub with_closure : WorkerState → BoardModel → Known → WorkerState
with_closure worker b known =
    record worker { known = closure worker.known b known; allowance = worker.allowance - 1; expansions = worker.expansions + 1 }

-- the worker after it expanded a board that it knows so, by these moves
abbrev pub expansion_by : List Move → Role → WorkerState → BoardModel → Known → WorkerState
expansion_by moves role worker b known = fold (with_successor role) (with_closure worker b known) (items_by moves role.task.rule b known.cost)

-- and by all moves
abbrev pub expansion : Role → WorkerState → BoardModel → Known → WorkerState
expansion role worker b known = expansion_by all_moves role worker b known

-- the moves in their order, without the one that is left out, if any
abbrev pub moves_but : Option Move → List Move
moves_but None = all_moves
moves_but (Some out) = filter (λ m. not (move_eq m out)) all_moves

-- the move back from a board that is known so: the opposite of its last move, and none at cost 0
abbrev pub move_back : Known → Option Move
move_back known = if known.cost == 0 then None else Some (opposite known.via)
