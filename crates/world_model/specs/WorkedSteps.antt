-- Worked steps: single steps of a worker with a lane or a book, written down where no short run leads. Among them are each limit, just at
-- it and just below, and each pair of refusals where the first decides.
use Rattle.std.specs.Prelude.{ℕ, ◌+◌, ◌-◌, ◌^◌, List, [], ◌∷◌, ◌++◌, true, false, Option, None, Some, replicate}
use Rattle.std.specs.FinMap as map
use Rattle.board.specs.declared.moves.Move.TheVariants.{U, L, R, D}
use Rattle.board.specs.Boards.{BoardModel, goal_of}
use Rattle.board.specs.Worked.{grid_of, two_by_two, two_by_three}
use Rattle.search_keys.specs.SearchKeys.{search_key}
use Rattle.world_model.specs.declared.limits.TheConstants.{PACKET_LIMIT, LANE_LIMIT, GREATEST_GRANT}
use Rattle.world_model.specs.declared.parts.Item.{Item}
use Rattle.world_model.specs.declared.steps.Stop.{Stop}
use Rattle.world_model.specs.declared.steps.Stop.TheVariants.{Quiet, Limit as StopLimit, Start as StopStart}
use Rattle.world_model.specs.declared.steps.HaltCause.TheVariants.{Limit, Start}
use Rattle.world_model.specs.declared.steps.Refusal.{Refusal}
use Rattle.world_model.specs.declared.steps.Refusal.TheVariants.{NothingBelowLimit, NoAllowance, NoRoom, RingFull, PurseTooSmall, StillHolding, NothingToAnnounce, NotIdle, Stopped, PurseEmpty, NothingThere, AllowanceLeft, PurseFull}
use Rattle.world_model.specs.Turns.{Turn, turn}
use Rattle.world_model.specs.Knowledge.{Knowledge}
use Rattle.world_model.specs.Workers.{WorkerState, Role, Packet, Lane}
use Rattle.world_model.specs.Books.{BookState}
use Rattle.world_model.specs.WorkerSteps.{AtLane, ExpandStep, SettleStep, SendStep, DeliverStep}
use Rattle.world_model.specs.BookSteps.{AtBook, DrawStep, AnnounceStep, GrantStep, RestStep, HaltStep}
use Rattle.world_model.specs.Openings.{Job}
use Rattle.world_model.specs.Worked.{plain_job, one_move, entry_of}

-- refused so, and all is left
abbrev pub refused : {S : Type 0} → S → Refusal → Turn S Refusal
refused before refusal = turn before (Some refusal) before

-- accepted, and this is left
abbrev pub accepted : {S : Type 0} → S → S → Turn S Refusal
accepted before after = turn before None after

-- worker 1 of the job of one move, which owns the start, and worker 0, which owns the goal
abbrev pub starter : Role
starter = record { task = one_move.task; owner = one_move.owner; me = 1 }

abbrev pub finisher : Role
finisher = record { task = one_move.task; owner = one_move.owner; me = 0 }

-- one of two workers, with nothing but this purse
abbrev pub with_purse : ℕ → WorkerState
with_purse purse = record { known = map.empty; held = []; unsent = [] ∷ [] ∷ []; purse = purse; allowance = 0; expansions = 0; best = None }

-- the goal at this cost, on its way
abbrev pub goal_at : ℕ → Item
goal_at cost = record { board = goal_of (grid_of 2 2); cost = cost; via = L }

-- `count` packets, with the goal in each
abbrev pub lane_of : ℕ → Lane
lane_of count = replicate count (goal_at 2 ∷ [])

-- a worker with `count` items for worker 0 and this purse, at a lane
abbrev pub sends : ℕ → ℕ → Lane → AtLane
sends count purse lane = record { worker = record (with_purse purse) { unsent = replicate count (goal_at 1) ∷ [] ∷ [] }; lane = lane }

-- S4: a lane of 64 packets takes no more, and one of 63 takes another at its end; the purse and what is to be sent come first
abbrev pub FullLanesRefuse : Type 0
FullLanesRefuse =
    SendStep 0 (refused (sends 1 2 (lane_of LANE_LIMIT)) RingFull)
    × SendStep 0 (accepted (sends 1 2 (lane_of (LANE_LIMIT - 1))) (sends 0 1 (lane_of (LANE_LIMIT - 1) ++ (goal_at 1 ∷ []) ∷ [])))
    × SendStep 0 (refused (sends 1 1 (lane_of LANE_LIMIT)) PurseTooSmall)
    × SendStep 0 (refused (sends 0 1 (lane_of LANE_LIMIT)) NothingThere)

-- a worker that holds these items, with this purse, at a lane
abbrev pub takes : List Item → ℕ → Lane → AtLane
takes held purse lane = record { worker = record (with_purse purse) { held = held }; lane = lane }

-- the greatest u64
abbrev pub greatest_sum : ℕ
greatest_sum = 2 ^ 64 - 1

-- S16: the greatest purse takes no more, and a purse below it the first of two packets; what is held comes first, an empty lane last
abbrev pub FullPursesRefuse : Type 0
FullPursesRefuse =
    DeliverStep (refused (takes [] greatest_sum (lane_of 1)) PurseFull)
    × DeliverStep (accepted (takes [] (greatest_sum - 1) ((goal_at 1 ∷ []) ∷ lane_of 1)) (takes (goal_at 1 ∷ []) greatest_sum (lane_of 1)))
    × DeliverStep (refused (takes (goal_at 1 ∷ []) greatest_sum (lane_of 1)) StillHolding)
    × DeliverStep (refused (takes [] greatest_sum []) PurseFull)

-- a book with this credit, which has granted this much of a limit of 300, and has stopped or not
abbrev pub book_with : ℕ → ℕ → Option Stop → BookState
book_with credit granted stop = record { credit = credit; best = None; floors = None ∷ None ∷ []; granted = granted; limit = GREATEST_GRANT + 44; stop = stop }

-- a worker at a book
abbrev pub beside : WorkerState → BookState → AtBook
beside worker book = record { worker = worker; book = book }

-- S16: no credit is drawn above 2^63, and at it 64; a run that has stopped and an empty purse come first
abbrev pub FullCreditsRefuse : Type 0
FullCreditsRefuse =
    DrawStep (refused (beside (with_purse 1) (book_with (2 ^ 63 + 1) 0 None)) PurseFull)
    × DrawStep (accepted (beside (with_purse 1) (book_with (2 ^ 63) 0 None)) (beside (with_purse 65) (book_with (2 ^ 63 + 64) 0 None)))
    × DrawStep (refused (beside (with_purse 0) (book_with (2 ^ 63 + 1) 0 None)) PurseEmpty)
    × DrawStep (refused (beside (with_purse 0) (book_with (2 ^ 63 + 1) 0 (Some Quiet))) Stopped)

-- the start of the job of one move
abbrev pub start_board : BoardModel
start_board = two_by_two 1 0 2 3

-- the item that is held last is settled first
abbrev pub LastIsSettled : Type 0
LastIsSettled =
    let start : Item = record { board = start_board; cost = 3; via = R } in
    let known : Knowledge = map.insert map.empty (search_key (goal_of (grid_of 2 2))) (entry_of 1 false L) in
    SettleStep (accepted (record (with_purse 1) { held = start ∷ goal_at 1 ∷ [] }) (record (with_purse 1) { held = start ∷ []; known = known }))

-- that the start is known at 0, is open, and is then closed
abbrev pub start_open : Knowledge
start_open = map.insert map.empty (search_key start_board) (entry_of 0 false U)

abbrev pub start_closed : Knowledge
start_closed = map.insert start_open (search_key start_board) (entry_of 0 true U)

-- a worker that knows the start as open, with this allowance and `count` items for worker 0
abbrev pub expands : ℕ → ℕ → WorkerState
expands allowance count = record (with_purse 1) { known = start_open; unsent = replicate count (goal_at 2) ∷ [] ∷ []; allowance = allowance }

-- the start is expanded: the goal is worker 0's, to whose packet it goes last, and the other successor is the worker's own
abbrev pub expanded_start : ℕ → ℕ → WorkerState
expanded_start allowance count =
    record (with_purse 1) {
      known = map.insert start_closed (search_key (two_by_two 1 3 2 0)) (entry_of 1 false D);
      unsent = (replicate count (goal_at 2) ++ goal_at 1 ∷ []) ∷ [] ∷ [];
      allowance = allowance;
      expansions = 1;
    }

-- S3: a packet of 32 items has no room for one more, and one of 31 has; the allowance and the limit of the best cost come first
abbrev pub FullPacketsRefuse : Type 0
FullPacketsRefuse =
    ExpandStep starter (refused (expands 1 PACKET_LIMIT) NoRoom)
    × ExpandStep starter (accepted (expands 1 (PACKET_LIMIT - 1)) (expanded_start 0 (PACKET_LIMIT - 1)))
    × ExpandStep starter (refused (expands 0 PACKET_LIMIT) NoAllowance)
    × ExpandStep starter (refused (record (expands 0 PACKET_LIMIT) { best = Some 0 }) NothingBelowLimit)

-- 1 0 2 over 3 4 5, whose three successors are all worker 0's
abbrev pub three_ways : Job
three_ways = plain_job (two_by_three (1 ∷ 0 ∷ 2 ∷ 3 ∷ 4 ∷ 5 ∷ [])) (two_by_three (5 ∷ 4 ∷ 3 ∷ 2 ∷ 1 ∷ 0 ∷ [])) 2

-- the worker that owns it, with this allowance, these expansions, what is known, and the packet for worker 0
abbrev pub three_by : ℕ → ℕ → Knowledge → Packet → WorkerState
three_by allowance expansions known packet = record (with_purse 1) { known = known; unsent = packet ∷ [] ∷ []; allowance = allowance; expansions = expansions }

-- successors go to the end of the packet by the moves in their order; a packet of 29 has room for three, and one of 30 has not
abbrev pub SuccessorsAreInOrder : Type 0
SuccessorsAreInOrder =
    let role : Role = record { task = three_ways.task; owner = three_ways.owner; me = 1 } in
    let opened : Knowledge = map.insert map.empty (search_key three_ways.task.start) (entry_of 4 false D) in
    let closed : Knowledge = map.insert opened (search_key three_ways.task.start) (entry_of 4 true D) in
    let left : Item = record { board = two_by_three (0 ∷ 1 ∷ 2 ∷ 3 ∷ 4 ∷ 5 ∷ []); cost = 5; via = L } in
    let right : Item = record { board = two_by_three (1 ∷ 2 ∷ 0 ∷ 3 ∷ 4 ∷ 5 ∷ []); cost = 5; via = R } in
    let down : Item = record { board = two_by_three (1 ∷ 4 ∷ 2 ∷ 3 ∷ 0 ∷ 5 ∷ []); cost = 5; via = D } in
    ExpandStep role (accepted (three_by 7 2 opened (replicate 29 left)) (three_by 6 3 closed (replicate 29 left ++ left ∷ right ∷ down ∷ [])))
    × ExpandStep role (refused (three_by 7 2 opened (replicate 30 left)) NoRoom)

-- the worker that knows the goal at 3
abbrev pub goal_known : WorkerState
goal_known = record (with_purse 1) { known = map.insert map.empty (search_key (goal_of (grid_of 2 2))) (entry_of 3 false L) }

-- this best cost
abbrev pub book_best : ℕ → Option Stop → BookState
book_best best stop = record (book_with 5 0 stop) { best = Some best }

-- S9: a goal at 3 is announced below 4, at which the copy is renewed, and not below 3, nor by another worker; a stop comes first
abbrev pub LowerGoalsAreAnnounced : Type 0
LowerGoalsAreAnnounced =
    AnnounceStep finisher (accepted (beside goal_known (book_best 4 None)) (beside (record goal_known { best = Some 3 }) (book_best 3 None)))
    × AnnounceStep finisher (refused (beside goal_known (book_best 3 None)) NothingToAnnounce)
    × AnnounceStep starter (refused (beside goal_known (book_best 4 None)) NothingToAnnounce)
    × AnnounceStep starter (refused (beside goal_known (book_best 3 (Some Quiet))) Stopped)

-- A limit of 300 is granted as 256 and then 44, and the copy is renewed. A stop comes first, then that nothing is below the best cost of
-- the book, whatever the copy, then an allowance, and last that all is granted.
abbrev pub GrantsAreWhole : Type 0
GrantsAreWhole =
    GrantStep starter (accepted (beside (expands 0 0) (book_best 9 None)) (beside (record (expands GREATEST_GRANT 0) { best = Some 9 }) (record (book_best 9 None) { granted = GREATEST_GRANT })))
    × GrantStep starter (accepted (beside (expands 0 0) (book_with 1 GREATEST_GRANT None)) (beside (expands 44 0) (book_with 1 (GREATEST_GRANT + 44) None)))
    × GrantStep starter (refused (beside (expands 0 0) (book_with 1 (GREATEST_GRANT + 44) None)) NoAllowance)
    × GrantStep starter (refused (beside (expands 1 0) (book_with 1 (GREATEST_GRANT + 44) None)) AllowanceLeft)
    × GrantStep starter (refused (beside (expands 1 0) (book_best 0 None)) NothingBelowLimit)
    × GrantStep starter (refused (beside (expands 1 0) (book_best 0 (Some Quiet))) Stopped)

-- a worker that knows an open start at 7, with this purse
abbrev pub rests : ℕ → WorkerState
rests purse = record (with_purse purse) { known = map.insert map.empty (search_key start_board) (entry_of 7 false U) }

-- a book with this credit, the best cost 7, the floors of both workers, which has stopped or not
abbrev pub book_rested : ℕ → Option ℕ → Option ℕ → Option Stop → BookState
book_rested credit first second stop = record (book_with credit 0 stop) { best = Some 7; floors = first ∷ second ∷ [] }

-- A worker rests with its floor, which is kept as its own, and its purse leaves the credit, which may be all. S10: it does not where it
-- holds an item, has one to send, knows a better goal or may expand a board; an empty purse comes first, and a stop before it.
abbrev pub FloorsAreKept : Type 0
FloorsAreKept =
    RestStep starter (accepted (beside (rests 3) (book_rested 5 (Some 8) None None)) (beside (record (rests 0) { best = Some 7 }) (book_rested 2 (Some 8) (Some 7) None)))
    × RestStep starter (accepted (beside (rests 5) (book_rested 5 (Some 8) None None)) (beside (record (rests 0) { best = Some 7 }) (book_rested 0 (Some 8) (Some 7) (Some Quiet))))
    × RestStep finisher (accepted (beside (with_purse 1) (book_rested 5 (Some 8) (Some 9) None)) (beside (record (with_purse 0) { best = Some 7 }) (book_rested 4 None (Some 9) None)))
    × RestStep starter (refused (beside (record (rests 3) { held = goal_at 9 ∷ [] }) (book_rested 5 None None None)) NotIdle)
    × RestStep starter (refused (beside (record (rests 3) { unsent = (goal_at 9 ∷ []) ∷ [] ∷ [] }) (book_rested 5 None None None)) NotIdle)
    × RestStep starter (refused (beside goal_known (book_rested 5 None None None)) NotIdle)
    × RestStep starter (refused (beside (rests 3) (record (book_rested 5 None None None) { best = Some 8 })) NotIdle)
    × RestStep starter (refused (beside (record (rests 0) { held = goal_at 9 ∷ [] }) (book_rested 5 None None None)) PurseEmpty)
    × RestStep starter (refused (beside (rests 0) (book_rested 5 None None (Some Quiet))) Stopped)

-- A run is halted for the limit where the worker has no allowance and all is granted, and for another cause at once. S14: it is not
-- where one of both is left; a stop comes first.
abbrev pub LimitsAreHaltedAt : Type 0
LimitsAreHaltedAt =
    HaltStep Limit (accepted (beside (expands 0 0) (book_with 1 (GREATEST_GRANT + 44) None)) (beside (expands 0 0) (book_with 1 (GREATEST_GRANT + 44) (Some StopLimit))))
    × HaltStep Limit (refused (beside (expands 1 0) (book_with 1 (GREATEST_GRANT + 44) None)) AllowanceLeft)
    × HaltStep Limit (refused (beside (expands 0 0) (book_with 1 (GREATEST_GRANT + 43) None)) AllowanceLeft)
    × HaltStep Start (accepted (beside (expands 1 0) (book_best 9 None)) (beside (record (expands 1 0) { best = Some 9 }) (book_best 9 (Some StopStart))))
    × HaltStep Limit (refused (beside (expands 1 0) (book_with 1 0 (Some Quiet))) Stopped)
    × HaltStep Start (refused (beside (expands 1 0) (book_with 1 0 (Some Quiet))) Stopped)
