-- Worlds that are computed: their runs, their frontier, and the lowest of it.
use Rattle.std.proofs.Common.{◌≡◌, ◌⊎◌, ℕ, zero, suc, ◌<◌, ◌≤◌, Bool, true, false, List, [], ◌∷◌, length, map, refl, sym, ap, ◌∙◌, subst, inl, inr, ⊎_elim, arith, Option, Some, None, ◌+◌, ◌++◌, min}
use Rattle.std.specs.Prelude.{⊤, Contains, if◌then◌else◌, ◌==◌, fold, slice_get, slice_set, option_map}
use Rattle.std.proofs.lemmas.Bool.{cases_lt, eqb-true, eqb-false}
use Rattle.std.proofs.lemmas.Option.{slice_get-map, slice_get_within}
use Rattle.std.proofs.lemmas.List.Elements.{Contains-push}
use Rattle.std.specs.FinMap as entries
use Rattle.board.specs.Boards.{BoardModel, IsBoard}
use Rattle.search_keys.specs.SearchKeys.{search_key}
use Rattle.outcomes.specs.Outcomes.{Task}
use Rattle.world_model.specs.declared.parts.Item.{Item}
use Rattle.world_model.specs.declared.parts.Known.{Known}
use Rattle.world_model.specs.declared.steps.Refusal.{Refusal}
use Rattle.world_model.specs.declared.steps.Refusal.TheVariants.{NoSuchWorker}
use Rattle.world_model.specs.declared.steps.Step.{Step}
use Rattle.world_model.specs.declared.steps.Step.TheVariants.{Expand, Settle, Send, Deliver, Draw, Announce, Grant, Rest, Halt}
use Rattle.world_model.specs.BookSteps.{AnnounceStep, AtBook, DrawStep, GrantStep, HaltStep, RestStep}
use Rattle.world_model.specs.Books.{BookState}
use Rattle.world_model.specs.Expansions.{successor_items}
use Rattle.world_model.specs.Shapes.{IsShaped, IsTask}
use Rattle.world_model.specs.Steps.{ByWorker, Ends, IsRun, Next, OnBook, OnLane, lane_ends, with_lane}
use Rattle.world_model.specs.Turns.{Turn, turn}
use Rattle.world_model.specs.WorkerSteps.{AtLane, DeliverStep, ExpandStep, SendStep, SettleStep}
use Rattle.world_model.specs.Workers.{IsTaskBoard, Lane, Role, WorkerState, IsOpen}
use Rattle.world_model.specs.Worlds.{IsLane, IsWorker, Knows, WorldState, IsUnderWay}
use Rattle.world_model.specs.Costs.{IsLeastWith, lesser}
use Rattle.world_model.specs.Frontiers.{IsInFrontier, IsLowest, IsOpenAt, IsReached}
use Rattle.world_model.proofs.ChangeLemmas.{get_below, place_of, at_in, entry}
use Rattle.world_model.proofs.ExpandLemmas.{Among, offered_board}
use Rattle.world_model.proofs.ShapeKept.{steps_shaped}
use Rattle.world_model.proofs.SmallWorkers.{Entries, Small, worker_of, look_up, look_first, found, relax, small_successor, small_closed, small_expansion, AreBoards, open_list, open_there, IsLeastIn, least_is, In, open_listed, cost_of}
use Rattle.world_model.proofs.SmallSteps.{any_over, expand_room, expand_by, IsLastOf, last_is, settle_by, send_entries, deliver_entries, draw_entries, announce_entries, grant_entries, rest_entries, halt_entries, Done, own_turn, LaneDone, lane_turn, BookDone, book_turn, small_expand, expand_is, small_settle, settle_is, small_send, send_is, small_deliver, deliver_is, small_draw, draw_is, small_announce, announce_is, small_grant, grant_is, small_rest, rest_is, small_halt, halt_is}

-- ---- worlds that are computed, and their runs

get_none : {X : Type 0} (xs : List X) (i : ℕ) → slice_get xs i ≡ None → length xs ≤ i
get_none xs i none = ⊎_elim (λ (lt : i < length xs). let x = get_below xs i lt in let e : ◌≡◌ {A = Option _} None (Some x.0) = sym none ∙ x.1 in absurd (cc)) (λ (le : length xs ≤ i). le) (cases_lt i (length xs))

map_set : {X Y : Type 0} (f : X → Y) (xs : List X) (i : ℕ) (x : X) → map f (slice_set xs i x) ≡ slice_set (map f xs) i (f x)
map_set f [] i x = refl
map_set f (y ∷ xs) zero x = refl
map_set f (y ∷ xs) (suc i) x = ap (λ ys. f y ∷ ys) (map_set f xs i x)

map_length : {X Y : Type 0} (f : X → Y) (xs : List X) → length (map f xs) ≡ length xs
map_length f [] = refl
map_length f (x ∷ xs) = ap suc (map_length f xs)

pub record SmallWorld : Type 0 where
  pub workers : List Small
  pub book : BookState
  pub lanes : List (List Lane)

-- each worker knows boards of the task
abbrev pub AllBoards : Task → List Small → Type 0
AllBoards task [] = ⊤
AllBoards task (x ∷ xs) = AreBoards task x.entries × AllBoards task xs

pub boards_at : (task : Task) (xs : List Small) (i : ℕ) (x : Small) → AllBoards task xs → slice_get xs i ≡ Some x → AreBoards task x.entries
boards_at task [] i x boards at = absurd (cc)
boards_at task (y ∷ xs) zero x boards at = let e : y ≡ x = cc in subst (λ (z : Small). AreBoards task z.entries) e boards.0
boards_at task (y ∷ xs) (suc i) x boards at = boards_at task xs i x boards.1 at

boards_set : (task : Task) (xs : List Small) (i : ℕ) (x : Small) → AllBoards task xs → AreBoards task x.entries → AllBoards task (slice_set xs i x)
boards_set task [] i x boards new = tt
boards_set task (y ∷ xs) zero x boards new = (new, boards.1)
boards_set task (y ∷ xs) (suc i) x boards new = (boards.0, boards_set task xs i x boards.1 new)

if_both : {X : Type 0} (P : X → Type 0) (b : Bool) (x y : X) → P x → P y → P (if b then x else y)
if_both P true x y p q = p
if_both P false x y p q = q

relax_boards : (task : Task) (es : Entries) (item : Item) → AreBoards task es → IsTaskBoard task item.board → AreBoards task (relax es item)
relax_boards task es item boards board = if_both (AreBoards task) _ ((item.board, entry item) ∷ es) es (board, boards) boards

fold_boards : (role : Role) (items : List Item) (s : Small) → AreBoards role.task s.entries → ((item : Item) → Among items item → IsTaskBoard role.task item.board) → AreBoards role.task (fold (small_successor role) s items).entries
fold_boards role [] s boards each = boards
fold_boards role (item ∷ items) s boards each =
    fold_boards role items (small_successor role s item)
    (if_both (λ (x : Small). AreBoards role.task x.entries) (role.owner item.board == role.me) _ _ (relax_boards role.task s.entries item boards (each item (inl refl))) boards)
    (λ x among. each x (inr among))

expand_boards_at : (role : Role) (s : Small) → IsTask role.task → AreBoards role.task s.entries → (x y : Bool) (o : Option (BoardModel × Known)) → IsLeastIn role.task (open_list role.task s) o → AreBoards role.task (expand_by role s x y o).1.entries
expand_boards_at role s is boards true y o least = boards
expand_boards_at role s is boards false true o least = boards
expand_boards_at role s is boards false false None least = boards
expand_boards_at role s is boards false false (Some e) least = room (any_over (small_expansion role s e.0 e.1).unsent)
  where
    board : IsTaskBoard role.task e.0
    board = (open_there role.task is.goal s boards e least.0).board

    room : (b : Bool) → AreBoards role.task (expand_room role s e b).1.entries
    room true = boards
    room false = fold_boards role (successor_items role.task.rule e.0 e.1.cost) (small_closed s e.0 e.1) (board, boards) (λ item among. (offered_board role.task is e.0 board e.1.cost item among).0)

expand_boards : (role : Role) (s : Small) → IsTask role.task → AreBoards role.task s.entries → AreBoards role.task (small_expand role s).1.entries
expand_boards role s is boards = expand_boards_at role s is boards _ _ _ (least_is role.task (open_list role.task s))

settle_boards : (task : Task) (s : Small) → AreBoards task s.entries → ((item : Item) → Contains s.held item → IsTaskBoard task item.board) → (o : Option (List Item × Item)) → IsLastOf s.held o → AreBoards task (settle_by s o).1.entries
settle_boards task s boards each None is = boards
settle_boards task s boards each (Some p) is = relax_boards task s.entries p.1 boards (each p.1 (subst (λ (xs : List Item). Contains xs p.1) (sym is) (Contains-push p.0 p.1)))

module _ (task : Task) (owner : BoardModel → ℕ) where
  abbrev pub world_of : SmallWorld → WorldState
  world_of s = record { task = task; owner = owner; workers = map worker_of s.workers; book = s.book; lanes = s.lanes }

  abbrev role_at : ℕ → Role
  role_at i = record { task = task; owner = owner; me = i }

  abbrev pub WorldDone : Type 0
  WorldDone = Option Refusal × SmallWorld

  abbrev world_turn : SmallWorld → WorldDone → Turn WorldState Refusal
  world_turn s done = turn (world_of s) done.0 (world_of done.1)

  pub worker_is : (s : SmallWorld) (i : ℕ) (x : Small) → slice_get s.workers i ≡ Some x → IsWorker (world_of s) i (worker_of x)
  worker_is s i x at = slice_get-map worker_of s.workers i ∙ ap (option_map worker_of) at

  -- what a worker has among its entries it knows
  pub known_in : (s : SmallWorld) (i : ℕ) (x : Small) (b : BoardModel) (known : Known) → slice_get s.workers i ≡ Some x → IsTaskBoard task b → look_up x.entries (search_key b) ≡ Some known → Knows (world_of s) i b known
  known_in s i x b known at board is = record { worker = worker_of x; is = worker_is s i x at; board = board; knows = found x.entries (search_key b) ∙ is }

  -- the same of the first worker, computed
  pub known_first : (s : SmallWorld) (b : BoardModel) (known : Known) → look_first s.workers (search_key b) ≡ Some known → IsTaskBoard task b → Knows (world_of s) 0 b known
  known_first s b known is board = first s.workers refl is
    where
      first : (workers : List Small) → s.workers ≡ workers → look_first workers (search_key b) ≡ Some known → Knows (world_of s) 0 b known
      first [] same none = absurd (cc)
      first (x ∷ xs) same there = known_in s 0 x b known (ap (λ (ws : List Small). slice_get ws 0) same) board there

  no_worker : (s : SmallWorld) (i : ℕ) → slice_get s.workers i ≡ None → length (world_of s).workers ≤ i
  no_worker s i none = let le = get_none s.workers i none in omega (arith, map_length worker_of s.workers)

  some_worker : (s : SmallWorld) (i : ℕ) (x : Small) → slice_get s.workers i ≡ Some x → ¬ (length (world_of s).workers ≤ i)
  some_worker s i x at le = omega (arith, map_length worker_of s.workers, slice_get_within s.workers i x at)

  abbrev own_by : SmallWorld → ℕ → (Small → Done) → Option Small → WorldDone
  own_by s i f None = (Some NoSuchWorker, s)
  own_by s i f (Some x) = ((f x).0, record s { workers = slice_set s.workers i (f x).1 })

  own_at : (s : SmallWorld) (i : ℕ) (f : Small → Done) (OwnStep : Turn WorkerState Refusal → Type 0) (o : Option Small) → slice_get s.workers i ≡ o → ((x : Small) → o ≡ Some x → OwnStep (own_turn x (f x))) → ByWorker i OwnStep (world_turn s (own_by s i f o))
  own_at s i f OwnStep None at step = inl (no_worker s i at, (refl, refl))
  own_at s i f OwnStep (Some x) at step =
      inr (some_worker s i x at, (worker_of x, worker_of (f x).1, worker_is s i x at, step x refl, ap (λ (ws : List WorkerState). record (world_of s) { workers = ws }) (map_set worker_of s.workers i (f x).1)))

  abbrev book_by : SmallWorld → ℕ → (Small → BookState → BookDone) → Option Small → WorldDone
  book_by s i f None = (Some NoSuchWorker, s)
  book_by s i f (Some x) = ((f x s.book).0, record s { workers = slice_set s.workers i (f x s.book).1.0; book = (f x s.book).1.1 })

  book_at : (s : SmallWorld) (i : ℕ) (f : Small → BookState → BookDone) (BookStep : Turn AtBook Refusal → Type 0) (o : Option Small) → slice_get s.workers i ≡ o → ((x : Small) → o ≡ Some x → BookStep (book_turn x s.book (f x s.book))) → OnBook i BookStep (world_turn s (book_by s i f o))
  book_at s i f BookStep None at step = inl (no_worker s i at, (refl, refl))
  book_at s i f BookStep (Some x) at step =
      inr (
        some_worker s i x at,
        (
          worker_of x,
          record { worker = worker_of (f x s.book).1.0; book = (f x s.book).1.1 },
          worker_is s i x at,
          step x refl,
          ap (λ (ws : List WorkerState). record (world_of s) { workers = ws; book = (f x s.book).1.1 }) (map_set worker_of s.workers i (f x s.book).1.0),
        ),
      )

  -- the lane between two ends
  abbrev row_lane : Option (List Lane) → ℕ → Option Lane
  row_lane None to = None
  row_lane (Some row) to = slice_get row to

  abbrev lane_by : SmallWorld → ℕ → Ends → (Small → Lane → LaneDone) → Bool → Option Small → Option Small → Option Small → Option Lane → WorldDone
  lane_by s i ends f true a b x l = (Some NoSuchWorker, s)
  lane_by s i ends f false None b x l = (Some NoSuchWorker, s)
  lane_by s i ends f false (Some a) None x l = (Some NoSuchWorker, s)
  lane_by s i ends f false (Some a) (Some b) None l = (Some NoSuchWorker, s)
  lane_by s i ends f false (Some a) (Some b) (Some x) None = (Some NoSuchWorker, s)
  lane_by s i ends f false (Some a) (Some b) (Some x) (Some l) =
      ((f x l).0, record s { workers = slice_set s.workers i (f x l).1.0; lanes = with_lane s.lanes ends.from ends.to (f x l).1.1 })

  lane_is : (s : SmallWorld) (ends : Ends) (l : Lane) (o : Option (List Lane)) → slice_get s.lanes ends.from ≡ o → row_lane o ends.to ≡ Some l → IsLane (world_of s) ends.from ends.to l
  lane_is s ends l None at is = absurd (cc)
  lane_is s ends l (Some row) at is = record { from_lanes = row; of_sender = at; of_receiver = is }

  no_lane : (s : SmallWorld) → IsShaped (world_of s) → (ends : Ends) → ¬ (length (world_of s).workers ≤ ends.from) → ¬ (length (world_of s).workers ≤ ends.to) → (o : Option (List Lane)) → slice_get s.lanes ends.from ≡ o → row_lane o ends.to ≡ None → ⊥
  no_lane s shaped ends from to None at none = let le = get_none s.lanes ends.from at in from (omega (arith, shaped.senders))
  no_lane s shaped ends from to (Some row) at none = let le = get_none row ends.to none in to (omega (arith, shaped.receivers ends.from row at))

  module _ (s : SmallWorld) (shaped : IsShaped (world_of s)) (i : ℕ) (ends : Ends) (mine : (ends.from ≡ i) ⊎ (ends.to ≡ i)) (f : Small → Lane → LaneDone) (LaneStep : Turn AtLane Refusal → Type 0) where
    lane_at : (same : Bool) → (same ≡ (ends.from == ends.to)) → (a b x : Option Small) → slice_get s.workers ends.from ≡ a → slice_get s.workers ends.to ≡ b → slice_get s.workers i ≡ x → (l : Option Lane) → row_lane (slice_get s.lanes ends.from) ends.to ≡ l → ((y : Small) (lane : Lane) → LaneStep (lane_turn y lane (f y lane))) → OnLane i ends LaneStep (world_turn s (lane_by s i ends f same a b x l))
    lane_at true e a b x is_a is_b is_x l is_l step = inl (inl (eqb-true _ _ (sym e)), (refl, refl))
    lane_at false e None b x is_a is_b is_x l is_l step = inl (inr (inl (no_worker s ends.from is_a)), (refl, refl))
    lane_at false e (Some a) None x is_a is_b is_x l is_l step = inl (inr (inr (no_worker s ends.to is_b)), (refl, refl))
    lane_at false e (Some a) (Some b) None is_a is_b is_x l is_l step = absurd (none_mine mine)
      where
        none_mine : (ends.from ≡ i) ⊎ (ends.to ≡ i) → ⊥
        none_mine (inl from) = let e' : ◌≡◌ {A = Option Small} None (Some a) = sym is_x ∙ ap (slice_get s.workers) (sym from) ∙ is_a in cc
        none_mine (inr to) = let e' : ◌≡◌ {A = Option Small} None (Some b) = sym is_x ∙ ap (slice_get s.workers) (sym to) ∙ is_b in cc
    lane_at false e (Some a) (Some b) (Some x) is_a is_b is_x None is_l step =
        absurd (no_lane s shaped ends (some_worker s ends.from a is_a) (some_worker s ends.to b is_b) (slice_get s.lanes ends.from) refl is_l)
    lane_at false e (Some a) (Some b) (Some x) is_a is_b is_x (Some l) is_l step =
        inr (
          others,
          (
            worker_of x,
            l,
            record { worker = worker_of (f x l).1.0; lane = (f x l).1.1 },
            worker_is s i x is_x,
            lane_is s ends l (slice_get s.lanes ends.from) refl is_l,
            step x l,
            ap (λ (ws : List WorkerState). record (world_of s) { workers = ws; lanes = with_lane s.lanes ends.from ends.to (f x l).1.1 }) (map_set worker_of s.workers i (f x l).1.0),
          ),
        )
      where
        others : ¬ ((ends.from ≡ ends.to) ⊎ (length (world_of s).workers ≤ ends.from) ⊎ (length (world_of s).workers ≤ ends.to))
        others (inl same) = eqb-false _ _ (sym e) same
        others (inr (inl le)) = some_worker s ends.from a is_a le
        others (inr (inr le)) = some_worker s ends.to b is_b le

  abbrev lane_done : SmallWorld → ℕ → Ends → (Small → Lane → LaneDone) → WorldDone
  lane_done s i ends f = lane_by s i ends f (ends.from == ends.to) (slice_get s.workers ends.from) (slice_get s.workers ends.to) (slice_get s.workers i) (row_lane (slice_get s.lanes ends.from) ends.to)

  -- what a step answers, and the world it leaves
  abbrev pub done_by : Step → SmallWorld → WorldDone
  done_by (Expand i) s = own_by s i (small_expand (role_at i)) (slice_get s.workers i)
  done_by (Settle i) s = own_by s i small_settle (slice_get s.workers i)
  done_by (Send i j) s = lane_done s i (lane_ends i j) (small_send j)
  done_by (Deliver i j) s = lane_done s i (lane_ends j i) small_deliver
  done_by (Draw i) s = book_by s i small_draw (slice_get s.workers i)
  done_by (Announce i) s = book_by s i (small_announce (role_at i)) (slice_get s.workers i)
  done_by (Grant i) s = book_by s i (small_grant (role_at i)) (slice_get s.workers i)
  done_by (Rest i) s = book_by s i (small_rest (role_at i)) (slice_get s.workers i)
  done_by (Halt i cause) s = book_by s i (small_halt cause) (slice_get s.workers i)

  module _ (goal : IsBoard task.goal) where
    pub done_is : (step : Step) (s : SmallWorld) → IsShaped (world_of s) → AllBoards task s.workers → Next step (world_turn s (done_by step s))
    done_is (Expand i) s shaped boards = own_at s i (small_expand (role_at i)) (ExpandStep (role_at i)) (slice_get s.workers i) refl (λ x at. expand_is (role_at i) goal x (boards_at task s.workers i x boards at))
    done_is (Settle i) s shaped boards = own_at s i small_settle SettleStep (slice_get s.workers i) refl (λ x at. settle_is x)
    done_is (Send i j) s shaped boards = lane_at s shaped i (lane_ends i j) (inl refl) (small_send j) (SendStep j) _ refl _ _ _ refl refl refl _ refl (send_is j)
    done_is (Deliver i j) s shaped boards = lane_at s shaped i (lane_ends j i) (inr refl) small_deliver DeliverStep _ refl _ _ _ refl refl refl _ refl deliver_is
    done_is (Draw i) s shaped boards = book_at s i small_draw DrawStep (slice_get s.workers i) refl (λ x at. draw_is x s.book)
    done_is (Announce i) s shaped boards = book_at s i (small_announce (role_at i)) (AnnounceStep (role_at i)) (slice_get s.workers i) refl (λ x at. announce_is (role_at i) x s.book)
    done_is (Grant i) s shaped boards = book_at s i (small_grant (role_at i)) (GrantStep (role_at i)) (slice_get s.workers i) refl (λ x at. grant_is (role_at i) goal x (boards_at task s.workers i x boards at) s.book)
    done_is (Rest i) s shaped boards = book_at s i (small_rest (role_at i)) (RestStep (role_at i)) (slice_get s.workers i) refl (λ x at. rest_is (role_at i) goal x (boards_at task s.workers i x boards at) s.book)
    done_is (Halt i cause) s shaped boards = book_at s i (small_halt cause) (HaltStep cause) (slice_get s.workers i) refl (λ x at. halt_is cause x s.book)

    own_boards : (s : SmallWorld) (i : ℕ) (f : Small → Done) (o : Option Small) → slice_get s.workers i ≡ o → AllBoards task s.workers → ((x : Small) → o ≡ Some x → AreBoards task (f x).1.entries) → AllBoards task (own_by s i f o).1.workers
    own_boards s i f None at boards new = boards
    own_boards s i f (Some x) at boards new = boards_set task s.workers i (f x).1 boards (new x refl)

    book_boards : (s : SmallWorld) (i : ℕ) (f : Small → BookState → BookDone) (o : Option Small) → slice_get s.workers i ≡ o → AllBoards task s.workers → ((x : Small) → (f x s.book).1.0.entries ≡ x.entries) → AllBoards task (book_by s i f o).1.workers
    book_boards s i f None at boards same = boards
    book_boards s i f (Some x) at boards same = boards_set task s.workers i (f x s.book).1.0 boards (subst (AreBoards task) (sym (same x)) (boards_at task s.workers i x boards at))

    lane_boards : (s : SmallWorld) (i : ℕ) (ends : Ends) (f : Small → Lane → LaneDone) (same : Bool) (a b x : Option Small) (l : Option Lane) → slice_get s.workers i ≡ x → AllBoards task s.workers → ((y : Small) (lane : Lane) → (f y lane).1.0.entries ≡ y.entries) → AllBoards task (lane_by s i ends f same a b x l).1.workers
    lane_boards s i ends f true a b x l at boards kept = boards
    lane_boards s i ends f false None b x l at boards kept = boards
    lane_boards s i ends f false (Some a) None x l at boards kept = boards
    lane_boards s i ends f false (Some a) (Some b) None l at boards kept = boards
    lane_boards s i ends f false (Some a) (Some b) (Some x) None at boards kept = boards
    lane_boards s i ends f false (Some a) (Some b) (Some x) (Some l) at boards kept = boards_set task s.workers i (f x l).1.0 boards (subst (AreBoards task) (sym (kept x l)) (boards_at task s.workers i x boards at))

    pub done_boards : (step : Step) (s : SmallWorld) → IsTask task → IsShaped (world_of s) → AllBoards task s.workers → AllBoards task (done_by step s).1.workers
    done_boards (Expand i) s is shaped boards = own_boards s i (small_expand (role_at i)) (slice_get s.workers i) refl boards (λ x at. expand_boards (role_at i) x is (boards_at task s.workers i x boards at))
    done_boards (Settle i) s is shaped boards =
        own_boards s i small_settle (slice_get s.workers i) refl boards
        (λ x at. settle_boards task x (boards_at task s.workers i x boards at) (λ item has. ((shaped.workers i (worker_of x) (worker_is s i x at)).held.items item has).0) _ (last_is x.held))
    done_boards (Send i j) s is shaped boards = lane_boards s i (lane_ends i j) (small_send j) _ _ _ _ _ refl boards (send_entries j)
    done_boards (Deliver i j) s is shaped boards = lane_boards s i (lane_ends j i) small_deliver _ _ _ _ _ refl boards deliver_entries
    done_boards (Draw i) s is shaped boards = book_boards s i small_draw (slice_get s.workers i) refl boards (λ x. draw_entries x s.book)
    done_boards (Announce i) s is shaped boards = book_boards s i (small_announce (role_at i)) (slice_get s.workers i) refl boards (λ x. announce_entries (role_at i) x s.book)
    done_boards (Grant i) s is shaped boards = book_boards s i (small_grant (role_at i)) (slice_get s.workers i) refl boards (λ x. grant_entries (role_at i) x s.book)
    done_boards (Rest i) s is shaped boards = book_boards s i (small_rest (role_at i)) (slice_get s.workers i) refl boards (λ x. rest_entries (role_at i) x s.book)
    done_boards (Halt i cause) s is shaped boards = book_boards s i (small_halt cause) (slice_get s.workers i) refl boards (λ x. halt_entries cause x s.book)

  -- a run of steps: what they answer, and the world that they lead to
  abbrev pub made : List Step → SmallWorld → List (Step × Option Refusal)
  made [] s = []
  made (step ∷ steps) s = (step, (done_by step s).0) ∷ made steps (done_by step s).1

  abbrev pub end_of : List Step → SmallWorld → SmallWorld
  end_of [] s = s
  end_of (step ∷ steps) s = end_of steps (done_by step s).1

  pub run_is : (is : IsTask task) (steps : List Step) (s : SmallWorld) → IsShaped (world_of s) → AllBoards task s.workers → IsRun (world_of s) (made steps s) (world_of (end_of steps s)) × AllBoards task (end_of steps s).workers
  run_is is [] s shaped boards = (refl, boards)
  run_is is (step ∷ steps) s shaped boards =
      let next = done_is is.goal step s shaped boards in
      let rest = run_is is steps (done_by step s).1 (steps_shaped step _ next shaped) (done_boards is.goal step s is shaped boards) in
      ((world_of (done_by step s).1, next, rest.0), rest.1)

-- ---- the frontier of a world that is computed, and the lowest of it

-- what a worker knows at a key
abbrev map_get : WorkerState → ℕ → Option Known
map_get worker key = entries.get worker.known key

in_left : {X : Type 0} (xs ys : List X) (x : X) → In xs x → In (xs ++ ys) x
in_left [] ys x has = absurd has
in_left (z ∷ xs) ys x (inl same) = inl same
in_left (z ∷ xs) ys x (inr later) = inr (in_left xs ys x later)

in_right : {X : Type 0} (xs ys : List X) (x : X) → In ys x → In (xs ++ ys) x
in_right [] ys x has = has
in_right (z ∷ xs) ys x has = inr (in_right xs ys x has)

in_cases : {X : Type 0} (xs ys : List X) (x : X) → In (xs ++ ys) x → In xs x ⊎ In ys x
in_cases [] ys x has = inr has
in_cases (z ∷ xs) ys x (inl same) = inl (inl same)
in_cases (z ∷ xs) ys x (inr later) = ⊎_elim (λ a. inl (inr a)) (λ b. inr b) (in_cases xs ys x later)

pub in_place : {X : Type 0} (xs : List X) (i : ℕ) (x : X) → slice_get xs i ≡ Some x → In xs x
in_place [] i x at = absurd (cc)
in_place (y ∷ xs) zero x at = inl (cc)
in_place (y ∷ xs) (suc i) x at = inr (in_place xs i x at)

pub place_in : {X : Type 0} (xs : List X) (x : X) → In xs x → (i : ℕ) × (slice_get xs i ≡ Some x)
place_in [] x has = absurd has
place_in (y ∷ xs) x (inl same) = (0, ap Some same)
place_in (y ∷ xs) x (inr later) = let h = place_in xs x later in (suc h.0, h.1)

pub in_contained : {X : Type 0} (xs : List X) (x : X) → Contains xs x → In xs x
in_contained xs x has = let h = place_of xs x has in in_place xs h.0 x h.1

pub contained_in : {X : Type 0} (xs : List X) (x : X) → In xs x → Contains xs x
contained_in xs x has = let h = place_in xs x has in at_in xs h.0 x h.1

-- lists made of lists
abbrev pub gather : {X Y : Type 0} → (X → List Y) → List X → List Y
gather f [] = []
gather f (x ∷ xs) = f x ++ gather f xs

pub gather_in : {X Y : Type 0} (f : X → List Y) (xs : List X) (x : X) (y : Y) → In xs x → In (f x) y → In (gather f xs) y
gather_in f [] x y has inside = absurd has
gather_in f (z ∷ xs) x y (inl same) inside = in_left (f z) (gather f xs) y (subst (λ w. In (f w) y) (sym same) inside)
gather_in f (z ∷ xs) x y (inr later) inside = in_right (f z) (gather f xs) y (gather_in f xs x y later inside)

pub gather_from : {X Y : Type 0} (f : X → List Y) (xs : List X) (y : Y) → In (gather f xs) y → (x : X) × In xs x × In (f x) y
gather_from f [] y has = absurd has
gather_from f (z ∷ xs) y has = ⊎_elim (λ here. (z, inl refl, here)) (λ later. let h = gather_from f xs y later in (h.0, inr h.1, h.2)) (in_cases (f z) (gather f xs) y has)

-- all items that are under way
abbrev pub itself : {X : Type 0} → X → X
itself x = x

abbrev pub items_of : Small → List Item
items_of x = x.held ++ gather itself x.unsent

abbrev pub items_in : List Lane → List Item
items_in row = gather (λ (lane : Lane). gather itself lane) row

abbrev pub all_items : SmallWorld → List Item
all_items s = gather items_of s.workers ++ gather items_in s.lanes

abbrev pub all_open : Task → SmallWorld → Entries
all_open task s = gather (open_list task) s.workers

abbrev pub item_cost : Task → Item → ℕ
item_cost task item = item.cost + task.sum item.board

abbrev pub all_costs : Task → SmallWorld → List ℕ
all_costs task s = map (cost_of task) (all_open task s) ++ map (item_cost task) (all_items s)

map_in : {X Y : Type 0} (f : X → Y) (xs : List X) (x : X) → In xs x → In (map f xs) (f x)
map_in f [] x has = absurd has
map_in f (y ∷ xs) x (inl same) = inl (ap f same)
map_in f (y ∷ xs) x (inr later) = inr (map_in f xs x later)

map_from : {X Y : Type 0} (f : X → Y) (xs : List X) (y : Y) → In (map f xs) y → (x : X) × In xs x × (f x ≡ y)
map_from f [] y has = absurd has
map_from f (x ∷ xs) y (inl same) = (x, inl refl, same)
map_from f (x ∷ xs) y (inr later) = let h = map_from f xs y later in (h.0, inr h.1, h.2)

-- the least number of a list
abbrev pub least_number : List ℕ → Option ℕ
least_number [] = None
least_number (n ∷ ns) = lesser (Some n) (least_number ns)

least_from : (n : ℕ) (ns : List ℕ) (o : Option ℕ) → IsLeastWith (In ns) o → IsLeastWith (In (n ∷ ns)) (lesser (Some n) o)
least_from n ns None none = (inl refl, λ m has. ⊎_elim (λ (e : n ≡ m). omega arith) (λ later. absurd (none m later)) has)
least_from n ns (Some k) is =
    ⊎_elim
    (λ (lt : n < k). let e : n ≡ min n k = omega arith in (inl e, λ m has. ⊎_elim (λ (same : n ≡ m). omega arith) (λ later. let le = is.1 m later in omega arith) has))
    (λ (le : k ≤ n). let e : k ≡ min n k = omega arith in (inr (subst (In ns) e is.0), λ m has. ⊎_elim (λ (same : n ≡ m). omega arith) (λ later. let h = is.1 m later in omega arith) has))
    (cases_lt n k)

least_number_is : (ns : List ℕ) → IsLeastWith (In ns) (least_number ns)
least_number_is [] = λ n has. has
least_number_is (n ∷ ns) = least_from n ns (least_number ns) (least_number_is ns)

least_same : (P Q : ℕ → Type 0) → ((n : ℕ) → P n → Q n) → ((n : ℕ) → Q n → P n) → (o : Option ℕ) → IsLeastWith P o → IsLeastWith Q o
least_same P Q there back None none = λ n q. none n (back n q)
least_same P Q there back (Some k) is = (there k is.0, λ m q. is.1 m (back m q))

module _ (task : Task) (owner : BoardModel → ℕ) (goal : IsBoard task.goal) (s : SmallWorld) (boards : AllBoards task s.workers) where
  abbrev w : WorldState
  w = world_of task owner s

  small_at : (i : ℕ) (worker : WorkerState) (o : Option Small) → slice_get s.workers i ≡ o → IsWorker w i worker → (x : Small) × (slice_get s.workers i ≡ Some x) × (worker ≡ worker_of x)
  small_at i worker None at is = let e : ◌≡◌ {A = Option WorkerState} None (Some worker) = sym (slice_get-map worker_of s.workers i ∙ ap (option_map worker_of) at) ∙ is in absurd (cc)
  small_at i worker (Some x) at is = let e : Some worker ≡ Some (worker_of x) = sym is ∙ slice_get-map worker_of s.workers i ∙ ap (option_map worker_of) at in (x, at, cc)

  pub small_worker : (i : ℕ) (worker : WorkerState) → IsWorker w i worker → (x : Small) × (slice_get s.workers i ≡ Some x) × (worker ≡ worker_of x)
  small_worker i worker is = small_at i worker (slice_get s.workers i) refl is

  open_in : (b : BoardModel) (cost : ℕ) → IsOpenAt w b cost → In (all_costs task s) (cost + task.sum b)
  open_in b cost has =
      let knows = has.2 in
      let x = small_worker has.0 knows.worker knows.is in
      let opens : IsOpen task (worker_of x.0) b has.1 = record { board = knows.board; knows = ap (λ (y : WorkerState). map_get y (search_key b)) (sym x.2) ∙ knows.knows; unexpanded = has.3; no_goal = has.4 } in
      let listed = open_listed task goal x.0 (boards_at task s.workers has.0 x.0 boards x.1) b has.1 opens in
      let there = gather_in (open_list task) s.workers x.0 (b, has.1) (in_place s.workers has.0 x.0 x.1) listed in
      subst (λ n. In (all_costs task s) (n + task.sum b)) has.5
      (in_left (map (cost_of task) (all_open task s)) (map (item_cost task) (all_items s)) (has.1.cost + task.sum b) (map_in (cost_of task) (all_open task s) (b, has.1) there))

  item_in : (to : ℕ) (item : Item) → IsUnderWay w to item → In (all_items s) item
  item_in to item (inl has) =
      let x = small_worker to has.0 has.1 in
      in_left (gather items_of s.workers) (gather items_in s.lanes) item
      (gather_in items_of s.workers x.0 item (in_place s.workers to x.0 x.1)
      (in_left x.0.held (gather itself x.0.unsent) item (in_contained x.0.held item (subst (λ (y : WorkerState). Contains y.held item) x.2 has.2))))
  item_in to item (inr (inl has)) =
      let x = small_worker has.0 has.1 has.3 in
      in_left (gather items_of s.workers) (gather items_in s.lanes) item
      (gather_in items_of s.workers x.0 item (in_place s.workers has.0 x.0 x.1)
      (in_right x.0.held (gather itself x.0.unsent) item (gather_in itself x.0.unsent has.2 item (in_place x.0.unsent to has.2 (ap (λ (y : WorkerState). slice_get y.unsent to) (sym x.2) ∙ has.4)) (in_contained has.2 item has.5))))
  item_in to item (inr (inr has)) =
      let lane = has.2.is in
      in_right (gather items_of s.workers) (gather items_in s.lanes) item
      (gather_in items_in s.lanes lane.from_lanes item (in_place s.lanes has.0 lane.from_lanes lane.of_sender)
      (gather_in (λ (l : Lane). gather itself l) lane.from_lanes has.2.lane item (in_place lane.from_lanes to has.2.lane lane.of_receiver)
      (gather_in itself has.2.lane has.1 item (in_contained has.2.lane has.1 has.2.lies) (in_contained has.1 item has.3))))

  item_from : (item : Item) → In (all_items s) item → (to : ℕ) × IsUnderWay w to item
  item_from item has = ⊎_elim (λ at. of_worker at) (λ at. of_lane at) (in_cases (gather items_of s.workers) (gather items_in s.lanes) item has)
    where
      of_worker : In (gather items_of s.workers) item → (to : ℕ) × IsUnderWay w to item
      of_worker at =
          let x = gather_from items_of s.workers item at in
          let i = place_in s.workers x.0 x.1 in
          ⊎_elim (λ held. (i.0, inl (worker_of x.0, worker_is task owner s i.0 x.0 i.1, contained_in x.0.held item held)))
          (λ unsent.
          let packet = gather_from itself x.0.unsent item unsent in
          let to = place_in x.0.unsent packet.0 packet.1 in
          (to.0, inr (inl (i.0, worker_of x.0, packet.0, worker_is task owner s i.0 x.0 i.1, to.1, contained_in packet.0 item packet.2))))
          (in_cases x.0.held (gather itself x.0.unsent) item x.2)

      of_lane : In (gather items_in s.lanes) item → (to : ℕ) × IsUnderWay w to item
      of_lane at =
          let row = gather_from items_in s.lanes item at in
          let from = place_in s.lanes row.0 row.1 in
          let lane = gather_from (λ (l : Lane). gather itself l) row.0 item row.2 in
          let to = place_in row.0 lane.0 lane.1 in
          let packet = gather_from itself lane.0 item lane.2 in
          (to.0, inr (inr (from.0, packet.0, record { lane = lane.0; is = record { from_lanes = row.0; of_sender = from.1; of_receiver = to.1 }; lies = contained_in lane.0 packet.0 packet.1 }, contained_in packet.0 item packet.2)))

  abbrev IsFrontierCost : ℕ → Type 0
  IsFrontierCost f = (b : BoardModel) × (cost : ℕ) × IsInFrontier w b cost × (f ≡ cost + task.sum b)

  frontier_in : (f : ℕ) → IsFrontierCost f → In (all_costs task s) f
  frontier_in f has = subst (In (all_costs task s)) (sym has.3) (at has.2)
    where
      at : IsInFrontier w has.0 has.1 → In (all_costs task s) (has.1 + task.sum has.0)
      at (inl opens) = open_in has.0 has.1 opens
      at (inr way) =
          subst (λ (p : BoardModel × ℕ). In (all_costs task s) (p.1 + task.sum p.0)) (λ t. (way.3 t, way.4 t))
          (in_right (map (cost_of task) (all_open task s)) (map (item_cost task) (all_items s)) (item_cost task way.1) (map_in (item_cost task) (all_items s) way.1 (item_in way.0 way.1 way.2)))

  frontier_from : (f : ℕ) → In (all_costs task s) f → IsFrontierCost f
  frontier_from f has = ⊎_elim (λ at. of_open at) (λ at. of_item at) (in_cases (map (cost_of task) (all_open task s)) (map (item_cost task) (all_items s)) f has)
    where
      of_open : In (map (cost_of task) (all_open task s)) f → IsFrontierCost f
      of_open at =
          let e = map_from (cost_of task) (all_open task s) f at in
          let x = gather_from (open_list task) s.workers e.0 e.1 in
          let i = place_in s.workers x.0 x.1 in
          let opens = open_there task goal x.0 (boards_at task s.workers i.0 x.0 boards i.1) e.0 x.2 in
          (e.0.0, e.0.1.cost, inl (i.0, e.0.1, record { worker = worker_of x.0; is = worker_is task owner s i.0 x.0 i.1; board = opens.board; knows = opens.knows }, opens.unexpanded, opens.no_goal, refl), sym e.2)

      of_item : In (map (item_cost task) (all_items s)) f → IsFrontierCost f
      of_item at =
          let item = map_from (item_cost task) (all_items s) f at in
          let way = item_from item.0 item.1 in
          (item.0.board, item.0.cost, inr (way.0, item.0, way.1, refl, refl), sym item.2)

  -- the lowest of the frontier is computed
  pub lowest_is : IsLowest w (least_number (all_costs task s))
  lowest_is = least_same (In (all_costs task s)) IsFrontierCost frontier_from frontier_in (least_number (all_costs task s)) (least_number_is (all_costs task s))

  -- the cost at which the goal is known
  abbrev pub goal_cost : Option Small → Option ℕ
  goal_cost None = None
  goal_cost (Some x) = option_map (λ (k : Known). k.cost) (look_up x.entries (search_key task.goal))

  reached_at : (x : Small) → slice_get s.workers (owner task.goal) ≡ Some x → (o : Option Known) → look_up x.entries (search_key task.goal) ≡ o → IsReached w (option_map (λ (k : Known). k.cost) o)
  reached_at x at None none = λ n has.
      let knows = has.1 in
      let y = small_worker (owner task.goal) knows.worker knows.is in
      let same : Some x ≡ Some y.0 = sym at ∙ y.1 in
      let same' : x ≡ y.0 = cc in
      let got : ◌≡◌ {A = Option Known} None (Some has.0) = sym none ∙ sym (found x.entries (search_key task.goal)) ∙ ap (λ (z : Small). map_get (worker_of z) (search_key task.goal)) same' ∙ ap (λ (z : WorkerState). map_get z (search_key task.goal)) (sym y.2) ∙ knows.knows in
      cc
  reached_at x at (Some k) is = (
    (k, record { worker = worker_of x; is = worker_is task owner s (owner task.goal) x at; board = (goal, refl); knows = found x.entries (search_key task.goal) ∙ is }, refl),
    λ m has.
        let knows = has.1 in
        let y = small_worker (owner task.goal) knows.worker knows.is in
        let same : Some x ≡ Some y.0 = sym at ∙ y.1 in
        let same' : x ≡ y.0 = cc in
        let got : Some k ≡ Some has.0 = sym is ∙ sym (found x.entries (search_key task.goal)) ∙ ap (λ (z : Small). map_get (worker_of z) (search_key task.goal)) same' ∙ ap (λ (z : WorkerState). map_get z (search_key task.goal)) (sym y.2) ∙ knows.knows in
        let got' : k ≡ has.0 = cc in
        omega (arith, ap (λ (z : Known). z.cost) got', has.2),
  )

  pub reached_is : (x : Small) → slice_get s.workers (owner task.goal) ≡ Some x → IsReached w (option_map (λ (k : Known). k.cost) (look_up x.entries (search_key task.goal)))
  reached_is x at = reached_at x at (look_up x.entries (search_key task.goal)) refl
