-- What each step answers: it is refused and changes nothing, or accepted and changes what it says.
use Rattle.std.proofs.Common.{◌≡◌, ◌≢◌, ◌⊎◌, ℕ, ◌+◌, ◌-◌, ◌<◌, List, [], ◌∷◌, ◌++◌, length, refl, ap, ◌∙◌, inl, inr, Option, Some, None, sym, subst, zero, suc, ◌^◌, ◌≤◌, ⊎_elim, arith}
use Rattle.std.specs.Prelude.{slice_set}
use Rattle.std.proofs.lemmas.List.{length-set}
use Rattle.std.proofs.lemmas.Bool.{cases_lt}
use Rattle.board.specs.declared.moves.Move.{Move}
use Rattle.board.specs.Moves.{all_moves}
use Rattle.board.specs.Boards.{BoardModel}
use Rattle.outcomes.specs.Outcomes.{Task}
use Rattle.world_model.specs.declared.limits.TheConstants.{CREDIT_DRAWN, LANE_LIMIT}
use Rattle.world_model.specs.declared.parts.Item.{Item}
use Rattle.world_model.specs.declared.parts.Known.{Known}
use Rattle.world_model.specs.declared.steps.HaltCause.{HaltCause}
use Rattle.world_model.specs.declared.steps.Refusal.{Refusal}
use Rattle.world_model.specs.declared.steps.Step.{Step}
use Rattle.world_model.specs.declared.steps.Step.TheVariants.{Expand, Settle, Send, Deliver, Draw, Announce, Grant, Rest, Halt}
use Rattle.world_model.specs.BookSteps.{AnnounceStep, AtBook, DrawStep, GrantStep, HaltStep, MayAnnounce, MayGoOn, RestStep, at_book}
use Rattle.world_model.specs.Books.{BookState, grant_of, stop_of, with_rest}
use Rattle.world_model.specs.Costs.{limit_of}
use Rattle.world_model.specs.Expansions.{expansion_by, expansion}
use Rattle.world_model.specs.Knowledge.{relaxation}
use Rattle.world_model.specs.Steps.{ByWorker, Ends, Next, OnBook, OnLane, lane_ends, with_lane, with_worker}
use Rattle.world_model.specs.Turns.{IsRefused, Turn, turn}
use Rattle.world_model.specs.WorkerSteps.{AtLane, DeliverStep, ExpandStep, ExpandStepBy, IsOverfull, SendStep, SettleStep}
use Rattle.world_model.specs.Workers.{HasNothingBelow, IsFloor, IsIdle, IsNext, Lane, Packet, Role, WorkerState, packet_for, IsOpen}
use Rattle.world_model.specs.Worlds.{IsLane, IsWorker, WorldState, role_of}
use Rattle.world_model.specs.declared.steps.Refusal.TheVariants.{NothingBelowLimit, NoAllowance, NoRoom, RingFull, RingEmpty, PurseTooSmall, StillHolding, NothingToAnnounce, NotIdle, Stopped, PurseEmpty, NothingThere, AllowanceLeft, NoSuchWorker, PurseFull}
use Rattle.world_model.specs.Shapes.{IsShaped}
use Rattle.world_model.proofs.ChangeLemmas.{changed, unchanged_world, unchanged_lanes, get_below}

-- ---- each step is refused, and leaves all as it was, or it is accepted, and changes what it says

-- refused, and all is left
abbrev pub IsLeft : {S F : Type 0} → Turn S F → Type 0
IsLeft it = (refusal : _) × IsRefused it refusal

-- refused, or accepted with this
abbrev pub Cases : {S F : Type 0} → Turn S F → Type 0 → Type 0
Cases it Accepted = IsLeft it ⊎ ((it.answer ≡ None) × Accepted)

abbrev pub IsRunning : BookState → Type 0
IsRunning book = ¬ (book.stop ≢ None)

pub record ExpandsBy (moves_of : Known → List Move) (role : Role) (worker worker' : WorkerState) : Type 0 where
  pub board : BoardModel
  pub known : Known
  pub busy : ¬ HasNothingBelow role.task worker (limit_of worker.best)
  pub left : ¬ (worker.allowance ≡ 0)
  pub next : IsNext role.task worker board known
  pub room : ¬ IsOverfull (expansion_by (moves_of known) role worker board known)
  pub is : worker' ≡ expansion_by (moves_of known) role worker board known

abbrev pub Expands : Role → WorkerState → WorkerState → Type 0
Expands role worker worker' = ExpandsBy (λ known. all_moves) role worker worker'

pub record Settles (worker worker' : WorkerState) : Type 0 where
  pub front : List Item
  pub last : Item
  pub held : worker.held ≡ front ++ last ∷ []
  pub is : worker' ≡ record worker { held = front; known = relaxation worker.known last }

pub record SendsOnLane (to : ℕ) (x y : AtLane) : Type 0 where
  pub some : ¬ (packet_for x.worker to ≡ [])
  pub rich : ¬ (x.worker.purse < 2)
  pub room : ¬ (length x.lane ≡ LANE_LIMIT)
  pub is : y ≡ record { worker = record x.worker { unsent = slice_set x.worker.unsent to []; purse = x.worker.purse - 1 }; lane = x.lane ++ packet_for x.worker to ∷ [] }

pub record Delivers (x y : AtLane) : Type 0 where
  pub free : ¬ (x.worker.held ≢ [])
  pub packet : Packet
  pub rest : Lane
  pub first : x.lane ≡ packet ∷ rest
  pub is : y ≡ record { worker = record x.worker { held = packet; purse = x.worker.purse + 1 }; lane = rest }

pub record Draws (x y : AtBook) : Type 0 where
  pub runs : IsRunning x.book
  pub some : ¬ (x.worker.purse ≡ 0)
  pub is : y ≡ at_book (record x.worker { purse = x.worker.purse + CREDIT_DRAWN }) (record x.book { credit = x.book.credit + CREDIT_DRAWN })

pub record Announces (role : Role) (x y : AtBook) : Type 0 where
  pub runs : IsRunning x.book
  pub cost : ℕ
  pub may : MayAnnounce role x cost
  pub is : y ≡ at_book x.worker (record x.book { best = Some cost })

pub record Grants (role : Role) (x y : AtBook) : Type 0 where
  pub runs : IsRunning x.book
  pub busy : ¬ HasNothingBelow role.task x.worker (limit_of x.book.best)
  pub spent : ¬ (x.worker.allowance ≢ 0)
  pub is : y ≡ at_book (record x.worker { allowance = x.worker.allowance + grant_of x.book }) (record x.book { granted = x.book.granted + grant_of x.book })

pub record Rests (role : Role) (x y : AtBook) : Type 0 where
  pub runs : IsRunning x.book
  pub idle : ¬ (¬ IsIdle role.task x.worker (limit_of x.book.best) x.book.best)
  pub floor : Option ℕ
  pub is_floor : IsFloor role.task x.worker floor
  pub is : y ≡ at_book (record x.worker { purse = 0 }) (with_rest x.book role.me x.worker.purse floor)

pub record Halts (cause : HaltCause) (x y : AtBook) : Type 0 where
  pub runs : IsRunning x.book
  pub done : ¬ MayGoOn x cause
  pub is : y ≡ at_book x.worker (record x.book { stop = Some (stop_of cause) })

pub expand_cases_by : (moves_of : Known → List Move) (role : Role) (it : Turn WorkerState Refusal) → ExpandStepBy moves_of role it → Cases it (ExpandsBy moves_of role it.before it.after)
expand_cases_by moves_of role it (inl out) = inl (_, out.1)
expand_cases_by moves_of role it (inr (busy, inl out)) = inl (_, out.1)
expand_cases_by moves_of role it (inr (busy, inr (left, (b, known, next, inl out)))) = inl (_, out.1)
expand_cases_by moves_of role it (inr (busy, inr (left, (b, known, next, inr (room, inl new))))) = inr (new.0, record { board = b; known = known; busy = busy; left = left; next = next; room = room; is = new.1 })
expand_cases_by moves_of role it (inr (busy, inr (left, (b, known, next, inr (room, inr out))))) = inl (_, out.1)

pub expand_cases : (role : Role) (it : Turn WorkerState Refusal) → ExpandStep role it → Cases it (Expands role it.before it.after)
expand_cases role it step = expand_cases_by (λ known. all_moves) role it step

pub settle_cases : (it : Turn WorkerState Refusal) → SettleStep it → Cases it (Settles it.before it.after)
settle_cases it (inl out) = inl (_, out.1)
settle_cases it (inr (some, (front, last, held, inl new))) = inr (new.0, record { front = front; last = last; held = held; is = new.1 })
settle_cases it (inr (some, (front, last, held, inr out))) = inl (_, out.1)

pub send_cases : (to : ℕ) (it : Turn AtLane Refusal) → SendStep to it → Cases it (SendsOnLane to it.before it.after)
send_cases to it (inl out) = inl (_, out.1)
send_cases to it (inr (some, inl out)) = inl (_, out.1)
send_cases to it (inr (some, inr (rich, inl out))) = inl (_, out.1)
send_cases to it (inr (some, inr (rich, inr (room, new)))) = inr (new.0, record { some = some; rich = rich; room = room; is = new.1 })

pub deliver_cases : (it : Turn AtLane Refusal) → DeliverStep it → Cases it (Delivers it.before it.after)
deliver_cases it (inl out) = inl (_, out.1)
deliver_cases it (inr (free, inl out)) = inl (_, out.1)
deliver_cases it (inr (free, inr (fits, inl out))) = inl (_, out.1)
deliver_cases it (inr (free, inr (fits, inr (some, (packet, rest, first, new))))) = inr (new.0, record { free = free; packet = packet; rest = rest; first = first; is = new.1 })

pub draw_cases : (it : Turn AtBook Refusal) → DrawStep it → Cases it (Draws it.before it.after)
draw_cases it (inl out) = inl (_, out.1)
draw_cases it (inr (runs, inl out)) = inl (_, out.1)
draw_cases it (inr (runs, inr (some, inl out))) = inl (_, out.1)
draw_cases it (inr (runs, inr (some, inr (fits, new)))) = inr (new.0, record { runs = runs; some = some; is = new.1 })

pub announce_cases : (role : Role) (it : Turn AtBook Refusal) → AnnounceStep role it → Cases it (Announces role it.before it.after)
announce_cases role it (inl out) = inl (_, out.1)
announce_cases role it (inr (runs, inl out)) = inl (_, out.1)
announce_cases role it (inr (runs, inr (some, (cost, may, new)))) = inr (new.0, record { runs = runs; cost = cost; may = may; is = new.1 })

pub grant_cases : (role : Role) (it : Turn AtBook Refusal) → GrantStep role it → Cases it (Grants role it.before it.after)
grant_cases role it (inl out) = inl (_, out.1)
grant_cases role it (inr (runs, inl out)) = inl (_, out.1)
grant_cases role it (inr (runs, inr (busy, inl out))) = inl (_, out.1)
grant_cases role it (inr (runs, inr (busy, inr (spent, inl out)))) = inl (_, out.1)
grant_cases role it (inr (runs, inr (busy, inr (spent, inr (more, new))))) = inr (new.0, record { runs = runs; busy = busy; spent = spent; is = new.1 })

pub rest_cases : (role : Role) (it : Turn AtBook Refusal) → RestStep role it → Cases it (Rests role it.before it.after)
rest_cases role it (inl out) = inl (_, out.1)
rest_cases role it (inr (runs, inl out)) = inl (_, out.1)
rest_cases role it (inr (runs, inr (some, inl out))) = inl (_, out.1)
rest_cases role it (inr (runs, inr (some, inr (idle, (floor, is_floor, new))))) = inr (new.0, record { runs = runs; idle = idle; floor = floor; is_floor = is_floor; is = new.1 })

pub halt_cases : (cause : HaltCause) (it : Turn AtBook Refusal) → HaltStep cause it → Cases it (Halts cause it.before it.after)
halt_cases cause it (inl out) = inl (_, out.1)
halt_cases cause it (inr (runs, inl out)) = inl (_, out.1)
halt_cases cause it (inr (runs, inr (done, new))) = inr (new.0, record { runs = runs; done = done; is = new.1 })

-- what an accepted step of worker i by itself changes
pub record OwnChange (i : ℕ) (Change : WorkerState → WorkerState → Type 0) (w w' : WorldState) : Type 0 where
  pub worker : WorkerState
  pub new : WorkerState
  pub at : IsWorker w i worker
  pub change : Change worker new
  pub is : w' ≡ changed w i new w.book w.lanes

-- on the book
pub record BookChange (i : ℕ) (Change : AtBook → AtBook → Type 0) (w w' : WorldState) : Type 0 where
  pub worker : WorkerState
  pub new : AtBook
  pub at : IsWorker w i worker
  pub change : Change (record { worker = worker; book = w.book }) new
  pub is : w' ≡ changed w i new.worker new.book w.lanes

-- and on a lane
pub record LaneChange (i : ℕ) (ends : Ends) (Change : AtLane → AtLane → Type 0) (w w' : WorldState) : Type 0 where
  pub worker : WorkerState
  pub lane : Lane
  pub new : AtLane
  pub at : IsWorker w i worker
  pub at_lane : IsLane w ends.from ends.to lane
  pub change : Change (record { worker = worker; lane = lane }) new
  pub is : w' ≡ changed w i new.worker w.book (with_lane w.lanes ends.from ends.to new.lane)

abbrev pub Accepts : Step → WorldState → WorldState → Type 0
Accepts (Expand i) w w' = OwnChange i (Expands (role_of w i)) w w'
Accepts (Settle i) w w' = OwnChange i Settles w w'
Accepts (Send i j) w w' = LaneChange i (lane_ends i j) (SendsOnLane j) w w'
Accepts (Deliver i j) w w' = LaneChange i (lane_ends j i) Delivers w w'
Accepts (Draw i) w w' = BookChange i Draws w w'
Accepts (Announce i) w w' = BookChange i (Announces (role_of w i)) w w'
Accepts (Grant i) w w' = BookChange i (Grants (role_of w i)) w w'
Accepts (Rest i) w w' = BookChange i (Rests (role_of w i)) w w'
Accepts (Halt i cause) w w' = BookChange i (Halts cause) w w'

by_worker : (i : ℕ) (OwnStep : Turn WorkerState Refusal → Type 0) (Change : WorkerState → WorkerState → Type 0) → ((it : Turn WorkerState Refusal) → OwnStep it → Cases it (Change it.before it.after)) → (it : Turn WorldState Refusal) → ByWorker i OwnStep it → Cases it (OwnChange i Change it.before it.after)
by_worker i OwnStep Change cases it (inl out) = inl (_, out.1)
by_worker i OwnStep Change cases it (inr (there, (worker, worker', at, step, is))) = split (cases (turn worker it.answer worker') step)
  where
    split : Cases (turn worker it.answer worker') (Change worker worker') → Cases it (OwnChange i Change it.before it.after)
    split (inl out) = inl (out.0, (out.1.0, is ∙ unchanged_world it.before i worker at worker' out.1.1))
    split (inr done) = inr (done.0, record { worker = worker; new = worker'; at = at; change = done.1; is = is })

on_book : (i : ℕ) (BookStep : Turn AtBook Refusal → Type 0) (Change : AtBook → AtBook → Type 0) → ((it : Turn AtBook Refusal) → BookStep it → Cases it (Change it.before it.after)) → (it : Turn WorldState Refusal) → OnBook i BookStep it → Cases it (BookChange i Change it.before it.after)
on_book i BookStep Change cases it (inl out) = inl (_, out.1)
on_book i BookStep Change cases it (inr (there, (worker, new, at, step, is))) = split (cases (turn (record { worker = worker; book = it.before.book }) it.answer new) step)
  where
    old : AtBook
    old = record { worker = worker; book = it.before.book }

    split : Cases (turn (record { worker = worker; book = it.before.book }) it.answer new) (Change (record { worker = worker; book = it.before.book }) new) → Cases it (BookChange i Change it.before it.after)
    split (inl out) = inl (out.0, (out.1.0, is ∙ ap (λ (x : AtBook). changed it.before i x.worker x.book it.before.lanes) out.1.1 ∙ unchanged_world it.before i worker at worker refl))
    split (inr done) = inr (done.0, record { worker = worker; new = new; at = at; change = done.1; is = is })

on_lane : (i : ℕ) (ends : Ends) (LaneStep : Turn AtLane Refusal → Type 0) (Change : AtLane → AtLane → Type 0) → ((it : Turn AtLane Refusal) → LaneStep it → Cases it (Change it.before it.after)) → (it : Turn WorldState Refusal) → OnLane i ends LaneStep it → Cases it (LaneChange i ends Change it.before it.after)
on_lane i ends LaneStep Change cases it (inl out) = inl (_, out.1)
on_lane i ends LaneStep Change cases it (inr (there, (worker, lane, new, at, at_lane, step, is))) = split (cases (turn (record { worker = worker; lane = lane }) it.answer new) step)
  where
    split : Cases (turn (record { worker = worker; lane = lane }) it.answer new) (Change (record { worker = worker; lane = lane }) new) → Cases it (LaneChange i ends Change it.before it.after)
    split (inl out) = inl (out.0, (out.1.0, is ∙ unchanged_lanes it.before i worker at ends.from ends.to lane at_lane new.worker new.lane (ap (λ (x : AtLane). x.worker) out.1.1) (ap (λ (x : AtLane). x.lane) out.1.1)))
    split (inr done) = inr (done.0, record { worker = worker; lane = lane; new = new; at = at; at_lane = at_lane; change = done.1; is = is })

pub next_cases : (step : Step) (it : Turn WorldState Refusal) → Next step it → Cases it (Accepts step it.before it.after)
next_cases (Expand i) it next = by_worker i (ExpandStep (role_of it.before i)) (Expands (role_of it.before i)) (expand_cases (role_of it.before i)) it next
next_cases (Settle i) it next = by_worker i SettleStep Settles settle_cases it next
next_cases (Send i j) it next = on_lane i (lane_ends i j) (SendStep j) (SendsOnLane j) (send_cases j) it next
next_cases (Deliver i j) it next = on_lane i (lane_ends j i) DeliverStep Delivers deliver_cases it next
next_cases (Draw i) it next = on_book i DrawStep Draws draw_cases it next
next_cases (Announce i) it next = on_book i (AnnounceStep (role_of it.before i)) (Announces (role_of it.before i)) (announce_cases (role_of it.before i)) it next
next_cases (Grant i) it next = on_book i (GrantStep (role_of it.before i)) (Grants (role_of it.before i)) (grant_cases (role_of it.before i)) it next
next_cases (Rest i) it next = on_book i (RestStep (role_of it.before i)) (Rests (role_of it.before i)) (rest_cases (role_of it.before i)) it next
next_cases (Halt i cause) it next = on_book i (HaltStep cause) (Halts cause) (halt_cases cause) it next

-- ---- steps on the book leave a worker's boards and items as they are, and the book's limit and count of floors

-- the same boards are known, and the same items are held and unsent
pub record IsSame (x y : WorkerState) : Type 0 where
  pub known : y.known ≡ x.known
  pub held : y.held ≡ x.held
  pub unsent : y.unsent ≡ x.unsent

-- what a step on the book keeps
pub record IsKeptByBook (x y : AtBook) : Type 0 where
  pub worker : IsSame x.worker y.worker
  pub floors : length y.book.floors ≡ length x.book.floors
  pub limit : y.book.limit ≡ x.book.limit
  pub expansions : y.worker.expansions ≡ x.worker.expansions

same_lists : (worker new : WorkerState) → new.known ≡ worker.known → new.held ≡ worker.held → new.unsent ≡ worker.unsent → IsSame worker new
same_lists worker new known held unsent = record { known = known; held = held; unsent = unsent }

pub draw_same : (x y : AtBook) → Draws x y → IsKeptByBook x y
draw_same x y step = subst (IsKeptByBook x) (sym step.is) (record { worker = same_lists x.worker _ refl refl refl; floors = refl; limit = refl; expansions = refl })

pub announce_same : (role : Role) (x y : AtBook) → Announces role x y → IsKeptByBook x y
announce_same role x y step = subst (IsKeptByBook x) (sym step.is) (record { worker = same_lists x.worker _ refl refl refl; floors = refl; limit = refl; expansions = refl })

pub grant_same : (role : Role) (x y : AtBook) → Grants role x y → IsKeptByBook x y
grant_same role x y step = subst (IsKeptByBook x) (sym step.is) (record { worker = same_lists x.worker _ refl refl refl; floors = refl; limit = refl; expansions = refl })

pub rest_same : (role : Role) (x y : AtBook) → Rests role x y → IsKeptByBook x y
rest_same role x y step = subst (IsKeptByBook x) (sym step.is) (record { worker = same_lists x.worker _ refl refl refl; floors = length-set x.book.floors role.me step.floor; limit = refl; expansions = refl })

pub halt_same : (cause : HaltCause) (x y : AtBook) → Halts cause x y → IsKeptByBook x y
halt_same cause x y step = subst (IsKeptByBook x) (sym step.is) (record { worker = same_lists x.worker _ refl refl refl; floors = refl; limit = refl; expansions = refl })

-- the worker after a step on the book
abbrev KeepsWorker : Turn AtBook Refusal → Type 0
KeepsWorker it = (it.after.worker.known ≡ it.before.worker.known) × (it.after.worker.held ≡ it.before.worker.held) × (it.after.worker.unsent ≡ it.before.worker.unsent)

kept : (it : Turn AtBook Refusal) (Change : AtBook → AtBook → Type 0) → ((x y : AtBook) → Change x y → IsKeptByBook x y) → Cases it (Change it.before it.after) → KeepsWorker it
kept it Change same (inl out) = (ap (λ (x : AtBook). x.worker.known) out.1.1, ap (λ (x : AtBook). x.worker.held) out.1.1, ap (λ (x : AtBook). x.worker.unsent) out.1.1)
kept it Change same (inr done) = let h = (same it.before it.after done.1).worker in (h.known, h.held, h.unsent)

pub book_steps_keep : (role : Role) (cause : HaltCause) (it : Turn AtBook Refusal) → DrawStep it ⊎ AnnounceStep role it ⊎ GrantStep role it ⊎ RestStep role it ⊎ HaltStep cause it → KeepsWorker it
book_steps_keep role cause it (inl step) = kept it Draws draw_same (draw_cases it step)
book_steps_keep role cause it (inr (inl step)) = kept it (Announces role) (announce_same role) (announce_cases role it step)
book_steps_keep role cause it (inr (inr (inl step))) = kept it (Grants role) (grant_same role) (grant_cases role it step)
book_steps_keep role cause it (inr (inr (inr (inl step)))) = kept it (Rests role) (rest_same role) (rest_cases role it step)
book_steps_keep role cause it (inr (inr (inr (inr step)))) = kept it (Halts cause) (halt_same cause) (halt_cases cause it step)

-- ---- no step of a shaped world is without an answer

-- where no board is one of least cost plus sum, none is open
none_open : (task : Task) (worker : WorkerState) → ((b : BoardModel) (known : Known) → ¬ IsNext task worker b known) → (m : ℕ) (b : BoardModel) (known : Known) → known.cost + task.sum b < m → ¬ IsOpen task worker b known
none_open task worker none zero b known lt at = omega arith
none_open task worker none (suc m) b known lt at =
    ⊎_elim
    (λ (below : known.cost + task.sum b < m). none_open task worker none m b known below at)
    (λ (le : m ≤ known.cost + task.sum b).
    none b known (record { opens = at; least = λ x k other. ⊎_elim (λ (low : k.cost + task.sum x < m). absurd (none_open task worker none m x k low other)) (λ (high : m ≤ k.cost + task.sum x). omega arith) (cases_lt (k.cost + task.sum x) m) }))
    (cases_lt (known.cost + task.sum b) m)

-- there is a floor
no_floor : (task : Task) (worker : WorkerState) → ¬ ((floor : Option ℕ) → ¬ IsFloor task worker floor)
no_floor task worker none = none None (λ f has. none_open task worker (λ b known next. none (Some (known.cost + task.sum b)) ((b, known, next.opens, refl), λ m other. let le = next.least other.0 other.1 other.2 in omega (arith, other.3))) (suc f) has.0 has.1 (omega (arith, has.3)) has.2)

pub split_last : (xs : List Item) → ¬ (xs ≡ []) → (front : List Item) × (last : Item) × (xs ≡ front ++ last ∷ [])
split_last [] some = absurd (some refl)
split_last (x ∷ []) some = ([], x, refl)
split_last (x ∷ y ∷ xs) some = let rest = split_last (y ∷ xs) (λ e. let n = ap length e in omega arith) in (x ∷ rest.0, rest.1, ap (λ ys. x ∷ ys) rest.2)

split_first : (lane : Lane) → ¬ (lane ≡ []) → (packet : Packet) × (rest : Lane) × (lane ≡ packet ∷ rest)
split_first [] some = absurd (some refl)
split_first (packet ∷ rest) some = (packet, rest, refl)

-- a step of this kind has an answer
abbrev pub HasAnswer : {S : Type 0} → (Turn S Refusal → Type 0) → S → Type 0
HasAnswer {S} StepOf before = ¬ ((answer : Option Refusal) (after : S) → ¬ StepOf (turn before answer after))

pub expand_answers : (role : Role) (worker : WorkerState) → HasAnswer (ExpandStep role) worker
expand_answers role worker none =
    let busy : ¬ HasNothingBelow role.task worker (limit_of worker.best) = λ h. none (Some NothingBelowLimit) worker (inl (h, (refl, refl))) in
    let left : ¬ (worker.allowance ≡ 0) = λ h. none (Some NoAllowance) worker (inr (busy, inl (h, (refl, refl)))) in
    busy (λ b known at. absurd (none_open role.task worker (λ x k next.
    let room : ¬ IsOverfull (expansion role worker x k) = λ full. none (Some NoRoom) worker (inr (busy, inr (left, (x, k, next, inl (full, (refl, refl)))))) in
    none None (expansion role worker x k) (inr (busy, inr (left, (x, k, next, inr (room, inl (refl, refl))))))) (suc (known.cost + role.task.sum b)) b known (omega arith) at))

settle_answers : (worker : WorkerState) → HasAnswer SettleStep worker
settle_answers worker none =
    let some : ¬ (worker.held ≡ []) = λ h. none (Some NothingThere) worker (inl (h, (refl, refl))) in
    let at = split_last worker.held some in
    none None (record worker { held = at.0; known = relaxation worker.known at.1 }) (inr (some, (at.0, at.1, at.2, inl (refl, refl))))

send_answers : (to : ℕ) (x : AtLane) → HasAnswer (SendStep to) x
send_answers to x none =
    let some : ¬ (packet_for x.worker to ≡ []) = λ h. none (Some NothingThere) x (inl (h, (refl, refl))) in
    let rich : ¬ (x.worker.purse < 2) = λ h. none (Some PurseTooSmall) x (inr (some, inl (h, (refl, refl)))) in
    let room : ¬ (length x.lane ≡ LANE_LIMIT) = λ h. none (Some RingFull) x (inr (some, inr (rich, inl (h, (refl, refl))))) in
    none None _ (inr (some, inr (rich, inr (room, (refl, refl)))))

deliver_answers : (x : AtLane) → HasAnswer DeliverStep x
deliver_answers x none =
    let free : ¬ (x.worker.held ≢ []) = λ h. none (Some StillHolding) x (inl (h, (refl, refl))) in
    let fits : ¬ (x.worker.purse + 1 ≡ 2 ^ 64) = λ h. none (Some PurseFull) x (inr (free, inl (h, (refl, refl)))) in
    let some : ¬ (x.lane ≡ []) = λ h. none (Some RingEmpty) x (inr (free, inr (fits, inl (h, (refl, refl))))) in
    let at = split_first x.lane some in
    none None _ (inr (free, inr (fits, inr (some, (at.0, at.1, at.2, (refl, refl))))))

draw_answers : (x : AtBook) → HasAnswer DrawStep x
draw_answers x none =
    let runs : ¬ (x.book.stop ≢ None) = λ h. none (Some Stopped) x (inl (h, (refl, refl))) in
    let some : ¬ (x.worker.purse ≡ 0) = λ h. none (Some PurseEmpty) x (inr (runs, inl (h, (refl, refl)))) in
    let fits : ¬ (2 ^ 63 < x.book.credit) = λ h. none (Some PurseFull) x (inr (runs, inr (some, inl (h, (refl, refl))))) in
    none None _ (inr (runs, inr (some, inr (fits, (refl, refl)))))

announce_answers : (role : Role) (x : AtBook) → HasAnswer (AnnounceStep role) x
announce_answers role x none =
    let runs : ¬ (x.book.stop ≢ None) = λ h. none (Some Stopped) x (inl (h, (refl, refl))) in
    let some : ¬ ((cost : ℕ) → ¬ MayAnnounce role x cost) = λ h. none (Some NothingToAnnounce) x (inr (runs, inl (h, (refl, refl)))) in
    some (λ cost may. none None _ (inr (runs, inr (some, (cost, may, (refl, refl))))))

grant_answers : (role : Role) (x : AtBook) → HasAnswer (GrantStep role) x
grant_answers role x none =
    let runs : ¬ (x.book.stop ≢ None) = λ h. none (Some Stopped) x (inl (h, (refl, refl))) in
    let busy : ¬ HasNothingBelow role.task x.worker (limit_of x.book.best) = λ h. none (Some NothingBelowLimit) x (inr (runs, inl (h, (refl, refl)))) in
    let spent : ¬ (x.worker.allowance ≢ 0) = λ h. none (Some AllowanceLeft) x (inr (runs, inr (busy, inl (h, (refl, refl))))) in
    let more : ¬ (x.book.granted ≡ x.book.limit) = λ h. none (Some NoAllowance) x (inr (runs, inr (busy, inr (spent, inl (h, (refl, refl)))))) in
    none None _ (inr (runs, inr (busy, inr (spent, inr (more, (refl, refl))))))

pub rest_answers : (role : Role) (x : AtBook) → HasAnswer (RestStep role) x
rest_answers role x none =
    let runs : ¬ (x.book.stop ≢ None) = λ h. none (Some Stopped) x (inl (h, (refl, refl))) in
    let some : ¬ (x.worker.purse ≡ 0) = λ h. none (Some PurseEmpty) x (inr (runs, inl (h, (refl, refl)))) in
    let idle : ¬ (¬ IsIdle role.task x.worker (limit_of x.book.best) x.book.best) = λ h. none (Some NotIdle) x (inr (runs, inr (some, inl (h, (refl, refl))))) in
    no_floor role.task x.worker (λ floor is. none None _ (inr (runs, inr (some, inr (idle, (floor, is, (refl, refl)))))))

halt_answers : (cause : HaltCause) (x : AtBook) → HasAnswer (HaltStep cause) x
halt_answers cause x none =
    let runs : ¬ (x.book.stop ≢ None) = λ h. none (Some Stopped) x (inl (h, (refl, refl))) in
    let done : ¬ MayGoOn x cause = λ h. none (Some AllowanceLeft) x (inr (runs, inl (h, (refl, refl)))) in
    none None _ (inr (runs, inr (done, (refl, refl))))

module _ (w : WorldState) where
  worker_at : (i : ℕ) → ¬ (length w.workers ≤ i) → (worker : WorkerState) × IsWorker w i worker
  worker_at i there = get_below w.workers i (⊎_elim (λ (lt : i < length w.workers). lt) (λ (le : length w.workers ≤ i). absurd (there le)) (cases_lt i (length w.workers)))

  by_worker_answered : (i : ℕ) (OwnStep : Turn WorkerState Refusal → Type 0) → ((worker : WorkerState) → HasAnswer OwnStep worker) → HasAnswer (ByWorker i OwnStep) w
  by_worker_answered i OwnStep answers none =
      let there : ¬ (length w.workers ≤ i) = λ h. none (Some NoSuchWorker) w (inl (h, (refl, refl))) in
      let worker = worker_at i there in
      answers worker.0 (λ answer new step. none answer (with_worker w i new) (inr (there, (worker.0, new, worker.1, step, refl))))

  on_book_answered : (i : ℕ) (BookStep : Turn AtBook Refusal → Type 0) → ((x : AtBook) → HasAnswer BookStep x) → HasAnswer (OnBook i BookStep) w
  on_book_answered i BookStep answers none =
      let there : ¬ (length w.workers ≤ i) = λ h. none (Some NoSuchWorker) w (inl (h, (refl, refl))) in
      let worker = worker_at i there in
      answers (record { worker = worker.0; book = w.book }) (λ answer new step. none answer (record (with_worker w i new.worker) { book = new.book }) (inr (there, (worker.0, new, worker.1, step, refl))))

  module _ (shaped : IsShaped w) where
    lane_at : (from to : ℕ) → from < length w.workers → to < length w.workers → (lane : Lane) × IsLane w from to lane
    lane_at from to lt lt' =
        let row = get_below w.lanes from (omega (arith, shaped.senders)) in
        let lane = get_below row.0 to (omega (arith, shaped.receivers from row.0 row.1)) in
        (lane.0, record { from_lanes = row.0; of_sender = row.1; of_receiver = lane.1 })

    on_lane_answered : (i : ℕ) (ends : Ends) → (ends.from ≡ i) ⊎ (ends.to ≡ i) → (LaneStep : Turn AtLane Refusal → Type 0) → ((x : AtLane) → HasAnswer LaneStep x) → HasAnswer (OnLane i ends LaneStep) w
    on_lane_answered i ends mine LaneStep answers none =
        let there : ¬ ((ends.from ≡ ends.to) ⊎ (length w.workers ≤ ends.from) ⊎ (length w.workers ≤ ends.to)) = λ h. none (Some NoSuchWorker) w (inl (h, (refl, refl))) in
        let lt : ends.from < length w.workers = ⊎_elim (λ (l : ends.from < length w.workers). l) (λ (le : length w.workers ≤ ends.from). absurd (there (inr (inl le)))) (cases_lt ends.from (length w.workers)) in
        let lt' : ends.to < length w.workers = ⊎_elim (λ (l : ends.to < length w.workers). l) (λ (le : length w.workers ≤ ends.to). absurd (there (inr (inr le)))) (cases_lt ends.to (length w.workers)) in
        let worker = get_below w.workers i (⊎_elim (λ (e : ends.from ≡ i). omega arith) (λ (e : ends.to ≡ i). omega arith) mine) in
        let lane = lane_at ends.from ends.to lt lt' in
        answers (record { worker = worker.0; lane = lane.0 }) (λ answer new step. none answer (record (with_worker w i new.worker) { lanes = with_lane w.lanes ends.from ends.to new.lane }) (inr (there, (worker.0, lane.0, new, worker.1, lane.1, step, refl))))

    pub steps_answer : (step : Step) → HasAnswer (Next step) w
    steps_answer (Expand i) none = by_worker_answered i (ExpandStep (role_of w i)) (expand_answers (role_of w i)) none
    steps_answer (Settle i) none = by_worker_answered i SettleStep settle_answers none
    steps_answer (Send i j) none = on_lane_answered i (lane_ends i j) (inl refl) (SendStep j) (send_answers j) none
    steps_answer (Deliver i j) none = on_lane_answered i (lane_ends j i) (inr refl) DeliverStep deliver_answers none
    steps_answer (Draw i) none = on_book_answered i DrawStep draw_answers none
    steps_answer (Announce i) none = on_book_answered i (AnnounceStep (role_of w i)) (announce_answers (role_of w i)) none
    steps_answer (Grant i) none = on_book_answered i (GrantStep (role_of w i)) (grant_answers (role_of w i)) none
    steps_answer (Rest i) none = on_book_answered i (RestStep (role_of w i)) (rest_answers (role_of w i)) none
    steps_answer (Halt i cause) none = on_book_answered i (HaltStep cause) (halt_answers cause) none
