-- What steps leave alone, what they do last, and what runs are.
use Rattle.std.proofs.Common.{◌≡◌, ◌≢◌, ℕ, ◌+◌, ◌<◌, ◌≤◌, true, false, List, [], ◌∷◌, ◌++◌, refl, sym, ap, ◌∙◌, subst, inl, inr, ⊎_elim, arith, Option, Some, None, replicate}
use Rattle.std.specs.Prelude.{◌↔◌, ⊤, All, get_or, slice_get}
use Rattle.std.specs.FinMap as map
use Rattle.std.proofs.lemmas.Bool.{cases_lt}
use Rattle.std.proofs.lemmas.List.Elements.{All-get_or, All-set}
use Rattle.std.proofs.lemmas.Option.{slice_get_within, get_or_from_slice_get}
use Rattle.memory.specs.declared.OutOfMemory.{OutOfMemory}
use Rattle.board.specs.Boards.{BoardModel}
use Rattle.search_keys.specs.SearchKeys.{search_key}
use Rattle.outcomes.specs.Outcomes.{Task}
use Rattle.world_model.specs.declared.parts.Item.{Item}
use Rattle.world_model.specs.declared.parts.Known.{Known}
use Rattle.world_model.specs.declared.steps.HaltCause.{HaltCause}
use Rattle.world_model.specs.declared.steps.Refusal.{Refusal}
use Rattle.world_model.specs.declared.steps.Refusal.TheVariants.{Memory}
use Rattle.world_model.specs.declared.steps.Step.{Step}
use Rattle.world_model.specs.declared.steps.Step.TheVariants.{Expand, Settle, Send, Deliver, Draw, Announce, Grant, Rest, Halt}
use Rattle.world_model.specs.BookSteps.{AnnounceStep, AtBook, DrawStep, GrantStep, HaltStep, RestStep}
use Rattle.world_model.specs.Books.{BookState}
use Rattle.world_model.specs.Costs.{IsNotBelow, limit_of}
use Rattle.world_model.specs.Expansions.{expansion, successor_items, with_closure}
use Rattle.world_model.specs.Knowledge.{relaxation}
use Rattle.world_model.specs.StepLaws.{BooksAreLeft, BooksGoOneWay, BookStepsAloneUseIt, FloorsAreHigh, HasHighFloors, HighFloorsReachTheLimit, LanesAreLeft, LanesHaveTwoEnds, LeastIsExpanded, MemoryIsLast, OthersAreLeft, RestsKeepTheFloor, RunsAreJoined, RunsAreOfSteps, StopsAreFinal, UsesBook, UsesLane, worker_of_step}
use Rattle.world_model.specs.Steps.{ByWorker, Ends, IsRun, Next, OnBook, OnLane, lane_ends, with_worker}
use Rattle.world_model.specs.Turns.{Turn, turn}
use Rattle.world_model.specs.WorkerSteps.{AtLane, DeliverStep, ExpandStep, SendStep, SettleStep}
use Rattle.world_model.specs.Workers.{HasNothingBelow, IsFloor, IsNext, IsOpen, KnowsAs, Lane, Role, WorkerState}
use Rattle.world_model.specs.Worlds.{IsLane, IsWorker, WorldState, role_of}
use Rattle.world_model.proofs.ChangeLemmas.{all_from_places, at_replicate, get_set_other, get_set_same, set_same, entry, same_search_key, same_known, with_insert, changed, lane_after, lane_before}
use Rattle.world_model.proofs.ExpandLemmas.{all_known}
use Rattle.world_model.proofs.CreditLemmas.{limit_falls, lower_best, not_below_itself, not_below_stable}
use Rattle.world_model.proofs.StepCases.{Accepts, Announces, BookChange, Cases, Draws, Expands, Grants, Halts, LaneChange, OwnChange, Rests, expand_cases, next_cases}

-- what steps answer that take no memory
never : (answer : Option Refusal) (refused : OutOfMemory) (refusal : Refusal) → answer ≡ Some refusal → (refusal ≢ Memory refused) → answer ≡ Some (Memory refused) → ⊥
never answer refused refusal is other memory = let e : Some refusal ≡ Some (Memory refused) = sym is ∙ memory in let e' : refusal ≡ Memory refused = cc in other e'

not_done : (answer : Option Refusal) (refused : OutOfMemory) → answer ≡ None → answer ≡ Some (Memory refused) → ⊥
not_done answer refused is memory = let e : ◌≡◌ {A = Option Refusal} None (Some (Memory refused)) = sym is ∙ memory in cc

abbrev IsSober : {S : Type 0} → (Turn S Refusal → Type 0) → Type 0
IsSober {S} StepOf = (before after : S) (answer : Option Refusal) (refused : OutOfMemory) → StepOf (turn before answer after) → answer ≡ Some (Memory refused) → ⊥

send_sober : (to : ℕ) → IsSober (SendStep to)
send_sober to x y answer refused (inl out) e = never answer refused _ out.1.0 (λ same. cc) e
send_sober to x y answer refused (inr (some, inl out)) e = never answer refused _ out.1.0 (λ same. cc) e
send_sober to x y answer refused (inr (some, inr (rich, inl out))) e = never answer refused _ out.1.0 (λ same. cc) e
send_sober to x y answer refused (inr (some, inr (rich, inr (room, new)))) e = not_done answer refused new.0 e

deliver_sober : IsSober DeliverStep
deliver_sober x y answer refused (inl out) e = never answer refused _ out.1.0 (λ same. cc) e
deliver_sober x y answer refused (inr (free, inl out)) e = never answer refused _ out.1.0 (λ same. cc) e
deliver_sober x y answer refused (inr (free, inr (fits, inl out))) e = never answer refused _ out.1.0 (λ same. cc) e
deliver_sober x y answer refused (inr (free, inr (fits, inr (some, (packet, rest, first, new))))) e = not_done answer refused new.0 e

draw_sober : IsSober DrawStep
draw_sober x y answer refused (inl out) e = never answer refused _ out.1.0 (λ same. cc) e
draw_sober x y answer refused (inr (runs, inl out)) e = never answer refused _ out.1.0 (λ same. cc) e
draw_sober x y answer refused (inr (runs, inr (some, inl out))) e = never answer refused _ out.1.0 (λ same. cc) e
draw_sober x y answer refused (inr (runs, inr (some, inr (fits, new)))) e = not_done answer refused new.0 e

announce_sober : (role : Role) → IsSober (AnnounceStep role)
announce_sober role x y answer refused (inl out) e = never answer refused _ out.1.0 (λ same. cc) e
announce_sober role x y answer refused (inr (runs, inl out)) e = never answer refused _ out.1.0 (λ same. cc) e
announce_sober role x y answer refused (inr (runs, inr (some, (cost, may, new)))) e = not_done answer refused new.0 e

grant_sober : (role : Role) → IsSober (GrantStep role)
grant_sober role x y answer refused (inl out) e = never answer refused _ out.1.0 (λ same. cc) e
grant_sober role x y answer refused (inr (runs, inl out)) e = never answer refused _ out.1.0 (λ same. cc) e
grant_sober role x y answer refused (inr (runs, inr (busy, inl out))) e = never answer refused _ out.1.0 (λ same. cc) e
grant_sober role x y answer refused (inr (runs, inr (busy, inr (spent, inl out)))) e = never answer refused _ out.1.0 (λ same. cc) e
grant_sober role x y answer refused (inr (runs, inr (busy, inr (spent, inr (more, new))))) e = not_done answer refused new.0 e

rest_sober : (role : Role) → IsSober (RestStep role)
rest_sober role x y answer refused (inl out) e = never answer refused _ out.1.0 (λ same. cc) e
rest_sober role x y answer refused (inr (runs, inl out)) e = never answer refused _ out.1.0 (λ same. cc) e
rest_sober role x y answer refused (inr (runs, inr (some, inl out))) e = never answer refused _ out.1.0 (λ same. cc) e
rest_sober role x y answer refused (inr (runs, inr (some, inr (idle, (floor, is_floor, new))))) e = not_done answer refused new.0 e

halt_sober : (cause : HaltCause) → IsSober (HaltStep cause)
halt_sober cause x y answer refused (inl out) e = never answer refused _ out.1.0 (λ same. cc) e
halt_sober cause x y answer refused (inr (runs, inl out)) e = never answer refused _ out.1.0 (λ same. cc) e
halt_sober cause x y answer refused (inr (runs, inr (done, new))) e = not_done answer refused new.0 e

lane_sober : (i : ℕ) (ends : Ends) (LaneStep : Turn AtLane Refusal → Type 0) → IsSober LaneStep → IsSober (OnLane i ends LaneStep)
lane_sober i ends LaneStep sober w w' answer refused (inl out) e = never answer refused _ out.1.0 (λ same. cc) e
lane_sober i ends LaneStep sober w w' answer refused (inr (there, (worker, lane, at, is, is_lane, step, new))) e = sober _ at answer refused step e

book_sober : (i : ℕ) (BookStep : Turn AtBook Refusal → Type 0) → IsSober BookStep → IsSober (OnBook i BookStep)
book_sober i BookStep sober w w' answer refused (inl out) e = never answer refused _ out.1.0 (λ same. cc) e
book_sober i BookStep sober w w' answer refused (inr (there, (worker, at, is, step, new))) e = sober _ at answer refused step e

-- a worker's own step may be refused memory just where it is otherwise accepted
abbrev WantsLast : (Turn WorkerState Refusal → Type 0) → Type 0
WantsLast OwnStep =
    (refused : OutOfMemory) (x : WorkerState)
    → ((y : WorkerState) (answer : Option Refusal) → OwnStep (turn x answer y) → answer ≡ Some (Memory refused) → (z : WorkerState) × OwnStep (turn x None z))
    × ((z : WorkerState) (answer : Option Refusal) → OwnStep (turn x answer z) → answer ≡ None → OwnStep (turn x (Some (Memory refused)) x))

refused_none : (answer : Option Refusal) (refusal : Refusal) → answer ≡ Some refusal → answer ≡ None → ⊥
refused_none answer refusal is none = let e : ◌≡◌ {A = Option Refusal} (Some refusal) None = sym is ∙ none in cc

expand_last : (role : Role) → WantsLast (ExpandStep role)
expand_last role refused x = (to, from)
  where
    to : (y : WorkerState) (answer : Option Refusal) → ExpandStep role (turn x answer y) → answer ≡ Some (Memory refused) → (z : WorkerState) × ExpandStep role (turn x None z)
    to y answer (inl out) e = absurd (never answer refused _ out.1.0 (λ same. cc) e)
    to y answer (inr (busy, inl out)) e = absurd (never answer refused _ out.1.0 (λ same. cc) e)
    to y answer (inr (busy, inr (left, (b, known, next, inl out)))) e = absurd (never answer refused _ out.1.0 (λ same. cc) e)
    to y answer (inr (busy, inr (left, (b, known, next, inr (room, inl new))))) e = absurd (not_done answer refused new.0 e)
    to y answer (inr (busy, inr (left, (b, known, next, inr (room, inr out))))) e = (expansion role x b known, inr (busy, inr (left, (b, known, next, inr (room, inl (refl, refl))))))

    from : (z : WorkerState) (answer : Option Refusal) → ExpandStep role (turn x answer z) → answer ≡ None → ExpandStep role (turn x (Some (Memory refused)) x)
    from z answer (inl out) e = absurd (refused_none answer _ out.1.0 e)
    from z answer (inr (busy, inl out)) e = absurd (refused_none answer _ out.1.0 e)
    from z answer (inr (busy, inr (left, (b, known, next, inl out)))) e = absurd (refused_none answer _ out.1.0 e)
    from z answer (inr (busy, inr (left, (b, known, next, inr (room, new))))) e = inr (busy, inr (left, (b, known, next, inr (room, inr (refused, (refl, refl))))))

settle_last : WantsLast SettleStep
settle_last refused x = (to, from)
  where
    to : (y : WorkerState) (answer : Option Refusal) → SettleStep (turn x answer y) → answer ≡ Some (Memory refused) → (z : WorkerState) × SettleStep (turn x None z)
    to y answer (inl out) e = absurd (never answer refused _ out.1.0 (λ same. cc) e)
    to y answer (inr (some, (front, last, held, new))) e = (record x { held = front; known = relaxation x.known last }, inr (some, (front, last, held, inl (refl, refl))))

    from : (z : WorkerState) (answer : Option Refusal) → SettleStep (turn x answer z) → answer ≡ None → SettleStep (turn x (Some (Memory refused)) x)
    from z answer (inl out) e = absurd (refused_none answer _ out.1.0 e)
    from z answer (inr (some, (front, last, held, new))) e = inr (some, (front, last, held, inr (refused, (refl, refl))))

own_last : (i : ℕ) (OwnStep : Turn WorkerState Refusal → Type 0) → WantsLast OwnStep → (w : WorldState) (refused : OutOfMemory) → ByWorker i OwnStep (turn w (Some (Memory refused)) w) ↔ ((w' : WorldState) × ByWorker i OwnStep (turn w None w'))
own_last i OwnStep last w refused = (to, from)
  where
    to : ByWorker i OwnStep (turn w (Some (Memory refused)) w) → (w' : WorldState) × ByWorker i OwnStep (turn w None w')
    to (inl out) = absurd (never _ refused _ out.1.0 (λ same. cc) refl)
    to (inr (there, (x, y, at, step, is))) = let new = (last refused x).0 y (Some (Memory refused)) step refl in (with_worker w i new.0, inr (there, (x, new.0, at, new.1, refl)))

    from : (w' : WorldState) × ByWorker i OwnStep (turn w None w') → ByWorker i OwnStep (turn w (Some (Memory refused)) w)
    from (w', inl out) = absurd (refused_none _ _ out.1.0 refl)
    from (w', inr (there, (x, y, at, step, is))) = inr (there, (x, x, at, (last refused x).1 y None step refl, sym (ap (λ (ws : List WorkerState). record w { workers = ws }) (set_same w.workers i x at))))

sober_last : (StepOf : Turn WorldState Refusal → Type 0) → IsSober StepOf → (w : WorldState) (refused : OutOfMemory) → StepOf (turn w (Some (Memory refused)) w) ↔ (⊥ × ((w' : WorldState) × StepOf (turn w None w')))
sober_last StepOf sober w refused = ((λ step. absurd (sober w w (Some (Memory refused)) refused step refl)), λ both. absurd both.0)

taking : {A B : Type 0} → A ↔ B → A ↔ (⊤ × B)
taking both = ((λ a. (tt, both.0 a)), λ b. both.1 b.1)

pub memory_last : MemoryIsLast
memory_last (Expand i) w refused = taking (own_last i (ExpandStep (role_of w i)) (expand_last (role_of w i)) w refused)
memory_last (Settle i) w refused = taking (own_last i SettleStep settle_last w refused)
memory_last (Send i j) w refused = sober_last (OnLane i (lane_ends i j) (SendStep j)) (lane_sober i (lane_ends i j) (SendStep j) (send_sober j)) w refused
memory_last (Deliver i j) w refused = sober_last (OnLane i (lane_ends j i) DeliverStep) (lane_sober i (lane_ends j i) DeliverStep deliver_sober) w refused
memory_last (Draw i) w refused = sober_last (OnBook i DrawStep) (book_sober i DrawStep draw_sober) w refused
memory_last (Announce i) w refused = sober_last (OnBook i (AnnounceStep (role_of w i))) (book_sober i (AnnounceStep (role_of w i)) (announce_sober (role_of w i))) w refused
memory_last (Grant i) w refused = sober_last (OnBook i (GrantStep (role_of w i))) (book_sober i (GrantStep (role_of w i)) (grant_sober (role_of w i))) w refused
memory_last (Rest i) w refused = sober_last (OnBook i (RestStep (role_of w i))) (book_sober i (RestStep (role_of w i)) (rest_sober (role_of w i))) w refused
memory_last (Halt i cause) w refused = sober_last (OnBook i (HaltStep cause)) (book_sober i (HaltStep cause) (halt_sober cause)) w refused

-- what an expansion closes
module _ (role : Role) (x : WorkerState) (b : BoardModel) (before after : Known) (opens : IsOpen role.task x b before) (closed : after.expanded ≡ true) where
  abbrev Least : Option Refusal → Type 0
  Least answer = IsNext role.task x b before × (before.cost + role.task.sum b < limit_of x.best) × (answer ≡ None)

  open_then : map.get x.known (search_key b) ≡ Some after → ⊥
  open_then at = let same = same_known x.known (search_key b) before after opens.knows at in let e : true ≡ false = sym closed ∙ sym (ap (λ (k : Known). k.expanded) same) ∙ opens.unexpanded in cc

  offered_then : (offer : Item) → Some after ≡ Some (entry offer) → ⊥
  offered_then offer at = let same : after ≡ entry offer = cc in let e : true ≡ false = sym closed ∙ ap (λ (k : Known). k.expanded) same in cc

  below_limit : (f : ℕ) → HasNothingBelow role.task x f → ¬ HasNothingBelow role.task x (limit_of x.best) → f < limit_of x.best
  below_limit f least busy = ⊎_elim (λ (lt : f < limit_of x.best). lt) (λ (le : limit_of x.best ≤ f). absurd (busy (λ c known at. let h = least c known at in omega arith))) (cases_lt f (limit_of x.best))

  picked : (c : BoardModel) (known : Known) → IsNext role.task x c known → ¬ HasNothingBelow role.task x (limit_of x.best) → search_key b ≡ search_key c → IsNext role.task x b before × (before.cost + role.task.sum b < limit_of x.best)
  picked c known next busy same =
      let board : b ≡ c = same_search_key role.task b c opens.board next.opens.board same in
      let e : known ≡ before = same_known x.known (search_key b) known before (subst (λ (p : BoardModel). map.get x.known (search_key p) ≡ Some known) (sym board) next.opens.knows) opens.knows in
      let mine : IsNext role.task x b before = subst (λ (q : BoardModel × Known). IsNext role.task x q.0 q.1) (λ t. (sym board t, e t)) next in
      (mine, below_limit (before.cost + role.task.sum b) mine.least busy)

  expanded_then : (y : WorkerState) (answer : Option Refusal) → answer ≡ None → Expands role x y → KnowsAs y b after → Least answer
  expanded_then y answer none step at =
      let offers = successor_items role.task.rule step.board step.known.cost in
      let there : map.get (expansion role x step.board step.known).known (search_key b) ≡ Some after = subst (λ (z : WorkerState). map.get z.known (search_key b) ≡ Some after) step.is at in
      ⊎_elim
      (λ same.
      ⊎_elim
      (λ same'. absurd (open_then (sym same' ∙ sym same ∙ there)))
      (λ new. let p = picked step.board step.known step.next step.busy new.0 in (p.0, p.1, none))
      (with_insert x.known (search_key step.board) (search_key b) (record step.known { expanded = true })))
      (λ new. absurd (offered_then new.0 (sym there ∙ new.4)))
      (all_known role offers (with_closure x step.board step.known) (search_key b))

pub least_expanded : LeastIsExpanded
least_expanded role it b before after step opens at closed = let h = split (expand_cases role it step) in (h.0, h.1, h.2, λ c known is. h.0.least c known is)
  where
    split : Cases it (Expands role it.before it.after) → IsNext role.task it.before b before × (before.cost + role.task.sum b < limit_of it.before.best) × (it.answer ≡ None)
    split (inl out) = absurd (open_then role it.before b before after opens closed (subst (λ (z : WorkerState). map.get z.known (search_key b) ≡ Some after) out.1.1 at))
    split (inr done) = expanded_then role it.before b before after opens closed it.after it.answer done.0 done.1 at

-- what is left of workers and floors
abbrev LeavesOthers : ℕ → WorldState → WorldState → Type 0
LeavesOthers i w w' = (j : ℕ) → j ≢ i → (slice_get w'.workers j ≡ slice_get w.workers j) × (slice_get w'.book.floors j ≡ slice_get w.book.floors j)

others_left : (w w' : WorldState) (i : ℕ) (x : WorkerState) (book : BookState) (lanes : List (List Lane)) → w' ≡ changed w i x book lanes → ((j : ℕ) → j ≢ i → slice_get book.floors j ≡ slice_get w.book.floors j) → LeavesOthers i w w'
others_left w w' i x book lanes is floors j other =
    (ap (λ (v : WorldState). slice_get v.workers j) is ∙ get_set_other w.workers i j x other, ap (λ (v : WorldState). slice_get v.book.floors j) is ∙ floors j other)

own_others : (w w' : WorldState) (i : ℕ) (Change : WorkerState → WorkerState → Type 0) → OwnChange i Change w w' → LeavesOthers i w w'
own_others w w' i Change step = others_left w w' i step.new w.book w.lanes step.is (λ j other. refl)

lane_others : (w w' : WorldState) (i : ℕ) (ends : Ends) (Change : AtLane → AtLane → Type 0) → LaneChange i ends Change w w' → LeavesOthers i w w'
lane_others w w' i ends Change step = others_left w w' i step.new.worker w.book _ step.is (λ j other. refl)

book_others : (w w' : WorldState) (i : ℕ) (Change : AtBook → AtBook → Type 0) → ((x y : AtBook) → Change x y → y.book.floors ≡ x.book.floors) → BookChange i Change w w' → LeavesOthers i w w'
book_others w w' i Change same step = others_left w w' i step.new.worker step.new.book w.lanes step.is (λ j other. ap (λ (fs : List (Option ℕ)). slice_get fs j) (same (record { worker = step.worker; book = w.book }) step.new step.change))

abbrev floors_of : AtBook → List (Option ℕ)
floors_of at = at.book.floors

accepts_others : (step : Step) (w w' : WorldState) → Accepts step w w' → LeavesOthers (worker_of_step step) w w'
accepts_others (Expand i) w w' step = own_others w w' i _ step
accepts_others (Settle i) w w' step = own_others w w' i _ step
accepts_others (Send i j) w w' step = lane_others w w' i (lane_ends i j) _ step
accepts_others (Deliver i j) w w' step = lane_others w w' i (lane_ends j i) _ step
accepts_others (Draw i) w w' step = book_others w w' i Draws (λ x y h. ap floors_of h.is) step
accepts_others (Announce i) w w' step = book_others w w' i (Announces (role_of w i)) (λ x y h. ap floors_of h.is) step
accepts_others (Grant i) w w' step = book_others w w' i (Grants (role_of w i)) (λ x y h. ap floors_of h.is) step
accepts_others (Rest i) w w' step =
    others_left w w' i step.new.worker step.new.book w.lanes step.is
    (λ j other. ap (λ (at : AtBook). slice_get at.book.floors j) step.change.is ∙ get_set_other w.book.floors i j step.change.floor other)
accepts_others (Halt i cause) w w' step = book_others w w' i (Halts cause) (λ x y h. ap floors_of h.is) step

pub others_are_left : OthersAreLeft
others_are_left step it j next other = split (next_cases step it next)
  where
    split : Cases it (Accepts step it.before it.after) → (slice_get it.after.workers j ≡ slice_get it.before.workers j) × (slice_get it.after.book.floors j ≡ slice_get it.before.book.floors j)
    split (inl out) = (ap (λ (v : WorldState). slice_get v.workers j) out.1.1, ap (λ (v : WorldState). slice_get v.book.floors j) out.1.1)
    split (inr done) = accepts_others step it.before it.after done.1 j other

-- lanes
same_lanes_at : (w w' : WorldState) → w'.lanes ≡ w.lanes → (from to : ℕ) (lane : Lane) → IsLane w from to lane ↔ IsLane w' from to lane
same_lanes_at w w' same from to lane = (
  λ at. record { from_lanes = at.from_lanes; of_sender = ap (λ (ls : List (List Lane)). slice_get ls from) same ∙ at.of_sender; of_receiver = at.of_receiver },
  λ at. record { from_lanes = at.from_lanes; of_sender = ap (λ (ls : List (List Lane)). slice_get ls from) (sym same) ∙ at.of_sender; of_receiver = at.of_receiver },
)

lane_step_at : (w w' : WorldState) (i : ℕ) (ends : Ends) (Change : AtLane → AtLane → Type 0) → LaneChange i ends Change w w' → (from to : ℕ) (lane : Lane) → ¬ ((from ≡ ends.from) × (to ≡ ends.to)) → IsLane w from to lane ↔ IsLane w' from to lane
lane_step_at w w' i ends Change step from to lane other = (forth, back)
  where
    forth : IsLane w from to lane → IsLane w' from to lane
    forth at =
        subst (λ (v : WorldState). IsLane v from to lane) (sym step.is)
        (⊎_elim (λ used. absurd (other (used.0, used.1))) (λ there. there)
        (lane_before w i step.new.worker w.book ends.from ends.to step.lane step.at_lane step.new.lane from to lane at))

    back : IsLane w' from to lane → IsLane w from to lane
    back at =
        ⊎_elim (λ used. absurd (other (used.0, used.1))) (λ (there : IsLane w from to lane). there)
        (lane_after w i step.new.worker w.book ends.from ends.to step.lane step.at_lane step.new.lane from to lane (subst (λ (v : WorldState). IsLane v from to lane) step.is at))

abbrev lanes_of : WorldState → List (List Lane)
lanes_of w = w.lanes

accepts_lanes : (step : Step) (w w' : WorldState) → Accepts step w w' → (from to : ℕ) (lane : Lane) → ¬ UsesLane step from to → IsLane w from to lane ↔ IsLane w' from to lane
accepts_lanes (Expand i) w w' step from to lane other = same_lanes_at w w' (ap lanes_of step.is) from to lane
accepts_lanes (Settle i) w w' step from to lane other = same_lanes_at w w' (ap lanes_of step.is) from to lane
accepts_lanes (Send i j) w w' step from to lane other = lane_step_at w w' i (lane_ends i j) _ step from to lane other
accepts_lanes (Deliver i j) w w' step from to lane other = lane_step_at w w' i (lane_ends j i) _ step from to lane other
accepts_lanes (Draw i) w w' step from to lane other = same_lanes_at w w' (ap lanes_of step.is) from to lane
accepts_lanes (Announce i) w w' step from to lane other = same_lanes_at w w' (ap lanes_of step.is) from to lane
accepts_lanes (Grant i) w w' step from to lane other = same_lanes_at w w' (ap lanes_of step.is) from to lane
accepts_lanes (Rest i) w w' step from to lane other = same_lanes_at w w' (ap lanes_of step.is) from to lane
accepts_lanes (Halt i cause) w w' step from to lane other = same_lanes_at w w' (ap lanes_of step.is) from to lane

pub lanes_are_left : LanesAreLeft
lanes_are_left step it from to lane next other = split (next_cases step it next)
  where
    split : Cases it (Accepts step it.before it.after) → IsLane it.before from to lane ↔ IsLane it.after from to lane
    split (inl out) = same_lanes_at it.before it.after (ap lanes_of out.1.1) from to lane
    split (inr done) = accepts_lanes step it.before it.after done.1 from to lane other

-- the book
abbrev book_of : WorldState → BookState
book_of w = w.book

accepts_book : (step : Step) (w w' : WorldState) → Accepts step w w' → ¬ UsesBook step → w'.book ≡ w.book
accepts_book (Expand i) w w' step other = ap book_of step.is
accepts_book (Settle i) w w' step other = ap book_of step.is
accepts_book (Send i j) w w' step other = ap book_of step.is
accepts_book (Deliver i j) w w' step other = ap book_of step.is
accepts_book (Draw i) w w' step other = absurd (other tt)
accepts_book (Announce i) w w' step other = absurd (other tt)
accepts_book (Grant i) w w' step other = absurd (other tt)
accepts_book (Rest i) w w' step other = absurd (other tt)
accepts_book (Halt i cause) w w' step other = absurd (other tt)

pub books_are_left : BooksAreLeft
books_are_left step it next other = split (next_cases step it next)
  where
    split : Cases it (Accepts step it.before it.after) → it.after.book ≡ it.before.book
    split (inl out) = ap book_of out.1.1
    split (inr done) = accepts_book step it.before it.after done.1 other

pub book_steps_alone : BookStepsAloneUseIt
book_steps_alone (Expand i) used = absurd used
book_steps_alone (Settle i) used = absurd used
book_steps_alone (Send i j) used = absurd used
book_steps_alone (Deliver i j) used = absurd used
book_steps_alone (Draw i) used = (i, inl refl)
book_steps_alone (Announce i) used = (i, inr (inl refl))
book_steps_alone (Grant i) used = (i, inr (inr (inl refl)))
book_steps_alone (Rest i) used = (i, inr (inr (inr (inl refl))))
book_steps_alone (Halt i cause) used = (i, inr (inr (inr (inr (cause, refl)))))

pub two_ends : LanesHaveTwoEnds
two_ends (Expand i) from to used = absurd used
two_ends (Settle i) from to used = absurd used
two_ends (Send i j) from to used = inl (ap (λ (k : ℕ). Send k j) (sym used.0) ∙ ap (λ (k : ℕ). Send from k) (sym used.1))
two_ends (Deliver i j) from to used = inr (ap (λ (k : ℕ). Deliver k j) (sym used.1) ∙ ap (λ (k : ℕ). Deliver to k) (sym used.0))
two_ends (Draw i) from to used = absurd used
two_ends (Announce i) from to used = absurd used
two_ends (Grant i) from to used = absurd used
two_ends (Rest i) from to used = absurd used
two_ends (Halt i cause) from to used = absurd used

-- floors
pub floor_kept : RestsKeepTheFloor
floor_kept i w w' old at next = split (next_cases (Rest i) (turn w None w') next)
  where
    split : Cases (turn {F = Refusal} w None w') (Accepts (Rest i) w w') → (worker : WorkerState) × (floor : Option ℕ) × IsWorker w i worker × IsFloor w.task worker floor × (slice_get w'.book.floors i ≡ Some floor)
    split (inl out) = absurd (refused_none (Some out.0) out.0 refl (sym out.1.0))
    split (inr done) =
        let step = done.1 in (
          step.worker,
          step.change.floor,
          step.at,
          step.change.is_floor,
          ap (λ (v : WorldState). slice_get v.book.floors i) step.is ∙ ap (λ (x : AtBook). slice_get x.book.floors i) step.change.is ∙ get_set_same w.book.floors i step.change.floor old at,
        )

-- a floor stays high where the best cost falls
lower_limit : (floor : Option ℕ) (n m : ℕ) → m ≤ n → IsNotBelow floor (Some n) → IsNotBelow floor (Some m)
lower_limit None n m le high = tt
lower_limit (Some f) n m le high = omega arith

floor_high : (task : Task) (x : WorkerState) (limit : ℕ) (floor : Option ℕ) → HasNothingBelow task x limit → IsFloor task x floor → IsNotBelow floor (Some limit)
floor_high task x limit None none is = tt
floor_high task x limit (Some f) none is = let h = is.0 in let le = none h.0 h.1 h.2 in omega (arith, h.3)

abbrev KeepsHigh : AtBook → AtBook → Type 0
KeepsHigh x y = HasHighFloors x.book → HasHighFloors y.book

rest_high : (role : Role) (x y : AtBook) → Rests role x y → KeepsHigh x y
rest_high role x y step high =
    subst (λ (z : AtBook). HasHighFloors z.book) (sym step.is)
    (All-set (λ floor. IsNotBelow floor (Some (limit_of x.book.best))) x.book.floors role.me step.floor
    (not_below_stable step.floor (Some (limit_of x.book.best)) (λ low. step.idle (λ idle. low (floor_high role.task x.worker (limit_of x.book.best) step.floor idle.no_board step.is_floor)))) high)

announce_high : (role : Role) (x y : AtBook) → Announces role x y → KeepsHigh x y
announce_high role x y step high =
    let fall = limit_falls x.book.best (Some step.cost) (lower_best step.cost x.book.best step.may.lower) in
    subst (λ (z : AtBook). HasHighFloors z.book) (sym step.is) (λ k d lt. lower_limit _ (limit_of x.book.best) (limit_of (Some step.cost)) fall (high k d lt))

book_high : (w w' : WorldState) (i : ℕ) (Change : AtBook → AtBook → Type 0) → ((x y : AtBook) → Change x y → KeepsHigh x y) → BookChange i Change w w' → HasHighFloors w.book → HasHighFloors w'.book
book_high w w' i Change keeps step high = subst (λ (v : WorldState). HasHighFloors v.book) (sym step.is) (keeps (record { worker = step.worker; book = w.book }) step.new step.change high)

same_high : (x y : BookState) → y ≡ x → HasHighFloors x → HasHighFloors y
same_high x y same high = subst HasHighFloors (sym same) high

accepts_high : (step : Step) (w w' : WorldState) → Accepts step w w' → HasHighFloors w.book → HasHighFloors w'.book
accepts_high (Expand i) w w' step high = same_high w.book w'.book (ap book_of step.is) high
accepts_high (Settle i) w w' step high = same_high w.book w'.book (ap book_of step.is) high
accepts_high (Send i j) w w' step high = same_high w.book w'.book (ap book_of step.is) high
accepts_high (Deliver i j) w w' step high = same_high w.book w'.book (ap book_of step.is) high
accepts_high (Draw i) w w' step high = book_high w w' i Draws (λ x y h high'. subst (λ (z : AtBook). HasHighFloors z.book) (sym h.is) high') step high
accepts_high (Announce i) w w' step high = book_high w w' i (Announces (role_of w i)) (announce_high (role_of w i)) step high
accepts_high (Grant i) w w' step high = book_high w w' i (Grants (role_of w i)) (λ x y h high'. subst (λ (z : AtBook). HasHighFloors z.book) (sym h.is) high') step high
accepts_high (Rest i) w w' step high = book_high w w' i (Rests (role_of w i)) (rest_high (role_of w i)) step high
accepts_high (Halt i cause) w w' step high = book_high w w' i (Halts cause) (λ x y h high'. subst (λ (z : AtBook). HasHighFloors z.book) (sym h.is) high') step high

abbrev no_floor : Option ℕ
no_floor = None

opening_high : (n limit : ℕ) → All (λ floor. IsNotBelow floor (Some limit)) (replicate n no_floor)
opening_high n limit = all_from_places (λ floor. IsNotBelow floor (Some limit)) (replicate n no_floor) (λ i floor at. subst (λ (o : Option ℕ). IsNotBelow o (Some limit)) (sym (at_replicate n i no_floor floor at)) tt)

steps_high : (step : Step) (it : Turn WorldState Refusal) → Next step it → HasHighFloors it.before.book → HasHighFloors it.after.book
steps_high step it next high = split (next_cases step it next)
  where
    split : Cases it (Accepts step it.before it.after) → HasHighFloors it.after.book
    split (inl out) = same_high it.before.book it.after.book (ap book_of out.1.1) high
    split (inr done) = accepts_high step it.before it.after done.1 high

pub floors_reach : HighFloorsReachTheLimit
floors_reach book i floor high at =
    let there : IsNotBelow (get_or book.floors i None) (Some (limit_of book.best)) = All-get_or (λ f. IsNotBelow f (Some (limit_of book.best))) book.floors i None (slice_get_within book.floors i (Some floor) at) high in
    subst (λ (f : Option ℕ). IsNotBelow f (Some (limit_of book.best))) (get_or_from_slice_get book.floors i (Some floor) None at) there

pub floors_high : FloorsAreHigh
floors_high = (λ job via. opening_high job.count (limit_of None), steps_high)

-- a book that has stopped is left; in any other the best cost may fall, and more may be granted
abbrev OneWay : BookState → BookState → Type 0
OneWay x y = (x.stop ≢ None → y ≡ x) × IsNotBelow x.best y.best × (x.granted ≤ y.granted)

same_way : (x y : BookState) → y ≡ x → OneWay x y
same_way x y same =
    let granted = ap (λ (z : BookState). z.granted) same in
    ((λ stopped. same), subst (λ (z : BookState). IsNotBelow x.best z.best) (sym same) (not_below_itself x.best), omega (arith, granted))

book_way : (w w' : WorldState) (i : ℕ) (Change : AtBook → AtBook → Type 0) → ((x y : AtBook) → Change x y → OneWay x.book y.book) → BookChange i Change w w' → OneWay w.book w'.book
book_way w w' i Change way step = subst (λ (v : WorldState). OneWay w.book v.book) (sym step.is) (way (record { worker = step.worker; book = w.book }) step.new step.change)

accepts_way : (step : Step) (w w' : WorldState) → Accepts step w w' → OneWay w.book w'.book
accepts_way (Expand i) w w' step = same_way w.book w'.book (ap book_of step.is)
accepts_way (Settle i) w w' step = same_way w.book w'.book (ap book_of step.is)
accepts_way (Send i j) w w' step = same_way w.book w'.book (ap book_of step.is)
accepts_way (Deliver i j) w w' step = same_way w.book w'.book (ap book_of step.is)
accepts_way (Draw i) w w' step = book_way w w' i Draws (λ x y h. subst (λ (z : AtBook). OneWay x.book z.book) (sym h.is) ((λ stopped. absurd (h.runs stopped)), not_below_itself x.book.best, omega arith)) step
accepts_way (Announce i) w w' step = book_way w w' i (Announces (role_of w i)) (λ x y h. subst (λ (z : AtBook). OneWay x.book z.book) (sym h.is) ((λ stopped. absurd (h.runs stopped)), lower_best h.cost x.book.best h.may.lower, omega arith)) step
accepts_way (Grant i) w w' step = book_way w w' i (Grants (role_of w i)) (λ x y h. subst (λ (z : AtBook). OneWay x.book z.book) (sym h.is) ((λ stopped. absurd (h.runs stopped)), not_below_itself x.book.best, omega arith)) step
accepts_way (Rest i) w w' step = book_way w w' i (Rests (role_of w i)) (λ x y h. subst (λ (z : AtBook). OneWay x.book z.book) (sym h.is) ((λ stopped. absurd (h.runs stopped)), not_below_itself x.book.best, omega arith)) step
accepts_way (Halt i cause) w w' step = book_way w w' i (Halts cause) (λ x y h. subst (λ (z : AtBook). OneWay x.book z.book) (sym h.is) ((λ stopped. absurd (h.runs stopped)), not_below_itself x.book.best, omega arith)) step

pub books_one_way : BooksGoOneWay
books_one_way step it next = split (next_cases step it next)
  where
    split : Cases it (Accepts step it.before it.after) → OneWay it.before.book it.after.book
    split (inl out) = same_way it.before.book it.after.book (ap book_of out.1.1)
    split (inr done) = accepts_way step it.before it.after done.1

pub stops_final : StopsAreFinal
stops_final w w' [] run stopped = ap book_of run
stops_final w w' (first ∷ made) run stopped =
    let here : run.0.book ≡ w.book = (books_one_way first.0 (turn w first.1 run.0) run.1).0 stopped in
    stops_final run.0 w' made run.2 (λ none. stopped (ap (λ (b : BookState). b.stop) (sym here) ∙ none)) ∙ here

-- runs
pub runs_of_steps : RunsAreOfSteps
runs_of_steps w w' step answer = (λ run. subst (λ (v : WorldState). Next step (turn w answer v)) (sym run.2) run.1, λ next. (w', next, refl))

runs_split : (w w' : WorldState) (made more : List (Step × Option Refusal)) → IsRun w (made ++ more) w' → (middle : WorldState) × IsRun w made middle × IsRun middle more w'
runs_split w w' [] more run = (w, refl, run)
runs_split w w' (first ∷ made) more run = let rest = runs_split run.0 w' made more run.2 in (rest.0, (run.0, run.1, rest.1), rest.2)

runs_join : (w w' : WorldState) (made more : List (Step × Option Refusal)) (middle : WorldState) → IsRun w made middle → IsRun middle more w' → IsRun w (made ++ more) w'
runs_join w w' [] more middle run run' = subst (λ (v : WorldState). IsRun v more w') run run'
runs_join w w' (first ∷ made) more middle run run' = (run.0, run.1, runs_join run.0 w' made more middle run.2 run')

pub runs_joined : RunsAreJoined
runs_joined w w' made more = (runs_split w w' made more, λ both. runs_join w w' made more both.0 both.1 both.2)
