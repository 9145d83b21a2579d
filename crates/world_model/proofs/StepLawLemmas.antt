-- Steps have one answer and leave one world.
use Rattle.std.proofs.Common.{◌≡◌, ◌≢◌, ◌⊎◌, ℕ, suc, ◌+◌, List, [], ◌∷◌, ◌++◌, length, refl, sym, ap, ◌∙◌, subst, inl, inr, arith, Option, Some, None}
use Rattle.std.specs.Prelude.{slice_get}
use Rattle.memory.specs.declared.OutOfMemory.{OutOfMemory}
use Rattle.world_model.specs.declared.parts.Item.{Item}
use Rattle.world_model.specs.declared.parts.Known.{Known}
use Rattle.world_model.specs.declared.steps.HaltCause.{HaltCause}
use Rattle.world_model.specs.declared.steps.Refusal.{Refusal}
use Rattle.world_model.specs.declared.steps.Refusal.TheVariants.{NoRoom, Memory}
use Rattle.world_model.specs.declared.steps.Step.{Step}
use Rattle.world_model.specs.declared.steps.Step.TheVariants.{Expand, Settle, Send, Deliver, Draw, Announce, Grant, Rest, Halt}
use Rattle.world_model.specs.BookSteps.{AnnounceStep, AtBook, DrawStep, GrantStep, HaltStep, RestStep, at_book}
use Rattle.world_model.specs.Books.{with_rest}
use Rattle.world_model.specs.Knowledge.{relaxation}
use Rattle.world_model.specs.StepLaws.{AnswersAgree, IsFirm, StepsAreDetermined}
use Rattle.world_model.specs.Steps.{ByWorker, Ends, Next, OnBook, OnLane, lane_ends, with_lane, with_worker}
use Rattle.world_model.specs.Turns.{Becomes, Turn, Unless, turn}
use Rattle.world_model.specs.WorkerSteps.{AtLane, DeliverStep, ExpandStep, SendStep, SettleStep, WithMemory}
use Rattle.world_model.specs.Workers.{Lane, Role, WorkerState}
use Rattle.world_model.specs.Worlds.{IsLane, IsWorker, WorldState, role_of}
use Rattle.world_model.proofs.ChangeLemmas.{same_known}
use Rattle.world_model.proofs.OutcomeLemmas.{least_unique}
use Rattle.world_model.proofs.RunLemmas.{refusals_change_nothing}

-- two answers to one step: one is not firm, or they are one
abbrev Alike : Option Refusal → Option Refusal → Type 0
Alike answer other = (¬ IsFirm answer) ⊎ (¬ IsFirm other) ⊎ (answer ≡ other)

-- and what is left is one too
abbrev Agree : {S : Type 0} → Option Refusal → Option Refusal → S → S → Type 0
Agree answer other after after' = (¬ IsFirm answer) ⊎ (¬ IsFirm other) ⊎ ((answer ≡ other) × (after ≡ after'))

-- any two turns of the step from here agree
abbrev IsOne : {S : Type 0} → (Turn S Refusal → Type 0) → S → Type 0
IsOne {S} StepOf before = (answer other : Option Refusal) (after after' : S) → StepOf (turn before answer after) → StepOf (turn before other after') → Agree answer other after after'

module _ {S : Type 0} (before : S) (answer other : Option Refusal) (after after' : S) (Goal : Type 0) (same : answer ≡ other → after ≡ after' → Goal) where
  -- a refusal comes first in both, or neither
  behind : (Why : Type 0) (refusal : Refusal) (P Q : Type 0) → Unless (turn before answer after) Why refusal P → Unless (turn before other after') Why refusal Q → (P → Q → Goal) → Goal
  behind Why refusal P Q (inl out) (inl out') later = same (out.1.0 ∙ sym out'.1.0) (out.1.1 ∙ sym out'.1.1)
  behind Why refusal P Q (inl out) (inr go) later = absurd (go.0 out.0)
  behind Why refusal P Q (inr go) (inl out) later = absurd (go.0 out.0)
  behind Why refusal P Q (inr go) (inr go') later = later go.1 go'.1

not_firm_memory : (answer : Option Refusal) (refused : OutOfMemory) → answer ≡ Some (Memory refused) → ¬ IsFirm answer
not_firm_memory answer refused is firm = firm.1 refused is

not_firm_room : (answer : Option Refusal) → answer ≡ Some NoRoom → ¬ IsFirm answer
not_firm_room answer is firm = firm.0 is

-- the two last steps of an expansion, of some board
abbrev Tried : Option Refusal → Type 0
Tried answer = (answer ≡ Some NoRoom) ⊎ (answer ≡ None) ⊎ ((refused : OutOfMemory) × (answer ≡ Some (Memory refused)))

tried_alike : (answer other : Option Refusal) → Tried answer → Tried other → Alike answer other
tried_alike answer other (inl room) tried = inl (not_firm_room answer room)
tried_alike answer other (inr (inr memory)) tried = inl (not_firm_memory answer memory.0 memory.1)
tried_alike answer other (inr (inl done)) (inl room) = inr (inl (not_firm_room other room))
tried_alike answer other (inr (inl done)) (inr (inr memory)) = inr (inl (not_firm_memory other memory.0 memory.1))
tried_alike answer other (inr (inl done)) (inr (inl done')) = inr (inr (done ∙ sym done'))

expand_tried : (it : Turn WorkerState Refusal) (Full : Type 0) (new : WorkerState) → Unless it Full NoRoom (WithMemory it (Becomes it new)) → Tried it.answer
expand_tried it Full new (inl out) = inl out.1.0
expand_tried it Full new (inr (room, inl done)) = inr (inl done.0)
expand_tried it Full new (inr (room, inr out)) = inr (inr (out.0, out.1.0))

expand_alike : (role : Role) (x : WorkerState) (answer other : Option Refusal) (after after' : WorkerState) → ExpandStep role (turn x answer after) → ExpandStep role (turn x other after') → Alike answer other
expand_alike role x answer other after after' step step' =
    behind x answer other after after' (Alike answer other) (λ a e. inr (inr a)) _ _ _ _ step step'
    (λ p q. behind x answer other after after' (Alike answer other) (λ a e. inr (inr a)) _ _ _ _ p q
    (λ p q. tried_alike answer other (expand_tried (turn x answer after) _ _ p.3) (expand_tried (turn x other after') _ _ q.3)))

done_alike : {S : Type 0} (answer other : Option Refusal) (after after' new new' : S) → (answer ≡ None) × (after ≡ new) → (other ≡ None) × (after' ≡ new') → new ≡ new' → Agree answer other after after'
done_alike answer other after after' new new' p q e = inr (inr (p.0 ∙ sym q.0, p.1 ∙ e ∙ sym q.1))

alone : {S : Type 0} (answer other : Option Refusal) (after after' : S) → answer ≡ other → after ≡ after' → Agree answer other after after'
alone answer other after after' a e = inr (inr (a, e))

no_pushed : (ys : List Item) (x : Item) → length (ys ++ x ∷ []) ≡ 0 → ⊥
no_pushed [] x n = omega arith
no_pushed (z ∷ zs) x n = omega arith

same_last : (front front' : List Item) (last last' : Item) → front ++ last ∷ [] ≡ front' ++ last' ∷ [] → (front ≡ front') × (last ≡ last')
same_last [] [] last last' e = (refl, cc)
same_last [] (y ∷ ys) last last' e = let n : 1 ≡ suc (length (ys ++ last' ∷ [])) = ap length e in absurd (no_pushed ys last' (omega arith))
same_last (x ∷ xs) [] last last' e = let n : suc (length (xs ++ last ∷ [])) ≡ 1 = ap length e in absurd (no_pushed xs last (omega arith))
same_last (x ∷ xs) (y ∷ ys) last last' e =
    let head : x ≡ y = cc in
    let tail : xs ++ last ∷ [] ≡ ys ++ last' ∷ [] = cc in
    let rest = same_last xs ys last last' tail in
    (λ t. head t ∷ rest.0 t, rest.1)

-- an item that is taken out, or memory that is refused
settled_one : (x : WorkerState) (answer other : Option Refusal) (after after' new new' : WorkerState) → new ≡ new' → WithMemory (turn x answer after) (Becomes (turn x answer after) new) → WithMemory (turn x other after') (Becomes (turn x other after') new') → Agree answer other after after'
settled_one x answer other after after' new new' e (inr out) q = inl (not_firm_memory answer out.0 out.1.0)
settled_one x answer other after after' new new' e (inl p) (inr out) = inr (inl (not_firm_memory other out.0 out.1.0))
settled_one x answer other after after' new new' e (inl p) (inl q) = done_alike answer other after after' new new' p q e

settle_one : (x : WorkerState) → IsOne SettleStep x
settle_one x answer other after after' step step' =
    behind x answer other after after' _ (alone answer other after after') _ _ _ _ step step'
    (λ p q.
    let e = same_last p.0 q.0 p.1 q.1 (sym p.2 ∙ q.2) in
    settled_one x answer other after after' (record x { held = p.0; known = relaxation x.known p.1 }) (record x { held = q.0; known = relaxation x.known q.1 }) (λ t. record x { held = e.0 t; known = relaxation x.known (e.1 t) }) p.3 q.3)

send_one : (to : ℕ) (x : AtLane) → IsOne (SendStep to) x
send_one to x answer other after after' step step' =
    behind x answer other after after' _ (alone answer other after after') _ _ _ _ step step'
    (λ p q. behind x answer other after after' _ (alone answer other after after') _ _ _ _ p q
    (λ p q. behind x answer other after after' _ (alone answer other after after') _ _ _ _ p q (λ p q. done_alike answer other after after' _ _ p q refl)))

deliver_one : (x : AtLane) → IsOne DeliverStep x
deliver_one x answer other after after' step step' =
    behind x answer other after after' _ (alone answer other after after') _ _ _ _ step step'
    (λ p q. behind x answer other after after' _ (alone answer other after after') _ _ _ _ p q
    (λ p q. behind x answer other after after' _ (alone answer other after after') _ _ _ _ p q
    (λ p q.
    let e : p.0 ∷ p.1 ≡ q.0 ∷ q.1 = sym p.2 ∙ q.2 in
    let packet : p.0 ≡ q.0 = cc in
    let rest : p.1 ≡ q.1 = cc in
    done_alike answer other after after' _ _ p.3 q.3 (λ t. record { worker = record x.worker { held = packet t; purse = x.worker.purse + 1 }; lane = rest t }))))

draw_one : (x : AtBook) → IsOne DrawStep x
draw_one x answer other after after' step step' =
    behind x answer other after after' _ (alone answer other after after') _ _ _ _ step step'
    (λ p q. behind x answer other after after' _ (alone answer other after after') _ _ _ _ p q
    (λ p q. behind x answer other after after' _ (alone answer other after after') _ _ _ _ p q (λ p q. done_alike answer other after after' _ _ p q refl)))

announce_one : (role : Role) (x : AtBook) → IsOne (AnnounceStep role) x
announce_one role x answer other after after' step step' =
    behind x answer other after after' _ (alone answer other after after') _ _ _ _ step step'
    (λ p q. behind x answer other after after' _ (alone answer other after after') _ _ _ _ p q
    (λ p q.
    let known = p.1.knows in
    let known' = q.1.knows in
    let same = same_known _ _ _ _ known.1 known'.1 in
    let cost : p.0 ≡ q.0 = sym known.2 ∙ ap (λ (k : Known). k.cost) same ∙ known'.2 in
    done_alike answer other after after' _ _ p.2 q.2 (λ t. at_book x.worker (record x.book { best = Some (cost t) }))))

grant_one : (role : Role) (x : AtBook) → IsOne (GrantStep role) x
grant_one role x answer other after after' step step' =
    behind x answer other after after' _ (alone answer other after after') _ _ _ _ step step'
    (λ p q. behind x answer other after after' _ (alone answer other after after') _ _ _ _ p q
    (λ p q. behind x answer other after after' _ (alone answer other after after') _ _ _ _ p q
    (λ p q. behind x answer other after after' _ (alone answer other after after') _ _ _ _ p q (λ p q. done_alike answer other after after' _ _ p q refl))))

rest_one : (role : Role) (x : AtBook) → IsOne (RestStep role) x
rest_one role x answer other after after' step step' =
    behind x answer other after after' _ (alone answer other after after') _ _ _ _ step step'
    (λ p q. behind x answer other after after' _ (alone answer other after after') _ _ _ _ p q
    (λ p q. behind x answer other after after' _ (alone answer other after after') _ _ _ _ p q
    (λ p q.
    let floor : p.0 ≡ q.0 = least_unique _ p.0 q.0 p.1 q.1 in
    done_alike answer other after after' _ _ p.2 q.2 (λ t. at_book (record x.worker { purse = 0 }) (with_rest x.book role.me x.worker.purse (floor t))))))

halt_one : (cause : HaltCause) (x : AtBook) → IsOne (HaltStep cause) x
halt_one cause x answer other after after' step step' =
    behind x answer other after after' _ (alone answer other after after') _ _ _ _ step step'
    (λ p q. behind x answer other after after' _ (alone answer other after after') _ _ _ _ p q (λ p q. done_alike answer other after after' _ _ p q refl))

-- as steps of a world
lifted : {S T : Type 0} (answer other : Option Refusal) (after after' : S) (f : S → T) (w w' : T) → w ≡ f after → w' ≡ f after' → Agree answer other after after' → Agree answer other w w'
lifted answer other after after' f w w' is is' (inl weak) = inl weak
lifted answer other after after' f w w' is is' (inr (inl weak)) = inr (inl weak)
lifted answer other after after' f w w' is is' (inr (inr one)) = inr (inr (one.0, is ∙ ap f one.1 ∙ sym is'))

same_worker : (w : WorldState) (i : ℕ) (x y : WorkerState) → IsWorker w i x → IsWorker w i y → x ≡ y
same_worker w i x y at at' = let e : Some x ≡ Some y = sym at ∙ at' in cc

same_lane : (w : WorldState) (from to : ℕ) (l m : Lane) → IsLane w from to l → IsLane w from to m → l ≡ m
same_lane w from to l m at at' =
    let row : Some at.from_lanes ≡ Some at'.from_lanes = sym at.of_sender ∙ at'.of_sender in
    let row' : at.from_lanes ≡ at'.from_lanes = cc in
    let e : Some l ≡ Some m = sym at.of_receiver ∙ ap (λ (r : List Lane). slice_get r to) row' ∙ at'.of_receiver in
    cc

own_one : (w : WorldState) (i : ℕ) (OwnStep : Turn WorkerState Refusal → Type 0) → ((x : WorkerState) → IsOne OwnStep x) → IsOne (ByWorker i OwnStep) w
own_one w i OwnStep one answer other after after' step step' =
    behind w answer other after after' _ (alone answer other after after') _ _ _ _ step step'
    (λ p q.
    let e : q.0 ≡ p.0 = same_worker w i q.0 p.0 q.2 p.2 in
    lifted answer other p.1 q.1 (with_worker w i) after after' p.4 q.4 (one p.0 answer other p.1 q.1 p.3 (subst (λ (x : WorkerState). OwnStep (turn x other q.1)) e q.3)))

book_one : (w : WorldState) (i : ℕ) (BookStep : Turn AtBook Refusal → Type 0) → ((x : AtBook) → IsOne BookStep x) → IsOne (OnBook i BookStep) w
book_one w i BookStep one answer other after after' step step' =
    behind w answer other after after' _ (alone answer other after after') _ _ _ _ step step'
    (λ p q.
    let e : q.0 ≡ p.0 = same_worker w i q.0 p.0 q.2 p.2 in
    lifted answer other p.1 q.1 (λ (at : AtBook). record (with_worker w i at.worker) { book = at.book }) after after' p.4 q.4
    (one (record { worker = p.0; book = w.book }) answer other p.1 q.1 p.3 (subst (λ (x : WorkerState). BookStep (turn (record { worker = x; book = w.book }) other q.1)) e q.3)))

lane_one : (w : WorldState) (i : ℕ) (ends : Ends) (LaneStep : Turn AtLane Refusal → Type 0) → ((x : AtLane) → IsOne LaneStep x) → IsOne (OnLane i ends LaneStep) w
lane_one w i ends LaneStep one answer other after after' step step' =
    behind w answer other after after' _ (alone answer other after after') _ _ _ _ step step'
    (λ p q.
    let e : q.0 ≡ p.0 = same_worker w i q.0 p.0 q.3 p.3 in
    let l : q.1 ≡ p.1 = same_lane w ends.from ends.to q.1 p.1 q.4 p.4 in
    let here : AtLane = record { worker = p.0; lane = p.1 } in
    let there : LaneStep (turn here other q.2) = subst (λ (x : AtLane). LaneStep (turn x other q.2)) (λ t. record { worker = e t; lane = l t }) q.5 in
    lifted answer other p.2 q.2 (λ (at : AtLane). record (with_worker w i at.worker) { lanes = with_lane w.lanes ends.from ends.to at.lane }) after after' p.6 q.6 (one here answer other p.2 q.2 p.5 there))

next_one : (step : Step) (w : WorldState) → ((i : ℕ) → step ≢ Expand i) → IsOne (Next step) w
next_one (Expand i) w other = absurd (other i refl)
next_one (Settle i) w other = own_one w i SettleStep settle_one
next_one (Send i j) w other = lane_one w i (lane_ends i j) (SendStep j) (send_one j)
next_one (Deliver i j) w other = lane_one w i (lane_ends j i) DeliverStep deliver_one
next_one (Draw i) w other = book_one w i DrawStep draw_one
next_one (Announce i) w other = book_one w i (AnnounceStep (role_of w i)) (announce_one (role_of w i))
next_one (Grant i) w other = book_one w i (GrantStep (role_of w i)) (grant_one (role_of w i))
next_one (Rest i) w other = book_one w i (RestStep (role_of w i)) (rest_one (role_of w i))
next_one (Halt i cause) w other = book_one w i (HaltStep cause) (halt_one cause)

firm_agree : (answer other : Option Refusal) → IsFirm answer → IsFirm other → Alike answer other → answer ≡ other
firm_agree answer other firm firm' (inl weak) = absurd (weak firm)
firm_agree answer other firm firm' (inr (inl weak)) = absurd (weak firm')
firm_agree answer other firm firm' (inr (inr e)) = e

only_alike : {S : Type 0} (answer other : Option Refusal) (after after' : S) → Agree answer other after after' → Alike answer other
only_alike answer other after after' (inl weak) = inl weak
only_alike answer other after after' (inr (inl weak)) = inr (inl weak)
only_alike answer other after after' (inr (inr one)) = inr (inr one.0)

expand_next : (i : ℕ) (w : WorldState) (answer other : Option Refusal) (w' w'' : WorldState) → Next (Expand i) (turn w answer w') → Next (Expand i) (turn w other w'') → Alike answer other
expand_next i w answer other w' w'' step step' =
    behind w answer other w' w'' (Alike answer other) (λ a e. inr (inr a)) _ _ _ _ step step'
    (λ p q.
    let e : q.0 ≡ p.0 = same_worker w i q.0 p.0 q.2 p.2 in
    expand_alike (role_of w i) p.0 answer other p.1 q.1 p.3 (subst (λ (x : WorkerState). ExpandStep (role_of w i) (turn x other q.1)) e q.3))

-- the answers of any step agree
next_alike : (step : Step) (w : WorldState) (answer other : Option Refusal) (w' w'' : WorldState) → Next step (turn w answer w') → Next step (turn w other w'') → Alike answer other
next_alike (Expand i) w answer other w' w'' p q = expand_next i w answer other w' w'' p q
next_alike (Settle i) w answer other w' w'' p q = only_alike answer other w' w'' (next_one (Settle i) w (λ k e. cc) answer other w' w'' p q)
next_alike (Send i j) w answer other w' w'' p q = only_alike answer other w' w'' (next_one (Send i j) w (λ k e. cc) answer other w' w'' p q)
next_alike (Deliver i j) w answer other w' w'' p q = only_alike answer other w' w'' (next_one (Deliver i j) w (λ k e. cc) answer other w' w'' p q)
next_alike (Draw i) w answer other w' w'' p q = only_alike answer other w' w'' (next_one (Draw i) w (λ k e. cc) answer other w' w'' p q)
next_alike (Announce i) w answer other w' w'' p q = only_alike answer other w' w'' (next_one (Announce i) w (λ k e. cc) answer other w' w'' p q)
next_alike (Grant i) w answer other w' w'' p q = only_alike answer other w' w'' (next_one (Grant i) w (λ k e. cc) answer other w' w'' p q)
next_alike (Rest i) w answer other w' w'' p q = only_alike answer other w' w'' (next_one (Rest i) w (λ k e. cc) answer other w' w'' p q)
next_alike (Halt i cause) w answer other w' w'' p q = only_alike answer other w' w'' (next_one (Halt i cause) w (λ k e. cc) answer other w' w'' p q)

pub answers_agree : AnswersAgree
answers_agree step w answer other w' w'' p q firm firm' = firm_agree answer other firm firm' (next_alike step w answer other w' w'' p q)

none_firm : IsFirm None
none_firm = (λ e. cc, λ refused e. cc)

same_left : (w' w'' : WorldState) → Agree None None w' w'' → w' ≡ w''
same_left w' w'' (inl weak) = absurd (weak none_firm)
same_left w' w'' (inr (inl weak)) = absurd (weak none_firm)
same_left w' w'' (inr (inr one)) = one.1

pub steps_determined : StepsAreDetermined
steps_determined step w None w' w'' other p q = same_left w' w'' (next_one step w other None None w' w'' p q)
steps_determined step w (Some refusal) w' w'' other p q = refusals_change_nothing step w refusal w' p ∙ sym (refusals_change_nothing step w refusal w'' q)
