-- Each step keeps a world credited, and a worker's step on the book is the book's own call.
use Rattle.std.proofs.Common.{◌≡◌, ◌≢◌, ◌⊎◌, ℕ, ◌+◌, ◌-◌, ◌<◌, ◌≤◌, true, false, eqb, List, [], ◌∷◌, ◌++◌, length, get_or, refl, sym, ap, ◌∙◌, subst, inl, inr, ⊎_elim, arith, Option, Some, None, ◌^◌}
use Rattle.std.specs.Prelude.{All, slice_set, option_map}
use Rattle.std.specs.FinMap as map
use Rattle.std.proofs.lemmas.Bool.{cases_eq, cases_lt, cases_Bool, cond-true, cond-false, eqb-true}
use Rattle.std.proofs.lemmas.List.{length-append}
use Rattle.board.specs.Boards.{BoardModel}
use Rattle.search_keys.specs.SearchKeys.{search_key}
use Rattle.outcomes.specs.Outcomes.{Task}
use Rattle.world_model.specs.BookSteps.{AtBook, MayGoOn, AnnounceStep, DrawStep, GrantStep, HaltStep, MayAnnounce, RestStep, after_call, at_book, refusal_of}
use Rattle.world_model.specs.Books.{BookState, grant_of, stop_of, with_rest, HasMoreToGrant}
use Rattle.world_model.specs.Costs.{IsNotBelow, limit_of}
use Rattle.world_model.specs.Credit.{IsCreditedWorker, HasSpentWorker, IsCredited, packet_count}
use Rattle.world_model.specs.Expansions.{expansion, successor_items, with_closure}
use Rattle.world_model.specs.Knowledge.{relaxation}
use Rattle.world_model.specs.WorkerSteps.{AtLane}
use Rattle.world_model.specs.Workers.{IsIdle, IsOpen, KnowsAs, Lane, Packet, Role, WorkerState, packet_for, HasNothingBelow, IsFloor, KnowsGoalAt}
use Rattle.world_model.specs.declared.limits.TheConstants.{CREDIT_DRAWN, GREATEST_GRANT}
use Rattle.world_model.specs.declared.steps.Stop.{Stop}
use Rattle.world_model.specs.declared.steps.Stop.TheVariants.{Quiet, Limit}
use Rattle.world_model.specs.declared.steps.HaltCause.{HaltCause}
use Rattle.world_model.specs.declared.steps.HaltCause as causes
use Rattle.world_model.specs.declared.parts.Known.{Known}
use Rattle.world_model.specs.declared.steps.Refusal.{Refusal}
use Rattle.world_model.specs.declared.steps.Step.{Step}
use Rattle.world_model.specs.declared.steps.Step.TheVariants.{Expand, Settle, Send, Deliver, Draw, Announce, Grant, Rest, Halt}
use Rattle.world_model.specs.Steps.{Next, with_lane}
use Rattle.world_model.specs.Turns.{Turn, turn}
use Rattle.world_model.specs.Worlds.{IsWorker, WorldState, role_of}
use Rattle.world_model.specs.declared.steps.BookFault.{BookFault}
use Rattle.world_model.specs.declared.steps.BookFault.TheVariants.{RunStopped, NoPurse, CreditFull, NotLower, NothingLeft, FloorBelowLimit, AllowanceRemains}
use Rattle.world_model.specs.BookCalls.{Account, BookAnnounce, BookDraw, BookGrant, BookHalt, BookRest}
use Rattle.world_model.specs.BookLaws.{CallsHaveAnswers, account_of}
use Rattle.world_model.specs.Outcomes.{floor}
use Rattle.world_model.proofs.StepCases.{IsRunning, Expands, Settles, SendsOnLane, Delivers, Draws, Announces, Grants, Rests, Halts, Cases, OwnChange, BookChange, Accepts, next_cases}
use Rattle.world_model.proofs.ChangeLemmas.{is_empty, sum_set, part_le, entry, with_insert, lowered_by, same_known, changed, worker_there, worker_after, worker_before, packets_after}
use Rattle.world_model.proofs.ExpandLemmas.{all_lower, all_rest}

-- ---- each step keeps its worker and the book in credit

pub not_below_trans : (x y z : Option ℕ) → IsNotBelow x y → IsNotBelow y z → IsNotBelow x z
not_below_trans None y z a b = tt
not_below_trans (Some x) None z a b = absurd a
not_below_trans (Some x) (Some y) None a b = absurd b
not_below_trans (Some x) (Some y) (Some z) a b = omega arith

pub not_below_itself : (x : Option ℕ) → IsNotBelow x x
not_below_itself None = tt
not_below_itself (Some x) = omega arith

-- a lower best cost gives no higher limit
pub limit_falls : (x y : Option ℕ) → IsNotBelow x y → limit_of y ≤ limit_of x
limit_falls None None a = omega arith
limit_falls None (Some y) a = omega arith
limit_falls (Some x) None a = absurd a
limit_falls (Some x) (Some y) a = omega arith

-- a cost that is not above another is below it or the same
pub lower_best : (cost : ℕ) (best : Option ℕ) → ¬ IsNotBelow (Some cost) best → IsNotBelow best (Some cost)
lower_best cost None lower = tt
lower_best cost (Some best) lower = ⊎_elim (λ (lt : cost < best). omega arith) (λ (le : best ≤ cost). absurd (lower le)) (cases_lt cost best)

pub not_below_stable : (x y : Option ℕ) → ¬ (¬ IsNotBelow x y) → IsNotBelow x y
not_below_stable None y not = tt
not_below_stable (Some x) None not = absurd (not (λ h. h))
not_below_stable (Some x) (Some y) not = ⊎_elim (λ (lt : x < y). absurd (not (λ le. omega arith))) (λ (le : y ≤ x). le) (cases_lt x y)

-- one step keeps a worker and the book in credit; `before` and `after` are the packets in its lane
pub record KeepsCredit (role : Role) (worker : WorkerState) (book : BookState) (before : ℕ) (worker' : WorkerState) (book' : BookState) (after : ℕ) : Type 0 where
  pub mine : IsCreditedWorker role book'.best worker'
  pub best : IsNotBelow book.best book'.best
  pub by_owner : role.owner role.task.goal ≢ role.me → book'.best ≡ book.best
  pub credit : book'.credit + (worker.purse + before) ≡ book.credit + (worker'.purse + after)
  pub granted : book'.granted + (worker.allowance + worker.expansions) ≡ book.granted + (worker'.allowance + worker'.expansions)
  pub limit : book'.limit ≡ book.limit
  pub within_limit : book'.granted ≤ book.limit
  pub at_limit : book'.stop ≡ Some Limit → (book'.granted ≡ book.limit) × ((worker'.allowance ≡ 0) ⊎ ((book.stop ≡ Some Limit) × (worker.allowance ≢ 0)))
  pub at_quiet : book'.stop ≡ Some Quiet → book'.credit ≡ 0

-- the goal is known as cheaply
abbrev KeepsGoal : Task → WorkerState → WorkerState → Type 0
KeepsGoal task worker worker' = (known : Known) → KnowsAs worker task.goal known → (known' : Known) × KnowsAs worker' task.goal known' × (known'.cost ≤ known.cost)

-- packets that aren't known to hold an item hold none
unsent_stable : (xs : List Packet) → ¬ (¬ All (λ packet. packet ≡ []) xs) → All (λ packet. packet ≡ []) xs
unsent_stable xs not k d lt = is_empty (get_or xs k d) (λ some. not (λ all. some (all k d lt)))

-- a worker that isn't known to have something to do has nothing to do
pub idle_stable : (task : Task) (worker : WorkerState) (limit : ℕ) (best : Option ℕ) → ¬ (¬ IsIdle task worker limit best) → IsIdle task worker limit best
idle_stable task worker limit best not = record {
  holds_nothing = is_empty worker.held (λ some. not (λ idle. some idle.holds_nothing));
  sends_nothing = unsent_stable worker.unsent (λ some. not (λ idle. some idle.sends_nothing));
  no_board = λ b known at. ⊎_elim (λ (lt : known.cost + task.sum b < limit). absurd (not (λ idle. let le = idle.no_board b known at in omega arith))) (λ (le : limit ≤ known.cost + task.sum b). le) (cases_lt (known.cost + task.sum b) limit);
  no_better_goal = λ cost at. not_below_stable (Some cost) best (λ lower. not (λ idle. lower (idle.no_better_goal cost at)));
}

-- what may be expanded, of a worker that knows the same
open_same : (task : Task) (worker worker' : WorkerState) → worker'.known ≡ worker.known → (b : BoardModel) (known : Known) → IsOpen task worker' b known → IsOpen task worker b known
open_same task worker worker' same b known at = record { board = at.board; knows = ap (λ m. map.get m (search_key b)) (sym same) ∙ at.knows; unexpanded = at.unexpanded; no_goal = at.no_goal }

not_running : (book : BookState) (stop : Stop) → IsRunning book → book.stop ≡ Some stop → ⊥
not_running book stop runs e = runs (λ none. cc)

-- a worker beside its book, in a credited world
pub record IsFunded (role : Role) (worker : WorkerState) (book : BookState) : Type 0 where
  pub mine : IsCreditedWorker role book.best worker
  pub funds : worker.purse ≤ book.credit
  pub within : book.granted ≤ book.limit
  pub spent : book.stop ≡ Some Limit → book.granted ≡ book.limit
  pub quiet : book.stop ≡ Some Quiet → book.credit ≡ 0

module _ (role : Role) (worker : WorkerState) (book : BookState) (funded : IsFunded role worker book) where
  keeps_same : (n : ℕ) → KeepsCredit role worker book n worker book n
  keeps_same n = record {
    mine = funded.mine;
    best = not_below_itself book.best;
    by_owner = λ other. refl;
    credit = refl;
    granted = refl;
    limit = refl;
    within_limit = funded.within;
    at_limit = λ e. (funded.spent e, ⊎_elim (λ (z : worker.allowance ≡ 0). inl z) (λ (some : worker.allowance ≢ 0). inr (e, some)) (cases_eq worker.allowance 0));
    at_quiet = funded.quiet;
  }

  -- a step of the worker's own, or on its lane
  keeps_own : (worker' : WorkerState) (before after : ℕ) → worker'.best ≡ worker.best → KeepsGoal role.task worker worker' → (worker'.purse ≡ 0 → ⊥) → worker'.allowance ≤ worker.allowance → worker.allowance + worker.expansions ≡ worker'.allowance + worker'.expansions → worker.purse + before ≡ worker'.purse + after → KeepsCredit role worker book before worker' book after
  keeps_own worker' before after copy goal rich low spends pays = record {
    mine = record {
      allowance = let le = funded.mine.allowance in omega arith;
      copy = subst (λ o. IsNotBelow o book.best) (sym copy) funded.mine.copy;
      goal_owner = λ own.
          let old = funded.mine.goal_owner own in
          record {
            copy = copy ∙ old.copy;
            knows = λ cost e. let k = old.knows cost e in let k' = goal k.0 k.1 in (k'.0, k'.1, omega (arith, k.2, k'.2));
          };
      idle = λ z. absurd (rich z);
    };
    best = not_below_itself book.best;
    by_owner = λ other. refl;
    credit = omega arith;
    granted = omega arith;
    limit = refl;
    within_limit = funded.within;
    at_limit = λ e. (funded.spent e, ⊎_elim (λ (z : worker.allowance ≡ 0). inl (omega arith)) (λ (some : worker.allowance ≢ 0). inr (e, some)) (cases_eq worker.allowance 0));
    at_quiet = funded.quiet;
  }

  pub expand_credit : (worker' : WorkerState) → Expands role worker worker' → KeepsCredit role worker book 0 worker' book 0
  expand_credit worker' step =
      let items = successor_items role.task.rule step.board step.known.cost in
      let marked = with_closure worker step.board step.known in
      let rest = all_rest role items marked in
      let some : worker.allowance ≢ 0 = step.left in
      subst (λ x. KeepsCredit role worker book 0 x book 0) (sym step.is)
      (keeps_own (expansion role worker step.board step.known) 0 0 rest.3
      (λ old knows. let mid = marked_lower old knows in let end = all_lower role items marked (search_key role.task.goal) mid.0 mid.1 in (end.0, end.1, omega (arith, mid.2, end.2)))
      (λ z. step.busy ((funded.mine.idle (sym rest.0 ∙ z)).no_board))
      (omega (arith, rest.1))
      (omega (arith, rest.1, rest.2))
      (omega (arith, rest.0)))
    where
      marked_lower : (old : Known) → map.get worker.known (search_key role.task.goal) ≡ Some old → (now : Known) × (map.get (with_closure worker step.board step.known).known (search_key role.task.goal) ≡ Some now) × (now.cost ≤ old.cost)
      marked_lower old knows =
          ⊎_elim (λ same. (old, same ∙ knows, omega arith))
          (λ new.
          let e : Some old ≡ Some step.known = sym knows ∙ ap (map.get worker.known) new.0 ∙ step.next.opens.knows in
          let e' : old ≡ step.known = cc in
          (record step.known { expanded = true }, new.1, omega (arith, ap (λ (k : Known). k.cost) e')))
          (with_insert worker.known (search_key step.board) (search_key role.task.goal) (record step.known { expanded = true }))

  pub settle_credit : (worker' : WorkerState) → Settles worker worker' → KeepsCredit role worker book 0 worker' book 0
  settle_credit worker' step =
      subst (λ x. KeepsCredit role worker book 0 x book 0) (sym step.is)
      (keeps_own (record worker { held = step.front; known = relaxation worker.known step.last }) 0 0 refl
      (λ old knows. ⊎_elim (λ same. (old, same ∙ knows, omega arith)) (λ n. (entry step.last, n.1, n.2 old knows)) (lowered_by (map.get worker.known (search_key step.last.board)) worker.known step.last refl (search_key role.task.goal)))
      (λ z. not_held ((funded.mine.idle z).holds_nothing)) (omega arith) refl refl)
    where
      not_held : worker.held ≡ [] → ⊥
      not_held none = let n = ap length (sym none ∙ step.held) in let m = length-append step.front (step.last ∷ []) in omega arith

  pub send_credit : (to : ℕ) (lane : Lane) (new : AtLane) → SendsOnLane to (record { worker = worker; lane = lane }) new → KeepsCredit role worker book (length lane) new.worker book (length new.lane)
  send_credit to lane new step =
      let two : 2 ≤ worker.purse = ⊎_elim (λ (lt : worker.purse < 2). absurd (step.rich lt)) (λ (le : 2 ≤ worker.purse). le) (cases_lt worker.purse 2) in
      subst (λ (x : AtLane). KeepsCredit role worker book (length lane) x.worker book (length x.lane)) (sym step.is)
      (keeps_own (record worker { unsent = slice_set worker.unsent to []; purse = worker.purse - 1 }) (length lane) (length (lane ++ packet_for worker to ∷ [])) refl (λ old knows. (old, knows, omega arith)) (λ z. omega arith) (omega arith) refl (omega (arith, length-append lane (packet_for worker to ∷ []))))

  pub deliver_credit : (lane : Lane) (new : AtLane) → Delivers (record { worker = worker; lane = lane }) new → KeepsCredit role worker book (length lane) new.worker book (length new.lane)
  deliver_credit lane new step =
      subst (λ (x : AtLane). KeepsCredit role worker book (length lane) x.worker book (length x.lane)) (sym step.is)
      (keeps_own (record worker { held = step.packet; purse = worker.purse + 1 }) (length lane) (length step.rest) refl (λ old knows. (old, knows, omega arith)) (λ z. omega arith) (omega arith) refl (omega (arith, ap length step.first)))

  -- the worker after a step on the book that leaves the best cost
  mine_after : (purse allowance : ℕ) → allowance ≤ GREATEST_GRANT → (purse ≡ 0 → IsIdle role.task (record worker { purse = purse; allowance = allowance; best = book.best }) (limit_of book.best) book.best) → IsCreditedWorker role book.best (record worker { purse = purse; allowance = allowance; best = book.best })
  mine_after purse allowance low idle = record {
    allowance = low;
    copy = not_below_itself book.best;
    goal_owner = λ own. record { copy = refl; knows = (funded.mine.goal_owner own).knows };
    idle = idle;
  }

  -- a worker that does not rest may rest no more for another copy
  idle_after : (allowance : ℕ) → worker.purse ≡ 0 → IsIdle role.task (record worker { allowance = allowance; best = book.best }) (limit_of book.best) book.best
  idle_after allowance z =
      let idle = funded.mine.idle z in
      record {
        holds_nothing = idle.holds_nothing;
        sends_nothing = idle.sends_nothing;
        no_board = λ b known at. let le = idle.no_board b known (open_same role.task worker (record worker { allowance = allowance; best = book.best }) refl b known at) in let le' = limit_falls worker.best book.best funded.mine.copy in omega arith;
        no_better_goal = idle.no_better_goal;
      }

  abbrev here : AtBook
  here = record { worker = worker; book = book }

  abbrev KeepsCreditAtBook : AtBook → Type 0
  KeepsCreditAtBook new = KeepsCredit role worker book 0 new.worker new.book 0

  pub draw_credit : (new : AtBook) → Draws here new → KeepsCreditAtBook new
  draw_credit new step = subst KeepsCreditAtBook (sym step.is) (record {
    mine = mine_after (worker.purse + CREDIT_DRAWN) worker.allowance funded.mine.allowance (λ z. absurd (omega arith));
    best = not_below_itself book.best;
    by_owner = λ other. refl;
    credit = omega arith;
    granted = refl;
    limit = refl;
    within_limit = funded.within;
    at_limit = λ s. absurd (not_running book Limit step.runs s);
    at_quiet = λ s. absurd (not_running book Quiet step.runs s);
  })

  pub grant_credit : (new : AtBook) → Grants role here new → KeepsCreditAtBook new
  grant_credit new step = subst KeepsCreditAtBook (sym step.is) (record {
    mine = mine_after worker.purse (worker.allowance + grant_of book) (omega (arith, zero_allowance)) (λ z. absurd (busy_purse z));
    best = not_below_itself book.best;
    by_owner = λ other. refl;
    credit = refl;
    granted = omega arith;
    limit = refl;
    within_limit = let le = funded.within in omega arith;
    at_limit = λ s. absurd (not_running book Limit step.runs s);
    at_quiet = λ s. absurd (not_running book Quiet step.runs s);
  })
    where
      zero_allowance : worker.allowance ≡ 0
      zero_allowance = ⊎_elim (λ (z : worker.allowance ≡ 0). z) (λ (some : worker.allowance ≢ 0). absurd (step.spent some)) (cases_eq worker.allowance 0)

      busy_purse : worker.purse ≡ 0 → ⊥
      busy_purse z = step.busy (λ b known at. let le = (funded.mine.idle z).no_board b known at in let le' = limit_falls worker.best book.best funded.mine.copy in omega arith)

  pub announce_credit : (new : AtBook) → Announces role here new → KeepsCreditAtBook new
  announce_credit new step = subst KeepsCreditAtBook (sym step.is) (record {
    mine = record {
      allowance = funded.mine.allowance;
      copy = omega arith;
      goal_owner = λ own. record { copy = refl; knows = λ cost is. (step.may.knows.0, step.may.knows.1, let e : step.cost ≡ cost = cc in omega (arith, step.may.knows.2)) };
      idle = λ z. absurd (step.may.lower ((funded.mine.idle z).no_better_goal step.cost step.may.knows));
    };
    best = lower_best step.cost book.best step.may.lower;
    by_owner = λ other. absurd (other step.may.own);
    credit = refl;
    granted = refl;
    limit = refl;
    within_limit = funded.within;
    at_limit = λ s. absurd (not_running book Limit step.runs s);
    at_quiet = λ s. absurd (not_running book Quiet step.runs s);
  })

  pub rest_credit : (new : AtBook) → Rests role here new → KeepsCreditAtBook new
  rest_credit new step = subst KeepsCreditAtBook (sym step.is) (record {
    mine = mine_after 0 worker.allowance funded.mine.allowance (λ z. rests_idle);
    best = not_below_itself book.best;
    by_owner = λ other. refl;
    credit = let le = funded.funds in omega arith;
    granted = refl;
    limit = refl;
    within_limit = funded.within;
    at_limit = λ s. absurd (rested_at_limit s);
    at_quiet = λ s. rested_at_quiet s;
  })
    where
      rests_idle : IsIdle role.task (record worker { purse = 0; best = book.best }) (limit_of book.best) book.best
      rests_idle =
          let idle = idle_stable role.task worker (limit_of book.best) book.best step.idle in
          record {
            holds_nothing = idle.holds_nothing;
            sends_nothing = idle.sends_nothing;
            no_board = λ b known at. idle.no_board b known (open_same role.task worker (record worker { purse = 0; best = book.best }) refl b known at);
            no_better_goal = idle.no_better_goal;
          }

      rested_at_limit : (with_rest book role.me worker.purse step.floor).stop ≡ Some Limit → ⊥
      rested_at_limit s =
          ⊎_elim
          (λ (z : eqb (book.credit - worker.purse) 0 ≡ true). let e : ◌≡◌ {A = Option Stop} (Some Quiet) (Some Limit) = sym (cond-true _ _ _ z) ∙ s in cc)
          (λ (some : eqb (book.credit - worker.purse) 0 ≡ false). not_running book Limit step.runs (sym (cond-false _ _ _ some) ∙ s))
          (cases_Bool (eqb (book.credit - worker.purse) 0))

      rested_at_quiet : (with_rest book role.me worker.purse step.floor).stop ≡ Some Quiet → book.credit - worker.purse ≡ 0
      rested_at_quiet s =
          ⊎_elim
          (λ (z : eqb (book.credit - worker.purse) 0 ≡ true). eqb-true _ _ z)
          (λ (some : eqb (book.credit - worker.purse) 0 ≡ false). absurd (not_running book Quiet step.runs (sym (cond-false _ _ _ some) ∙ s)))
          (cases_Bool (eqb (book.credit - worker.purse) 0))

  halted_at_limit : (cause : HaltCause) → ¬ MayGoOn here cause → ◌≡◌ {A = Option Stop} (Some (stop_of cause)) (Some Limit) → (book.granted ≡ book.limit) × (worker.allowance ≡ 0)
  halted_at_limit causes.TheVariants.Limit none s = (
    ⊎_elim (λ (lt : book.granted < book.limit). absurd (none (inr lt))) (λ (le : book.limit ≤ book.granted). let within = funded.within in omega arith) (cases_lt book.granted book.limit),
    ⊎_elim (λ (lt : 0 < worker.allowance). absurd (none (inl lt))) (λ (le : worker.allowance ≤ 0). omega arith) (cases_lt 0 worker.allowance),
  )
  halted_at_limit (causes.TheVariants.Memory want) none s = absurd (cc)
  halted_at_limit causes.TheVariants.Start none s = absurd (cc)

  halted_quiet : (cause : HaltCause) → ◌≡◌ {A = Option Stop} (Some (stop_of cause)) (Some Quiet) → ⊥
  halted_quiet causes.TheVariants.Limit s = cc
  halted_quiet (causes.TheVariants.Memory want) s = cc
  halted_quiet causes.TheVariants.Start s = cc

  pub halt_credit : (cause : HaltCause) (new : AtBook) → Halts cause here new → KeepsCreditAtBook new
  halt_credit cause new step = subst KeepsCreditAtBook (sym step.is) (record {
    mine = mine_after worker.purse worker.allowance funded.mine.allowance (λ z. idle_after worker.allowance z);
    best = not_below_itself book.best;
    by_owner = λ other. refl;
    credit = refl;
    granted = refl;
    limit = refl;
    within_limit = funded.within;
    at_limit = λ s. let h = halted_at_limit cause step.done s in (h.0, inl h.1);
    at_quiet = λ s. absurd (halted_quiet cause s);
  })

-- ---- each step keeps a world credited

-- another worker, after a step that lowers the best cost at most, and leaves it where this worker owns the goal
other_kept : (role : Role) (best best' : Option ℕ) (x : WorkerState) → IsNotBelow best best' → (role.owner role.task.goal ≡ role.me → best' ≡ best) → IsCreditedWorker role best x → IsCreditedWorker role best' x
other_kept role best best' x falls same mine = record {
  allowance = mine.allowance;
  copy = not_below_trans x.best best best' mine.copy falls;
  goal_owner = λ own. let old = mine.goal_owner own in record { copy = old.copy ∙ sym (same own); knows = λ cost e. old.knows cost (sym (same own) ∙ e) };
  idle = λ z. let old = mine.idle z in record { holds_nothing = old.holds_nothing; sends_nothing = old.sends_nothing; no_board = old.no_board; no_better_goal = λ cost at. not_below_trans (Some cost) best best' (old.no_better_goal cost at) falls };
}

module _ (w : WorldState) (credited : IsCredited w) (i : ℕ) (worker : WorkerState) (is : IsWorker w i worker) where
  pub funds : worker.purse ≤ w.book.credit
  funds = let e = credited.credit in let le = part_le (λ (x : WorkerState). x.purse) w.workers i worker is in omega arith

  pub funded : IsFunded (role_of w i) worker w.book
  funded = record { mine = credited.workers i worker is; funds = funds; within = credited.within_limit; spent = λ e. (credited.at_limit e).0; quiet = credited.at_quiet }

  module _ (worker' : WorkerState) (book' : BookState) (lanes : List (List Lane)) (before after : ℕ) (packets : packet_count (changed w i worker' book' lanes) + before ≡ packet_count w + after) (keeps : KeepsCredit (role_of w i) worker w.book before worker' book' after) where
    worker_kept : (j : ℕ) (x : WorkerState) → IsWorker (changed w i worker' book' lanes) j x → IsCreditedWorker (role_of w j) book'.best x
    worker_kept j x at =
        ⊎_elim
        (λ (h : (j ≡ i) × (x ≡ worker')). subst (λ (y : ℕ × WorkerState). IsCreditedWorker (role_of w y.0) book'.best y.1) (λ t. (sym h.0 t, sym h.1 t)) keeps.mine)
        (λ (h : (j ≢ i) × IsWorker w j x). other_kept (role_of w j) w.book.best book'.best x keeps.best (λ own. keeps.by_owner (λ mine. h.0 (sym own ∙ mine))) (credited.workers j x h.1))
        (worker_after w i worker is worker' book' lanes j x at)

    limit_kept : book'.stop ≡ Some Limit → (book'.granted ≡ book'.limit) × HasSpentWorker (changed w i worker' book' lanes)
    limit_kept e =
        let h = keeps.at_limit e in (
          h.0 ∙ sym keeps.limit,
          ⊎_elim
              (λ (mine : worker'.allowance ≡ 0). (i, worker', worker_there w i worker is worker' book' lanes, mine))
              (λ (old : (w.book.stop ≡ Some Limit) × (worker.allowance ≢ 0)).
              let who = (credited.at_limit old.0).1 in
              ⊎_elim
              (λ (same : (who.0 ≡ i) × (who.1 ≡ worker) × IsWorker (changed w i worker' book' lanes) who.0 worker'). absurd (old.1 (sym (ap (λ (x : WorkerState). x.allowance) same.1) ∙ who.3)))
              (λ (other : (who.0 ≢ i) × IsWorker (changed w i worker' book' lanes) who.0 who.1). (who.0, who.1, other.1, who.3))
              (worker_before w i worker is worker' book' lanes who.0 who.1 who.2))
              h.1,
        )

    pub credit_kept : IsCredited (changed w i worker' book' lanes)
    credit_kept = record {
      credit =
          let old = credited.credit in
          let moves = sum_set (λ (x : WorkerState). x.purse) w.workers i worker worker' is in
          let pays = keeps.credit in
          omega arith;
      granted =
          let old = credited.granted in
          let moves = sum_set (λ (x : WorkerState). x.allowance + x.expansions) w.workers i worker worker' is in
          let pays = keeps.granted in
          omega arith;
      within_limit = let le = keeps.within_limit in let e = keeps.limit in omega arith;
      workers = worker_kept;
      at_limit = limit_kept;
      at_quiet = keeps.at_quiet;
    }

by_worker : (w w' : WorldState) (i : ℕ) (Change : WorkerState → WorkerState → Type 0) → ((worker : WorkerState) → IsFunded (role_of w i) worker w.book → (new : WorkerState) → Change worker new → KeepsCredit (role_of w i) worker w.book 0 new w.book 0) → IsCredited w → OwnChange i Change w w' → IsCredited w'
by_worker w w' i Change keeps credited step =
    subst IsCredited (sym step.is) (credit_kept w credited i step.worker step.at step.new w.book w.lanes 0 0 refl (keeps step.worker (funded w credited i step.worker step.at) step.new step.change))

on_book : (w w' : WorldState) (i : ℕ) (Change : AtBook → AtBook → Type 0) → ((worker : WorkerState) → IsFunded (role_of w i) worker w.book → (new : AtBook) → Change (record { worker = worker; book = w.book }) new → KeepsCredit (role_of w i) worker w.book 0 new.worker new.book 0) → IsCredited w → BookChange i Change w w' → IsCredited w'
on_book w w' i Change keeps credited step =
    subst IsCredited (sym step.is) (credit_kept w credited i step.worker step.at step.new.worker step.new.book w.lanes 0 0 refl (keeps step.worker (funded w credited i step.worker step.at) step.new step.change))

accepts_credited : (step : Step) (w w' : WorldState) → IsCredited w → Accepts step w w' → IsCredited w'
accepts_credited (Expand i) w w' credited step = by_worker w w' i _ (λ worker funded. expand_credit (role_of w i) worker w.book funded) credited step
accepts_credited (Settle i) w w' credited step = by_worker w w' i _ (λ worker funded. settle_credit (role_of w i) worker w.book funded) credited step
accepts_credited (Send i j) w w' credited step =
    subst IsCredited (sym step.is)
    (credit_kept w credited i step.worker step.at step.new.worker w.book (with_lane w.lanes i j step.new.lane) (length step.lane) (length step.new.lane) (packets_after w i step.new.worker w.book i j step.lane step.at_lane step.new.lane)
    (send_credit (role_of w i) step.worker w.book (funded w credited i step.worker step.at) j step.lane step.new step.change))
accepts_credited (Deliver i j) w w' credited step =
    subst IsCredited (sym step.is)
    (credit_kept w credited i step.worker step.at step.new.worker w.book (with_lane w.lanes j i step.new.lane) (length step.lane) (length step.new.lane) (packets_after w i step.new.worker w.book j i step.lane step.at_lane step.new.lane)
    (deliver_credit (role_of w i) step.worker w.book (funded w credited i step.worker step.at) step.lane step.new step.change))
accepts_credited (Draw i) w w' credited step = on_book w w' i _ (λ worker funded. draw_credit (role_of w i) worker w.book funded) credited step
accepts_credited (Announce i) w w' credited step = on_book w w' i _ (λ worker funded. announce_credit (role_of w i) worker w.book funded) credited step
accepts_credited (Grant i) w w' credited step = on_book w w' i _ (λ worker funded. grant_credit (role_of w i) worker w.book funded) credited step
accepts_credited (Rest i) w w' credited step = on_book w w' i _ (λ worker funded. rest_credit (role_of w i) worker w.book funded) credited step
accepts_credited (Halt i cause) w w' credited step = on_book w w' i _ (λ worker funded. halt_credit (role_of w i) worker w.book funded cause) credited step

pub steps_credited : (step : Step) (it : Turn WorldState Refusal) → Next step it → IsCredited it.before → IsCredited it.after
steps_credited step it next credited = split (next_cases step it next)
  where
    split : Cases it (Accepts step it.before it.after) → IsCredited it.after
    split (inl out) = subst IsCredited (sym out.1.1) credited
    split (inr done) = accepts_credited step it.before it.after credited done.1

-- ---- a worker's step on the book is the book's own call

-- a fault of the call refuses the step
refused : (at new : AtBook) (fault : Option BookFault) (named : BookFault) → fault ≡ Some named → (option_map refusal_of fault ≡ Some (refusal_of named)) × (after_call fault at new ≡ at)
refused at new fault named is = (ap (option_map refusal_of) is, ap (λ f. after_call f at new) is)

-- no fault accepts it
accepted : (at new wanted : AtBook) (fault : Option BookFault) → fault ≡ None → new ≡ wanted → (option_map refusal_of fault ≡ None) × (after_call fault at new ≡ wanted)
accepted at new wanted fault is same = (ap (option_map refusal_of) is, ap (λ f. after_call f at new) is ∙ same)

by_account : (at : AtBook) (account wanted : Account) → account ≡ wanted → at_book (record at.worker { purse = account.purse }) account.book ≡ at_book (record at.worker { purse = wanted.purse }) wanted.book
by_account at account wanted e = ap (λ (a : Account). at_book (record at.worker { purse = a.purse }) a.book) e

pub draws : (at : AtBook) (fault : Option BookFault) (account : Account) → BookDraw (turn (account_of at) fault account) → DrawStep (turn at (option_map refusal_of fault) (after_call fault at (at_book (record at.worker { purse = account.purse }) account.book)))
draws at fault account (inl out) = inl (out.0, refused at _ fault RunStopped out.1.0)
draws at fault account (inr (runs, inl out)) = inr (runs, inl (out.0, refused at _ fault NoPurse out.1.0))
draws at fault account (inr (runs, inr (some, inl out))) = inr (runs, inr (some, inl (out.0, refused at _ fault CreditFull out.1.0)))
draws at fault account (inr (runs, inr (some, inr (fits, new)))) = inr (runs, inr (some, inr (fits, accepted at _ _ fault new.0 (by_account at account _ new.1))))

pub announces : (role : Role) (at : AtBook) (cost : ℕ) (fault : Option BookFault) (book : BookState) → role.owner role.task.goal ≡ role.me → KnowsGoalAt role.task at.worker cost → BookAnnounce cost (turn at.book fault book) → AnnounceStep role (turn at (option_map refusal_of fault) (after_call fault at (at_book at.worker book)))
announces role at cost fault book own knows (inl out) = inl (out.0, refused at _ fault RunStopped out.1.0)
announces role at cost fault book own knows (inr (runs, inl out)) = inr (
  runs,
  inl (
    (λ other may.
        let e = same_known at.worker.known _ may.knows.0 knows.0 may.knows.1 knows.1 in
        let e' : other ≡ cost = sym may.knows.2 ∙ ap (λ (k : Known). k.cost) e ∙ knows.2 in
        may.lower (subst (λ n. IsNotBelow (Some n) at.book.best) (sym e') out.0)),
    refused at _ fault NotLower out.1.0,
  ),
)
announces role at cost fault book own knows (inr (runs, inr (lower, new))) =
    let may : MayAnnounce role at cost = record { own = own; knows = knows; lower = lower } in
    inr (runs, inr ((λ none. none cost may), (cost, may, accepted at _ _ fault new.0 (ap (at_book at.worker) new.1))))

pub grants : (role : Role) (at : AtBook) (fault : Option BookFault) (book : BookState) → ¬ HasNothingBelow role.task at.worker (limit_of at.book.best) → at.worker.allowance ≡ 0 → BookGrant (turn at.book fault book) → GrantStep role (turn at (option_map refusal_of fault) (after_call fault at (at_book (record at.worker { allowance = at.worker.allowance + grant_of at.book }) book)))
grants role at fault book busy spent (inl out) = inl (out.0, refused at _ fault RunStopped out.1.0)
grants role at fault book busy spent (inr (runs, inl out)) = inr (runs, inr (busy, inr ((λ some. some spent), inl (out.0, refused at _ fault NothingLeft out.1.0))))
grants role at fault book busy spent (inr (runs, inr (more, new))) =
    inr (runs, inr (busy, inr ((λ some. some spent), inr (more, accepted at _ _ fault new.0 (ap (at_book (record at.worker { allowance = at.worker.allowance + grant_of at.book })) new.1)))))

-- a floor that is not below a number bounds what is open
floor_bounds : (task : Task) (worker : WorkerState) (floor : Option ℕ) (n : ℕ) → IsFloor task worker floor → IsNotBelow floor (Some n) → HasNothingBelow task worker n
floor_bounds task worker None n is high b known at = absurd (is (known.cost + task.sum b) (b, known, at, refl))
floor_bounds task worker (Some f) n is high b known at = let le = is.1 (known.cost + task.sum b) (b, known, at, refl) in omega arith

-- and else something is open below it
floor_shows : (task : Task) (worker : WorkerState) (floor : Option ℕ) (n : ℕ) → IsFloor task worker floor → HasNothingBelow task worker n → IsNotBelow floor (Some n)
floor_shows task worker None n is none = tt
floor_shows task worker (Some f) n is none = let le = none is.0.0 is.0.1 is.0.2 in omega (arith, is.0.3)

pub rests : (role : Role) (at : AtBook) (floor : Option ℕ) (fault : Option BookFault) (account : Account) → at.worker.held ≡ [] → All (λ packet. packet ≡ []) at.worker.unsent → ((cost : ℕ) → KnowsGoalAt role.task at.worker cost → IsNotBelow (Some cost) at.book.best) → IsFloor role.task at.worker floor → BookRest role.me floor (turn (account_of at) fault account) → RestStep role (turn at (option_map refusal_of fault) (after_call fault at (at_book (record at.worker { purse = account.purse }) account.book)))
rests role at floor fault account held unsent goal is (inl out) = inl (out.0, refused at _ fault RunStopped out.1.0)
rests role at floor fault account held unsent goal is (inr (runs, inl out)) = inr (runs, inl (out.0, refused at _ fault NoPurse out.1.0))
rests role at floor fault account held unsent goal is (inr (runs, inr (some, inl out))) =
    inr (runs, inr (some, inl ((λ idle. out.0 (floor_shows role.task at.worker floor _ is idle.no_board)), refused at _ fault FloorBelowLimit out.1.0)))
rests role at floor fault account held unsent goal is (inr (runs, inr (some, inr (high, new)))) =
    let idle : IsIdle role.task at.worker (limit_of at.book.best) at.book.best = record {
      holds_nothing = held;
      sends_nothing = unsent;
      no_board = floor_bounds role.task at.worker floor (limit_of at.book.best) is (not_below_stable floor (Some (limit_of at.book.best)) high);
      no_better_goal = goal;
    } in
    inr (runs, inr (some, inr ((λ busy. busy idle), (floor, is, accepted at _ _ fault new.0 (by_account at account _ new.1)))))

-- where the book may halt for a cause, so may its worker
may_halt : (cause : HaltCause) (at : AtBook) → (cause ≡ causes.TheVariants.Limit → at.worker.allowance ≡ 0) → ¬ HasMoreToGrant at.book cause → ¬ MayGoOn at cause
may_halt causes.TheVariants.Limit at spent all (inl left) = let e = spent refl in omega arith
may_halt causes.TheVariants.Limit at spent all (inr more) = all more
may_halt (causes.TheVariants.Memory want) at spent all may = may
may_halt causes.TheVariants.Start at spent all may = may

-- where the book has more to grant, its worker may go on
may_go_on : (cause : HaltCause) (at : AtBook) → HasMoreToGrant at.book cause → MayGoOn at cause
may_go_on causes.TheVariants.Limit at more = inr more
may_go_on (causes.TheVariants.Memory want) at more = more
may_go_on causes.TheVariants.Start at more = more

pub halts : (cause : HaltCause) (at : AtBook) (fault : Option BookFault) (book : BookState) → (cause ≡ causes.TheVariants.Limit → at.worker.allowance ≡ 0) → BookHalt cause (turn at.book fault book) → HaltStep cause (turn at (option_map refusal_of fault) (after_call fault at (at_book at.worker book)))
halts cause at fault book spent (inl out) = inl (out.0, refused at _ fault RunStopped out.1.0)
halts cause at fault book spent (inr (runs, inl out)) = inr (runs, inl (may_go_on cause at out.0, refused at _ fault AllowanceRemains out.1.0))
halts cause at fault book spent (inr (runs, inr (all, new))) = inr (runs, inr (may_halt cause at spent all, accepted at _ _ fault new.0 (ap (at_book at.worker) new.1)))

-- each call has an answer
pub calls_answer : CallsHaveAnswers
calls_answer = (
  λ x none.
      let runs : ¬ (x.book.stop ≢ None) = λ h. none (Some RunStopped) x (inl (h, (refl, refl))) in
      let some : ¬ (x.purse ≡ 0) = λ h. none (Some NoPurse) x (inr (runs, inl (h, (refl, refl)))) in
      let fits : ¬ (2 ^ 63 < x.book.credit) = λ h. none (Some CreditFull) x (inr (runs, inr (some, inl (h, (refl, refl))))) in
      none None _ (inr (runs, inr (some, inr (fits, (refl, refl))))),
  λ cost book none.
      let runs : ¬ (book.stop ≢ None) = λ h. none (Some RunStopped) book (inl (h, (refl, refl))) in
      let lower : ¬ IsNotBelow (Some cost) book.best = λ h. none (Some NotLower) book (inr (runs, inl (h, (refl, refl)))) in
      none None _ (inr (runs, inr (lower, (refl, refl)))),
  λ book none.
      let runs : ¬ (book.stop ≢ None) = λ h. none (Some RunStopped) book (inl (h, (refl, refl))) in
      let more : ¬ (book.granted ≡ book.limit) = λ h. none (Some NothingLeft) book (inr (runs, inl (h, (refl, refl)))) in
      none None _ (inr (runs, inr (more, (refl, refl)))),
  λ i floor x none.
      let runs : ¬ (x.book.stop ≢ None) = λ h. none (Some RunStopped) x (inl (h, (refl, refl))) in
      let some : ¬ (x.purse ≡ 0) = λ h. none (Some NoPurse) x (inr (runs, inl (h, (refl, refl)))) in
      let high : ¬ (¬ IsNotBelow floor (Some (limit_of x.book.best))) = λ h. none (Some FloorBelowLimit) x (inr (runs, inr (some, inl (h, (refl, refl))))) in
      none None _ (inr (runs, inr (some, inr (high, (refl, refl))))),
  λ cause book none.
      let runs : ¬ (book.stop ≢ None) = λ h. none (Some RunStopped) book (inl (h, (refl, refl))) in
      let spent : ¬ HasMoreToGrant book cause = λ h. none (Some AllowanceRemains) book (inr (runs, inl (h, (refl, refl)))) in
      none None _ (inr (runs, inr (spent, (refl, refl)))),
)
