-- Which changes of a part's worker alone keep what the part keeps: its expansions, and the offers that it settles or drops.
use Rattle.std.proofs.Common.{◌≡◌, ◌≢◌, ◌⊎◌, ℕ, ◌+◌, ◌≤◌, true, [], length, Some, refl, sym, ap, ◌∙◌, inl, inr, ⊎_elim, arith, ◌<◌, false, eqb, List, ◌∷◌, subst, Option, None, ◌++◌}
use Rattle.std.specs.Prelude.{Contains, fold}
use Rattle.std.proofs.lemmas.Bool.{false_from_ne_true, cases_eq, cases_Bool, cond-true, cond-false, eq-eqb, ne_eqb, true≢false}
use Rattle.std.specs.FinMap as map
use Rattle.std.proofs.lemmas.List.{length-append}
use Rattle.std.proofs.lemmas.List.Elements.{Contains-push, Contains-push_cases, Contains-append_left}
use Rattle.board.specs.declared.moves.Move.{Move}
use Rattle.board.specs.Weights.{WeightsModel}
use Rattle.board.specs.Moves.{Moves}
use Rattle.board.specs.Neighbours.{opposite}
use Rattle.board.specs.Boards.{IsBoard, BoardModel}
use Rattle.board.proofs.MoveLemmas.{taken_back}
use Rattle.board.proofs.NeighbourLemmas.{successor_moves}
use Rattle.search_keys.specs.SearchKeys.{search_key}
use Rattle.board.specs.declared.costs.TheConstants.{GREATEST_EXPANDED_COST}
use Rattle.world_model.specs.declared.limits.TheConstants.{PACKET_LIMIT}
use Rattle.world_model.specs.declared.parts.Item.{Item}
use Rattle.world_model.specs.declared.parts.Known.{Known}
use Rattle.world_model.specs.Costs.{limit_of}
use Rattle.world_model.specs.Shapes.{IsItemFor, IsShapedWorker, IsPacketFor}
use Rattle.world_model.specs.Workers.{WorkerState, Role, IsTaskBoard, KnowsAs, IsIdle, IsOpen, HasNothingBelow}
use Rattle.world_model.specs.declared.steps.Refusal.{Refusal}
use Rattle.world_model.specs.Expansions.{expansion_by, items_by, move_back, moves_but, with_closure, with_successor}
use Rattle.world_model.specs.Turns.{turn}
use Rattle.world_model.specs.WorkerSteps.{ExpandStepBy, IsOverfull}
use Rattle.world_model.proofs.ExpandLemmas.{Among, HasSlots, all_known, all_lower, all_there, all_unsent, all_put, all_back, all_held, all_rest, offered_by, offers_but, offered_board_by}
use Rattle.world_model.proofs.ShapeKept.{expanded_low, shaped_expanded_by, slots, shaped_delivered, shaped_settled}
use Rattle.world_model.proofs.ChangeLemmas.{known_owned, entry, same_search_key, with_insert, none_in_empty, cons_cases, none_in, lowered_by, lowered_there}
use Rattle.world_model.proofs.StepCases.{IsLeft, ExpandsBy, expand_cases_by, Settles, settle_cases}
use Rattle.world_model.specs.Knowledge.{relaxation}
use Rattle.world_model.specs.ThreadParts.{PartState, HasUnsent, WasSent, KnowsAtMost, IsSeenTo, LeadsBack, IsMade, HasOrigin, HasCome, IsRole, Keeps, KnowsBefore}
use Rattle.world_model.specs.PartChanges.{part_with_worker}
use Rattle.world_model.specs.ThreadLaws.{ExpandingIsKept, SettlingIsKept, DroppingIsKept}

-- ---- which changes of a part's worker alone keep what the part keeps

-- a move back leads to the board before
pub led_back : (rule : WeightsModel) (b : BoardModel) (via : Move) (before : BoardModel) (cost : ℕ) (b' : BoardModel) (c : ℕ) → IsBoard before → IsBoard b → Moves rule before via b cost → Moves rule b (opposite via) b' c → before ≡ b'
led_back rule b via before cost b' c board board' moves back =
    let there : Some (before, cost) ≡ Some (b', c) = sym ((successor_moves rule b (opposite via) before cost board').1 (taken_back rule before via b cost board moves)) ∙ (successor_moves rule b (opposite via) b' c board').1 back in
    let same : (before, cost) ≡ (b', c) = cc in
    ap (λ (x : BoardModel × ℕ). x.0) same

-- nothing is forgotten: what is known is known as cheaply, and what is unsent still is
pub record WorkerRemembers (old new : WorkerState) : Type 0 where
  pub lower : (b : BoardModel) (known : Known) → KnowsAs old b known → KnowsAtMost new b known.cost
  pub unsent : (to : ℕ) (item : Item) → HasUnsent old to item → HasUnsent new to item

-- a board that is known so has its origin; where it is closed, it is not the goal, and each successor is seen to, unless its move leads back
pub record IsFounded (role : Role) (part : PartState) (b : BoardModel) (known : Known) : Type 0 where
  pub origin : HasOrigin role part b known.cost known.via
  pub closed : known.expanded ≡ true → (b ≢ role.task.goal) × ((m : Move) (b' : BoardModel) (c : ℕ) → Moves role.task.rule b m b' c → IsSeenTo role part b' (known.cost + c) ⊎ LeadsBack part b known m)

-- what is new is well founded, and what is held no longer is known where it is the worker's own
pub record WorkerAddsWell (n : ℕ) (role : Role) (part : PartState) (worker : WorkerState) : Type 0 where
  pub shaped : IsShapedWorker n role (record worker { held = [] })
  pub few_held : length worker.held ≤ PACKET_LIMIT
  pub known : (b : BoardModel) (known : Known) → IsTaskBoard role.task b → KnowsAs worker b known → KnowsAs part.worker b known ⊎ IsFounded role (part_with_worker part worker) b known
  pub items : (to : ℕ) (item : Item) → HasUnsent worker to item → HasUnsent part.worker to item ⊎ IsMade role worker item.board item.cost item.via
  pub held : (item : Item) → Contains worker.held item → Contains part.worker.held item
  pub settled : (item : Item) → Contains part.worker.held item → IsItemFor role.task role.owner role.me item → KnowsAtMost worker item.board item.cost ⊎ Contains worker.held item
  pub resting : worker.purse ≡ 0 → IsIdle role.task worker (limit_of worker.best) worker.best

module _ (role : Role) (part : PartState) (worker : WorkerState) (remembers : WorkerRemembers part.worker worker) where
  at_most_kept : (b : BoardModel) (cost : ℕ) → KnowsAtMost part.worker b cost → KnowsAtMost worker b cost
  at_most_kept b cost has = let now = remembers.lower b has.0 has.1 in (now.0, now.1, omega (arith, now.2, has.2))

  seen_to_kept : (b : BoardModel) (cost : ℕ) → IsSeenTo role part b cost → IsSeenTo role (part_with_worker part worker) b cost
  seen_to_kept b cost (inl own) = inl (own.0, at_most_kept b cost own.1)
  seen_to_kept b cost (inr (item, inl unsent, board, le)) = inr (item, inl (remembers.unsent (role.owner b) item unsent), board, le)
  seen_to_kept b cost (inr (item, inr sent, board, le)) = inr (item, inr sent, board, le)

  successor_kept : (b' : BoardModel) (cost : ℕ) (b : BoardModel) (known : Known) (m : Move) → IsSeenTo role part b' cost ⊎ LeadsBack part b known m → IsSeenTo role (part_with_worker part worker) b' cost ⊎ LeadsBack (part_with_worker part worker) b known m
  successor_kept b' cost b known m (inl seen) = inl (seen_to_kept b' cost seen)
  successor_kept b' cost b known m (inr back) = inr back

  pub made_kept : (b : BoardModel) (cost : ℕ) (via : Move) → IsMade role part.worker b cost via → IsMade role worker b cost via
  made_kept b cost via (inl start) = inl start
  made_kept b cost via (inr (before, c, known, board, moves, knows, le)) = let now = remembers.lower before known knows in inr (before, c, now.0, board, moves, now.1, omega (arith, now.2, le))

  pub origin_kept : (b : BoardModel) (cost : ℕ) (via : Move) → HasOrigin role part b cost via → HasOrigin role (part_with_worker part worker) b cost via
  origin_kept b cost via (inl made) = inl (made_kept b cost via made)
  origin_kept b cost via (inr came) = inr came

  module _ (n : ℕ) (is : IsRole n role) (keeps : Keeps n role part) (adds : WorkerAddsWell n role part worker) where
    made : (to : ℕ) (item : Item) → HasUnsent worker to item ⊎ WasSent part to item → IsMade role worker item.board item.cost item.via
    made to item (inl unsent) = ⊎_elim (λ old. made_kept item.board item.cost item.via (keeps.made to item (inl old))) (λ new. new) (adds.items to item unsent)
    made to item (inr sent) = made_kept item.board item.cost item.via (keeps.made to item (inr sent))

    arrived : (item : Item) → HasCome part item → IsItemFor role.task role.owner role.me item → KnowsAtMost worker item.board item.cost ⊎ Contains worker.held item
    arrived item came mine = ⊎_elim (λ old. inl (at_most_kept item.board item.cost old)) (λ held. adds.settled item held mine) (keeps.arrived item came mine)

    -- a worker that forgets nothing and adds only what is well founded keeps what its part keeps
    pub worker_kept : Keeps n role (part_with_worker part worker)
    worker_kept = record {
      shaped = adds.shaped;
      few_held = adds.few_held;
      ends = keeps.ends;
      sent = keeps.sent;
      start = λ mine. at_most_kept role.task.start 0 (keeps.start mine);
      successors = λ b known board knows closed m b' c moves. ⊎_elim (λ old. successor_kept b' (known.cost + c) b known m (keeps.successors b known board old closed m b' c moves)) (λ (new : IsFounded role (part_with_worker part worker) b known). (new.closed closed).1 m b' c moves) (adds.known b known board knows);
      origins = λ b known board knows. ⊎_elim (λ old. origin_kept b known.cost known.via (keeps.origins b known board old)) (λ (new : IsFounded role (part_with_worker part worker) b known). new.origin) (adds.known b known board knows);
      made = made;
      held = λ item has. keeps.held item (adds.held item has);
      arrived = arrived;
      goal_kept = λ known knows. ⊎_elim (λ old. keeps.goal_kept known old) (λ (new : IsFounded role (part_with_worker part worker) role.task.goal known). false_from_ne_true known.expanded (λ closed. (new.closed closed).0 refl)) (adds.known role.task.goal known (is.task.goal, refl) knows);
      resting = adds.resting;
    }

-- ---- a part whose worker expands a board keeps what it keeps

-- the worker holds nothing
abbrev empty_handed : WorkerState → WorkerState
empty_handed worker = record worker { held = [] }

module _ (role : Role) where
  -- what is held plays no part in a successor
  one_empty_handed : (x : WorkerState) (item : Item) → with_successor role (empty_handed x) item ≡ empty_handed (with_successor role x item)
  one_empty_handed x item =
      ⊎_elim (λ (e : eqb (role.owner item.board) role.me ≡ true). cond-true _ _ _ e ∙ sym (ap empty_handed (cond-true _ _ _ e)))
      (λ (e : eqb (role.owner item.board) role.me ≡ false). cond-false _ _ _ e ∙ sym (ap empty_handed (cond-false _ _ _ e)))
      (cases_Bool (eqb (role.owner item.board) role.me))

  all_empty_handed : (offers : List Item) (x : WorkerState) → fold (with_successor role) (empty_handed x) offers ≡ empty_handed (fold (with_successor role) x offers)
  all_empty_handed [] x = refl
  all_empty_handed (first ∷ rest) x = ap (λ (y : WorkerState). fold (with_successor role) y rest) (one_empty_handed x first) ∙ all_empty_handed rest (with_successor role x first)

-- the board is expanded by all moves but one, if any is left out, and then by the one back
module _ (n : ℕ) (role : Role) (part : PartState) (is : IsRole n role) (keeps : Keeps n role part) (b : BoardModel) (known : Known) (open_at : IsOpen role.task part.worker b known) (left_out : Option Move) (back : (m : Move) → left_out ≡ Some m → (0 < known.cost) × (m ≡ opposite known.via)) where
  done : WorkerState
  done = expansion_by (moves_but left_out) role part.worker b known

  marked : WorkerState
  marked = with_closure part.worker b known

  offers : List Item
  offers = items_by (moves_but left_out) role.task.rule b known.cost

  -- an expansion with nothing held
  emptied_is : expansion_by (moves_but left_out) role (empty_handed part.worker) b known ≡ empty_handed done
  unfolding done
  emptied_is = all_empty_handed role (items_by (moves_but left_out) role.task.rule b known.cost) (with_closure part.worker b known)

  emptied_open : IsOpen role.task (empty_handed part.worker) b known
  emptied_open = record { board = open_at.board; knows = open_at.knows; unexpanded = open_at.unexpanded; no_goal = open_at.no_goal }

  done_shaped : known.cost + role.task.sum b ≤ GREATEST_EXPANDED_COST → ¬ IsOverfull done → IsShapedWorker n role (empty_handed done)
  done_shaped low room =
      subst (IsShapedWorker n role) emptied_is
      (shaped_expanded_by n role (empty_handed part.worker) keeps.shaped (moves_but left_out) is.task is.owners b known emptied_open low
      (λ full. room (subst IsOverfull emptied_is full)))

  lists : HasSlots role marked
  unfolding marked
  lists = slots n role (empty_handed part.worker) keeps.shaped is.owners

  held_is : done.held ≡ part.worker.held
  unfolding done offers marked
  held_is = all_held role offers marked

  marked_lower : (key : ℕ) (old : Known) → map.get part.worker.known key ≡ Some old → (now : Known) × (map.get marked.known key ≡ Some now) × (now.cost ≤ old.cost)
  unfolding marked
  marked_lower key old at =
      ⊎_elim (λ same. (old, same ∙ at, omega arith))
      (λ new.
      let e : Some old ≡ Some known = sym at ∙ ap (map.get part.worker.known) new.0 ∙ open_at.knows in
      let as_known : old ≡ known = cc in
      (record known { expanded = true }, new.1, omega (arith, ap (λ (k : Known). k.cost) as_known)))
      (with_insert part.worker.known (search_key b) key (record known { expanded = true }))

  lower : (x : BoardModel) (old : Known) → KnowsAs part.worker x old → KnowsAtMost done x old.cost
  unfolding done offers marked
  lower x old knows =
      let mid = marked_lower (search_key x) old knows in
      let end = all_lower role offers marked (search_key x) mid.0 mid.1 in
      (end.0, end.1, omega (arith, mid.2, end.2))

  remembers : WorkerRemembers part.worker done
  unfolding done offers marked
  remembers = record { lower = lower; unsent = λ to item has. all_unsent role offers marked lists to item has }

  -- what an offer leads to is seen to
  offer_seen_to : (offer : Item) → Among offers offer → IsSeenTo role (part_with_worker part done) offer.board offer.cost
  unfolding done offers marked
  offer_seen_to offer among =
      ⊎_elim (λ (mine : role.owner offer.board ≡ role.me). inl (mine, all_there role offers marked offer among mine))
      (λ (foreign : role.owner offer.board ≢ role.me). inr (offer, inl (all_put role offers marked lists offer among foreign), refl, omega arith))
      (cases_eq (role.owner offer.board) role.me)

  -- and so is what the move back leads to, where the worker knows the board before
  before_seen_to : KnowsBefore role part.worker b known.cost known.via → (b' : BoardModel) (c : ℕ) → Moves role.task.rule b (opposite known.via) b' c → IsSeenTo role (part_with_worker part done) b' (known.cost + c)
  before_seen_to (before, cost, first, board, there, knows, low) b' c leads =
      let own = known_owned n role (empty_handed part.worker) is.task keeps.shaped before first board knows in
      let now = lower before first knows in
      subst (λ (x : BoardModel). IsSeenTo role (part_with_worker part done) x (known.cost + c))
      (led_back role.task.rule b known.via before cost b' c board.0 open_at.board.0 there leads)
      (inl (own.0, (now.0, now.1, omega (arith, now.2, low))))

  -- the move that is left out leads to what is seen to, or back to where the board came from
  left_out_seen_to : (m : Move) (b' : BoardModel) (c : ℕ) → Moves role.task.rule b m b' c → left_out ≡ Some m → IsSeenTo role (part_with_worker part done) b' (known.cost + c) ⊎ LeadsBack (part_with_worker part done) b known m
  left_out_seen_to m b' c leads out = by_origin (keeps.origins b known open_at.board open_at.knows)
    where
      by_origin : HasOrigin role part b known.cost known.via → IsSeenTo role (part_with_worker part done) b' (known.cost + c) ⊎ LeadsBack (part_with_worker part done) b known m
      by_origin (inl (inl start)) = absurd (let later = (back m out).0 in omega (arith, later, start.1))
      by_origin (inl (inr before)) = inl (before_seen_to before b' c (subst (λ (x : Move). Moves role.task.rule b x b' c) (back m out).1 leads))
      by_origin (inr came) = inr ((back m out).0, (back m out).1, came)

  -- so each successor is seen to, unless its move leads back
  successor_seen_to : (m : Move) (b' : BoardModel) (c : ℕ) → Moves role.task.rule b m b' c → IsSeenTo role (part_with_worker part done) b' (known.cost + c) ⊎ LeadsBack (part_with_worker part done) b known m
  unfolding offers
  successor_seen_to m b' c leads =
      ⊎_elim
      (λ (out : left_out ≡ Some m). left_out_seen_to m b' c leads out)
      (λ (among : Among offers (record { board = b'; cost = known.cost + c; via = m })). inl (offer_seen_to (record { board = b'; cost = known.cost + c; via = m }) among))
      (offers_but role.task is.task b open_at.board known.cost left_out m b' c leads)

  offer_made : (offer : Item) → Among offers offer → IsMade role done offer.board offer.cost offer.via
  unfolding offers
  offer_made offer among =
      let from = offered_by role.task is.task b open_at.board known.cost (moves_but left_out) offer among in
      let before = lower b known open_at.knows in
      inr (b, from.0, before.0, open_at.board, from.1, before.1, omega (arith, before.2, from.2))

  board_of : (offer : Item) → Among offers offer → IsTaskBoard role.task offer.board
  unfolding offers
  board_of offer among = (offered_board_by role.task is.task b open_at.board known.cost (moves_but left_out) offer among).0

  -- what is known after: what was known, the board itself, or an own offer
  IsNew : ℕ → Known → Type 0
  IsNew key now = ((key ≡ search_key b) × (now ≡ record known { expanded = true })) ⊎ ((offer : Item) × Among offers offer × (key ≡ search_key offer.board) × (now ≡ entry offer))

  done_before : (key : ℕ) (now : Known) → map.get done.known key ≡ Some now → (map.get part.worker.known key ≡ Some now) ⊎ IsNew key now
  unfolding done offers marked IsNew
  done_before key now at =
      ⊎_elim
      (λ same.
      ⊎_elim (λ same'. inl (sym same' ∙ sym same ∙ at))
      (λ new. let e : Some now ≡ Some (record known { expanded = true }) = sym at ∙ same ∙ new.1 in inr (inl (new.0, cc)))
      (with_insert part.worker.known (search_key b) key (record known { expanded = true })))
      (λ new. let e : Some now ≡ Some (entry new.0) = sym at ∙ new.4 in inr (inr (new.0, new.1, new.3, cc)))
      (all_known role offers marked key)

  board_founded : IsFounded role (part_with_worker part done) b (record known { expanded = true })
  board_founded = record {
    origin = origin_kept role part done remembers b known.cost known.via (keeps.origins b known open_at.board open_at.knows);
    closed = λ closed. (open_at.no_goal, successor_seen_to);
  }

  offer_founded : (offer : Item) → Among offers offer → IsFounded role (part_with_worker part done) offer.board (entry offer)
  offer_founded offer among = record { origin = inl (offer_made offer among); closed = λ closed. absurd (true≢false (sym closed)) }

  new_founded : (x : BoardModel) (now : Known) → IsTaskBoard role.task x → IsNew (search_key x) now → IsFounded role (part_with_worker part done) x now
  unfolding IsNew
  new_founded x now board (inl (same, new)) =
      let here = same_search_key role.task x b board open_at.board same in
      subst (λ (y : BoardModel × Known). IsFounded role (part_with_worker part done) y.0 y.1) (λ t. (sym here t, sym new t)) board_founded
  new_founded x now board (inr (offer, among, same, new)) =
      let here = same_search_key role.task x offer.board board (board_of offer among) same in
      subst (λ (y : BoardModel × Known). IsFounded role (part_with_worker part done) y.0 y.1) (λ t. (sym here t, sym new t)) (offer_founded offer among)

  founded : (x : BoardModel) (now : Known) → IsTaskBoard role.task x → KnowsAs done x now → KnowsAs part.worker x now ⊎ IsFounded role (part_with_worker part done) x now
  founded x now board knows = ⊎_elim (λ old. inl old) (λ (new : IsNew (search_key x) now). inr (new_founded x now board new)) (done_before (search_key x) now knows)

  items : (to : ℕ) (item : Item) → HasUnsent done to item → HasUnsent part.worker to item ⊎ IsMade role done item.board item.cost item.via
  unfolding done offers marked
  items to item has = ⊎_elim (λ old. inl old) (λ new. inr (offer_made item new.0)) (all_back role offers marked lists to item has)

  -- a worker with a board to expand is not at rest
  not_resting : ¬ HasNothingBelow role.task part.worker (limit_of part.worker.best) → done.purse ≡ 0 → IsIdle role.task done (limit_of done.best) done.best
  unfolding done offers marked
  not_resting busy none = absurd (busy (keeps.resting (sym (all_rest role offers marked).0 ∙ none)).no_board)

  expanded_kept : ¬ HasNothingBelow role.task part.worker (limit_of part.worker.best) → known.cost + role.task.sum b ≤ GREATEST_EXPANDED_COST → ¬ IsOverfull (expansion_by (moves_but left_out) role part.worker b known) → Keeps n role (part_with_worker part (expansion_by (moves_but left_out) role part.worker b known))
  unfolding done
  expanded_kept busy low room = worker_kept role part done remembers n is keeps (record {
    shaped = done_shaped low room;
    few_held = subst (λ (xs : List Item). length xs ≤ PACKET_LIMIT) (sym held_is) keeps.few_held;
    known = founded;
    items = items;
    held = λ item has. subst (λ (xs : List Item). Contains xs item) held_is has;
    settled = λ item has mine. inr (subst (λ (xs : List Item). Contains xs item) (sym held_is) has);
    resting = not_resting busy;
  })

-- what is left out by a step onward is the move back, at a cost above 0
back_left_out : (known : Known) (m : Move) → move_back known ≡ Some m → (0 < known.cost) × (m ≡ opposite known.via)
back_left_out known m out = by_cost (cases_eq known.cost 0)
  where
    by_cost : (known.cost ≡ 0) ⊎ (known.cost ≢ 0) → (0 < known.cost) × (m ≡ opposite known.via)
    by_cost (inl none) = let is : ◌≡◌ {A = Option Move} None (Some m) = sym (cond-true _ _ _ (eq-eqb known.cost 0 none)) ∙ out in cc
    by_cost (inr some) =
        let is : Some (opposite known.via) ≡ Some m = sym (cond-false _ _ _ (ne_eqb known.cost 0 some)) ∙ out in
        let same : opposite known.via ≡ m = cc in
        (omega (arith, some), sym same)

-- a step that leaves out what may be is kept
kept_by : (n : ℕ) (role : Role) (part : PartState) (answer : Option Refusal) (worker : WorkerState) (left_out : Known → Option Move) → ((known : Known) (m : Move) → left_out known ≡ Some m → (0 < known.cost) × (m ≡ opposite known.via)) → IsRole n role → Keeps n role part → ExpandStepBy (λ known. moves_but (left_out known)) role (turn part.worker answer worker) → Keeps n role (part_with_worker part worker)
kept_by n role part answer worker left_out back is keeps step =
    ⊎_elim (λ (out : IsLeft (turn part.worker answer worker)). subst (λ x. Keeps n role (part_with_worker part x)) (sym out.1.1) keeps)
    (λ (done : (answer ≡ None) × ExpandsBy (λ known. moves_but (left_out known)) role part.worker worker).
    let s = done.1 in
    subst (λ x. Keeps n role (part_with_worker part x)) (sym s.is)
    (expanded_kept n role part is keeps s.board s.known s.next.opens (left_out s.known) (back s.known) s.busy (expanded_low role.task part.worker s.board s.known s.busy s.next) s.room))
    (expand_cases_by (λ known. moves_but (left_out known)) role (turn part.worker answer worker) step)

pub expanding_kept : ExpandingIsKept
expanding_kept n role part answer worker is keeps (inl step) = kept_by n role part answer worker (λ known. None) (λ known m out. cc) is keeps step
expanding_kept n role part answer worker is keeps (inr step) = kept_by n role part answer worker move_back back_left_out is keeps step

-- ---- a part that settles or drops its last item keeps what it keeps

-- the last item held is taken out
module _ (n : ℕ) (role : Role) (part : PartState) (is : IsRole n role) (keeps : Keeps n role part) (front : List Item) (last : Item) (held : part.worker.held ≡ front ++ last ∷ []) where
  last_held : Contains part.worker.held last
  last_held = subst (λ xs. Contains xs last) (sym held) (Contains-push front last)

  front_held : (item : Item) → Contains front item → Contains part.worker.held item
  front_held item has = subst (λ xs. Contains xs item) (sym held) (Contains-append_left front (last ∷ []) item has)

  held_cases : (item : Item) → Contains part.worker.held item → Contains front item ⊎ (last ≡ item)
  held_cases item has = Contains-push_cases front last item (subst (λ xs. Contains xs item) held has)

  few_front : length front ≤ PACKET_LIMIT
  few_front = let few = keeps.few_held in omega (arith, few, ap length held, length-append front (last ∷ []))

  -- a worker that holds something has a purse
  settled_not_resting : (worker : WorkerState) → worker.purse ≡ part.worker.purse → worker.purse ≡ 0 → IsIdle role.task worker (limit_of worker.best) worker.best
  settled_not_resting worker same none = absurd (none_in_empty part.worker.held last (keeps.resting (sym same ∙ none)).holds_nothing last_held)

  dropped_kept : (IsItemFor role.task role.owner role.me last → ⊥) → Keeps n role (part_with_worker part (record part.worker { held = front }))
  dropped_kept foreign = worker_kept role part (record part.worker { held = front })
      (record { lower = λ b known knows. (known, knows, omega arith); unsent = λ to item has. has })
      n is keeps
      (record {
        shaped = keeps.shaped;
        few_held = few_front;
        known = λ b known board knows. inl knows;
        items = λ to item has. inl has;
        held = front_held;
        settled = λ item has mine. ⊎_elim (λ there. inr there) (λ (same : last ≡ item). absurd (foreign (subst (IsItemFor role.task role.owner role.me) (sym same) mine))) (held_cases item has);
        resting = settled_not_resting (record part.worker { held = front }) refl;
      })

  module _ (mine : IsItemFor role.task role.owner role.me last) where
    settled : WorkerState
    settled = record part.worker { held = front; known = relaxation part.worker.known last }

    alone : IsPacketFor role.task role.owner role.me (last ∷ [])
    alone = record {
      few = omega arith;
      items = λ item has. ⊎_elim (λ (same : last ≡ item). subst (IsItemFor role.task role.owner role.me) same mine) (λ none. absurd (none_in item none)) (cons_cases last [] item has);
    }

    shaped : IsShapedWorker n role (record settled { held = [] })
    unfolding settled
    shaped = shaped_settled n role (record part.worker { held = last ∷ [] }) (shaped_delivered n role (record part.worker { held = [] }) keeps.shaped (last ∷ []) part.worker.purse alone) [] last refl

    settled_lower : (b : BoardModel) (known : Known) → KnowsAs part.worker b known → KnowsAtMost settled b known.cost
    unfolding settled
    settled_lower b known knows =
        ⊎_elim (λ same. (known, same ∙ knows, omega arith)) (λ new. (entry last, new.1, new.2 known knows))
        (lowered_by (map.get part.worker.known (search_key last.board)) part.worker.known last refl (search_key b))

    last_founded : IsFounded role (part_with_worker part settled) last.board (entry last)
    last_founded = record { origin = inr (last, keeps.held last last_held, refl, refl, refl); closed = λ closed. absurd (true≢false (sym closed)) }

    settled_founded : (b : BoardModel) (known : Known) → IsTaskBoard role.task b → KnowsAs settled b known → KnowsAs part.worker b known ⊎ IsFounded role (part_with_worker part settled) b known
    unfolding settled
    settled_founded b known board knows =
        ⊎_elim (λ same. inl (sym same ∙ knows))
        (λ new.
        let e : Some known ≡ Some (entry last) = sym knows ∙ new.1 in
        let as_last : known ≡ entry last = cc in
        let there = same_search_key role.task b last.board board mine.0 new.0 in
        inr (subst (λ (x : BoardModel × Known). IsFounded role (part_with_worker part settled) x.0 x.1) (λ t. (sym there t, sym as_last t)) last_founded))
        (lowered_by (map.get part.worker.known (search_key last.board)) part.worker.known last refl (search_key b))

    last_known : KnowsAtMost settled last.board last.cost
    unfolding settled
    last_known = lowered_there (map.get part.worker.known (search_key last.board)) part.worker.known last refl

    settled_kept : Keeps n role (part_with_worker part (record part.worker { held = front; known = relaxation part.worker.known last }))
    unfolding settled
    settled_kept = worker_kept role part settled
        (record { lower = settled_lower; unsent = λ to item has. has })
        n is keeps
        (record {
          shaped = shaped;
          few_held = few_front;
          known = settled_founded;
          items = λ to item has. inl has;
          held = front_held;
          settled = λ item has own. ⊎_elim (λ there. inr there) (λ (same : last ≡ item). inl (subst (λ (x : Item). KnowsAtMost settled x.board x.cost) same last_known)) (held_cases item has);
          resting = settled_not_resting settled refl;
        })

pub settling_kept : SettlingIsKept
settling_kept n role part answer worker is keeps own step =
    ⊎_elim (λ (out : IsLeft (turn part.worker answer worker)). subst (λ x. Keeps n role (part_with_worker part x)) (sym out.1.1) keeps)
    (λ (done : (answer ≡ None) × Settles part.worker worker).
    let s = done.1 in
    subst (λ x. Keeps n role (part_with_worker part x)) (sym s.is) (settled_kept n role part is keeps s.front s.last s.held (own s.front s.last s.held)))
    (settle_cases (turn part.worker answer worker) step)

pub dropping_kept : DroppingIsKept
dropping_kept n role part worker is keeps (front, last, held, foreign, new) = subst (λ x. Keeps n role (part_with_worker part x)) (sym new) (dropped_kept n role part is keeps front last held foreign)
