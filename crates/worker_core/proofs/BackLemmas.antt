-- The board that is expanded: its move back, which may be left out, what its other moves offer, and the room that these need.
use Rattle.std.proofs.Common.{true, false, ◌≡◌, ◌≢◌, ℕ, ◌+◌, ◌<◌, ◌≤◌, [], ◌∷◌, Option, Some, None, refl, sym, ap, ◌∙◌, subst, inl, inr, ⊎_elim, arith, ◌⊎◌, zero, suc, Bool, eqb, cond, List, ◌++◌, length, get_or, set}
use Rattle.std.specs.Prelude.{⊤, IfSome, filter_map, fold, option_map, Any, slice_get, unwrap_or}
use Rattle.std.specs.FinMap as map
use Rattle.std.proofs.lemmas.Bool.{cases_Bool, cases_eq, cond-true, cond-false, eq-eqb, le-ltb, ne_eqb, cases_lt, eqb-true, eqb-false}
use Rattle.std.proofs.lemmas.List.{length-set, get_or-set_same}
use Rattle.std.proofs.lemmas.List.Elements.{All-append}
use Rattle.std.proofs.lemmas.Option.{slice_get-get_or, get_or_from_slice_get, slice_get_read, slice_get_within, unwrap_or-slice_get}
use Rattle.board.specs.declared.moves.Move.{Move}
use Rattle.board.specs.declared.moves.Move.TheVariants.{U, L, R, D}
use Rattle.board.specs.Equality.{move_eq, moves_Decide}
use Rattle.search_keys.specs.SearchKeys.{search_key, HasSearchKey}
use Rattle.board.specs.Moves.{Moves, successor}
use Rattle.board.specs.Neighbours.{opposite}
use Rattle.board.specs.Boards.{BoardModel, IsBoard}
use Rattle.board.proofs.MoveLemmas.{taken_back}
use Rattle.board.proofs.NeighbourLemmas.{successor_moves}
use Rattle.board.specs.Shapes.{ShapeModel}
use Rattle.board.specs.declared.costs.TheConstants.{GREATEST_EXPANDED_COST}
use Rattle.outcomes.specs.Outcomes.{Task}
use Rattle.successor_sums.specs.Unpacked.{but}
use Rattle.world_model.specs.declared.parts.Item.{Item}
use Rattle.world_model.specs.declared.parts.Known.{Known}
use Rattle.world_model.specs.Expansions.{with_closure, with_successor, expansion, expansion_by, move_back, moves_but}
use Rattle.world_model.specs.Knowledge.{Knowledge, is_news, relaxation}
use Rattle.world_model.specs.declared.steps.Refusal.{Refusal}
use Rattle.world_model.specs.declared.steps.Refusal.TheVariants.{NoRoom}
use Rattle.world_model.specs.Turns.{Becomes, Turn, Unless, turn}
use Rattle.world_model.specs.WorkerSteps.{ExpandOnwardStep, ExpandStep, ExpandStepBy, IsOverfull, WithMemory}
use Rattle.world_model.specs.Workers.{WorkerState, Role, KnowsAs, IsNext, Packet, HasNothingBelow}
use Rattle.world_model.proofs.ExpandLemmas.{all_lower}
use Rattle.world_model.proofs.ChangeLemmas.{with_insert}
use Rattle.world_model.specs.declared.limits.TheConstants.{PACKET_LIMIT}
use Rattle.world_model.specs.Costs.{limit_of}
use Rattle.open_buckets.specs.declared.open.TheConstants.{GREATEST_F}
use Rattle.closed_table.specs.Tables.{ClosedModel}
use Rattle.search_lists.specs.Lists.{SearchListsModel, HasMoreRoom}
use Rattle.search_lists.specs.declared.lists.Next.{Next}
use Rattle.search_lists.specs.Orders.{Guide, IsInOrder, IsLeastOpen, IsWaiting}
use Rattle.search_lists.proofs.OrderLemmas.{order_with_room}
use Rattle.owners.specs.Offers.{item_by, Offers, IsOffered, AreOffered, OfEach, IsWithin}
use Rattle.owners.specs.declared.offer.Offer.{Offer}
use Rattle.owners.specs.Room.{goes, go, HasRoom}
use Rattle.worker_core.specs.Expanding.{all_taken, taken, role_by, AddsUpBy, left_out_by, ExpandStepFor, OnwardStepsAloneAreWhole}
use Rattle.worker_core.specs.declared.expanding.Successors.{Successors}
use Rattle.worker_core.specs.declared.expanding.Successors.TheVariants.{All, Onward}
use Rattle.owners.specs.Terms.{TermsModel}
use Rattle.std.specs.List as list
use Rattle.worker_core.specs.Ahead.{AddsUpAs, AreOffersOf, IsFoundAhead, IsOf}
use Rattle.worker_core.specs.declared.ahead.Found.{Found}
use Rattle.worker_core.specs.Contexts.{ContextModel, role_from, task_from}
use Rattle.worker_core.specs.Roles.{WereReached, IsGuided}
use Rattle.worker_core.proofs.ExpandLemmas.{in_four, one_first, is_next, all_add, if_some, put_there, put_elsewhere, guided_same, restarted}
use Rattle.worker_core.proofs.GuideLemmas.{some_below}

-- ---- the move back from a board that is expanded: what it leads to is no news, so it may be left out; what is left out

-- What a move that is left out leads to is no news: a board that the worker owns, and knows at no more than it would be met at.
abbrev IsNoNews : Role → WorkerState → BoardModel → Known → Option Move → Type 0
IsNoNews role worker b known None = ⊤
IsNoNews role worker b known (Some back) =
    (before : BoardModel) × (c : ℕ) × (first : Known) × (successor role.task.rule b back ≡ Some (before, c)) × (role.owner before ≡ role.me) × KnowsAs worker before first × (first.cost ≤ known.cost + c)

module _ (role : Role) (b : BoardModel) (cost : ℕ) (back : Move) (before : BoardModel) (c : ℕ) (leads : successor role.task.rule b back ≡ Some (before, c)) (own : role.owner before ≡ role.me) where
  abbrev items : Move → Option Item
  items = item_by role.task.rule b cost

  abbrev item_back : Item
  item_back = record { board = before; cost = cost + c; via = back }

  -- the worker knows the board at no more than it is met at
  abbrev IsLow : WorkerState → Type 0
  IsLow w = (old : Known) × (map.get w.known (search_key before) ≡ Some old) × (old.cost ≤ cost + c)

  no_news : (known : Knowledge) (old : Known) → map.get known (search_key before) ≡ Some old → old.cost ≤ cost + c → relaxation known item_back ≡ known
  no_news known old at low =
      let is : is_news (map.get known (search_key before)) (cost + c) ≡ false = ap (λ (o : Option Known). is_news o (cost + c)) at ∙ le-ltb (cost + c) old.cost low in
      cond-false _ _ _ is

  -- so it changes nothing
  still : (w : WorkerState) → IsLow w → taken role w (items back) ≡ w
  still w low =
      ap (λ (o : Option (BoardModel × ℕ)). taken role w (option_map (λ (next : BoardModel × ℕ). record { board = next.0; cost = cost + next.1; via = back }) o)) leads
      ∙ cond-true _ _ _ (eq-eqb (role.owner before) role.me own)
      ∙ ap (λ (known : Knowledge). record w { known = known }) (no_news w.known low.0 low.1 low.2)

  -- and what is known stays as cheap
  stays_low : (w : WorkerState) (item : Option Item) → IsLow w → IsLow (taken role w item)
  stays_low w None low = low
  stays_low w (Some other) low =
      let now = all_lower role (other ∷ []) w (search_key before) low.0 low.1 in
      let le = low.2 in
      let le' = now.2 in
      (now.0, now.1, omega (arith, le, le'))

  one_same : (w : WorkerState) (m : Move) → IsLow w → taken role w (items m) ≡ taken role w (but (Some back) items m)
  one_same w m low =
      ⊎_elim
      (λ (out : move_eq back m ≡ true).
      ap (λ (k : Move). taken role w (items k)) (sym ((moves_Decide back m).0 out))
      ∙ still w low
      ∙ ap (taken role w) (sym (cond-true _ None (items m) out)))
      (λ (stays : move_eq back m ≡ false). ap (taken role w) (sym (cond-false _ None (items m) stays)))
      (cases_Bool (move_eq back m))

  pub four_same : (w : WorkerState) → IsLow w → all_taken role w items ≡ all_taken role w (but (Some back) items)
  four_same w low =
      let kept = but (Some back) items in
      let one = taken role w (items U) in
      let two = taken role one (items L) in
      let three = taken role two (items R) in
      let low1 = stays_low w (items U) low in
      let low2 = stays_low one (items L) low1 in
      let low3 = stays_low two (items R) low2 in
      one_same three D low3
      ∙ ap (λ (x : WorkerState). taken role x (kept D)) (one_same two R low2)
      ∙ ap (λ (x : WorkerState). taken role (taken role x (kept R)) (kept D)) (one_same one L low1)
      ∙ ap (λ (x : WorkerState). taken role (taken role (taken role x (kept L)) (kept R)) (kept D)) (one_same w U low)

-- the board is known as cheaply after the one that is expanded was closed
low_closed : (worker : WorkerState) (b : BoardModel) (known : Known) (key c : ℕ) (first : Known) → map.get worker.known key ≡ Some first → first.cost ≤ known.cost + c → (old : Known) × (map.get (with_closure worker b known).known key ≡ Some old) × (old.cost ≤ known.cost + c)
low_closed worker b known key c first at low =
    ⊎_elim
    (λ same. (first, same ∙ at, low))
    (λ new. (record known { expanded = true }, new.1, omega arith))
    (with_insert worker.known (search_key b) key (record known { expanded = true }))

-- three moves are left
three_taken : (role : Role) (worker : WorkerState) (items : Move → Option Item) (x y z : Move) → fold (with_successor role) worker (filter_map items (x ∷ y ∷ z ∷ [])) ≡ taken role (taken role (taken role worker (items x)) (items y)) (items z)
three_taken role worker items x y z =
    one_first role worker (items x) _
    ∙ one_first role (taken role worker (items x)) (items y) _
    ∙ one_first role (taken role (taken role worker (items x)) (items y)) (items z) []

-- an expansion by the moves without the one that is left out, if any
pub in_four_by : (role : Role) (worker : WorkerState) (b : BoardModel) (known : Known) (left_out : Option Move) → expansion_by (moves_but left_out) role worker b known ≡ all_taken role (with_closure worker b known) (but left_out (item_by role.task.rule b known.cost))
in_four_by role worker b known None = in_four role worker b known
in_four_by role worker b known (Some U) = three_taken role (with_closure worker b known) (item_by role.task.rule b known.cost) L R D
in_four_by role worker b known (Some L) = three_taken role (with_closure worker b known) (item_by role.task.rule b known.cost) U R D
in_four_by role worker b known (Some R) = three_taken role (with_closure worker b known) (item_by role.task.rule b known.cost) U L D
in_four_by role worker b known (Some D) = three_taken role (with_closure worker b known) (item_by role.task.rule b known.cost) U L R

-- an expansion, where what is no news is left out
in_four_but : (role : Role) (worker : WorkerState) (b : BoardModel) (known : Known) (left_out : Option Move) → IsNoNews role worker b known left_out → expansion role worker b known ≡ all_taken role (with_closure worker b known) (but left_out (item_by role.task.rule b known.cost))
in_four_but role worker b known None none = in_four role worker b known
in_four_but role worker b known (Some back) (before, c, first, leads, own, knows, low) =
    in_four role worker b known
    ∙ four_same role b known.cost back before c leads own (with_closure worker b known) (low_closed worker b known (search_key before) c first knows low)

-- ---- the move back

-- where the worker owns all boards, and each was reached from a known one, the move back leads to no news
back_is_no_news : (role : Role) (worker : WorkerState) (b : BoardModel) (known : Known) (left_out : Option Move) → ((p : BoardModel) → role.owner p ≡ role.me) → IsBoard b → b.grid ≡ role.task.rule.grid → KnowsAs worker b known → IfSome left_out (λ back. WereReached role.task.rule worker.known × (0 < known.cost) × (back ≡ opposite known.via)) → IsNoNews role worker b known left_out
back_is_no_news role worker b known None all board sides knows is = tt
back_is_no_news role worker b known (Some back) all board sides knows (reached, later, is) =
    let from = reached b known board sides knows later in
    let before = from.0 in
    let c = from.1 in
    let moves : Moves role.task.rule b back before c = subst (λ (m : Move). Moves role.task.rule b m before c) (sym is) (taken_back role.task.rule before known.via b c from.3 from.4) in
    let low = from.6 in
    (before, c, from.2, (successor_moves role.task.rule b back before c board).1 moves, all before, from.5, omega (arith, low))

-- the move back, where there is one, is from a cost above 0
back_has : (known : Known) (P : Move → Type 0) → (0 < known.cost → P (opposite known.via)) → IfSome (move_back known) P
back_has known P is =
    ⊎_elim
    (λ (none : known.cost ≡ 0). subst (λ (o : Option Move). IfSome o P) (sym (cond-true _ _ _ (eq-eqb known.cost 0 none))) tt)
    (λ (some : known.cost ≢ 0). subst (λ (o : Option Move). IfSome o P) (sym (cond-false _ _ _ (ne_eqb known.cost 0 some))) (is (omega (arith, some))))
    (cases_eq known.cost 0)

-- what is left of a step once the worker is known that it makes
abbrev Leaves : Turn WorkerState Refusal → WorkerState → Type 0
Leaves it made = Unless it (IsOverfull made) NoRoom (WithMemory it (Becomes it made))

module _ (role : Role) (worker : WorkerState) (sides : role.task.rule.grid ≡ role.task.goal.grid) (all : (p : BoardModel) → role.owner p ≡ role.me) (reached : WereReached role.task.rule worker.known) where
  same_expansion : (b : BoardModel) (known : Known) → IsNext role.task worker b known → expansion_by (moves_but (move_back known)) role worker b known ≡ expansion role worker b known
  same_expansion b known next =
      let no_news =
      back_is_no_news role worker b known (move_back known) all next.opens.board.0 (next.opens.board.1 ∙ sym sides) next.opens.knows
      (back_has known (λ back. WereReached role.task.rule worker.known × (0 < known.cost) × (back ≡ opposite known.via)) (λ later. (reached, later, refl))) in
      in_four_by role worker b known (move_back known) ∙ sym (in_four_but role worker b known (move_back known) no_news)

  alone_step : (answer : Option Refusal) (worker' : WorkerState) → ExpandOnwardStep role (turn worker answer worker') → ExpandStep role (turn worker answer worker')
  alone_step answer worker' (inl out) = inl out
  alone_step answer worker' (inr (busy, inl out)) = inr (busy, inl out)
  alone_step answer worker' (inr (busy, inr (left, (b, known, next, rest)))) =
      inr (busy, inr (left, (b, known, next, subst (Leaves (turn worker answer worker')) (same_expansion b known next) rest)))

-- so one worker expands a board by all moves where it leaves the one back out
pub onward_is_whole : OnwardStepsAloneAreWhole
onward_is_whole role it sides all reached step = alone_step role it.before sides all reached it.answer it.after step

-- the step by the moves that are not left out
pub step_for : (successors : Successors) (role : Role) (it : Turn WorkerState Refusal) → ExpandStepBy (λ known. moves_but (left_out_by successors known)) role it → ExpandStepFor successors role it
step_for All role it step = step
step_for Onward role it step = step

-- the same, where what is lent was read
pub step_lent : {S : Type 0} (owner_of : S → ℕ → BoardModel → ℕ) (start : BoardModel) (successors : Successors) (read context : ContextModel S) → read ≡ context → (it : Turn WorkerState Refusal) → ExpandStepBy (λ known. moves_but (left_out_by successors known)) (role_from owner_of start read) it → ExpandStepFor successors (role_from owner_of start context) it
step_lent {S} owner_of start successors read context same it step =
    step_for successors (role_from owner_of start context) it (subst (λ (x : ContextModel S). ExpandStepBy (λ known. moves_but (left_out_by successors known)) (role_from owner_of start x) it) same step)

pub guided_read : {S : Type 0} (start start' : BoardModel) (read context : ContextModel S) → read ≡ context → (guide : Guide) (lists : SearchListsModel) → IsGuided (task_from start context) guide lists → IsGuided (task_from start' read) guide lists
guided_read {S} start start' read context same guide lists is =
    restarted start start' read.goal read.rule read.tables guide lists (subst (λ (x : ContextModel S). IsGuided (task_from start x) guide lists) (sym same) is)

-- ---- how many items each packet has after an expansion: one item

-- the worker with an item more that is its own, or another's
abbrev with_item : WorkerState → Item → ℕ → Bool → WorkerState
with_item worker item owned mine = cond mine (record worker { known = relaxation worker.known item }) (record worker { unsent = set worker.unsent owned (unwrap_or (slice_get worker.unsent owned) [] ++ item ∷ []) })

sent_by : (worker : WorkerState) (item : Item) (owned to : ℕ) (mine there : Bool) → eqb owned to ≡ there → owned < length worker.unsent → length (get_or (with_item worker item owned mine).unsent to []) ≡ length (get_or worker.unsent to []) + cond {A = ℕ} mine 0 (cond {A = ℕ} there 1 0)
sent_by worker item owned to true there e within = omega arith
sent_by worker item owned to false true e within =
    let same : owned ≡ to = eqb-true owned to e in
    let read = ap (λ (p : Packet). length (get_or (set worker.unsent owned (p ++ item ∷ [])) owned [])) (unwrap_or-slice_get worker.unsent owned []) in
    subst (λ (k : ℕ). length (get_or (with_item worker item owned false).unsent k []) ≡ length (get_or worker.unsent k []) + 1) same (read ∙ put_there worker.unsent owned item within)
sent_by worker item owned to false false e within =
    let other : to ≢ owned = λ same. eqb-false owned to e (sym same) in
    let read = ap (λ (p : Packet). length (get_or (set worker.unsent owned (p ++ item ∷ [])) to [])) (unwrap_or-slice_get worker.unsent owned []) in
    let is = put_elsewhere worker.unsent owned to item other in
    omega (arith, read, is)

lists_by : (worker : WorkerState) (item : Item) (owned : ℕ) (mine : Bool) → length (with_item worker item owned mine).unsent ≡ length worker.unsent
lists_by worker item owned true = refl
lists_by worker item owned false = length-set worker.unsent owned (unwrap_or (slice_get worker.unsent owned) [] ++ item ∷ [])

-- the packets are as many, and the one that the item goes to has one more
pub after_one : (role : Role) (worker : WorkerState) (n : ℕ) (sum : BoardModel → ℕ) (item : Option Item) (offer : Option Offer) → IsOffered sum role.owner item offer → IfSome offer (λ some. some.owner < n) → length worker.unsent ≡ n → (length (taken role worker item).unsent ≡ n) × ((to : ℕ) → length (get_or (taken role worker item).unsent to []) ≡ length (get_or worker.unsent to []) + goes role.me to offer)
after_one role worker n sum None None offered within lists = (lists, λ to. omega arith)
after_one role worker n sum None (Some offer) offered within lists = absurd offered
after_one role worker n sum (Some item) None offered within lists = absurd offered
after_one role worker n sum (Some item) (Some offer) offered within lists =
    let owned = role.owner item.board in
    let inside : owned < length worker.unsent = subst (λ (x : ℕ × ℕ). x.0 < x.1) (λ t. (offered.owned t, sym lists t)) within in (
      lists_by worker item owned (eqb owned role.me) ∙ lists,
      λ to.
          sent_by worker item owned to (eqb owned role.me) (eqb owned to) refl inside
          ∙ ap (λ (k : ℕ). length (get_or worker.unsent to []) + cond {A = ℕ} (eqb k role.me) 0 (cond {A = ℕ} (eqb k to) 1 0)) (sym offered.owned),
    )

-- ---- packets with too many

full_below : (len : ℕ → ℕ) (n : ℕ) → ((to : ℕ) × (to < n) × (PACKET_LIMIT < len to)) ⊎ ((to : ℕ) → to < n → len to ≤ PACKET_LIMIT)
full_below len zero = inr (λ to lt. absurd (omega (arith, lt)))
full_below len (suc n) =
    ⊎_elim
    (λ some. inl (some.0, (let lt = some.1 in omega (arith, lt)), some.2))
    (λ (all : (to : ℕ) → to < n → len to ≤ PACKET_LIMIT).
    ⊎_elim
    (λ (more : PACKET_LIMIT < len n). inl (n, (omega arith), more))
    (λ (low : len n ≤ PACKET_LIMIT). inr (λ to lt. ⊎_elim (λ (is : to ≡ n). subst (λ (k : ℕ). len k ≤ PACKET_LIMIT) (sym is) low) (λ (other : to ≢ n). all to (omega (arith, lt, other))) (cases_eq to n)))
    (cases_lt PACKET_LIMIT (len n)))
    (full_below len n)

any_at : (xs : List Packet) (to : ℕ) → to < length xs → PACKET_LIMIT < length (get_or xs to []) → Any (λ (p : Packet). PACKET_LIMIT < length p) xs
any_at xs to lt more = (to, get_or xs to [], lt, get_or_from_slice_get xs to (get_or xs to []) (get_or xs to []) (slice_get-get_or xs to [] lt), more)

at_any : (xs : List Packet) → Any (λ (p : Packet). PACKET_LIMIT < length p) xs → (to : ℕ) × (to < length xs) × (PACKET_LIMIT < length (get_or xs to []))
at_any xs any =
    let is : get_or xs any.0 [] ≡ any.1 = get_or_from_slice_get xs any.0 any.1 [] (slice_get_read xs (length xs) any.0 any.1 refl any.2 (sym any.3)) in
    (any.0, any.2, subst (λ (p : Packet). PACKET_LIMIT < length p) (sym is) any.4)

-- ---- an expansion

module _ (role : Role) (worker : WorkerState) (b : BoardModel) (known : Known) (left_out : Option Move) (sum : BoardModel → ℕ) (offers : Offers) (offered : AreOffered sum role.owner (but left_out (item_by role.task.rule b known.cost)) offers) (grid : ShapeModel) (n : ℕ) (within : OfEach (IsWithin grid known.cost n) offers) (lists : length worker.unsent ≡ n) where
  abbrev items_left : Move → Option Item
  items_left = but left_out (item_by role.task.rule b known.cost)

  abbrev expanded : WorkerState
  expanded = taken role (taken role (taken role (taken role (with_closure worker b known) (items_left U)) (items_left L)) (items_left R)) (items_left D)

  one_within : (offer : Option Offer) → IfSome offer (IsWithin grid known.cost n) → IfSome offer (λ some. some.owner < n)
  one_within offer is = if_some (IsWithin grid known.cost n) (λ some. some.owner < n) (λ some in_it. in_it.owned) offer is

  lengths : (length expanded.unsent ≡ n) × ((to : ℕ) → length (get_or expanded.unsent to []) ≡ length (get_or worker.unsent to []) + go role.me to offers)
  lengths =
      let start = with_closure worker b known in
      let one = taken role start (items_left U) in
      let two = taken role one (items_left L) in
      let three = taken role two (items_left R) in
      let up = after_one role start n sum (items_left U) offers.up offered.up (one_within offers.up within.0) lists in
      let left = after_one role one n sum (items_left L) offers.left offered.left (one_within offers.left within.1) up.0 in
      let right = after_one role two n sum (items_left R) offers.right offered.right (one_within offers.right within.2) left.0 in
      let down = after_one role three n sum (items_left D) offers.down offered.down (one_within offers.down within.3) right.0 in
      (down.0, λ to. let x = up.1 to in let y = left.1 to in let z = right.1 to in let v = down.1 to in omega (arith, x, y, z, v))

  -- without room some packet gets too many
  pub overfull : ¬ HasRoom role.me worker.unsent offers → IsOverfull (expansion_by (moves_but left_out) role worker b known)
  overfull none =
      subst
      IsOverfull
      (sym (in_four_by role worker b known left_out))
      (⊎_elim
      (λ some. any_at expanded.unsent some.0 some.1 some.2)
      (λ (all : (to : ℕ) → to < length expanded.unsent → length (get_or expanded.unsent to []) ≤ PACKET_LIMIT).
      absurd (none (λ to lt. let e = lengths.1 to in let m = lengths.0 in let low = all to (omega (arith, lt, m, lists)) in omega (arith, e, low))))
      (full_below (λ to. length (get_or expanded.unsent to [])) (length expanded.unsent)))

  -- with room none does
  pub none_overfull : HasRoom role.me worker.unsent offers → ¬ IsOverfull (expansion_by (moves_but left_out) role worker b known)
  none_overfull room full =
      let some = at_any expanded.unsent (subst IsOverfull (in_four_by role worker b known left_out) full) in
      let m = lengths.0 in
      let lt = some.1 in
      let e = lengths.1 some.0 in
      let low = room some.0 (omega (arith, lt, m, lists)) in
      let more = some.2 in
      omega (arith, e, low, more)

-- ---- the board that is expanded, and what its moves offer

-- the board is to be expanded, and this is what its moves offer to this number of workers
pub record IsChosen (role : Role) (worker : WorkerState) (b : BoardModel) (known : Known) (successors : Successors) (left_out : Option Move) (offers : Offers) (workers : ℕ) : Type 0 where
  pub waits : ¬ HasNothingBelow role.task worker (limit_of worker.best)
  pub at : IsNext role.task worker b known
  pub left_out_is : left_out ≡ left_out_by successors known
  pub offered : AreOffered role.task.sum role.owner (but left_out (item_by role.task.rule b known.cost)) offers
  pub within : OfEach (IsWithin role.task.goal.grid known.cost workers) offers

pub chosen : (task : Task) (guide : Guide) (lists : SearchListsModel) (is : IsGuided task guide lists) (worker : WorkerState) (same : lists.closed.known ≡ worker.known) (owner_among : ℕ → BoardModel → ℕ) (n workers me : ℕ) (all : n ≡ workers) (limit : ℕ) (limit_is : limit ≡ limit_of worker.best) (next : Next) (first : IsLeastOpen guide lists.closed next) (below : next.f < limit) (b : BoardModel) (grid : ShapeModel) (sides : grid ≡ task.goal.grid) (has : HasSearchKey grid next.key b) (successors : Successors) (left_out : Option Move) (back : (known : Known) → known.cost ≡ next.cost → known.via ≡ next.via → left_out ≡ left_out_by successors known) (offers : Offers) (offered : AreOffered task.sum (λ p. owner_among n p) (but left_out (item_by task.rule b next.cost)) offers) (within : OfEach (IsWithin b.grid next.cost n) offers) → IsChosen (role_by task owner_among workers me) worker b first.opens.0 successors left_out offers workers
chosen task guide lists is worker same owner_among n workers me all limit limit_is next first below b grid sides has successors left_out back offers offered within = record {
  waits = λ none. some_below task guide lists worker same is limit next first below (subst (HasNothingBelow task worker) (sym limit_is) none);
  at = is_next task guide lists worker same is next first b (subst (λ (g : ShapeModel). HasSearchKey g next.key b) sides has);
  left_out_is = back first.opens.0 first.opens.2 first.opens.3;
  offered = subst (λ (x : ℕ × ℕ). AreOffered task.sum (λ p. owner_among x.0 p) (but left_out (item_by task.rule b x.1)) offers) (λ t. (all t, sym first.opens.2 t)) offered;
  within = subst (λ (x : ShapeModel × (ℕ × ℕ)). OfEach (IsWithin x.0 x.1.0 x.1.1) offers) (λ t. ((has.sides ∙ sides) t, (sym first.opens.2 t, all t))) within;
}

-- what is below the limit costs no more than a board that is expanded
pub cost_low : (guide : Guide) (closed : ClosedModel) (next : Next) (limit : ℕ) (best : Option ℕ) → IsLeastOpen guide closed next → next.f < limit → limit ≡ limit_of best → next.cost ≤ GREATEST_EXPANDED_COST
cost_low guide closed next limit best first below is =
    let adds = first.adds in
    let most = at_most best in
    omega (arith, adds, below, is, most)
  where
    at_most : (best : Option ℕ) → limit_of best ≤ GREATEST_EXPANDED_COST + 1
    at_most None = omega arith
    at_most (Some cost) = omega arith

-- what waits adds up, by the sum of its board
pub adds_up : {S : Type 0} (context : ContextModel S) (start : BoardModel) (guide : Guide) (lists : SearchListsModel) → IsGuided (task_from start context) guide lists → (next : Next) → IsWaiting lists next → next.f ≤ GREATEST_EXPANDED_COST → AddsUpAs context next
adds_up context start guide lists is next waits low =
    let at = is.boards next.key waits.known.0 waits.known.1 in
    let adds = is.order.adds next.f next.place next.cost waits.waits in
    let same : Some adds.0 ≡ Some next.key = sym adds.1 ∙ waits.place in
    let key : adds.0 ≡ search_key at.0 = (let k : adds.0 ≡ next.key = cc in k) ∙ sym at.2 in
    record {
      board = at.0;
      has = record { board = at.1.0; sides = at.1.1; packed = at.2 };
      adds = adds.3 ∙ ap (λ (k : ℕ). next.cost + k) (ap guide.sum key ∙ is.guides.sums at.0 at.1);
      low = low;
    }

-- and what is below the limit is low enough to be expanded
pub f_low : (next : Next) (limit : ℕ) (best : Option ℕ) → next.f < limit → limit ≡ limit_of best → next.f ≤ GREATEST_EXPANDED_COST
f_low next limit best below is =
    let most = at_most best in
    omega (arith, below, is, most)
  where
    at_most : (best : Option ℕ) → limit_of best ≤ GREATEST_EXPANDED_COST + 1
    at_most None = omega arith
    at_most (Some cost) = omega arith

-- what was found for one board is what the moves from it offer
pub offers_of_it : {S : Type 0} (owner_of : S → ℕ → BoardModel → ℕ) (terms : TermsModel S) (found : Found) (key cost : ℕ) (left_out : Option Move) → IsFoundAhead owner_of terms found → IsOf key cost left_out found → (offers : Offers) → offers ≡ found.offers → AreOffersOf owner_of terms key cost left_out offers
offers_of_it owner_of terms found key cost left_out is of offers same =
    subst (λ (x : ℕ × (ℕ × (Option Move × Offers))). AreOffersOf owner_of terms x.0 x.1.0 x.1.1.0 x.1.1.1) (λ t. (of.key_is t, (of.cost_is t, (of.left_out_is t, sym same t)))) is

-- what is read in a batch was found
pub found_at : {S : Type 0} (owner_of : S → ℕ → BoardModel → ℕ) (terms : TermsModel S) (batch : List Found) (place : ℕ) (found : Found) → list.All (IsFoundAhead owner_of terms) batch → slice_get batch place ≡ Some found → IsFoundAhead owner_of terms found
found_at owner_of terms batch place found all is =
    subst (IsFoundAhead owner_of terms) (get_or_from_slice_get batch place found found is) (all place found (slice_get_within batch place found is))

-- so this is offered where it was found for the board
pub found_of : {S : Type 0} (owner_of : S → ℕ → BoardModel → ℕ) (terms : TermsModel S) (batch : List Found) (place key cost : ℕ) (left_out : Option Move) → list.All (IsFoundAhead owner_of terms) batch → (found : Found) × (slice_get batch place ≡ Some found) × IsOf key cost left_out found → (offers : Offers) → (found : Found) × (slice_get batch place ≡ Some found) × (offers ≡ found.offers) → AreOffersOf owner_of terms key cost left_out offers
found_of owner_of terms batch place key cost left_out all it offers at =
    let same : Some it.0 ≡ Some at.0 = sym it.1 ∙ at.1 in
    let is : it.0 ≡ at.0 = cc in
    offers_of_it owner_of terms at.0 key cost left_out (found_at owner_of terms batch place at.0 all at.1) (subst (IsOf key cost left_out) is it.2) offers at.2

-- what is read where something was written is that
pub set_there : (xs : List Found) (i : ℕ) (v x : Found) → slice_get (set xs i v) i ≡ Some x → x ≡ v
set_there xs i v x at =
    let inner = slice_get_within (set xs i v) i x at in
    let same = length-set xs i v in
    let lt : i < length xs = omega (arith, inner, same) in
    sym (get_or_from_slice_get (set xs i v) i x v at) ∙ get_or-set_same xs i v v lt

-- what all have, and one more, all of these have
pub all_pushed : {X : Type 0} (P : X → Type 0) (xs ys : List X) (x : X) → list.All P xs → P x → ys ≡ xs ++ x ∷ [] → list.All P ys
all_pushed P xs ys x all one is = subst (list.All P) (sym is) (All-append P xs (x ∷ []) all (single one))
  where
    single : P x → list.All P (x ∷ [])
    single has zero d within = has
    single has (suc k) d within = absurd (omega (arith, within))

-- so what is offered can wait
pub all_low : (grid : ShapeModel) (cost n : ℕ) (offers : Offers) → cost ≤ GREATEST_EXPANDED_COST → OfEach (IsWithin grid cost n) offers → OfEach (λ offer. offer.f ≤ GREATEST_F) offers
all_low grid cost n offers low within =
    (one offers.up within.0, one offers.left within.1, one offers.right within.2, one offers.down within.3)
  where
    one : (offer : Option Offer) → IfSome offer (IsWithin grid cost n) → IfSome offer (λ some. some.f ≤ GREATEST_F)
    one offer is = if_some (IsWithin grid cost n) (λ some. some.f ≤ GREATEST_F) (λ some in_it. let high = in_it.low in omega (arith, low, high)) offer is

-- the lists stay guided where the next board was found, and where places were made
pub guided_by_next : (task : Task) (guide : Guide) (lists found : SearchListsModel) → IsGuided task guide lists → found.closed ≡ lists.closed → (IsInOrder guide lists → IsInOrder guide found) → IsGuided task guide found
guided_by_next task guide lists found is closed order = guided_same task guide lists found is (ap (λ (t : ClosedModel). t.known) closed) (order is.order)

pub guided_with_room : (task : Task) (guide : Guide) (old new : SearchListsModel) → IsGuided task guide old → HasMoreRoom old new → IsGuided task guide new
guided_with_room task guide old new is more = guided_same task guide old new is more.known (order_with_room guide old new more is.order)

-- what is offered adds up
pub chosen_adds : (role : Role) (guide : Guide) (lists : SearchListsModel) (is : IsGuided role.task guide lists) (worker : WorkerState) (b : BoardModel) (known : Known) (successors : Successors) (left_out : Option Move) (offers : Offers) (n : ℕ) → IsChosen role worker b known successors left_out offers n → known.cost ≤ GREATEST_EXPANDED_COST → OfEach (AddsUpBy guide) offers
chosen_adds role guide lists is worker b known successors left_out offers n it low =
    all_add role.task guide role.owner b known.cost n role.task.goal.grid is.guides it.at.opens.board low left_out offers it.offered it.within
