-- Each step keeps a world sound.
use Rattle.std.proofs.Common.{◌≡◌, ◌≢◌, ◌⊎◌, ℕ, ◌+◌, ◌≤◌, true, List, refl, sym, ap, ◌∙◌, subst, inl, inr, ⊎_elim, arith, Some, ◌-◌, [], ◌∷◌, ◌++◌}
use Rattle.std.specs.Prelude.{Contains, slice_get, slice_set, fold}
use Rattle.std.specs.FinMap as map
use Rattle.std.proofs.lemmas.Bool.{cases_eq, true≢false}
use Rattle.std.proofs.lemmas.List.Elements.{Contains-push, Contains-push_cases, Contains-append_left}
use Rattle.board.specs.declared.moves.Move.{Move}
use Rattle.board.specs.Boards.{BoardModel}
use Rattle.board.specs.Moves.{Moves}
use Rattle.search_keys.specs.SearchKeys.{search_key}
use Rattle.world_model.specs.declared.parts.Item.{Item}
use Rattle.world_model.specs.declared.parts.Known.{Known}
use Rattle.world_model.specs.Expansions.{expansion, successor_items, with_closure, with_successor}
use Rattle.world_model.specs.Shapes.{IsShaped}
use Rattle.world_model.specs.Soundness.{HasPredecessor, IsCovered, IsSound}
use Rattle.world_model.specs.Workers.{IsOpen, IsTaskBoard, WorkerState, packet_for}
use Rattle.world_model.specs.Worlds.{IsUnderWay, IsWorker, Knows, LiesIn, WorldState, role_of, IsLane}
use Rattle.world_model.specs.Books.{BookState}
use Rattle.world_model.specs.Steps.{with_lane, Next}
use Rattle.world_model.specs.StepLaws.{NothingIsForgotten}
use Rattle.world_model.specs.declared.steps.Refusal.{Refusal}
use Rattle.world_model.specs.declared.steps.Step.{Step}
use Rattle.world_model.specs.declared.steps.Step.TheVariants.{Expand, Settle, Send, Deliver, Draw, Announce, Grant, Rest, Halt}
use Rattle.world_model.specs.BookSteps.{AtBook}
use Rattle.world_model.specs.Turns.{Turn}
use Rattle.world_model.specs.WorkerSteps.{AtLane}
use Rattle.world_model.specs.ThreadParts.{HasUnsent}
use Rattle.world_model.proofs.ChangeLemmas.{entry, same_search_key, with_insert, knows_owned, moved_task_board, changed, worker_there, lane_there, get_set_other, at_set, none_in_empty, head_in, later_in, cons_cases, is_empty}
use Rattle.world_model.proofs.ShapeKept.{slots, some_unsent}
use Rattle.world_model.proofs.ChangeLemmas as change
use Rattle.world_model.proofs.SoundLemmas.{Remembers, predecessor_kept, sound_kept, moved_remembers, moved_sound, settle_sound}
use Rattle.world_model.proofs.SoundLemmas as settling
use Rattle.world_model.proofs.ExpandLemmas.{Among, HasSlots, all_known, all_lower, all_there, all_unsent, all_put, all_back, all_held, offered, offers_all, offered_board}
use Rattle.world_model.proofs.StepCases.{IsSame, IsKeptByBook, draw_same, announce_same, grant_same, rest_same, halt_same, Cases, BookChange, Accepts, next_cases}

-- ---- an expansion keeps a world sound

module _ (w : WorldState) (shaped : IsShaped w) (sound : IsSound w) (i : ℕ) (worker : WorkerState) (is : IsWorker w i worker) (b : BoardModel) (known : Known) (open_at : IsOpen w.task worker b known) where
  done : WorkerState
  done = expansion (role_of w i) worker b known

  marked : WorkerState
  marked = with_closure worker b known

  offers : List Item
  offers = successor_items w.task.rule b known.cost

  after : WorldState
  after = changed w i done w.book w.lanes

  knew : Knows w i b known
  knew = record { worker = worker; is = is; board = open_at.board; knows = open_at.knows }

  own : w.owner b ≡ i
  own = (knows_owned w shaped i b known knew).0

  done_is : done ≡ fold (with_successor (role_of w i)) marked offers
  unfolding done marked offers
  done_is = refl

  there : IsWorker after i done
  unfolding after
  there = change.worker_there w i worker is done w.book w.lanes

  worker_after : (j : ℕ) (x : WorkerState) → IsWorker after j x → ((j ≡ i) × (x ≡ done)) ⊎ ((j ≢ i) × IsWorker w j x)
  unfolding after
  worker_after = change.worker_after w i worker is done w.book w.lanes

  worker_before : (j : ℕ) (x : WorkerState) → IsWorker w j x → ((j ≡ i) × (x ≡ worker) × IsWorker after j done) ⊎ ((j ≢ i) × IsWorker after j x)
  unfolding after
  worker_before = change.worker_before w i worker is done w.book w.lanes

  lists : HasSlots (role_of w i) worker
  lists = slots _ (role_of w i) worker (shaped.workers i worker is) shaped.owners

  marked_lower : (key : ℕ) (old : Known) → map.get worker.known key ≡ Some old → (now : Known) × (map.get marked.known key ≡ Some now) × (now.cost ≤ old.cost)
  unfolding marked
  marked_lower key old at =
      ⊎_elim (λ same. (old, same ∙ at, omega arith))
      (λ new.
      let e : Some old ≡ Some known = sym at ∙ ap (map.get worker.known) new.0 ∙ open_at.knows in
      let e' : old ≡ known = cc in
      (record known { expanded = true }, new.1, omega (arith, ap (λ (k : Known). k.cost) e')))
      (with_insert worker.known (search_key b) key (record known { expanded = true }))

  done_lower : (j : ℕ) (x : BoardModel) (old : Known) → Knows w j x old → (now : Known) × Knows after j x now × (now.cost ≤ old.cost)
  unfolding after done offers marked
  done_lower j x old knows =
      ⊎_elim
      (λ (h : (j ≡ i) × (knows.worker ≡ worker) × IsWorker after j done).
      let mid = marked_lower (search_key x) old (ap (λ (y : WorkerState). map.get y.known (search_key x)) (sym h.1) ∙ knows.knows) in
      let end = all_lower (role_of w i) offers marked (search_key x) mid.0 mid.1 in
      (end.0, record { worker = done; is = h.2; board = knows.board; knows = end.1 }, omega (arith, mid.2, end.2)))
      (λ (h : (j ≢ i) × IsWorker after j knows.worker). (old, record { worker = knows.worker; is = h.1; board = knows.board; knows = knows.knows }, omega arith))
      (worker_before j knows.worker knows.is)

  still_offered : (to : ℕ) (offer : Item) → IsUnderWay after to offer → IsCovered after offer.board offer.cost
  still_offered to offer bound = inr (to, offer, bound, refl, omega arith)

  lane_before : (from to : ℕ) (packet : List Item) → LiesIn after from to packet → LiesIn w from to packet
  unfolding after
  lane_before from to packet lies = record { lane = lies.lane; is = record { from_lanes = lies.is.from_lanes; of_sender = lies.is.of_sender; of_receiver = lies.is.of_receiver }; lies = lies.lies }

  lane_after : (from to : ℕ) (packet : List Item) → LiesIn w from to packet → LiesIn after from to packet
  unfolding after
  lane_after from to packet lies = record { lane = lies.lane; is = record { from_lanes = lies.is.from_lanes; of_sender = lies.is.of_sender; of_receiver = lies.is.of_receiver }; lies = lies.lies }

  held_is : done.held ≡ worker.held
  unfolding done offers marked
  held_is = all_held (role_of w i) offers marked

  offer_kept : (to : ℕ) (offer : Item) → IsUnderWay w to offer → IsCovered after offer.board offer.cost
  unfolding done offers marked
  offer_kept to offer (inl has) =
      ⊎_elim
      (λ (h : (to ≡ i) × (has.0 ≡ worker) × IsWorker after to done). still_offered to offer (inl (done, h.2, subst (λ (xs : List Item). Contains xs offer) (ap (λ (x : WorkerState). x.held) h.1 ∙ sym held_is) has.2)))
      (λ (h : (to ≢ i) × IsWorker after to has.0). still_offered to offer (inl (has.0, h.1, has.2)))
      (worker_before to has.0 has.1)
  offer_kept to offer (inr (inl has)) =
      ⊎_elim
      (λ (h : (has.0 ≡ i) × (has.1 ≡ worker) × IsWorker after has.0 done).
      let put = all_unsent (role_of w i) offers marked lists to offer (has.2, ap (λ (x : WorkerState). slice_get x.unsent to) (sym h.1) ∙ has.4, has.5) in
      still_offered to offer (inr (inl (has.0, done, put.0, h.2, put.1, put.2))))
      (λ (h : (has.0 ≢ i) × IsWorker after has.0 has.1). still_offered to offer (inr (inl (has.0, has.1, has.2, h.1, has.4, has.5))))
      (worker_before has.0 has.1 has.3)
  offer_kept to offer (inr (inr has)) = still_offered to offer (inr (inr (has.0, has.1, lane_after has.0 to has.1 has.2, has.3)))

  remembered : Remembers w after
  remembered = record { lower = done_lower; items = offer_kept }

  -- each successor is covered
  successor_covered : (m : Move) (b' : BoardModel) (c : ℕ) → Moves w.task.rule b m b' c → IsCovered after b' (known.cost + c)
  unfolding after done offers marked
  successor_covered m b' c moves =
      let offer = offer_of m b' c in
      let board : IsTaskBoard w.task b' = moved_task_board w.task shaped.task b open_at.board m b' c moves in
      ⊎_elim
      (λ (mine : w.owner b' ≡ i).
      let put = all_there (role_of w i) offers marked offer (offers_all w.task shaped.task b open_at.board known.cost m b' c moves) mine in
      inl (put.0, record { worker = done; is = subst (λ j. IsWorker after j done) (sym mine) there; board = board; knows = put.1 }, put.2))
      (λ (foreign : w.owner b' ≢ i).
      let put = all_put (role_of w i) offers marked lists offer (offers_all w.task shaped.task b open_at.board known.cost m b' c moves) foreign in
      still_offered (w.owner b') offer (inr (inl (i, done, put.0, there, put.1, put.2))))
      (cases_eq (w.owner b') i)
    where
      offer_of : Move → BoardModel → ℕ → Item
      offer_of m b' c = record { board = b'; cost = known.cost + c; via = m }

  -- what is offered has its predecessor
  well_founded : (offer : Item) → Among offers offer → HasPredecessor after offer.board offer.cost offer.via
  unfolding after offers
  well_founded offer among =
      let from = offered w.task shaped.task b open_at.board known.cost offer among in
      let before = done_lower i b known knew in
      inr (b, from.0, before.0, from.1, subst (λ j. Knows after j b before.0) (sym own) before.1, omega (arith, before.2, from.2))

  board_of : (offer : Item) → Among offers offer → IsTaskBoard w.task offer.board
  unfolding offers
  board_of offer among = (offered_board w.task shaped.task b open_at.board known.cost offer among).0

  offer_before : (to : ℕ) (offer : Item) → IsUnderWay after to offer → IsUnderWay w to offer ⊎ (Among offers offer × (w.owner offer.board ≡ to))
  unfolding done offers marked
  offer_before to offer (inl has) =
      ⊎_elim
      (λ (h : (to ≡ i) × (has.0 ≡ done)). inl (inl (worker, ap (slice_get w.workers) h.0 ∙ is, subst (λ (xs : List Item). Contains xs offer) (ap (λ (x : WorkerState). x.held) h.1 ∙ held_is) has.2)))
      (λ (h : (to ≢ i) × IsWorker w to has.0). inl (inl (has.0, h.1, has.2)))
      (worker_after to has.0 has.1)
  offer_before to offer (inr (inl has)) =
      ⊎_elim
      (λ (h : (has.0 ≡ i) × (has.1 ≡ done)).
      ⊎_elim (λ (old : HasUnsent marked to offer). inl (inr (inl (has.0, worker, old.0, ap (slice_get w.workers) h.0 ∙ is, old.1, old.2)))) (λ new. inr new)
      (all_back (role_of w i) offers marked lists to offer (has.2, ap (λ (x : WorkerState). slice_get x.unsent to) (sym h.1) ∙ has.4, has.5)))
      (λ (h : (has.0 ≢ i) × IsWorker w has.0 has.1). inl (inr (inl (has.0, has.1, has.2, h.1, has.4, has.5))))
      (worker_after has.0 has.1 has.3)
  offer_before to offer (inr (inr has)) = inl (inr (inr (has.0, has.1, lane_before has.0 to has.1 has.2, has.3)))

  -- what is known after: what was known, the board itself, or an own offer
  done_before : (key : ℕ) (now : Known) → map.get done.known key ≡ Some now → (map.get worker.known key ≡ Some now) ⊎ ((key ≡ search_key b) × (now ≡ record known { expanded = true })) ⊎ ((offer : Item) × Among offers offer × (w.owner offer.board ≡ i) × (key ≡ search_key offer.board) × (now ≡ entry offer))
  unfolding done offers marked
  done_before key now at =
      ⊎_elim
      (λ same.
      ⊎_elim (λ same'. inl (sym same' ∙ sym same ∙ at))
      (λ new. let e : Some now ≡ Some (record known { expanded = true }) = sym at ∙ same ∙ new.1 in inr (inl (new.0, cc)))
      (with_insert worker.known (search_key b) key (record known { expanded = true })))
      (λ new. let e : Some now ≡ Some (entry new.0) = sym at ∙ new.4 in inr (inr (new.0, new.1, new.2, new.3, cc)))
      (all_known (role_of w i) offers marked key)

  IsNew : ℕ → BoardModel → Known → Type 0
  IsNew j x now = HasPredecessor after x now.cost now.via × (w.owner x ≡ j)
      × (now.expanded ≡ true → (x ≢ w.task.goal) × ((m : Move) (b' : BoardModel) (c : ℕ) → Moves w.task.rule x m b' c → IsCovered after b' (now.cost + c)))

  new_marked : IsNew i b (record known { expanded = true })
  unfolding IsNew after
  new_marked = (predecessor_kept w (slice_set w.workers i done) w.book w.lanes remembered b known.cost known.via (sound.reached i b known knew), own, λ closed. (open_at.no_goal, successor_covered))

  new_offer : (offer : Item) → Among offers offer → w.owner offer.board ≡ i → IsNew i offer.board (entry offer)
  unfolding IsNew
  new_offer offer among mine = (well_founded offer among, mine, λ closed. absurd (true≢false (sym closed)))

  known_after : (j : ℕ) (x : BoardModel) (now : Known) → Knows after j x now → Knows w j x now ⊎ IsNew j x now
  unfolding after
  known_after j x now knows =
      ⊎_elim
      (λ (h : (j ≡ i) × (knows.worker ≡ done)).
      let got : map.get done.known (search_key x) ≡ Some now = ap (λ (y : WorkerState). map.get y.known (search_key x)) (sym h.1) ∙ knows.knows in
      ⊎_elim
      (λ (old : map.get worker.known (search_key x) ≡ Some now). inl (record { worker = worker; is = ap (slice_get w.workers) h.0 ∙ is; board = knows.board; knows = old }))
      (λ (new : ((search_key x ≡ search_key b) × (now ≡ record known { expanded = true })) ⊎ ((offer : Item) × Among offers offer × (w.owner offer.board ≡ i) × (search_key x ≡ search_key offer.board) × (now ≡ entry offer))).
      ⊎_elim
      (λ (own_board : (search_key x ≡ search_key b) × (now ≡ record known { expanded = true })).
      let e = same_search_key w.task x b knows.board open_at.board own_board.0 in
      inr (subst (λ (y : ℕ × BoardModel × Known). IsNew y.0 y.1 y.2) (λ t. (sym h.0 t, sym e t, sym own_board.1 t)) new_marked))
      (λ (from : (offer : Item) × Among offers offer × (w.owner offer.board ≡ i) × (search_key x ≡ search_key offer.board) × (now ≡ entry offer)).
      let e = same_search_key w.task x from.0.board knows.board (board_of from.0 from.1) from.3 in
      inr (subst (λ (y : ℕ × BoardModel × Known). IsNew y.0 y.1 y.2) (λ t. (sym h.0 t, sym e t, sym from.4 t)) (new_offer from.0 from.1 from.2)))
      new)
      (done_before (search_key x) now got))
      (λ (h : (j ≢ i) × IsWorker w j knows.worker). inl (record { worker = knows.worker; is = h.1; board = knows.board; knows = knows.knows }))
      (worker_after j knows.worker knows.is)

  pub expand_remembers : Remembers w (changed w i (expansion (role_of w i) worker b known) w.book w.lanes)
  unfolding after done
  expand_remembers = remembered

  pub expand_sound : IsSound (changed w i (expansion (role_of w i) worker b known) w.book w.lanes)
  unfolding after done IsNew
  expand_sound = sound_kept w (slice_set w.workers i done) w.book w.lanes remembered sound (record {
    known = λ j x now knows. ⊎_elim (λ old. inl old) (λ (new : IsNew j x now). inr (new.0, new.2)) (known_after j x now knows);
    items = λ to offer bound. ⊎_elim (λ old. inl old) (λ (new : Among offers offer × (w.owner offer.board ≡ to)). inr (well_founded offer new.0)) (offer_before to offer bound);
  })

-- ---- to send and to deliver a packet keeps a world sound

-- a step on the book: one worker has the same boards and offers, and the lanes stay
module _ (w : WorldState) (sound : IsSound w) (i : ℕ) (worker : WorkerState) (is : IsWorker w i worker) (new : WorkerState) (same : IsSame worker new) (book : BookState) where
  bound_there : (to : ℕ) (offer : Item) → IsUnderWay w to offer → IsUnderWay (changed w i new book w.lanes) to offer
  bound_there to offer (inl has) =
      ⊎_elim
      (λ (h : (to ≡ i) × (has.0 ≡ worker) × IsWorker (changed w i new book w.lanes) to new). inl (new, h.2, subst (λ (xs : List Item). Contains xs offer) (ap (λ (x : WorkerState). x.held) h.1 ∙ sym same.held) has.2))
      (λ (h : (to ≢ i) × IsWorker (changed w i new book w.lanes) to has.0). inl (has.0, h.1, has.2))
      (change.worker_before w i worker is new book w.lanes to has.0 has.1)
  bound_there to offer (inr (inl has)) =
      ⊎_elim
      (λ (h : (has.0 ≡ i) × (has.1 ≡ worker) × IsWorker (changed w i new book w.lanes) has.0 new). inr (inl (has.0, new, has.2, h.2, ap (λ (xs : List (List Item)). slice_get xs to) (same.unsent ∙ sym (ap (λ (x : WorkerState). x.unsent) h.1)) ∙ has.4, has.5)))
      (λ (h : (has.0 ≢ i) × IsWorker (changed w i new book w.lanes) has.0 has.1). inr (inl (has.0, has.1, has.2, h.1, has.4, has.5)))
      (change.worker_before w i worker is new book w.lanes has.0 has.1 has.3)
  bound_there to offer (inr (inr has)) = inr (inr (has.0, has.1, record { lane = has.2.lane; is = record { from_lanes = has.2.is.from_lanes; of_sender = has.2.is.of_sender; of_receiver = has.2.is.of_receiver }; lies = has.2.lies }, has.3))

  pub bound_back : (to : ℕ) (offer : Item) → IsUnderWay (changed w i new book w.lanes) to offer → IsUnderWay w to offer
  bound_back to offer (inl has) =
      ⊎_elim
      (λ (h : (to ≡ i) × (has.0 ≡ new)). inl (worker, ap (slice_get w.workers) h.0 ∙ is, subst (λ (xs : List Item). Contains xs offer) (ap (λ (x : WorkerState). x.held) h.1 ∙ same.held) has.2))
      (λ (h : (to ≢ i) × IsWorker w to has.0). inl (has.0, h.1, has.2))
      (change.worker_after w i worker is new book w.lanes to has.0 has.1)
  bound_back to offer (inr (inl has)) =
      ⊎_elim
      (λ (h : (has.0 ≡ i) × (has.1 ≡ new)). inr (inl (has.0, worker, has.2, ap (slice_get w.workers) h.0 ∙ is, ap (λ (xs : List (List Item)). slice_get xs to) (sym (ap (λ (x : WorkerState). x.unsent) h.1 ∙ same.unsent)) ∙ has.4, has.5)))
      (λ (h : (has.0 ≢ i) × IsWorker w has.0 has.1). inr (inl (has.0, has.1, has.2, h.1, has.4, has.5)))
      (change.worker_after w i worker is new book w.lanes has.0 has.1 has.3)
  bound_back to offer (inr (inr has)) = inr (inr (has.0, has.1, record { lane = has.2.lane; is = record { from_lanes = has.2.is.from_lanes; of_sender = has.2.is.of_sender; of_receiver = has.2.is.of_receiver }; lies = has.2.lies }, has.3))

  pub book_sound : IsSound (changed w i new book w.lanes)
  book_sound = moved_sound w i worker is new book w.lanes same.known sound bound_there bound_back

  pub book_remembers : Remembers w (changed w i new book w.lanes)
  book_remembers = moved_remembers w i worker is new book w.lanes same.known bound_there

-- worker i sends what is unsent for worker j
module _ (w : WorldState) (sound : IsSound w) (i j : ℕ) (worker : WorkerState) (is : IsWorker w i worker) (lane : List (List Item)) (at : IsLane w i j lane) (packet : List Item) (unsent : slice_get worker.unsent j ≡ Some packet) where
  sent : WorkerState
  sent = record worker { unsent = slice_set worker.unsent j []; purse = worker.purse - 1 }

  sent_world : WorldState
  sent_world = changed w i sent w.book (with_lane w.lanes i j (lane ++ packet ∷ []))

  worker_after' : (k : ℕ) (x : WorkerState) → IsWorker sent_world k x → ((k ≡ i) × (x ≡ sent)) ⊎ ((k ≢ i) × IsWorker w k x)
  unfolding sent_world
  worker_after' = change.worker_after w i worker is sent w.book (with_lane w.lanes i j (lane ++ packet ∷ []))

  worker_before' : (k : ℕ) (x : WorkerState) → IsWorker w k x → ((k ≡ i) × (x ≡ worker) × IsWorker sent_world k sent) ⊎ ((k ≢ i) × IsWorker sent_world k x)
  unfolding sent_world
  worker_before' = change.worker_before w i worker is sent w.book (with_lane w.lanes i j (lane ++ packet ∷ []))

  lane_after' : (from to : ℕ) (l : List (List Item)) → IsLane sent_world from to l → ((from ≡ i) × (to ≡ j) × (l ≡ lane ++ packet ∷ [])) ⊎ IsLane w from to l
  unfolding sent_world
  lane_after' = change.lane_after w i sent w.book i j lane at (lane ++ packet ∷ [])

  lane_before' : (from to : ℕ) (l : List (List Item)) → IsLane w from to l → ((from ≡ i) × (to ≡ j) × (l ≡ lane)) ⊎ IsLane sent_world from to l
  unfolding sent_world
  lane_before' = change.lane_before w i sent w.book i j lane at (lane ++ packet ∷ [])

  lane_there' : IsLane sent_world i j (lane ++ packet ∷ [])
  unfolding sent_world
  lane_there' = lane_there w i sent w.book i j lane at (lane ++ packet ∷ [])

  send_there : (to : ℕ) (offer : Item) → IsUnderWay w to offer → IsUnderWay sent_world to offer
  unfolding sent
  send_there to offer (inl has) =
      ⊎_elim
      (λ (h : (to ≡ i) × (has.0 ≡ worker) × IsWorker sent_world to sent). inl (sent, h.2, subst (λ (x : WorkerState). Contains x.held offer) h.1 has.2))
      (λ (h : (to ≢ i) × IsWorker sent_world to has.0). inl (has.0, h.1, has.2))
      (worker_before' to has.0 has.1)
  send_there to offer (inr (inl has)) =
      ⊎_elim
      (λ (h : (has.0 ≡ i) × (has.1 ≡ worker) × IsWorker sent_world has.0 sent).
      let here : slice_get worker.unsent to ≡ Some has.2 = ap (λ (x : WorkerState). slice_get x.unsent to) (sym h.1) ∙ has.4 in
      ⊎_elim
      (λ (e : to ≡ j).
      let same : Some has.2 ≡ Some packet = sym here ∙ ap (slice_get worker.unsent) e ∙ unsent in
      let same' : has.2 ≡ packet = cc in
      inr (inr (i, packet, record { lane = lane ++ packet ∷ []; is = subst (λ t. IsLane sent_world i t (lane ++ packet ∷ [])) (sym e) lane_there'; lies = Contains-push lane packet }, subst (λ (p : List Item). Contains p offer) same' has.5)))
      (λ (ne : to ≢ j). inr (inl (has.0, sent, has.2, h.2, get_set_other worker.unsent j to [] ne ∙ here, has.5)))
      (cases_eq to j))
      (λ (h : (has.0 ≢ i) × IsWorker sent_world has.0 has.1). inr (inl (has.0, has.1, has.2, h.1, has.4, has.5)))
      (worker_before' has.0 has.1 has.3)
  send_there to offer (inr (inr has)) =
      ⊎_elim
      (λ (h : (has.0 ≡ i) × (to ≡ j) × (has.2.lane ≡ lane)).
      inr (inr (i, has.1, record { lane = lane ++ packet ∷ []; is = subst (λ t. IsLane sent_world i t (lane ++ packet ∷ [])) (sym h.1) lane_there'; lies = Contains-append_left lane (packet ∷ []) has.1 (subst (λ (l : List (List Item)). Contains l has.1) h.2 has.2.lies) }, has.3)))
      (λ (old : IsLane sent_world has.0 to has.2.lane). inr (inr (has.0, has.1, record { lane = has.2.lane; is = old; lies = has.2.lies }, has.3)))
      (lane_before' has.0 to has.2.lane has.2.is)

  send_back : (to : ℕ) (offer : Item) → IsUnderWay sent_world to offer → IsUnderWay w to offer
  unfolding sent
  send_back to offer (inl has) =
      ⊎_elim
      (λ (h : (to ≡ i) × (has.0 ≡ sent)). inl (worker, ap (slice_get w.workers) h.0 ∙ is, subst (λ (x : WorkerState). Contains x.held offer) h.1 has.2))
      (λ (h : (to ≢ i) × IsWorker w to has.0). inl (has.0, h.1, has.2))
      (worker_after' to has.0 has.1)
  send_back to offer (inr (inl has)) =
      ⊎_elim
      (λ (h : (has.0 ≡ i) × (has.1 ≡ sent)).
      let here : slice_get (slice_set worker.unsent j []) to ≡ Some has.2 = ap (λ (x : WorkerState). slice_get x.unsent to) (sym h.1) ∙ has.4 in
      ⊎_elim
      (λ (e : to ≡ j). absurd (none_in_empty has.2 offer (at_set worker.unsent j [] packet has.2 unsent (ap (slice_get (slice_set worker.unsent j [])) (sym e) ∙ here)) has.5))
      (λ (ne : to ≢ j). inr (inl (has.0, worker, has.2, ap (slice_get w.workers) h.0 ∙ is, sym (get_set_other worker.unsent j to [] ne) ∙ here, has.5)))
      (cases_eq to j))
      (λ (h : (has.0 ≢ i) × IsWorker w has.0 has.1). inr (inl (has.0, has.1, has.2, h.1, has.4, has.5)))
      (worker_after' has.0 has.1 has.3)
  send_back to offer (inr (inr has)) =
      ⊎_elim
      (λ (h : (has.0 ≡ i) × (to ≡ j) × (has.2.lane ≡ lane ++ packet ∷ [])).
      ⊎_elim
      (λ (old : Contains lane has.1). inr (inr (i, has.1, record { lane = lane; is = subst (λ t. IsLane w i t lane) (sym h.1) at; lies = old }, has.3)))
      (λ (e : packet ≡ has.1). inr (inl (i, worker, packet, is, ap (slice_get worker.unsent) h.1 ∙ unsent, subst (λ (p : List Item). Contains p offer) (sym e) has.3)))
      (Contains-push_cases lane packet has.1 (subst (λ (l : List (List Item)). Contains l has.1) h.2 has.2.lies)))
      (λ (old : IsLane w has.0 to has.2.lane). inr (inr (has.0, has.1, record { lane = has.2.lane; is = old; lies = has.2.lies }, has.3)))
      (lane_after' has.0 to has.2.lane has.2.is)

  pub send_sound : IsSound (changed w i (record worker { unsent = slice_set worker.unsent j []; purse = worker.purse - 1 }) w.book (with_lane w.lanes i j (lane ++ packet ∷ [])))
  unfolding sent sent_world
  send_sound = moved_sound w i worker is sent w.book (with_lane w.lanes i j (lane ++ packet ∷ [])) refl sound send_there send_back

  pub send_remembers : Remembers w (changed w i (record worker { unsent = slice_set worker.unsent j []; purse = worker.purse - 1 }) w.book (with_lane w.lanes i j (lane ++ packet ∷ [])))
  unfolding sent sent_world
  send_remembers = moved_remembers w i worker is sent w.book (with_lane w.lanes i j (lane ++ packet ∷ [])) refl send_there

-- worker i takes the first packet out of the lane from worker j
module _ (w : WorldState) (sound : IsSound w) (i j : ℕ) (worker : WorkerState) (is : IsWorker w i worker) (lane : List (List Item)) (at : IsLane w j i lane) (free : worker.held ≡ []) (packet : List Item) (rest : List (List Item)) (first : lane ≡ packet ∷ rest) where
  delivered : WorkerState
  delivered = record worker { held = packet; purse = worker.purse + 1 }

  emptier : WorldState
  emptier = changed w i delivered w.book (with_lane w.lanes j i rest)

  there_after : IsWorker emptier i delivered
  unfolding emptier
  there_after = worker_there w i worker is delivered w.book (with_lane w.lanes j i rest)

  deliver_there : (to : ℕ) (offer : Item) → IsUnderWay w to offer → IsUnderWay emptier to offer
  unfolding delivered emptier
  deliver_there to offer (inl has) =
      ⊎_elim
      (λ (h : (to ≡ i) × (has.0 ≡ worker) × IsWorker emptier to delivered). absurd (none_in_empty worker.held offer free (subst (λ (x : WorkerState). Contains x.held offer) h.1 has.2)))
      (λ (h : (to ≢ i) × IsWorker emptier to has.0). inl (has.0, h.1, has.2))
      (change.worker_before w i worker is delivered w.book (with_lane w.lanes j i rest) to has.0 has.1)
  deliver_there to offer (inr (inl has)) =
      ⊎_elim
      (λ (h : (has.0 ≡ i) × (has.1 ≡ worker) × IsWorker emptier has.0 delivered). inr (inl (has.0, delivered, has.2, h.2, ap (λ (x : WorkerState). slice_get x.unsent to) (sym h.1) ∙ has.4, has.5)))
      (λ (h : (has.0 ≢ i) × IsWorker emptier has.0 has.1). inr (inl (has.0, has.1, has.2, h.1, has.4, has.5)))
      (change.worker_before w i worker is delivered w.book (with_lane w.lanes j i rest) has.0 has.1 has.3)
  deliver_there to offer (inr (inr has)) =
      ⊎_elim
      (λ (h : (has.0 ≡ j) × (to ≡ i) × (has.2.lane ≡ lane)).
      ⊎_elim
      (λ (e : packet ≡ has.1). inl (delivered, subst (λ t. IsWorker emptier t delivered) (sym h.1) there_after, subst (λ (p : List Item). Contains p offer) (sym e) has.3))
      (λ (old : Contains rest has.1). inr (inr (j, has.1, record { lane = rest; is = subst (λ t. IsLane emptier j t rest) (sym h.1) (lane_there w i delivered w.book j i lane at rest); lies = old }, has.3)))
      (cons_cases packet rest has.1 (subst (λ (l : List (List Item)). Contains l has.1) (h.2 ∙ first) has.2.lies)))
      (λ (old : IsLane emptier has.0 to has.2.lane). inr (inr (has.0, has.1, record { lane = has.2.lane; is = old; lies = has.2.lies }, has.3)))
      (change.lane_before w i delivered w.book j i lane at rest has.0 to has.2.lane has.2.is)

  deliver_back : (to : ℕ) (offer : Item) → IsUnderWay emptier to offer → IsUnderWay w to offer
  unfolding delivered emptier
  deliver_back to offer (inl has) =
      ⊎_elim
      (λ (h : (to ≡ i) × (has.0 ≡ delivered)). inr (inr (j, packet, record { lane = lane; is = subst (λ t. IsLane w j t lane) (sym h.0) at; lies = subst (λ (l : List (List Item)). Contains l packet) (sym first) (head_in packet rest) }, subst (λ (x : WorkerState). Contains x.held offer) h.1 has.2)))
      (λ (h : (to ≢ i) × IsWorker w to has.0). inl (has.0, h.1, has.2))
      (change.worker_after w i worker is delivered w.book (with_lane w.lanes j i rest) to has.0 has.1)
  deliver_back to offer (inr (inl has)) =
      ⊎_elim
      (λ (h : (has.0 ≡ i) × (has.1 ≡ delivered)). inr (inl (has.0, worker, has.2, ap (slice_get w.workers) h.0 ∙ is, ap (λ (x : WorkerState). slice_get x.unsent to) (sym h.1) ∙ has.4, has.5)))
      (λ (h : (has.0 ≢ i) × IsWorker w has.0 has.1). inr (inl (has.0, has.1, has.2, h.1, has.4, has.5)))
      (change.worker_after w i worker is delivered w.book (with_lane w.lanes j i rest) has.0 has.1 has.3)
  deliver_back to offer (inr (inr has)) =
      ⊎_elim
      (λ (h : (has.0 ≡ j) × (to ≡ i) × (has.2.lane ≡ rest)). inr (inr (j, has.1, record { lane = lane; is = subst (λ t. IsLane w j t lane) (sym h.1) at; lies = subst (λ (l : List (List Item)). Contains l has.1) (sym first) (later_in packet rest has.1 (subst (λ (l : List (List Item)). Contains l has.1) h.2 has.2.lies)) }, has.3)))
      (λ (old : IsLane w has.0 to has.2.lane). inr (inr (has.0, has.1, record { lane = has.2.lane; is = old; lies = has.2.lies }, has.3)))
      (change.lane_after w i delivered w.book j i lane at rest has.0 to has.2.lane has.2.is)

  pub deliver_sound : IsSound (changed w i (record worker { held = packet; purse = worker.purse + 1 }) w.book (with_lane w.lanes j i rest))
  unfolding delivered emptier
  deliver_sound = moved_sound w i worker is delivered w.book (with_lane w.lanes j i rest) refl sound deliver_there deliver_back

  pub deliver_remembers : Remembers w (changed w i (record worker { held = packet; purse = worker.purse + 1 }) w.book (with_lane w.lanes j i rest))
  unfolding delivered emptier
  deliver_remembers = moved_remembers w i worker is delivered w.book (with_lane w.lanes j i rest) refl deliver_there

-- ---- each step keeps a world sound

on_book : (w w' : WorldState) (i : ℕ) (Change : AtBook → AtBook → Type 0) → ((x y : AtBook) → Change x y → IsKeptByBook x y) → IsSound w → BookChange i Change w w' → IsSound w'
on_book w w' i Change keeps sound step = subst IsSound (sym step.is) (book_sound w sound i step.worker step.at step.new.worker (keeps (record { worker = step.worker; book = w.book }) step.new step.change).worker step.new.book)

accepts_sound : (step : Step) (w w' : WorldState) → IsShaped w → IsSound w → Accepts step w w' → IsSound w'
accepts_sound (Expand i) w w' shaped sound step =
    subst IsSound (sym step.is) (subst (λ x. IsSound (changed w i x w.book w.lanes)) (sym step.change.is) (expand_sound w shaped sound i step.worker step.at step.change.board step.change.known step.change.next.opens))
accepts_sound (Settle i) w w' shaped sound step =
    subst IsSound (sym step.is) (subst (λ x. IsSound (changed w i x w.book w.lanes)) (sym step.change.is) (settle_sound w shaped sound i step.worker step.at step.change.front step.change.last step.change.held))
accepts_sound (Send i j) w w' shaped sound step =
    subst IsSound (sym step.is)
    (subst (λ (x : AtLane). IsSound (changed w i x.worker w.book (with_lane w.lanes i j x.lane))) (sym step.change.is)
    (send_sound w sound i j step.worker step.at step.lane step.at_lane (packet_for step.worker j) (some_unsent (slice_get step.worker.unsent j) step.change.some)))
accepts_sound (Deliver i j) w w' shaped sound step =
    subst IsSound (sym step.is)
    (subst (λ (x : AtLane). IsSound (changed w i x.worker w.book (with_lane w.lanes j i x.lane))) (sym step.change.is)
    (deliver_sound w sound i j step.worker step.at step.lane step.at_lane (is_empty step.worker.held step.change.free) step.change.packet step.change.rest step.change.first))
accepts_sound (Draw i) w w' shaped sound step = on_book w w' i _ draw_same sound step
accepts_sound (Announce i) w w' shaped sound step = on_book w w' i _ (announce_same (role_of w i)) sound step
accepts_sound (Grant i) w w' shaped sound step = on_book w w' i _ (grant_same (role_of w i)) sound step
accepts_sound (Rest i) w w' shaped sound step = on_book w w' i _ (rest_same (role_of w i)) sound step
accepts_sound (Halt i cause) w w' shaped sound step = on_book w w' i _ (halt_same cause) sound step

pub steps_sound : (step : Step) (it : Turn WorldState Refusal) → Next step it → IsShaped it.before → IsSound it.before → IsSound it.after
steps_sound step it next shaped sound = split (next_cases step it next)
  where
    split : Cases it (Accepts step it.before it.after) → IsSound it.after
    split (inl out) = subst IsSound (sym out.1.1) sound
    split (inr done) = accepts_sound step it.before it.after shaped sound done.1

-- ---- and no step forgets anything

book_remembered : (w w' : WorldState) (i : ℕ) (Change : AtBook → AtBook → Type 0) → ((x y : AtBook) → Change x y → IsKeptByBook x y) → IsSound w → BookChange i Change w w' → Remembers w w'
book_remembered w w' i Change keeps sound step = subst (Remembers w) (sym step.is) (book_remembers w sound i step.worker step.at step.new.worker (keeps (record { worker = step.worker; book = w.book }) step.new step.change).worker step.new.book)

accepts_remember : (step : Step) (w w' : WorldState) → IsShaped w → IsSound w → Accepts step w w' → Remembers w w'
accepts_remember (Expand i) w w' shaped sound step =
    subst (Remembers w) (sym step.is) (subst (λ x. Remembers w (changed w i x w.book w.lanes)) (sym step.change.is) (expand_remembers w shaped sound i step.worker step.at step.change.board step.change.known step.change.next.opens))
accepts_remember (Settle i) w w' shaped sound step =
    subst (Remembers w) (sym step.is) (subst (λ x. Remembers w (changed w i x w.book w.lanes)) (sym step.change.is) (settling.remembered w shaped sound i step.worker step.at step.change.front step.change.last step.change.held))
accepts_remember (Send i j) w w' shaped sound step =
    subst (Remembers w) (sym step.is)
    (subst (λ (x : AtLane). Remembers w (changed w i x.worker w.book (with_lane w.lanes i j x.lane))) (sym step.change.is)
    (send_remembers w sound i j step.worker step.at step.lane step.at_lane (packet_for step.worker j) (some_unsent (slice_get step.worker.unsent j) step.change.some)))
accepts_remember (Deliver i j) w w' shaped sound step =
    subst (Remembers w) (sym step.is)
    (subst (λ (x : AtLane). Remembers w (changed w i x.worker w.book (with_lane w.lanes j i x.lane))) (sym step.change.is)
    (deliver_remembers w sound i j step.worker step.at step.lane step.at_lane (is_empty step.worker.held step.change.free) step.change.packet step.change.rest step.change.first))
accepts_remember (Draw i) w w' shaped sound step = book_remembered w w' i _ draw_same sound step
accepts_remember (Announce i) w w' shaped sound step = book_remembered w w' i _ (announce_same (role_of w i)) sound step
accepts_remember (Grant i) w w' shaped sound step = book_remembered w w' i _ (grant_same (role_of w i)) sound step
accepts_remember (Rest i) w w' shaped sound step = book_remembered w w' i _ (rest_same (role_of w i)) sound step
accepts_remember (Halt i cause) w w' shaped sound step = book_remembered w w' i _ (halt_same cause) sound step

all_remembered : (w : WorldState) → Remembers w w
all_remembered w = record {
  lower = λ i b known knows. (known, knows, omega arith);
  items = λ to offer bound. inr (to, offer, bound, refl, omega arith);
}

steps_remember : (step : Step) (it : Turn WorldState Refusal) → Next step it → IsShaped it.before → IsSound it.before → Remembers it.before it.after
steps_remember step it next shaped sound = split (next_cases step it next)
  where
    split : Cases it (Accepts step it.before it.after) → Remembers it.before it.after
    split (inl out) = subst (Remembers it.before) (sym out.1.1) (all_remembered it.before)
    split (inr done) = accepts_remember step it.before it.after shaped sound done.1

pub nothing_forgotten : NothingIsForgotten
nothing_forgotten = record {
  boards = λ step it next shaped sound. (steps_remember step it next shaped sound).lower;
  items = λ step it next shaped sound. (steps_remember step it next shaped sound).items;
}
