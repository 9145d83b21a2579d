use Rattle.std.proofs.Common.{rules, ◌≡◌, ◌≤◌, Option, List, length, refl, sym, ap, ◌∙◌, subst, inl, inr, arith}
use Rattle.std.proofs.lemmas.List.{length-map}
use Rattle.std.specs.FinMap as map
use Rattle.board.specs.declared.moves.Move.{Move}
use Rattle.search_keys.specs.SearchKeys.{search_key}
use Rattle.closed_table.specs.Tables.{ClosedModel}
use Rattle.owners.specs.Offers.{AreOffered, item_by}
use Rattle.owners.specs.Room.{HasRoom}
use Rattle.successor_sums.specs.Unpacked.{but}
use Rattle.world_model.specs.Costs.{limit_of}
use Rattle.world_model.specs.Knowledge.{Knowledge}
use Rattle.world_model.specs.Expansions.{expansion_by, moves_but}
use Rattle.world_model.specs.WorkerSteps.{IsOverfull}
use Rattle.world_model.specs.Workers.{HasNothingBelow}
use Rattle.search_lists.specs.Lists.{SearchListsModel}
use Rattle.worker_core.specs.Contexts.{ContextModel, context_of, role_from, task_from}
use Rattle.worker_core.specs.Expanding.{IsReady, LacksPlacesToExpand, stock, in_turn}
use Rattle.worker_core.specs.Roles.{IsGuided}
use Rattle.worker_core.specs.Workers.{state_of, packets_of}
use Rattle.open_buckets.specs.OpenLists.{places_at}
use Rattle.search_lists.proofs.OrderLemmas.{first_waits}
use Rattle.worker_core.specs.Ahead.{AreOffersOf, terms_of}
use Rattle.worker_core.proofs.BackLemmas.{f_low, chosen, chosen_adds, cost_low, all_low, guided_by_next, guided_with_room, overfull, none_overfull, step_for, step_lent, guided_read}
use Rattle.worker_core.proofs.ExpandLemmas.{lacking_before, ready_for}
use Rattle.worker_core.proofs.GuideLemmas.{none_below, some_below, Items}
use Rattle.worker_core.proofs.worker.Worker.expand.Goals as goal

pub returns-in_default-clause-step : goal.returns-in_default-clause-step
returns-in_default-clause-step g c = λ start.
    let context = c.args.context.now in
    let task = task_from start context in
    let worker = state_of c.args.self.now in
    let lists = c.args.self.now.lists in
    let guide = c.requires.serves.guided.1 in
    let is = guided_read c.requires.serves.guided.0 start context context refl guide lists c.requires.serves.guided.2 in
    let none = none_below task guide lists worker refl is c.limit.result (c.in_default.ensures.none guide is.order) in
    step_for c.args.successors (role_from g.S.Spread.owner_of start context) _
    (inl (subst (HasNothingBelow task worker) c.limit.ensures none, (refl, ap (λ (t : ClosedModel). record worker { known = t.known }) c.next.ensures.closed)))

pub returns-then-left-eq0-clause-step : goal.returns-then-left-eq0-clause-step
returns-then-left-eq0-clause-step g c = λ start.
    let context = c.args.context.now in
    let task = task_from start context in
    let worker = state_of c.args.self.now in
    let lists = c.args.self.now.lists in
    let guide = c.requires.serves.guided.1 in
    let is = guided_read c.requires.serves.guided.0 start context context refl guide lists c.requires.serves.guided.2 in
    let next = c.in-Some.next in
    let first = c.in-Some.ensures.least guide is.order in
    let waits = λ (none : HasNothingBelow task worker (limit_of worker.best)). some_below task guide lists worker refl is c.limit.result next first c.in-Some.ensures.below (subst (HasNothingBelow task worker) (sym c.limit.ensures) none) in
    let spent : worker.allowance ≡ 0 = sym c.left.ensures.value ∙ c.if-left-eq0.true in
    step_for c.args.successors (role_from g.S.Spread.owner_of start context) _
    (inr (waits, inl (spent, (refl, ap (λ (t : ClosedModel). record worker { known = t.known }) c.next.ensures.closed))))

pub returns-then-not-has_room-clause-step : goal.returns-then-not-has_room-clause-step
returns-then-not-has_room-clause-step g c = λ start.
    let inside = c.context.inside in
    let context = c.args.context.now in
    let read = context_of inside.me inside.workers inside.goal.now inside.weights.now inside.bound.now inside.owners.now in
    let task = task_from start read in
    let worker = state_of c.args.self.now in
    let lists = c.args.self.now.lists in
    let guide = c.requires.serves.guided.1 in
    let is = guided_read c.requires.serves.guided.0 start read context c.context.view_is guide lists c.requires.serves.guided.2 in
    let next = c.in-Some.next in
    let first = c.in-Some.ensures.least guide is.order in
    let role = role_from g.S.Spread.owner_of start read in
    let left_out = c.find-place.ensures.offers.0 in
    let offers = c.offers-offers.result.now in
    let made = subst (λ (x : ContextModel g.row.S.Denot). AreOffersOf g.S.Spread.owner_of (terms_of x) c.in-Some.next.key c.in-Some.next.cost left_out offers) (sym c.context.view_is) (c.find-place.ensures.offers.2 offers c.offers-offers.ensures) in
    let b = made.board in
    let known = first.opens.0 in
    let it = chosen task guide lists is worker refl (g.S.Spread.owner_of inside.owners.now) inside.workers inside.workers inside.me refl c.limit.result c.limit.ensures next first c.in-Some.ensures.below b read.tables.split.grid c.context.invariant.tables made.has c.args.successors left_out c.find-place.ensures.offers.1 offers made.offered made.within in
    let all : length worker.unsent ≡ inside.workers = length-map c.args.self.now.unsent.items (λ v. v.items) ∙ c.requires.serves.workers ∙ sym (ap (λ (x : ContextModel g.row.S.Denot). x.workers) c.context.view_is) in
    let some : worker.allowance ≡ 0 → ⊥ = λ none. c.if-left-eq0.false (c.left.ensures.value ∙ none) in
    let none : ¬ HasRoom inside.me worker.unsent offers = λ room. (let wrong = c.if-not-has_room.ensures.1 (subst (λ (xs : List Items). HasRoom inside.me (packets_of xs) offers) (sym c.deref.ensures.value) room) in cc) in
    let full = overfull role worker b known left_out task.sum offers it.offered read.goal.grid inside.workers it.within all none in
    step_lent g.S.Spread.owner_of start c.args.successors read context c.context.view_is _
    (inr (it.waits, inr (some, (b, known, it.at, inl (subst (λ (o : Option Move). IsOverfull (expansion_by (moves_but o) role worker b known)) it.left_out_is full, (refl, ap (λ (t : ClosedModel). record worker { known = t.known }) (ap (λ (l : SearchListsModel). l.closed) c.find-place.ensures.lists ∙ c.next.ensures.closed)))))))

pub returns-then-not-has_room-clause-keeps : goal.returns-then-not-has_room-clause-keeps
returns-then-not-has_room-clause-keeps g c = record {
  workers = refl;
  granted = refl;
  guided = λ start guide is. subst (IsGuided (task_from start c.args.context.now) guide) (sym c.find-place.ensures.lists) (guided_by_next (task_from start c.args.context.now) guide c.args.self.now.lists c.next.new.self is c.next.ensures.closed (c.next.ensures.order guide));
}

pub find-place-requires-clause-waits : goal.find-place-requires-clause-waits
find-place-requires-clause-waits g c = first_waits c.next.new.self c.in-Some.next c.in-Some.ensures.first

pub find-place-requires-clause-low : goal.find-place-requires-clause-low
find-place-requires-clause-low g c = f_low c.in-Some.next c.limit.result c.args.self.now.best c.in-Some.ensures.below c.limit.ensures

pub find-place-requires-clause-guided : goal.find-place-requires-clause-guided
find-place-requires-clause-guided g c =
    let start = c.requires.serves.guided.0 in
    let guide = c.requires.serves.guided.1 in
    (start, guide, guided_by_next (task_from start c.args.context.now) guide c.args.self.now.lists c.next.new.self c.requires.serves.guided.2 c.next.ensures.closed (c.next.ensures.order guide))

pub make_places-requires : goal.make_places-requires
make_places-requires g c =
    let guide = c.requires.serves.guided.1 in
    let first = c.in-Some.ensures.least guide c.requires.serves.guided.2.order in
    let low = cost_low guide c.args.self.now.lists.closed c.in-Some.next c.limit.result c.args.self.now.best first c.in-Some.ensures.below c.limit.ensures in
    let made = c.find-place.ensures.offers.2 c.offers-offers.result.now c.offers-offers.ensures in
    all_low made.board.grid c.in-Some.next.cost c.args.context.now.workers c.offers-offers.result.now low made.within

pub returns-in-Err-clause-step : goal.returns-in-Err-clause-step
returns-in-Err-clause-step g c = λ start.
    let inside = c.context.inside in
    let context = c.args.context.now in
    let read = context_of inside.me inside.workers inside.goal.now inside.weights.now inside.bound.now inside.owners.now in
    let task = task_from start read in
    let worker = state_of c.args.self.now in
    let lists = c.args.self.now.lists in
    let guide = c.requires.serves.guided.1 in
    let is = guided_read c.requires.serves.guided.0 start read context c.context.view_is guide lists c.requires.serves.guided.2 in
    let next = c.in-Some.next in
    let first = c.in-Some.ensures.least guide is.order in
    let role = role_from g.S.Spread.owner_of start read in
    let left_out = c.find-place.ensures.offers.0 in
    let offers = c.offers-offers.result.now in
    let made = subst (λ (x : ContextModel g.row.S.Denot). AreOffersOf g.S.Spread.owner_of (terms_of x) c.in-Some.next.key c.in-Some.next.cost left_out offers) (sym c.context.view_is) (c.find-place.ensures.offers.2 offers c.offers-offers.ensures) in
    let b = made.board in
    let known = first.opens.0 in
    let it = chosen task guide lists is worker refl (g.S.Spread.owner_of inside.owners.now) inside.workers inside.workers inside.me refl c.limit.result c.limit.ensures next first c.in-Some.ensures.below b read.tables.split.grid c.context.invariant.tables made.has c.args.successors left_out c.find-place.ensures.offers.1 offers made.offered made.within in
    let all : length worker.unsent ≡ inside.workers = length-map c.args.self.now.unsent.items (λ v. v.items) ∙ c.requires.serves.workers ∙ sym (ap (λ (x : ContextModel g.row.S.Denot). x.workers) c.context.view_is) in
    let room = subst (λ (xs : List Items). HasRoom inside.me (packets_of xs) offers) c.deref.ensures.value (c.has_room.ensures.0 (search rules)) in
    let some : worker.allowance ≡ 0 → ⊥ = λ none. c.if-left-eq0.false (c.left.ensures.value ∙ none) in
    let fits = none_overfull role worker b known left_out task.sum offers it.offered read.goal.grid inside.workers it.within all room in
    let same = c.make_places.ensures.makes.same.known ∙ ap (λ (l : SearchListsModel). l.closed.known) c.find-place.ensures.lists ∙ ap (λ (t : ClosedModel). t.known) c.next.ensures.closed in
    step_lent g.S.Spread.owner_of start c.args.successors read context c.context.view_is _
    (inr (it.waits, inr (some, (b, known, it.at, inr (subst (λ (o : Option Move). ¬ IsOverfull (expansion_by (moves_but o) role worker b known)) it.left_out_is fits, inr (c.in-Err.refused, (refl, ap (λ (m : Knowledge). record worker { known = m }) same)))))))

pub returns-in-Err-clause-refused : goal.returns-in-Err-clause-refused
returns-in-Err-clause-refused g c = λ start.
    let inside = c.context.inside in
    let context = c.args.context.now in
    let read = context_of inside.me inside.workers inside.goal.now inside.weights.now inside.bound.now inside.owners.now in
    let task = task_from start read in
    let worker = state_of c.args.self.now in
    let lists = c.args.self.now.lists in
    let guide = c.requires.serves.guided.1 in
    let is = guided_read c.requires.serves.guided.0 start read context c.context.view_is guide lists c.requires.serves.guided.2 in
    let first = c.in-Some.ensures.least guide is.order in
    let role = role_from g.S.Spread.owner_of start read in
    let left_out = c.find-place.ensures.offers.0 in
    let offers = c.offers-offers.result.now in
    let made = subst (λ (x : ContextModel g.row.S.Denot). AreOffersOf g.S.Spread.owner_of (terms_of x) c.in-Some.next.key c.in-Some.next.cost left_out offers) (sym c.context.view_is) (c.find-place.ensures.offers.2 offers c.offers-offers.ensures) in
    let b = made.board in
    let known = first.opens.0 in
    let it = chosen task guide lists is worker refl (g.S.Spread.owner_of inside.owners.now) inside.workers inside.workers inside.me refl c.limit.result c.limit.ensures c.in-Some.next first c.in-Some.ensures.below b read.tables.split.grid c.context.invariant.tables made.has c.args.successors left_out c.find-place.ensures.offers.1 offers made.offered made.within in
    let offered = subst (λ (o : Option Move). AreOffered task.sum role.owner (but o (item_by task.rule b known.cost)) offers) it.left_out_is it.offered in
    let lacking = lacking_before inside.me lists c.find-place.new.lists offers (ap (λ (l : SearchListsModel). l.closed) c.find-place.ensures.lists ∙ c.next.ensures.closed) (λ h. subst (λ (l : SearchListsModel). places_at lists.waiting h ≤ places_at l.waiting h) (sym c.find-place.ensures.lists) (c.next.ensures.places h)) c.in-Err.ensures.makes.refused in
    subst
    (λ (x : ContextModel g.row.S.Denot). LacksPlacesToExpand c.args.successors (role_from g.S.Spread.owner_of start x) worker lists)
    c.context.view_is
    (b, known, it.at, offers, offered, lacking)

pub returns-in-Err-clause-keeps : goal.returns-in-Err-clause-keeps
returns-in-Err-clause-keeps g c = record {
  workers = refl;
  granted = refl;
  guided = λ start guide is.
      let task = task_from start c.args.context.now in
      guided_with_room task guide c.find-place.new.lists c.make_places.new.lists (subst (IsGuided task guide) (sym c.find-place.ensures.lists) (guided_by_next task guide c.args.self.now.lists c.next.new.self is c.next.ensures.closed (c.next.ensures.order guide))) c.make_places.ensures.makes.same;
}

pub expand_next-requires-clause-ready : goal.expand_next-requires-clause-ready
expand_next-requires-clause-ready g c κs within =
    let start = c.requires.serves.guided.0 in
    let inside = c.context.inside in
    let context = c.args.context.now in
    let read = context_of inside.me inside.workers inside.goal.now inside.weights.now inside.bound.now inside.owners.now in
    let task = task_from start read in
    let worker = state_of c.args.self.now in
    let lists = c.args.self.now.lists in
    let guide = c.requires.serves.guided.1 in
    let is = guided_read c.requires.serves.guided.0 start read context c.context.view_is guide lists c.requires.serves.guided.2 in
    let next = c.in-Some.next in
    let first = c.in-Some.ensures.least guide is.order in
    let role = role_from g.S.Spread.owner_of start read in
    let left_out = c.find-place.ensures.offers.0 in
    let offers = c.offers-offers.result.now in
    let made = subst (λ (x : ContextModel g.row.S.Denot). AreOffersOf g.S.Spread.owner_of (terms_of x) c.in-Some.next.key c.in-Some.next.cost left_out offers) (sym c.context.view_is) (c.find-place.ensures.offers.2 offers c.offers-offers.ensures) in
    let b = made.board in
    let known = first.opens.0 in
    let it = chosen task guide lists is worker refl (g.S.Spread.owner_of inside.owners.now) inside.workers inside.workers inside.me refl c.limit.result c.limit.ensures next first c.in-Some.ensures.below b read.tables.split.grid c.context.invariant.tables made.has c.args.successors left_out c.find-place.ensures.offers.1 offers made.offered made.within in
    let all : length worker.unsent ≡ inside.workers = length-map c.args.self.now.unsent.items (λ v. v.items) ∙ c.requires.serves.workers ∙ sym (ap (λ (x : ContextModel g.row.S.Denot). x.workers) c.context.view_is) in
    let room = subst (λ (xs : List Items). HasRoom inside.me (packets_of xs) offers) c.deref.ensures.value (c.has_room.ensures.0 (search rules)) in
    subst
    (λ (x : ContextModel g.row.S.Denot). IsReady x.me x.goal.grid (stock c.make_places.new.lists worker.unsent) (in_turn offers))
    c.context.view_is
    (ready_for inside.me read.goal.grid known.cost inside.workers c.make_places.new.lists worker.unsent offers room it.within all c.in_default-make_places.ensures.makes.ok.0 c.in_default-make_places.ensures.makes.ok.1)

pub returns-clause-step : goal.returns-clause-step
returns-clause-step g c = λ start.
    let inside = c.context.inside in
    let context = c.args.context.now in
    let read = context_of inside.me inside.workers inside.goal.now inside.weights.now inside.bound.now inside.owners.now in
    let task = task_from start read in
    let worker = state_of c.args.self.now in
    let lists = c.args.self.now.lists in
    let guide = c.requires.serves.guided.1 in
    let is = guided_read c.requires.serves.guided.0 start read context c.context.view_is guide lists c.requires.serves.guided.2 in
    let next = c.in-Some.next in
    let first = c.in-Some.ensures.least guide is.order in
    let role = role_from g.S.Spread.owner_of start read in
    let left_out = c.find-place.ensures.offers.0 in
    let offers = c.offers-offers.result.now in
    let made = subst (λ (x : ContextModel g.row.S.Denot). AreOffersOf g.S.Spread.owner_of (terms_of x) c.in-Some.next.key c.in-Some.next.cost left_out offers) (sym c.context.view_is) (c.find-place.ensures.offers.2 offers c.offers-offers.ensures) in
    let b = made.board in
    let known = first.opens.0 in
    let it = chosen task guide lists is worker refl (g.S.Spread.owner_of inside.owners.now) inside.workers inside.workers inside.me refl c.limit.result c.limit.ensures next first c.in-Some.ensures.below b read.tables.split.grid c.context.invariant.tables made.has c.args.successors left_out c.find-place.ensures.offers.1 offers made.offered made.within in
    let all : length worker.unsent ≡ inside.workers = length-map c.args.self.now.unsent.items (λ v. v.items) ∙ c.requires.serves.workers ∙ sym (ap (λ (x : ContextModel g.row.S.Denot). x.workers) c.context.view_is) in
    let room = subst (λ (xs : List Items). HasRoom inside.me (packets_of xs) offers) c.deref.ensures.value (c.has_room.ensures.0 (search rules)) in
    let some : worker.allowance ≡ 0 → ⊥ = λ none. c.if-left-eq0.false (c.left.ensures.value ∙ none) in
    let fits = none_overfull role worker b known left_out task.sum offers it.offered read.goal.grid inside.workers it.within all room in
    let same = c.make_places.ensures.makes.same.known ∙ ap (λ (l : SearchListsModel). l.closed.known) c.find-place.ensures.lists ∙ ap (λ (t : ClosedModel). t.known) c.next.ensures.closed in
    let knows = ap (λ (m : Knowledge). map.get m (search_key b)) same ∙ it.at.opens.knows in
    let me = ap (λ (x : ContextModel g.row.S.Denot). x.me) c.context.view_is in
    let sides = it.at.opens.board.1 ∙ ap (λ (x : ContextModel g.row.S.Denot). x.goal.grid) c.context.view_is in
    let done = c.expand_next.ensures.state role task.sum b known left_out me it.at.opens.board.0 sides made.has.packed knows it.offered in
    let after = done ∙ ap (λ (m : Knowledge). expansion_by (moves_but left_out) role (record worker { known = m }) b known) same in
    let both = subst (λ (o : Option Move). (¬ IsOverfull (expansion_by (moves_but o) role worker b known)) × (state_of c.expand_next.new.self ≡ expansion_by (moves_but o) role worker b known)) it.left_out_is (fits, after) in
    step_lent g.S.Spread.owner_of start c.args.successors read context c.context.view_is _
    (inr (it.waits, inr (some, (b, known, it.at, inr (both.0, inl (refl, both.1))))))

pub returns-clause-keeps : goal.returns-clause-keeps
returns-clause-keeps g c = record {
  workers = c.expand_next.ensures.workers;
  granted = c.expand_next.ensures.granted;
  guided = λ start guide guided.
      let inside = c.context.inside in
      let context = c.args.context.now in
      let read = context_of inside.me inside.workers inside.goal.now inside.weights.now inside.bound.now inside.owners.now in
      let task = task_from start read in
      let worker = state_of c.args.self.now in
      let lists = c.args.self.now.lists in
      let is = guided_read start start read context c.context.view_is guide lists guided in
      let next = c.in-Some.next in
      let first = c.in-Some.ensures.least guide is.order in
      let role = role_from g.S.Spread.owner_of start read in
      let left_out = c.find-place.ensures.offers.0 in
      let offers = c.offers-offers.result.now in
      let made = subst (λ (x : ContextModel g.row.S.Denot). AreOffersOf g.S.Spread.owner_of (terms_of x) c.in-Some.next.key c.in-Some.next.cost left_out offers) (sym c.context.view_is) (c.find-place.ensures.offers.2 offers c.offers-offers.ensures) in
      let b = made.board in
      let known = first.opens.0 in
      let it = chosen task guide lists is worker refl (g.S.Spread.owner_of inside.owners.now) inside.workers inside.workers inside.me refl c.limit.result c.limit.ensures next first c.in-Some.ensures.below b read.tables.split.grid c.context.invariant.tables made.has c.args.successors left_out c.find-place.ensures.offers.1 offers made.offered made.within in
      let low = cost_low guide lists.closed next c.limit.result c.args.self.now.best first c.in-Some.ensures.below c.limit.ensures in
      let cost = first.opens.2 in
      let adds = chosen_adds role guide lists is worker b known c.args.successors left_out offers inside.workers it (omega (arith, cost, low)) in
      let lent = task_from start context in
      let roomy = (guided_with_room lent guide c.find-place.new.lists c.make_places.new.lists (subst (IsGuided lent guide) (sym c.find-place.ensures.lists) (guided_by_next lent guide lists c.next.new.self guided c.next.ensures.closed (c.next.ensures.order guide))) c.make_places.ensures.makes.same) in
      c.expand_next.ensures.guided lent guide refl adds roomy;
}
