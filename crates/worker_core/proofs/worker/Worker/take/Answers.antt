use Rattle.std.proofs.Common.{◌≡◌, sym, ap, ◌∙◌, subst}
use Rattle.board.specs.Shapes.{ShapeModel}
use Rattle.search_keys.specs.SearchKeys.{search_key, HasSearchKey}
use Rattle.board.specs.Boards.{BoardModel}
use Rattle.worker_core.specs.Contexts.{ContextModel}
use Rattle.worker_core.specs.Workers.{state_of, packets_of}
use Rattle.worker_core.proofs.ExpandLemmas.{ready_own, ready_other, other_option, guided_met}
use Rattle.worker_core.proofs.worker.Worker.take.Goals as goal

pub returns-then-offer-context-clause-ready : goal.returns-then-offer-context-clause-ready
returns-then-offer-context-clause-ready g c = λ rest ready.
    let context = c.args.context.now in
    let packets = packets_of c.args.self.now.unsent.items in
    ready_own context.me context.goal.grid c.args.self.now.lists packets rest c.args.offer.now ready c.relax.new.self c.met_by.result.key c.met_by.result.cost c.met_by.result.via c.relax.ensures.closed c.relax.ensures.places

pub returns-then-offer-context-clause-guided : goal.returns-then-offer-context-clause-guided
returns-then-offer-context-clause-guided g c = λ task guide ends adds is.
    let offer = c.args.offer.now in
    let met = c.met_by.result in
    let same : met ≡ record { key = offer.key; cost = offer.cost; via = c.args.via; f = offer.f } = λ t. record { key = c.met_by.ensures.key t; cost = c.met_by.ensures.cost t; via = c.met_by.ensures.via t; f = c.met_by.ensures.f t } in
    let has = c.requires.1.keys.0 in
    let goal_is : c.context.inside.goal.now ≡ c.args.context.now.goal = ap (λ (x : ContextModel g.row.S.Denot). x.goal) c.context.view_is in
    let key : search_key task.goal ≡ c.key.result = ap search_key (ends ∙ sym goal_is) ∙ sym c.key.ensures.value in
    guided_met task guide c.args.self.now.lists c.relax.new.self is offer c.args.via met same adds has.0 (subst (λ (b : BoardModel). HasSearchKey b.grid offer.key has.0) (sym ends) has.1) c.relax.ensures.closed (c.relax.ensures.order guide (is.guides.ends ∙ key))

pub returns-clause-ready : goal.returns-clause-ready
returns-clause-ready g c = λ rest ready.
    let context = c.args.context.now in
    let packets = packets_of c.args.self.now.unsent.items in
    let me_is : c.context.inside.me ≡ context.me = ap (λ (x : ContextModel g.row.S.Denot). x.me) c.context.view_is in
    ready_other context.me context.goal.grid c.args.self.now.lists packets rest c.args.offer.now ready (λ own. c.if-offer-context.false (own ∙ sym me_is)) _ (packets_of c.put_item.new.packets.items) c.put_item.ensures

pub returns-clause-state : goal.returns-clause-state
returns-clause-state g c = λ role sum item me is board last.
    let context = c.args.context.now in
    let offer = c.args.offer.now in
    let me_is : c.context.inside.me ≡ context.me = ap (λ (x : ContextModel g.row.S.Denot). x.me) c.context.view_is in
    let shape : c.shape.result ≡ context.goal.grid = c.shape.ensures.value ∙ ap (λ (x : ContextModel g.row.S.Denot). x.goal.grid) c.context.view_is in
    other_option role (state_of c.args.self.now) sum item offer is context.goal.grid board c.args.via last c.of_key.result (subst (λ (grid : ShapeModel). HasSearchKey grid offer.key c.of_key.result) shape c.of_key.ensures) (λ own. c.if-offer-context.false (own ∙ me ∙ sym me_is)) (packets_of c.put_item.new.packets.items) c.put_item.ensures
