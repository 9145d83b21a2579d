use Rattle.std.proofs.Common.{ℕ, ◌-◌, refl, sym, ap, ◌∙◌}
use Rattle.board.specs.declared.moves.Move.{Move}
use Rattle.owners.specs.Offers.{item_by}
use Rattle.successor_sums.specs.Unpacked.{but}
use Rattle.world_model.specs.Workers.{WorkerState}
use Rattle.worker_core.specs.Expanding.{all_taken, in_turn}
use Rattle.worker_core.specs.Workers.{state_of, packets_of}
use Rattle.worker_core.proofs.BackLemmas.{in_four_by}
use Rattle.worker_core.proofs.ExpandLemmas.{item_board_but, item_via_but, ready_closed, one_spent, guided_closed}
use Rattle.worker_core.proofs.worker.Worker.expand_next.Goals as goal

pub take_all-requires-after_bounds : goal.take_all-requires-after_bounds
take_all-requires-after_bounds g c κs within =
    let context = c.args.context.now in
    ready_closed context.me context.goal.grid c.args.self.now.lists c.close_next.new.lists (packets_of c.args.self.now.unsent.items) (in_turn c.args.offers.now) c.args.next.key c.close_next.ensures.closed c.close_next.ensures.places c.requires.ready

pub returns-clause-state : goal.returns-clause-state
returns-clause-state g c = λ role sum b known left_out me board sides packed at offered.
    let worker = state_of c.args.self.now in
    let old = c.args.self.now.allowance in
    let item = but left_out (item_by role.task.rule b known.cost) in
    let boards = λ (m : Move). item_board_but role.task.rule b known.cost left_out m c.args.context.now.goal.grid board sides in
    let last = λ (m : Move). item_via_but role.task.rule b known.cost left_out m in
    let closed = one_spent worker b known old.granted old.left c.close_next.new.allowance.left c.close_next.new.lists c.args.self.now.lists c.args.next.key refl refl refl c.close_next.ensures.left c.requires.granted packed at c.close_next.ensures.closed in
    let made = c.close_next.new.lists.closed.known in
    let left = c.close_next.new.allowance.left in
    let spent = ap (λ (granted : ℕ). record worker { known = made; allowance = left; expansions = granted - left }) c.close_next.ensures.granted in
    c.take_all.ensures.state role sum item me offered boards last ∙ ap (λ (w : WorkerState). all_taken role w item) (spent ∙ closed) ∙ sym (in_four_by role worker b known left_out)

pub returns-clause-guided : goal.returns-clause-guided
returns-clause-guided g c = λ task guide ends adds is.
    let closed = guided_closed task guide c.args.self.now.lists c.close_next.new.lists is c.args.next.key c.close_next.ensures.closed (c.close_next.ensures.order guide is.order) in
    c.take_all.ensures.guided task guide ends adds closed
