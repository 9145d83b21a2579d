use Rattle.std.proofs.Common.{◌≡◌, sym, ap, ◌∙◌, subst, arith}
use Rattle.lower_bound.specs.Bounds.{sum_of}
use Rattle.lower_bound.specs.Tables.{parts_of}
use Rattle.search_keys.proofs.SearchKeyLemmas.{one_board}
use Rattle.worker_core.specs.Ahead.{AddsUpAs}
use Rattle.worker_core.specs.Contexts.{ContextModel}
use Rattle.worker_core.proofs.ahead.write_offers.Goals as goal

pub invariant_of-terms : goal.invariant_of-terms
invariant_of-terms g c =
    let is = c.context.invariant in
    record {
      rule = is.rule ∙ sym is.tables;
      consistent = record { rule = c.context.inside.weights.now; goal = c.context.inside.goal.now; grid = sym is.tables; whole = is.potentials.whole };
      some = omega (arith, is.me);
    }

pub offers_of-requires : goal.offers_of-requires
offers_of-requires g c =
    let inside = c.context.inside in
    let adds = subst (λ (x : ContextModel g.row.S.Denot). AddsUpAs x c.args.next) (sym c.context.view_is) c.requires in
    let board = c.of_key-board.result in
    let has = c.of_key-board.ensures in
    let sides : board.grid ≡ inside.goal.now.grid = has.sides ∙ c.shape.ensures.value in
    let same : adds.board ≡ board = one_board adds.board board adds.has.board has.board (adds.has.sides ∙ sym sides) (adds.has.packed ∙ sym has.packed) in
    let sum = ap (sum_of (parts_of inside.bound.now)) same in
    record { grid = sides ∙ sym c.context.invariant.tables; sum = omega (arith, adds.adds, sum) }
