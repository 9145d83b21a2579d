use Rattle.std.proofs.Common.{rules, arith, ◌≡◌, ◌∷◌, length}
use Rattle.std.specs.Prelude.{Vec}
use Rattle.std.specs.declared.alloc.Global.{Global}
use Rattle.std.specs.Vec.Iter.{into_iter_items}
use Rattle.lower_bound.specs.Bounds.{sum_of}
use Rattle.lower_bound.specs.Tables.{parts_of}
use Rattle.thread_parts.specs.Rings.{ReceiverModel}
use Rattle.thread_runs.specs.Lanes.{IsLeftInRow}
use Rattle.thread_runs.proofs.WorldLemmas.{so_far_none, so_far_more, so_far_all, so_far_next}
use Rattle.thread_runs.proofs.TakenLemmas.{nothing}
use Rattle.thread_runs.proofs.lowest.lowest_in_rows.Goals as goal

pub receivers-init : goal.receivers-init
receivers-init g c =
    let all = into_iter_items c.into_iter-row-iterator.result in
    let rest : all ≡ c.args.rows.items = search rules in
    record {
      next = tt;
      ends = tt;
      least = so_far_none (λ (row : Vec ReceiverModel Global). IsLeftInRow (sum_of (parts_of c.args.bound.now)) row.items) c.args.rows.items c.args.lowest all rest;
    }

pub lowest_in_row-least-requires-after_bounds : goal.lowest_in_row-least-requires-after_bounds
lowest_in_row-least-requires-after_bounds g c κs within =
    let here = c.in-Some.row in
    let before = into_iter_items c.receivers.row-iterator in
    let next = into_iter_items c.next.new.self in
    let first : before ≡ here ∷ next = search rules in
    let has = so_far_next (λ (row : Vec ReceiverModel Global). IsLeftInRow (sum_of (parts_of c.args.bound.now)) row.items) c.args.rows.items c.args.lowest here before next c.receivers.least first c.receivers.invariant.least in
    λ it packet stands lies. c.requires here it packet has stands lies

pub receivers-preserved : goal.receivers-preserved
receivers-preserved g c =
    let here = c.in-Some.row in
    let before = into_iter_items c.receivers.row-iterator in
    let next = into_iter_items c.next.new.self in
    let first : before ≡ here ∷ next = search rules in
    record {
      next = tt;
      ends = tt;
      least = so_far_more (λ (row : Vec ReceiverModel Global). IsLeftInRow (sum_of (parts_of c.args.bound.now)) row.items) c.args.rows.items c.args.lowest here before next c.receivers.least c.lowest_in_row-least.result first c.receivers.invariant.least c.lowest_in_row-least.ensures;
    }

pub returns : goal.returns
returns g c =
    let before = into_iter_items c.receivers.row-iterator in
    let l = c.in-None.ensures.steps.0 in
    let none : length before ≡ 0 = omega (arith, l, c.receivers.row-iterator.rest.ok.0) in
    so_far_all (λ (row : Vec ReceiverModel Global). IsLeftInRow (sum_of (parts_of c.args.bound.now)) row.items) c.args.rows.items c.args.lowest before c.receivers.least (nothing before none) c.receivers.invariant.least
