use Rattle.std.proofs.Common.{rules, arith, ◌≡◌, ◌∷◌, length}
use Rattle.std.specs.Vec.Iter.{into_iter_items}
use Rattle.lower_bound.specs.Bounds.{sum_of}
use Rattle.lower_bound.specs.Tables.{parts_of}
use Rattle.thread_runs.specs.Lanes.{IsLeft}
use Rattle.thread_runs.proofs.WorldLemmas.{so_far_none, so_far_more, so_far_all, so_far_next}
use Rattle.thread_runs.proofs.TakenLemmas.{nothing}
use Rattle.thread_runs.proofs.lowest.lowest_in_row.Goals as goal

pub senders-init : goal.senders-init
senders-init g c =
    let all = into_iter_items c.into_iter-receiver-iterator.result in
    let rest : all ≡ c.args.row.items = search rules in
    record {
      next = tt;
      ends = tt;
      least = so_far_none (IsLeft (sum_of (parts_of c.args.bound.now))) c.args.row.items c.args.lowest all rest;
    }

pub lowest_left-least-requires-after_bounds : goal.lowest_left-least-requires-after_bounds
lowest_left-least-requires-after_bounds g c κs within =
    let here = c.in-Some.receiver in
    let before = into_iter_items c.senders.receiver-iterator in
    let next = into_iter_items c.next.new.self in
    let first : before ≡ here ∷ next = search rules in
    let has = so_far_next (IsLeft (sum_of (parts_of c.args.bound.now))) c.args.row.items c.args.lowest here before next c.senders.least first c.senders.invariant.least in
    λ packet lies. c.requires here packet has lies

pub senders-preserved : goal.senders-preserved
senders-preserved g c =
    let here = c.in-Some.receiver in
    let before = into_iter_items c.senders.receiver-iterator in
    let next = into_iter_items c.next.new.self in
    let first : before ≡ here ∷ next = search rules in
    record {
      next = tt;
      ends = tt;
      least = so_far_more (IsLeft (sum_of (parts_of c.args.bound.now))) c.args.row.items c.args.lowest here before next c.senders.least c.lowest_left-least.result first c.senders.invariant.least c.lowest_left-least.ensures;
    }

pub returns : goal.returns
returns g c =
    let before = into_iter_items c.senders.receiver-iterator in
    let l = c.in-None.ensures.steps.0 in
    let none : length before ≡ 0 = omega (arith, l, c.senders.receiver-iterator.rest.ok.0) in
    so_far_all (IsLeft (sum_of (parts_of c.args.bound.now))) c.args.row.items c.args.lowest before c.senders.least (nothing before none) c.senders.invariant.least
