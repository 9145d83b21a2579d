use Rattle.std.proofs.Common.{◌≡◌, Some, refl, sym, ap, ◌∙◌, arith}
use Rattle.std.specs.FinMap as map
use Rattle.std.proofs.lemmas.Option.{slice_get-get_or}
use Rattle.world_model.specs.declared.parts.Known.{Known}
use Rattle.world_model.proofs.ChangeLemmas.{same_known}
use Rattle.search_lists.specs.Lists.{both, AreKnown}
use Rattle.search_lists.proofs.OrderLemmas.{IsStale, is_there, was_there, places_stay, one_less, order_dropped, known_same, order_same, count_same}
use Rattle.search_lists.proofs.lists.next_open.Goals as goal

pub at-key-requires : goal.at-key-requires
at-key-requires c =
    let first = c.in-Some.first in
    let waiting = c.first_waiting.new.waiting in
    let known = known_same c.entries.waiting waiting c.in-Some.ensures.same c.args.closed.now c.entries.invariant.known in
    known first.f first.place first.cost (is_there first.f (first.place, first.cost) waiting c.in-Some.ensures.next.1)

pub returns-then-is_current-clause-known : goal.returns-then-is_current-clause-known
returns-then-is_current-clause-known c = known_same c.entries.waiting c.first_waiting.new.waiting c.in-Some.ensures.same c.args.closed.now c.entries.invariant.known

pub returns-then-is_current-clause-order : goal.returns-then-is_current-clause-order
returns-then-is_current-clause-order c = λ guide order. order_same c.entries.waiting c.first_waiting.new.waiting c.in-Some.ensures.same guide c.args.closed.now (c.entries.invariant.order guide order)

pub returns-then-is_current-clause-first : goal.returns-then-is_current-clause-first
returns-then-is_current-clause-first c =
    let current = c.if-is_current.ensures.yes refl in
    let first = c.in-Some.first in
    let waiting = c.first_waiting.new.waiting in
    let known = known_same c.entries.waiting waiting c.in-Some.ensures.same c.args.closed.now c.entries.invariant.known in
    let within = known first.f first.place first.cost (is_there first.f (first.place, first.cost) waiting c.in-Some.ensures.next.1) in
    record {
      place = slice_get-get_or c.args.closed.now.keys first.place 0 within ∙ ap Some (sym c.at-key.ensures.key);
      known = (c.at-key.result.1, c.at-key.ensures.known, current.0, current.1, refl);
      waits = c.in-Some.ensures.next.1;
      within = omega (arith, c.in-Some.ensures.next.0, c.ranges.below.fits);
    }

pub returns-clause-known : goal.returns-clause-known
returns-clause-known c = known_same c.entries.waiting c.first_waiting.new.waiting c.in_default.ensures.same c.args.closed.now c.entries.invariant.known

pub returns-clause-order : goal.returns-clause-order
returns-clause-order c = λ guide order. order_same c.entries.waiting c.first_waiting.new.waiting c.in_default.ensures.same guide c.args.closed.now (c.entries.invariant.order guide order)

pub entries-smaller : goal.entries-smaller
entries-smaller c =
    let first = c.in-Some.first in
    let waiting = c.first_waiting.new.waiting in
    omega (arith, count_same c.entries.waiting waiting c.in-Some.ensures.same c.args.below, one_less first.f (first.place, first.cost) waiting c.take_first.new.waiting c.take_first.ensures c.args.below c.in-Some.ensures.next.0)

pub entries-preserved : goal.entries-preserved
entries-preserved c =
    let first = c.in-Some.first in
    let waiting = c.first_waiting.new.waiting in
    let same = c.in-Some.ensures.same in
    let known : AreKnown (both c.args.closed.now waiting) = known_same c.entries.waiting waiting same c.args.closed.now c.entries.invariant.known in
    let within = known first.f first.place first.cost (is_there first.f (first.place, first.cost) waiting c.in-Some.ensures.next.1) in
    let stale : IsStale c.args.closed.now first.place first.cost = λ key known stands knows unexpanded cost.
    let key_is : Some key ≡ Some c.at-key.result.0 = sym stands ∙ slice_get-get_or c.args.closed.now.keys first.place 0 within ∙ ap Some (sym c.at-key.ensures.key) in
    let same : key ≡ c.at-key.result.0 = cc in
    let is : known ≡ c.at-key.result.1 = same_known c.args.closed.now.known key known c.at-key.result.1 knows (ap (map.get c.args.closed.now.known) same ∙ c.at-key.ensures.known) in
    c.if-is_current.ensures.no refl (ap (λ (k : Known). k.expanded) (sym is) ∙ unexpanded) (ap (λ (k : Known). k.cost) (sym is) ∙ cost) in
    record {
      known = λ f place cost has. known f place cost (was_there first.f (first.place, first.cost) waiting c.take_first.new.waiting c.take_first.ensures f (place, cost) has);
      places = λ h. omega (arith, c.entries.invariant.places h, same.places h, places_stay first.f (first.place, first.cost) waiting c.take_first.new.waiting c.take_first.ensures h);
      order = λ guide order. order_dropped guide c.args.closed.now first.f first.place first.cost waiting c.take_first.new.waiting c.take_first.ensures stale (order_same c.entries.waiting waiting same guide c.args.closed.now (c.entries.invariant.order guide order));
    }
