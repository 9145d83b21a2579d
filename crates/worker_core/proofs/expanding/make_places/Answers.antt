use Rattle.std.proofs.Common.{rules, ◌≡◌, ◌≢◌, ◌≤◌, ◌∙◌, sym, subst, arith}
use Rattle.open_buckets.specs.declared.open.TheConstants.{GREATEST_F}
use Rattle.search_lists.specs.Lists.{SearchListsModel}
use Rattle.worker_core.specs.Expanding.{HasAllPlaces, HasPlaces}
use Rattle.worker_core.proofs.ExpandLemmas.{entry_has, more_room, places_on, places_for_all, still_wanting, same_elsewhere}
use Rattle.std.specs.Prelude.{OnErr, Result, Ok, Err}
use Rattle.worker_core.proofs.expanding.make_places.Goals as goal

-- what holds in any case holds after an error
after_err : {T E P : Type 0} (answer : Result T E) → P → OnErr answer P
after_err (Ok _) here = tt
after_err (Err _) here = here

pub make_places_at-requires : goal.make_places_at-requires
make_places_at-requires c =
    let size = c.len-place-end.ensures.value in
    let within = c.offers-test.true in
    entry_has (λ offer. offer.f ≤ GREATEST_F) c.args.offers.now c.offers.place c.entry.result c.entry.ensures (omega (arith, size, within)) c.requires

pub offers-preserved : goal.offers-preserved
offers-preserved c =
    let more = c.in_ok-make_places_at.ensures.makes.same in
    let old = c.offers.lists in
    let new = c.make_places_at.new.lists in
    let boards = c.offers.invariant.boards in
    let room = more.room in
    record {
      same = more_room c.args.lists.now old new c.offers.invariant.same more;
      boards = omega (arith, boards, room);
      places = places_on c.args.me c.args.offers.now c.offers.place c.entry.result c.entry.ensures old new more c.offers.invariant.places c.in_ok-make_places_at.ensures.makes.ok;
      enough = λ all.
          let as_before : old ≡ c.args.lists.now = c.offers.invariant.enough all in
          let size = c.len-place-end.ensures.value in
          let within = c.offers-test.true in
          let here = entry_has (HasPlaces c.args.me c.args.lists.now) c.args.offers.now c.offers.place c.entry.result c.entry.ensures (omega (arith, size, within)) all.1 in
          c.in_ok-make_places_at.ensures.makes.enough (subst (λ (lists : SearchListsModel). HasPlaces c.args.me lists c.entry.result.1) (sym as_before) here) ∙ as_before;
      others = λ h apart.
          let size = c.len-place-end.ensures.value in
          let within = c.offers-test.true in
          let here = entry_has (λ offer. offer.owner ≡ c.args.me → offer.f ≢ h) c.args.offers.now c.offers.place c.entry.result c.entry.ensures (omega (arith, size, within)) apart in
          same_elsewhere c.args.me h old new c.entry.result.1 c.in_ok-make_places_at.ensures.other c.in_ok-make_places_at.ensures.others here ∙ c.offers.invariant.others h apart;
    }

pub returns-clause-makes : goal.returns-clause-makes
returns-clause-makes c =
    let size = c.len-place-end.ensures.value in
    let past = c.offers-test.false in
    record {
      ok = (c.offers.invariant.boards, places_for_all c.args.me c.offers.lists c.args.offers.now c.offers.place (omega (arith, size, past)) c.offers.invariant.places);
      refused = tt;
      enough = c.offers.invariant.enough;
      same = c.offers.invariant.same;
    }

pub returns-in_err-make_places_at-clause-makes : goal.returns-in_err-make_places_at-clause-makes
returns-in_err-make_places_at-clause-makes c =
    let size = c.len-place-end.ensures.value in
    let within = c.offers-test.true in
    let none : ¬ HasPlaces c.args.me c.args.lists.now c.entry.result.1 = still_wanting c.args.me c.args.lists.now c.offers.lists c.entry.result.1 c.offers.invariant.same c.in_err-make_places_at.ensures.makes.refused in
    let wanting : ¬ HasAllPlaces c.args.me c.args.lists.now c.args.offers.now = λ all. none (entry_has (HasPlaces c.args.me c.args.lists.now) c.args.offers.now c.offers.place c.entry.result c.entry.ensures (omega (arith, size, within)) all.1) in
    record {
      ok = search rules;
      refused = after_err c.from_residual-in_err-make_places_at.result wanting;
      enough = λ all. absurd (wanting all);
      same = more_room c.args.lists.now c.offers.lists c.make_places_at.new.lists c.offers.invariant.same c.in_err-make_places_at.ensures.makes.same;
    }

pub returns-in_err-make_places_at-clause-others : goal.returns-in_err-make_places_at-clause-others
returns-in_err-make_places_at-clause-others c = λ h apart.
    let size = c.len-place-end.ensures.value in
    let within = c.offers-test.true in
    let here = entry_has (λ offer. offer.owner ≡ c.args.me → offer.f ≢ h) c.args.offers.now c.offers.place c.entry.result c.entry.ensures (omega (arith, size, within)) apart in
    same_elsewhere c.args.me h c.offers.lists c.make_places_at.new.lists c.entry.result.1 c.in_err-make_places_at.ensures.other c.in_err-make_places_at.ensures.others here ∙ c.offers.invariant.others h apart
