use Rattle.std.proofs.Common.{Some, refl, sym, ap, ◌∙◌, subst}
use Rattle.std.proofs.lemmas.Option.{slice_get-get_or}
use Rattle.open_buckets.specs.OpenLists.{entries_at}
use Rattle.search_lists.specs.Lists.{SearchListsModel}
use Rattle.search_lists.specs.Orders.{IsWaiting}
use Rattle.search_lists.proofs.OrderLemmas.{entry_has}
use Rattle.search_lists.proofs.lists.SearchLists.upcoming.Goals as goal

pub at-key-requires : goal.at-key-requires
at-key-requires c =
    let f = c.self.inside.batch.f in
    c.self.invariant f c.in-Some.place c.in-Some.cost (entry_has (entries_at c.self.inside.«open» f) c.saturating_sub-index.result (c.in-Some.place, c.in-Some.cost) (sym c.in-Some.ensures))

pub returns : goal.returns
returns c =
    let f = c.self.inside.batch.f in
    let has = entry_has (entries_at c.self.inside.«open» f) c.saturating_sub-index.result (c.in-Some.place, c.in-Some.cost) (sym c.in-Some.ensures) in
    let within = c.self.invariant f c.in-Some.place c.in-Some.cost has in
    subst
    (λ (lists : SearchListsModel). IsWaiting lists (record { place = c.in-Some.place; key = c.at-key.result.0; cost = c.in-Some.cost; via = c.at-key.result.1.via; f = f }))
    c.self.view_is
    (record {
      place = slice_get-get_or c.self.inside.closed.keys c.in-Some.place 0 within ∙ ap Some (sym c.at-key.ensures.key);
      known = (c.at-key.result.1, c.at-key.ensures.known, refl);
      waits = has;
    })
