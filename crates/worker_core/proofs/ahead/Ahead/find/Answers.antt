use Rattle.std.proofs.Common.{◌≡◌, Some, List, ap, ◌∙◌, subst}
use Rattle.std.specs.Prelude.{set, slice_get}
use Rattle.std.proofs.lemmas.List.Elements.{All-set}
use Rattle.std.proofs.lemmas.Option.{slice_get_within}
use Rattle.worker_core.specs.Ahead.{IsFoundAhead, terms_of}
use Rattle.worker_core.specs.declared.ahead.Found.{Found}
use Rattle.worker_core.proofs.BackLemmas.{adds_up, found_of, set_there}
use Rattle.worker_core.proofs.ahead.Ahead.find.Goals as goal

pub write_offers-requires : goal.write_offers-requires
write_offers-requires g c =
    let guided = c.requires.guided in
    adds_up c.args.context.now guided.0 guided.1 c.args.lists.now guided.2 c.args.next c.requires.waits c.requires.low

pub returns-in-Some-clause-there : goal.returns-in-Some-clause-there
returns-in-Some-clause-there g c =
    let it = c.in-Some.ensures in
    slice_get_within c.args.self.now.batch.items c.in-Some.place it.0 (subst (λ (xs : List Found). slice_get xs c.in-Some.place ≡ Some it.0) c.deref.ensures.value it.1)

pub returns-in-Some-clause-offers : goal.returns-in-Some-clause-offers
returns-in-Some-clause-offers g c =
    let it = c.in-Some.ensures in
    let left_out = c.move_left_out-left_out.result in
    let at = subst (λ (xs : List Found). slice_get xs c.in-Some.place ≡ Some it.0) c.deref.ensures.value it.1 in (
      left_out,
      c.move_left_out-left_out.ensures,
      found_of g.S.Spread.owner_of (terms_of c.args.context.now) c.args.self.now.batch.items c.in-Some.place c.args.next.key c.args.next.cost left_out c.requires.found (it.0, at, it.2),
    )

pub write_offers-requires-then-is_empty : goal.write_offers-requires-then-is_empty
write_offers-requires-then-is_empty g c =
    let guided = c.requires.guided in
    adds_up c.args.context.now guided.0 guided.1 c.args.lists.now guided.2 c.args.next c.requires.waits c.requires.low

pub write_found-requires : goal.write_found-requires
write_found-requires g c =
    let guided = c.requires.guided in
    adds_up c.args.context.now guided.0 guided.1 c.args.lists.now guided.2 c.args.next c.requires.waits c.requires.low

pub returns-clause-found : goal.returns-clause-found
returns-clause-found g c = All-set (IsFoundAhead g.S.Spread.owner_of (terms_of c.args.context.now)) c.fill.new.batch.items 0 c.write_found.new.found c.write_found.ensures.found c.fill.ensures.found

pub returns-clause-offers : goal.returns-clause-offers
returns-clause-offers g c =
    let left_out = c.move_left_out-left_out.result in
    let terms = terms_of c.args.context.now in
    let old = c.fill.new.batch.items in
    let new = c.write_found.new.found in
    let all = All-set (IsFoundAhead g.S.Spread.owner_of terms) old 0 new c.write_found.ensures.found c.fill.ensures.found in (
      left_out,
      c.move_left_out-left_out.ensures,
      λ offers at. found_of g.S.Spread.owner_of terms (set old 0 new) 0 c.args.next.key c.args.next.cost left_out all (new, at.1 ∙ ap Some (set_there old 0 new at.0 at.1), c.write_found.ensures.of) offers at,
    )
