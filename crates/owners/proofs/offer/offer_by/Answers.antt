use Rattle.std.proofs.Common.{◌≡◌, ◌+◌, ℕ, Some, ap, ◌∙◌, subst, sym}
use Rattle.std.specs.Prelude.{slice_index}
use Rattle.board.specs.Weights.{weight_of}
use Rattle.board.specs.Moves.{blank_exchange}
use Rattle.board.specs.Neighbours.{neighbour}
use Rattle.board.specs.Boards.{IsBoard, BoardModel, blank_of}
use Rattle.lower_bound.specs.Bounds.{sum_of}
use Rattle.lower_bound.specs.Slides.{IsMoveOf}
use Rattle.lower_bound.specs.Tables.{parts_of}
use Rattle.owners.specs.declared.offer.Offer.{Offer}
use Rattle.owners.specs.Offers.{item_by, IsOffered}
use Rattle.owners.specs.Terms.{OriginModel, TermsModel}
use Rattle.owners.proofs.OfferLemmas.{board_after, is_move, is_offered}
use Rattle.owners.proofs.offer.offer_by.Goals as goal

pub sum_after_move-sum-requires-clause-moved : goal.sum_after_move-sum-requires-clause-moved
sum_after_move-sum-requires-clause-moved g c =
    let b = c.origin.inside.board.now in
    let to = c.args.to in
    let m = c.requires.beside.0 in
    let beside = subst (λ (o : OriginModel). neighbour o.board.grid m (blank_of o.board) ≡ Some to) (sym c.origin.view_is) c.requires.beside.1 in
    let board = subst (λ (o : OriginModel). IsBoard o.board) (sym c.origin.view_is) c.requires.read.board in
    let read : c.args.reading.now ≡ b = c.requires.read.read ∙ sym (ap (λ (o : OriginModel). o.board) c.origin.view_is) in
    (blank_exchange b to, subst (λ (p : BoardModel). IsMoveOf c.slide-slid.result.tile p (blank_exchange b to)) (sym read) (is_move b m to board beside c.terms.inside.weights.now c.slide-slid.result.tile c.slide-slid.ensures.tile))

pub returns-clause-offered : goal.returns-clause-offered
returns-clause-offered g c = λ m found.
    let b = c.origin.inside.board.now in
    let cost = c.origin.inside.cost in
    let rule = c.terms.inside.weights.now in
    let parts = parts_of c.terms.inside.bound.now in
    let owner = g.S.Spread.owner_of c.terms.inside.owners.now c.terms.inside.workers in
    let to = c.args.to in
    let tile = c.slide-slid.result.tile in
    let next = blank_exchange b to in
    let beside = subst (λ (o : OriginModel). neighbour o.board.grid m (blank_of o.board) ≡ Some to) (sym c.origin.view_is) found in
    let board = subst (λ (o : OriginModel). IsBoard o.board) (sym c.origin.view_is) c.requires.read.board in
    let read : c.args.reading.now ≡ b = c.requires.read.read ∙ sym (ap (λ (o : OriginModel). o.board) c.origin.view_is) in
    let moves = subst (λ (p : BoardModel). IsMoveOf tile p next) (sym read) (is_move b m to board beside rule tile c.slide-slid.ensures.tile) in
    let weight : c.of.result ≡ weight_of rule (slice_index b.tiles to) = c.of.ensures.value ∙ ap (weight_of rule) c.slide-slid.ensures.tile in
    let sum = c.sum_after_move-sum.ensures.value next moves in
    let owned = subst (λ (t : TermsModel g.row.S.Denot). c.owner_after.result ≡ g.S.Spread.owner_of t.owners t.workers next) (sym c.terms.view_is) (c.owner_after.ensures.value next (record { board = board_after b m to board beside; sides = sym c.shape.ensures.value; packed = sym c.slide-slid.ensures.key })) in
    let offer : Offer = record { key = c.slide-slid.result.key; cost = cost + c.of.result; f = cost + c.of.result + c.sum_after_move-sum.result; owner = c.owner_after.result } in
    let offered = is_offered b m to board beside rule cost (sum_of parts) owner offer c.slide-slid.ensures.key (ap (λ (w : ℕ). cost + w) weight) (λ i. cost + weight i + sum i) owned in
    subst (λ (o : OriginModel). IsOffered (sum_of (parts_of c.args.terms.now.tables)) (g.S.Spread.owner_of c.args.terms.now.owners c.args.terms.now.workers) (item_by c.args.terms.now.rule o.board o.cost m) (Some offer)) c.origin.view_is
    (subst (λ (t : TermsModel g.row.S.Denot). IsOffered (sum_of (parts_of t.tables)) (g.S.Spread.owner_of t.owners t.workers) (item_by t.rule b cost m) (Some offer)) c.terms.view_is offered)
