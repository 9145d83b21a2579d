use Rattle.std.proofs.Common.{◌≡◌, ◌<◌, ℕ, ◌∷◌, [], List, Some, get_or, length, sym, ap, ◌∙◌, subst, ⊎_elim, arith}
use Rattle.std.proofs.Math.Nat.{eq-or-lt_of_le}
use Rattle.std.proofs.lemmas.List.{length-append}
use Rattle.board.specs.declared.moves.Move.{Move}
use Rattle.board.specs.declared.moves.Move.TheVariants.{U}
use Rattle.board.specs.Neighbours.{neighbour}
use Rattle.board.specs.Boards.{blank_of}
use Rattle.lower_bound.specs.Bounds.{sum_of}
use Rattle.lower_bound.specs.Tables.{parts_of}
use Rattle.successor_sums.specs.ByMoves.{IsBehind, entries_of}
use Rattle.successor_sums.proofs.EntryLemmas.{put_entry, at_end, before_end, behind_those, exits_here, exits_of, led_by, of_entries}
use Rattle.owners.specs.declared.offer.Offer.{Offer}
use Rattle.owners.specs.Offers.{item_by, IsOffered, IsWithin}
use Rattle.owners.specs.Terms.{OriginModel}
use Rattle.owners.proofs.OfferLemmas.{all_offered}
use Rattle.owners.proofs.offer.offers_of.Goals as goal

abbrev any : Move × ℕ
any = (U, 0)

pub offer_by-offer-requires-clause-beside : goal.offer_by-offer-requires-clause-beside
offer_by-offer-requires-clause-beside g c =
    let test = c.exits-test.true in
    let all = c.len-place-end.ensures.value in
    let exits = c.find_exits.new.exits in
    let low : c.exits.place < length (entries_of exits) = omega (arith, test, all) in
    let b = c.args.origin.now.board in
    let here : exits ≡ exits_of c.args.left_out b = exits_here c.args.left_out c.origin.inside.board.now c.shape.result c.blank.result exits c.find_exits.ensures c.shape.ensures.value c.blank.ensures.value ∙ ap (λ (o : OriginModel). exits_of c.args.left_out o.board) c.origin.view_is in
    let led = led_by c.args.left_out b exits here c.exits.place any low in
    (c.entry-direction.result.0, subst (λ (x : Move × ℕ). neighbour b.grid x.0 (blank_of b) ≡ Some x.1) (c.entry-direction.ensures any) led.1)

pub put_if-requires : goal.put_if-requires
put_if-requires g c =
    let test = c.exits-test.true in
    let all = c.len-place-end.ensures.value in
    let exits = c.find_exits.new.exits in
    let low : c.exits.place < length (entries_of exits) = omega (arith, test, all) in (
      omega arith,
      subst (λ (x : Move × ℕ). IsBehind c.exits.offers x.0) (c.entry-direction.ensures any)
          (behind_those exits c.exits.offers c.exits.place any low c.exits.invariant.all (λ j d lt. c.exits.invariant.moves j d any lt)),
    )

pub exits-preserved : goal.exits-preserved
exits-preserved g c =
    let test = c.exits-test.true in
    let all = c.len-place-end.ensures.value in
    let exits = c.find_exits.new.exits in
    let low : c.exits.place < length (entries_of exits) = omega (arith, test, all) in
    let b = c.args.origin.now.board in
    let cost = c.args.origin.now.cost in
    let terms = c.args.terms.now in
    let owner = g.S.Spread.owner_of terms.owners terms.workers in
    let sum = sum_of (parts_of terms.tables) in
    let here : exits ≡ exits_of c.args.left_out b = exits_here c.args.left_out c.origin.inside.board.now c.shape.result c.blank.result exits c.find_exits.ensures c.shape.ensures.value c.blank.ensures.value ∙ ap (λ (o : OriginModel). exits_of c.args.left_out o.board) c.origin.view_is in
    let m = c.entry-direction.result.0 in
    let offer = c.offer_by-offer.result in
    let item : Move × Offer = (m, offer) in
    let behind = subst (λ (x : Move × ℕ). IsBehind c.exits.offers x.0) (c.entry-direction.ensures any)
    (behind_those exits c.exits.offers c.exits.place any low c.exits.invariant.all (λ j d lt. c.exits.invariant.moves j d any lt)) in
    let grown = ap entries_of c.put_if.ensures ∙ put_entry c.exits.offers m offer behind in
    let before = c.exits.invariant.all in
    let more = ap length grown ∙ length-append (entries_of c.exits.offers) (item ∷ []) in
    let last = λ (j : ℕ) (d : Move × Offer) (is : j ≡ c.exits.place). ap (λ (es : List (Move × Offer)). get_or es j d) grown ∙ at_end (entries_of c.exits.offers) item j d (omega (arith, is, before)) in
    let there = λ (j : ℕ) (d : Move × Offer) (lt : j < c.exits.place). ap (λ (es : List (Move × Offer)). get_or es j d) grown ∙ before_end (entries_of c.exits.offers) item j d (omega (arith, lt, before)) in
    let led = led_by c.args.left_out b exits here c.exits.place any low in
    let beside = subst (λ (x : Move × ℕ). neighbour b.grid x.0 (blank_of b) ≡ Some x.1) (c.entry-direction.ensures any) led.1 in
    let is_offered = c.offer_by-offer.ensures.offered m beside in
    record {
      all = omega (arith, more, before);
      moves = λ j d e lt.
          ⊎_elim
          (λ (is : j ≡ c.exits.place). ap (λ (x : Move × Offer). x.0) (last j d is) ∙ sym (ap (λ (x : Move × ℕ). x.0) (ap (λ (k : ℕ). get_or (entries_of exits) k e) is ∙ c.entry-direction.ensures e)))
          (λ (less : j < c.exits.place). ap (λ (x : Move × Offer). x.0) (there j d less) ∙ c.exits.invariant.moves j d e less)
          (eq-or-lt_of_le (omega (arith, lt)));
      offered = λ j d lt.
          ⊎_elim
          (λ (is : j ≡ c.exits.place). subst (λ (x : Move × Offer). IsOffered sum owner (item_by terms.rule b cost x.0) (Some x.1)) (sym (last j d is)) is_offered)
          (λ (less : j < c.exits.place). subst (λ (x : Move × Offer). IsOffered sum owner (item_by terms.rule b cost x.0) (Some x.1)) (sym (there j d less)) (c.exits.invariant.offered j d less))
          (eq-or-lt_of_le (omega (arith, lt)));
      within = λ j d lt.
          ⊎_elim
          (λ (is : j ≡ c.exits.place). subst (λ (x : Move × Offer). IsWithin b.grid cost terms.workers x.1) (sym (last j d is)) c.offer_by-offer.ensures.within)
          (λ (less : j < c.exits.place). subst (λ (x : Move × Offer). IsWithin b.grid cost terms.workers x.1) (sym (there j d less)) (c.exits.invariant.within j d less))
          (eq-or-lt_of_le (omega (arith, lt)));
    }

pub returns-clause-offered : goal.returns-clause-offered
returns-clause-offered g c =
    let end = c.exits-test.false in
    let all = c.len-place-end.ensures.value in
    let before = c.exits.invariant.all in
    let exits = c.find_exits.new.exits in
    let origin = c.args.origin.now in
    let terms = c.args.terms.now in
    let left_out = c.args.left_out in
    let here : exits ≡ exits_of left_out origin.board = exits_here left_out c.origin.inside.board.now c.shape.result c.blank.result exits c.find_exits.ensures c.shape.ensures.value c.blank.ensures.value ∙ ap (λ (o : OriginModel). exits_of left_out o.board) c.origin.view_is in
    all_offered terms.rule left_out origin.board origin.cost (sum_of (parts_of terms.tables)) (g.S.Spread.owner_of terms.owners terms.workers) exits c.exits.offers here (omega (arith, end, all, before))
    (λ j d e lt. c.exits.invariant.moves j d e (omega (arith, end, all, lt)))
    (λ j d lt. c.exits.invariant.offered j d (omega (arith, end, all, lt)))

pub returns-clause-within : goal.returns-clause-within
returns-clause-within g c =
    let end = c.exits-test.false in
    let all = c.len-place-end.ensures.value in
    let before = c.exits.invariant.all in
    let origin = c.args.origin.now in
    of_entries (IsWithin origin.board.grid origin.cost c.args.terms.now.workers) c.exits.offers (λ j d lt. c.exits.invariant.within j d (omega (arith, before, lt)))
