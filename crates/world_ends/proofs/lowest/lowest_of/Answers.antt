use Rattle.std.proofs.Common.{rules, ◌≡◌, ℕ, ◌+◌, ◌<◌, Option, Some, List, length, take, refl, sym, ap, ◌∙◌, subst, arith}
use Rattle.std.specs.Prelude.{Contains, slice_get}
use Rattle.std.proofs.lemmas.List.Elements.{Contains-get_or}
use Rattle.std.proofs.lemmas.Option.{slice_get_read}
use Rattle.std.proofs.Math.Seq.{take-length}
use Rattle.lower_bound.specs.Bounds.{sum_of}
use Rattle.lower_bound.specs.Tables.{parts_of}
use Rattle.world_model.specs.declared.parts.Item.{Item}
use Rattle.world_ends.specs.Lowest.{IsLeastBeside, IsOfItem}
use Rattle.world_ends.proofs.PartLemmas.{item_more}
use Rattle.world_ends.proofs.lowest.lowest_of.Goals as goal

pub of_keyed-requires : goal.of_keyed-requires
of_keyed-requires c =
    let within : c.items.item-index < length c.args.items.now = search rules in
    let has : Contains c.args.items.now c.item-item.result = subst (Contains c.args.items.now) (sym c.item-item.is) (Contains-get_or c.args.items.now c.items.item-index c.item-item.result within) in
    (c.requires c.item-item.result has).0

pub overflow_add-f : goal.overflow_add-f
overflow_add-f c =
    let within : c.items.item-index < length c.args.items.now = search rules in
    let has : Contains c.args.items.now c.item-item.result = subst (Contains c.args.items.now) (sym c.item-item.is) (Contains-get_or c.args.items.now c.items.item-index c.item-item.result within) in
    let low = (c.requires c.item-item.result has).1 in
    let high = c.of_keyed.ensures.high in
    omega (arith, low, high)

pub items-preserved : goal.items-preserved
items-preserved c =
    let sum = sum_of (parts_of c.args.bound.now) in
    let within : c.items.item-index < length c.args.items.now = search rules in
    let at : slice_get c.args.items.now c.items.item-index ≡ Some c.item-item.result = slice_get_read c.args.items.now (length c.args.items.now) c.items.item-index c.item-item.result refl within c.item-item.is in
    subst (λ (o : Option ℕ). IsLeastBeside (IsOfItem sum (take (c.items.item-index + 1) c.args.items.now)) c.args.lowest o) (sym c.lesser-least.ensures)
    (item_more sum c.args.items.now c.items.item-index c.item-item.result (c.item-item.result.cost + c.of_keyed.result) c.args.lowest c.items.least within at (ap (λ (n : ℕ). c.item-item.result.cost + n) c.of_keyed.ensures.value) c.items.invariant)

pub returns : goal.returns
returns c =
    let sum = sum_of (parts_of c.args.bound.now) in
    let e : c.items.item-index ≡ length c.args.items.now = search rules in
    let all : take c.items.item-index c.args.items.now ≡ c.args.items.now = ap (λ (k : ℕ). take k c.args.items.now) e ∙ take-length c.args.items.now in
    subst (λ (items : List Item). IsLeastBeside (IsOfItem sum items) c.args.lowest c.items.least) all c.items.invariant
