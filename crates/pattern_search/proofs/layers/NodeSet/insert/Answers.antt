use Rattle.std.proofs.Common.{◌≡◌, ℕ, ◌+◌, ◌*◌, ◌/◌, ◌%◌, ◌^◌, refl, ap}
use Rattle.std.specs.Int.Bits.{bit_or}
use Rattle.std.proofs.Math.ListN.{set}
use Rattle.std.proofs.lemmas.List.{get_or_read}
use Rattle.pattern_search.specs.Layers.{IsIn}
use Rattle.pattern_search.proofs.LayerLemmas.{words_joined, same_added, one_order}
use Rattle.pattern_search.proofs.layers.NodeSet.insert.Goals as goal

pub returns : goal.returns
returns c =
    let index = c.args.region * c.args.self.now.width + c.args.order / 64 in
    let bits = 1 * 2 ^ (c.args.order % 64) % 2 ^ 64 in
    let is = get_or_read c.args.self.now.words.items index c.index_mut.result.now c.requires.inside c.index_mut.ensures.value 0 in
    same_added (λ r other. (r ≡ c.args.region) × IsIn (c.args.order / 64) bits other) (λ r other. (r ≡ c.args.region) × (other ≡ c.args.order)) c.args.self.now _
    (words_joined c.args.self.now _ c.args.region (c.args.order / 64) bits c.requires.place c.requires.inside refl
    (ap (λ (w : ℕ). set c.args.self.now.words.items index (bit_or w bits)) is))
    (λ r other. (λ a. (a.0, (one_order c.args.order other).0 a.1), λ b. (b.0, (one_order c.args.order other).1 b.1)))
