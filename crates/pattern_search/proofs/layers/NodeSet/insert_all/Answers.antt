use Rattle.std.proofs.Common.{ℕ, ◌+◌, ◌*◌, refl, ap}
use Rattle.std.specs.Int.Bits.{bit_or}
use Rattle.std.proofs.Math.ListN.{set}
use Rattle.std.proofs.lemmas.List.{get_or_read}
use Rattle.pattern_search.proofs.LayerLemmas.{words_joined}
use Rattle.pattern_search.proofs.layers.NodeSet.insert_all.Goals as goal

pub returns : goal.returns
returns c =
    let index = c.args.region * c.args.self.now.width + c.args.place in
    let is = get_or_read c.args.self.now.words.items index c.index_mut.result.now c.requires.inside c.index_mut.ensures.value 0 in
    words_joined c.args.self.now _ c.args.region c.args.place c.args.bits c.requires.place c.requires.inside refl
    (ap (λ (w : ℕ). set c.args.self.now.words.items index (bit_or w c.args.bits)) is)
