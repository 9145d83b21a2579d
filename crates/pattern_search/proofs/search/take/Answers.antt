use Rattle.std.proofs.Common.{◌≡◌, ap, arith, vec_len}
use Rattle.std.specs.Prelude.{IsSome}
use Rattle.pattern_search.proofs.SearchLemmas.{take_option, same_read}
use Rattle.pattern_search.proofs.search.take.Goals as goal

pub returns : goal.returns
returns c =
    let same = same_read c.args.buckets.now.items c.args.cost c.index.result.now c.index_mut.result.now c.requires c.index.ensures c.index_mut.ensures.value in
    let len : vec_len c.index.result.now ≡ vec_len c.index_mut.result.now = ap vec_len same in
    let left = c.len-left.ensures in
    let some : IsSome c.pop.result = c.pop.ensures.variant.1 (omega (arith, c.if-left-eq0.false)) in
    take_option c.args.buckets.now.items c.args.cost c.index_mut.result.now c.pop.new.self c.pop.result c.requires c.index_mut.ensures.value some c.pop.ensures.items
