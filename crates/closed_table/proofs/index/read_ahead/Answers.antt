use Rattle.std.proofs.Common.{◌≡◌, ◌<◌, ◌∙◌, ap, arith}
use Rattle.closed_table.specs.Chains.{place, chain_count}
use Rattle.closed_table.proofs.CountLemmas.{count_pos}
use Rattle.closed_table.proofs.PlaceLemmas.{place_lt}
use Rattle.closed_table.proofs.index.read_ahead.Goals as goal

pub at-bucket-requires : goal.at-bucket-requires
at-bucket-requires c =
    let s = c.args.index.now in
    let is = c.requires.indexed in
    let some : 0 < chain_count s.len = count_pos s.len c.if-index-eq0.false in
    let lt : place s.bits (chain_count s.len) c.hash.result < chain_count s.len = place_lt s.bits (chain_count s.len) c.hash.result some is.low in
    let at : c.chain_of-chain.result ≡ place s.bits (chain_count s.len) c.hash.result = c.chain_of-chain.ensures ∙ ap (λ n. place s.bits n c.hash.result) c.chain_count_of.ensures in
    let le = is.in_buckets in
    omega arith
