use Rattle.std.proofs.Common.{◌≡◌, ◌≤◌, ◌<◌, ◌+◌, ◌^◌, [], length, sym, arith}
use Rattle.std.proofs.lemmas.List.{append-nil}
use Rattle.closed_table.specs.Chains.{chain_count}
use Rattle.closed_table.proofs.IndexLemmas.{grown, longer}
use Rattle.closed_table.proofs.table.Closed.reserve.Goals as goal

pub invariant_of-self : goal.invariant_of-self
invariant_of-self c =
    let s = c.self.inside.index in
    let is = c.self.invariant in
    record {
      indexed = grown s.slots c.grow_to.new.pages s.links s.links s.buckets s.buckets s.len (chain_count s.len) s.bits is.indexed c.grow_to.ensures.kept ([], sym (append-nil s.links)) ([], sym (append-nil s.buckets));
      slots = let le = is.slots in let more = longer s.slots c.grow_to.new.pages c.grow_to.ensures.kept in omega arith;
      links = is.links;
      buckets = is.buckets;
      few = is.few;
      clear = is.clear;
    }

pub invariant_of-self-in_err-grow_to-2 : goal.invariant_of-self-in_err-grow_to-2
invariant_of-self-in_err-grow_to-2 c =
    let s = c.self.inside.index in
    let is = c.self.invariant in
    record {
      indexed = grown s.slots c.grow_to.new.pages s.links c.grow_to-2.new.pages s.buckets s.buckets s.len (chain_count s.len) s.bits is.indexed c.grow_to.ensures.kept c.grow_to-2.ensures.kept ([], sym (append-nil s.buckets));
      slots = let le = is.slots in let more = longer s.slots c.grow_to.new.pages c.grow_to.ensures.kept in omega arith;
      links = let le = is.links in let more = longer s.links c.grow_to-2.new.pages c.grow_to-2.ensures.kept in omega arith;
      buckets = is.buckets;
      few = is.few;
      clear = is.clear;
    }

pub invariant_of-self-in_err-grow_to-3 : goal.invariant_of-self-in_err-grow_to-3
invariant_of-self-in_err-grow_to-3 c =
    let s = c.self.inside.index in
    let is = c.self.invariant in
    record {
      indexed = grown s.slots c.grow_to.new.pages s.links c.grow_to-2.new.pages s.buckets c.grow_to-3.new.pages s.len (chain_count s.len) s.bits is.indexed c.grow_to.ensures.kept c.grow_to-2.ensures.kept c.grow_to-3.ensures.kept;
      slots = let le = is.slots in let more = longer s.slots c.grow_to.new.pages c.grow_to.ensures.kept in omega arith;
      links = let le = is.links in let more = longer s.links c.grow_to-2.new.pages c.grow_to-2.ensures.kept in omega arith;
      buckets = let le = is.buckets in let more = longer s.buckets c.grow_to-3.new.pages c.grow_to-3.ensures.kept in omega arith;
      few = is.few;
      clear = λ none chain lt. c.grow_to-3.ensures.alike chain (is.clear none chain lt);
    }

pub invariant_of-self-2 : goal.invariant_of-self-2
invariant_of-self-2 c =
    let s = c.self.inside.index in
    let is = c.self.invariant in
    let slots : s.len + c.args.count < length c.grow_to.new.pages = c.in_ok-grow_to.ensures.ok in
    let most : length c.grow_to.new.pages ≤ 2 ^ 32 = c.in_ok-grow_to.ensures.few in
    let links : s.len + c.args.count < length c.grow_to-2.new.pages = c.in_ok-grow_to-2.ensures.ok in
    let buckets : 0 + c.chain_count_of-chains.result < length c.grow_to-3.new.pages = c.in_ok-grow_to-3.ensures.ok in
    let chains : c.chain_count_of-chains.result ≡ chain_count (s.len + c.args.count) = c.chain_count_of-chains.ensures in
    record {
      indexed = grown s.slots c.grow_to.new.pages s.links c.grow_to-2.new.pages s.buckets c.grow_to-3.new.pages s.len (chain_count s.len) s.bits is.indexed c.grow_to.ensures.kept c.grow_to-2.ensures.kept c.grow_to-3.ensures.kept;
      slots = let more = slots in omega arith;
      links = let more = links in omega arith;
      buckets = let more = buckets in let e = chains in omega arith;
      few = let more = slots in let few = most in omega arith;
      clear = λ none chain lt. c.grow_to-3.ensures.alike chain (is.clear none chain lt);
    }
