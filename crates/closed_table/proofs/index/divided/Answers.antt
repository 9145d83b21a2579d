use Rattle.std.proofs.Common.{◌≤◌, ◌∙◌, ℕ, eqb, not, sym, ap, subst, arith}
use Rattle.std.specs.Prelude.{min}
use Rattle.std.proofs.Math.Nat.{min-le_left, min-eq_right, zero-min}
use Rattle.closed_table.specs.declared.index.Bucket.{Bucket}
use Rattle.closed_table.specs.Chains.{stays, moves_on, bucket_part, IsClearAt}
use Rattle.closed_table.proofs.RelinkLemmas.{part_none, part_few, part_clear, next_there}
use Rattle.closed_table.proofs.index.divided.Goals as goal

pub entries-init : goal.entries-init
entries-init c = record {
  stay = sym (ap (bucket_part (stays c.args.bits c.args.chains c.args.from) c.args.bucket.now) (zero-min c.args.bucket.now.count) ∙ part_none (stays c.args.bits c.args.chains c.args.from) c.args.bucket.now);
  go = sym (ap (bucket_part (moves_on c.args.bits c.args.chains c.args.from) c.args.bucket.now) (zero-min c.args.bucket.now.count) ∙ part_none (moves_on c.args.bits c.args.chains c.args.from) c.args.bucket.now);
}

pub put_if-requires-clause-free : goal.put_if-requires-clause-free
put_if-requires-clause-free c =
    let few : c.entries.halves.stay.count ≤ min c.entries.k c.args.bucket.now.count = subst (λ (x : Bucket). x.count ≤ min c.entries.k c.args.bucket.now.count) (sym c.entries.invariant.stay) (part_few (stays c.args.bits c.args.chains c.args.from) c.args.bucket.now (min c.entries.k c.args.bucket.now.count)) in
    let least = min-le_left c.entries.k c.args.bucket.now.count in
    let within = c.entries-test.true in
    omega (arith, few, least, within)

pub put_if-requires-in-entries-clause-free : goal.put_if-requires-in-entries-clause-free
put_if-requires-in-entries-clause-free c =
    let few : c.entries.halves.go.count ≤ min c.entries.k c.args.bucket.now.count = subst (λ (x : Bucket). x.count ≤ min c.entries.k c.args.bucket.now.count) (sym c.entries.invariant.go) (part_few (moves_on c.args.bits c.args.chains c.args.from) c.args.bucket.now (min c.entries.k c.args.bucket.now.count)) in
    let least = min-le_left c.entries.k c.args.bucket.now.count in
    let within = c.entries-test.true in
    omega (arith, few, least, within)

pub put_if-requires-clause-clear : goal.put_if-requires-clause-clear
put_if-requires-clause-clear c = subst (λ (x : Bucket). IsClearAt x x.count) (sym c.entries.invariant.stay) (part_clear (stays c.args.bits c.args.chains c.args.from) c.args.bucket.now (min c.entries.k c.args.bucket.now.count) (bucket_part (stays c.args.bits c.args.chains c.args.from) c.args.bucket.now (min c.entries.k c.args.bucket.now.count)).count (omega arith))

pub put_if-requires-in-entries-clause-clear : goal.put_if-requires-in-entries-clause-clear
put_if-requires-in-entries-clause-clear c = subst (λ (x : Bucket). IsClearAt x x.count) (sym c.entries.invariant.go) (part_clear (moves_on c.args.bits c.args.chains c.args.from) c.args.bucket.now (min c.entries.k c.args.bucket.now.count) (bucket_part (moves_on c.args.bits c.args.chains c.args.from) c.args.bucket.now (min c.entries.k c.args.bucket.now.count)).count (omega arith))

pub entries-preserved : goal.entries-preserved
entries-preserved c =
    let bits = c.args.bits in
    let chains = c.args.chains in
    let from = c.args.from in
    let whole = c.args.bucket.now in
    let k = c.entries.k in
    let tested = ap (λ (chain : ℕ). eqb chain from) (sym c.chain_of.ensures) in
    record {
      stay = c.put_if.ensures ∙ sym (next_there bits chains from whole k c.entries.halves.stay (stays bits chains from) (eqb c.chain_of.result from) whole.count c.entries.invariant.stay tested);
      go = c.put_if-in-entries.ensures ∙ sym (next_there bits chains from whole k c.entries.halves.go (moves_on bits chains from) (not (eqb c.chain_of.result from)) whole.count c.entries.invariant.go (ap not tested));
    }

pub returns-clause-stay : goal.returns-clause-stay
returns-clause-stay c = c.entries.invariant.stay ∙ ap (bucket_part (stays c.args.bits c.args.chains c.args.from) c.args.bucket.now) (min-eq_right (omega (arith, c.entries-test.false, c.requires.places.count)))

pub returns-clause-go : goal.returns-clause-go
returns-clause-go c = c.entries.invariant.go ∙ ap (bucket_part (moves_on c.args.bits c.args.chains c.args.from) c.args.bucket.now) (min-eq_right (omega (arith, c.entries-test.false, c.requires.places.count)))
