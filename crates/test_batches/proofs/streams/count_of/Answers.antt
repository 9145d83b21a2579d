use Rattle.std.proofs.Common.{ℕ, ◌≡◌, ◌<◌, ◌+◌, ◌^◌, List, ◌++◌, length, ap, arith}
use Rattle.std.proofs.lemmas.List.{length-append}
use Rattle.byte_streams.specs.Sink.{AreTaken}
use Rattle.byte_streams.specs.Sink.AreTaken.{by_none, by_one_more}
use Rattle.test_batches.specs.declared.streams.Counter.{Counter}
use Rattle.test_batches.proofs.streams.count_of.Goals as goal

-- what a chain of writes counts
module _ {W : Type 0} (count : W → ℕ) where
  -- a write adds the number of its bytes
  abbrev pub Counts : W → List ℕ → W → Type 0
  Counts old bytes new = count old + length bytes < 2 ^ 64 → count new ≡ count old + length bytes

  -- so does a chain of them
  counted : (old new : W) (bytes : List ℕ) → AreTaken Counts old bytes new → Counts old bytes new
  counted old _ _ by_none fits = omega arith
  counted old _ _ (by_one_more sent part before new taken counts) fits =
      let both : length (sent ++ part) ≡ length sent + length part = length-append sent part in
      let first : count before ≡ count old + length sent = counted old before sent taken (omega (arith, fits, both)) in
      let next : count new ≡ count before + length part = counts (omega (arith, fits, both, first)) in
      omega (arith, both, first, next)

pub returns : goal.returns
returns c =
    let writes = rw c.unwrap.ensures at c.put.ensures.taken in
    let flushed = rw c.unwrap-2.ensures at c.flush.ensures.last in
    let given_back = ap (λ (w : Counter). w.count) c.into_inner.ensures in
    let counts = counted (λ (w : Counter). w.count) _ _ c.args.bytes.now writes (omega (arith, c.requires.empty, c.requires.short)) in
    omega (arith, c.requires.empty, counts, flushed, given_back)
