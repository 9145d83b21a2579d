use Rattle.std.specs.Prelude.{ℕ, ◌≡◌, ◌<◌, slice_index, length}
use Rattle.owners.specs.Owners.{state_after, word}
use Rattle.owners.proofs.zobrist.fill.Given as goal

-- the first `k` words, and the state after them
abbrev pub invariant-words : goal.invariant-words
invariant-words l = record {
  state : l.generator ≡ state_after l.k;
  filled : (j : ℕ) → j < l.k → slice_index l.words j ≡ word j;
  all : length l.words ≡ length l.fn.words;
}
