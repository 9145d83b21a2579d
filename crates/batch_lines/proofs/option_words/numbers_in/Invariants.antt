use Rattle.std.proofs.Common.{◌≡◌, ℕ, List, map}
use Rattle.std.specs.Borrow.{Bor}
use Rattle.batch_lines.specs.TileNumbers.{tile_number}
use Rattle.batch_lines.proofs.option_words.numbers_in.Given as goal

abbrev pub invariant-words : goal.invariant-words
invariant-words l =
    goal.iterator-words.can_next l.word-iterator × goal.iterator-words.is_finite l.word-iterator
    × (l.numbers.items ≡ map (λ (word : Bor (List ℕ)). tile_number word.now) l.yielded)
