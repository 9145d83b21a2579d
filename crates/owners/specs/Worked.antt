-- Words, hashes and owners that are known.
use Rattle.std.specs.Prelude.{ℕ, ◌≡◌, List, [], ◌∷◌}
use Rattle.board.specs.Boards.{BoardModel, goal_of}
use Rattle.owners.specs.Owners.{word, hash_of, abstract_hash_of, owner_by_blank, owner_by_hash, owner_by_abstract_hash}

-- the first words of SplitMix64 from eight zero bytes on
abbrev pub FirstWords : Type 0
FirstWords = (word 0 ≡ 16294208416658607535) × (word 1 ≡ 7960286522194355700) × (word 2 ≡ 487617019471545679)

-- the hashes and the abstract hashes of the goals of 3 by 3 and of 2 by 3
pub record GoalHashes : Type 0 where
  pub of_3_by_3 : hash_of (goal_of (record { rows = 3; cols = 3 })) ≡ 8092573467260377517
  pub of_2_by_3 : hash_of (goal_of (record { rows = 2; cols = 3 })) ≡ 15528752151008016516
  pub abstract_of_3_by_3 : abstract_hash_of (goal_of (record { rows = 3; cols = 3 })) ≡ 9022943145368227898
  pub abstract_of_2_by_3 : abstract_hash_of (goal_of (record { rows = 2; cols = 3 })) ≡ 9235338093554589062

-- a board of 2 by 2 and one of 5 by 5, each with the blank on its last cell
abbrev small : BoardModel
small = record { grid = record { rows = 2; cols = 2 }; tiles = 3 ∷ 2 ∷ 1 ∷ 0 ∷ [] }

abbrev large : BoardModel
large = record {
  grid = record { rows = 5; cols = 5 };
  tiles = 14 ∷ 5 ∷ 9 ∷ 2 ∷ 18 ∷ 8 ∷ 23 ∷ 19 ∷ 12 ∷ 17 ∷ 15 ∷ 13 ∷ 10 ∷ 20 ∷ 4 ∷ 6 ∷ 11 ∷ 21 ∷ 1 ∷ 7 ∷ 24 ∷ 3 ∷ 16 ∷ 22 ∷ 0 ∷ [];
}

-- the owners of a board among 2, 3, 5 and 16 workers
abbrev owners_of : (ℕ → BoardModel → ℕ) → BoardModel → List ℕ
owners_of owner_among b = owner_among 2 b ∷ owner_among 3 b ∷ owner_among 5 b ∷ owner_among 16 b ∷ []

-- the owners of the two boards by their blanks, and by their hashes and abstract hashes, whose remainders another program computed
pub record OwnersOfBoards : Type 0 where
  pub small_by_blank : owners_of owner_by_blank small ≡ 1 ∷ 0 ∷ 3 ∷ 3 ∷ []
  pub large_by_blank : owners_of owner_by_blank large ≡ 0 ∷ 0 ∷ 4 ∷ 8 ∷ []
  pub small_by_hash : owners_of owner_by_hash small ≡ 0 ∷ 2 ∷ 1 ∷ 6 ∷ []
  pub large_by_hash : owners_of owner_by_hash large ≡ 1 ∷ 0 ∷ 3 ∷ 1 ∷ []
  pub small_by_abstract_hash : owners_of owner_by_abstract_hash small ≡ 1 ∷ 1 ∷ 4 ∷ 15 ∷ []
  pub large_by_abstract_hash : owners_of owner_by_abstract_hash large ≡ 1 ∷ 0 ∷ 2 ∷ 11 ∷ []
