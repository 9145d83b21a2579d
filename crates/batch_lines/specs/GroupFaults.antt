-- Why a text says no costs, or no groups of a partition, and the word of each reason.
use Rattle.std.specs.Prelude.{ℕ, ◌≡◌, ◌≢◌, ◌-◌, ◌<◌, List, length, take, slice_get, Some, codes}
use Rattle.board.specs.Shapes.{ShapeModel, cell_count}
use Rattle.board.specs.declared.faults.WeightsFault.{WeightsFault}
use Rattle.board.specs.declared.faults.WeightsFault.TheVariants.{WrongCount, WeightOutOfRange}
use Rattle.pattern_index.specs.Groups.{GroupModel}
use Rattle.pattern_index.specs.Partitions.{IsPartitionFault}
use Rattle.pattern_index.specs.Faults.{IsFirstGroupFault, group_code, partition_code}
use Rattle.batch_lines.specs.declared.group_faults.GroupsFault.{GroupsFault}
use Rattle.batch_lines.specs.declared.group_faults.GroupsFault.TheVariants.{NoGroup, NoPartition, Memory}
use Rattle.batch_lines.specs.Texts.{comma_words, SpellsWeight, group_numbers, IsGroupOf, AreGroupsOf}

-- there are as many words as tiles, and each before this place spells a number from 1 to 255
pub record IsFirstWeightWord (grid : ShapeModel) (words : List (List ℕ)) (place : ℕ) : Type 0 where
  pub one_each : length words ≡ cell_count grid - 1
  pub within : place < length words
  pub before : (k : ℕ) (word : List ℕ) → k < place → slice_get words k ≡ Some word → SpellsWeight word

-- the first fault of words that should spell weights: their count, else the first word that spells no number from 1 to 255
abbrev pub IsFirstWeightFault : ShapeModel → List (List ℕ) → WeightsFault → Type 0
IsFirstWeightFault grid words WrongCount = length words ≢ cell_count grid - 1
IsFirstWeightFault grid words (WeightOutOfRange place) = (word : List ℕ) × IsFirstWeightWord grid words place × (slice_get words place ≡ Some word) × ¬ SpellsWeight word

-- the first fault of a text that should say costs: `unit` and `face` have none, any other that of its words
abbrev pub IsFirstCostsFault : ShapeModel → List ℕ → WeightsFault → Type 0
IsFirstCostsFault grid text fault = (text ≢ codes "unit") × (text ≢ codes "face") × IsFirstWeightFault grid (comma_words text) fault

-- The first fault of the texts of groups: that of the first text that says no group, else that of the groups. Memory may be refused for the
-- group of a text, where that and each text before it says one.
abbrev pub IsFirstGroupsFault : ShapeModel → List (List ℕ) → GroupsFault → Type 0
IsFirstGroupsFault grid texts (NoGroup fault) =
    (place : ℕ) × (text : List ℕ) × (before : List GroupModel) × (slice_get texts place ≡ Some text) × AreGroupsOf grid (take place texts) before × IsFirstGroupFault grid (group_numbers text) fault
IsFirstGroupsFault grid texts (NoPartition fault) = (groups : List GroupModel) × AreGroupsOf grid texts groups × IsPartitionFault groups fault
IsFirstGroupsFault grid texts (Memory refused) =
    (place : ℕ) × (text : List ℕ) × (before : List GroupModel) × (group : GroupModel) × (slice_get texts place ≡ Some text) × AreGroupsOf grid (take place texts) before × IsGroupOf grid text group

-- the word that a fault is reported by
abbrev pub groups_code : GroupsFault → List ℕ
groups_code (NoGroup fault) = group_code fault
groups_code (NoPartition fault) = partition_code fault
groups_code (Memory refused) = codes "memory"
