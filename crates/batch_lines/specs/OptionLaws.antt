-- The laws of texts of goals, of costs and of groups, and of groups where none are named. Each is the contract of a function that does nothing.
use Rattle.std.specs.Prelude.{ℕ, ◌≡◌, ◌-◌, List, ◌∷◌, ⊤, codes}
use Rattle.std.specs.List.{concat, range_with_len}
use Rattle.board.specs.Shapes.{ShapeModel, IsShape, cell_count}
use Rattle.board.specs.Boards.{BoardModel}
use Rattle.board.specs.Weights.{WeightsModel}
use Rattle.board.specs.declared.faults.TilesFault.{TilesFault}
use Rattle.board.specs.declared.faults.WeightsFault.{WeightsFault}
use Rattle.batch_lines.specs.Words.{IsFirstWordFault}
use Rattle.memory.specs.declared.OutOfMemory.{OutOfMemory}
use Rattle.pattern_index.specs.Faults.{IsFirstGroupFault}
use Rattle.pattern_index.specs.Partitions.{PartitionModel, IsPartition}
use Rattle.pattern_index.specs.declared.faults.GroupFault.{GroupFault}
use Rattle.batch_lines.specs.declared.group_faults.GroupsFault.{GroupsFault}
use Rattle.batch_lines.specs.declared.group_faults.GroupsFault.TheVariants.{NoGroup, NoPartition, Memory}
use Rattle.batch_lines.specs.Texts.{comma_words, IsGoalOf, SaysCosts, AreGroupsOf, group_texts, group_numbers}
use Rattle.batch_lines.specs.GroupFaults.{IsFirstCostsFault, IsFirstGroupsFault}
use Rattle.batch_lines.specs.Defaults.{default_groups}

-- a text says one goal at most
abbrev pub GoalsAreDetermined : Type 0
GoalsAreDetermined = (grid : ShapeModel) (text : List ℕ) (goal goal' : BoardModel) → IsGoalOf grid text goal → IsGoalOf grid text goal' → goal' ≡ goal

-- a text that says a goal has no fault
abbrev pub GoalsHaveNoFault : Type 0
GoalsHaveNoFault = (grid : ShapeModel) (text : List ℕ) (goal : BoardModel) (fault : TilesFault) → IsGoalOf grid text goal → ¬ IsFirstWordFault grid (comma_words text) fault

-- a text says one rule of costs at most
abbrev pub CostsAreDetermined : Type 0
CostsAreDetermined = (grid : ShapeModel) (text : List ℕ) (rule rule' : WeightsModel) → SaysCosts grid text rule → SaysCosts grid text rule' → rule' ≡ rule

-- a text that says costs has no fault
abbrev pub CostsHaveNoFault : Type 0
CostsHaveNoFault = (grid : ShapeModel) (text : List ℕ) (rule : WeightsModel) (fault : WeightsFault) → SaysCosts grid text rule → ¬ IsFirstCostsFault grid text fault

-- and none has two
abbrev pub CostFaultsAreDetermined : Type 0
CostFaultsAreDetermined = (grid : ShapeModel) (text : List ℕ) (fault fault' : WeightsFault) → IsFirstCostsFault grid text fault → IsFirstCostsFault grid text fault' → fault' ≡ fault

-- the fault is that memory is refused, which the texts don't decide
abbrev pub IsMemoryRefusal : GroupsFault → Type 0
IsMemoryRefusal (NoGroup fault) = ⊥
IsMemoryRefusal (NoPartition fault) = ⊥
IsMemoryRefusal (Memory refused) = ⊤

-- texts that say the groups of a partition have no other fault
abbrev pub PartitionsHaveNoFault : Type 0
PartitionsHaveNoFault =
    (split : PartitionModel) (texts : List (List ℕ)) (fault : GroupsFault)
    → IsPartition split
    → AreGroupsOf split.grid texts split.groups
    → IsFirstGroupsFault split.grid texts fault
    → IsMemoryRefusal fault

-- and no texts have two
abbrev pub FaultsAreDetermined : Type 0
FaultsAreDetermined =
    (grid : ShapeModel) (texts : List (List ℕ)) (fault fault' : GroupsFault)
    → ¬ IsMemoryRefusal fault
    → ¬ IsMemoryRefusal fault'
    → IsFirstGroupsFault grid texts fault
    → IsFirstGroupsFault grid texts fault'
    → fault' ≡ fault

-- no refusal of memory hides the fault of the first text, and none is answered to `none`, which is no group
pub record MemoryIsRefusedForGroups : Type 0 where
  pub faults : (grid : ShapeModel) (text : List ℕ) (texts : List (List ℕ)) (fault : GroupFault) (refused : OutOfMemory) → IsFirstGroupFault grid (group_numbers text) fault → ¬ IsFirstGroupsFault grid (text ∷ texts) (Memory refused)
  pub none : (grid : ShapeModel) (refused : OutOfMemory) → ¬ IsFirstGroupsFault grid (group_texts (codes "none")) (Memory refused)

-- where no groups are named, they have each tile once, in rising order
abbrev pub DefaultsHaveEachTile : Type 0
DefaultsHaveEachTile = (grid : ShapeModel) → IsShape grid → concat (default_groups grid) ≡ range_with_len 1 (cell_count grid - 1)
