-- Folded tables: for each way to place a group's tiles, the least value over the blank's cells.
use Rattle.std.specs.Prelude.{ℕ, ◌≡◌, ◌≤◌, List, length, slice_index, ◌+◌, ◌<◌, ◌∷◌}
use Rattle.board.specs.Boards.{BoardModel}
use Rattle.board.specs.Weights.{WeightsModel}
use Rattle.board.specs.Shapes.{cell_count}
use Rattle.pattern_index.specs.Views.{ViewModel, IsView}
use Rattle.pattern_index.specs.Groups.{GroupModel, place_in, folded_size_of}
use Rattle.pattern_index.specs.Laws.{factorial}
use Rattle.pattern_graph.specs.Regions.{IsPlaced, IsFree}
use Rattle.pattern_graph.specs.declared.regions.Regions.{Regions}
use Rattle.pattern_graph.specs.Placements.{node_value, placement_in, placement_count}
use Rattle.pattern_graph.specs.Orders.{order_of}
use Rattle.pattern_graph.specs.Sets.{AreSame}
use Rattle.database_build.specs.Tables.{TableModel, HoldsValues, value_in}

-- A group, and an entry for each way to place its tiles, by place.
pub record FoldedModel : Type 0 where
  pub selection : GroupModel
  pub least : List ℕ

-- the entry of the cells on which a view shows the tiles
abbrev pub folded_in : FoldedModel → ViewModel → ℕ
folded_in fold v = slice_index fold.least (place_in fold.selection.grid v)

-- n is the least entry of the views that show the tiles on the same cells as v, wherever the blank is
pub record IsFoldedValue (table : TableModel) (v : ViewModel) (n : ℕ) : Type 0 where
  pub reached : (w : ViewModel) × IsView table.selection.grid table.selection.tiles w × (w.cells ≡ v.cells) × (value_in table w ≡ n)
  pub none_below : (w : ViewModel) → IsView table.selection.grid table.selection.tiles w → w.cells ≡ v.cells → n ≤ value_in table w

-- the entries are the folded values of a table
pub record IsFoldOf (table : TableModel) (fold : FoldedModel) : Type 0 where
  pub selection : fold.selection ≡ table.selection
  pub size : length fold.least ≡ folded_size_of table.selection
  pub least : (v : ViewModel) → IsView table.selection.grid table.selection.tiles v → IsFoldedValue table v (folded_in fold v)

-- folded from a table with the value of each view for the goal by these costs
abbrev pub IsTrueFold : WeightsModel → BoardModel → FoldedModel → Type 0
IsTrueFold rule goal fold = (table : TableModel) × IsFoldOf table fold × HoldsValues table rule goal

-- ---- the least value of each placement of the tiles

-- n is the least value of the nodes of views with tiles on these cells, wherever the blank is
pub record IsLeastNode (r : Regions) (nodes cells : List ℕ) (n : ℕ) : Type 0 where
  pub reached : (blank : ℕ) × IsFree r.shape cells blank × (node_value r nodes (blank ∷ cells) ≡ n)
  pub none_below : (blank : ℕ) → IsFree r.shape cells blank → n ≤ node_value r nodes (blank ∷ cells)

-- the least value of the nodes of each placement
pub record AreLeastNodes (r : Regions) (nodes least : List ℕ) : Type 0 where
  pub size : length least ≡ placement_count (cell_count r.shape) r.count
  pub values : (cells : List ℕ) → IsPlaced r.shape r.count cells → IsLeastNode r nodes cells (slice_index least (placement_in r.count cells))

-- the least value that a table has of each placement
pub record AreLeastOf (table : TableModel) (least : List ℕ) : Type 0 where
  pub size : length least ≡ placement_count (cell_count table.selection.grid) (length table.selection.tiles)
  pub values : (v : ViewModel) → IsView table.selection.grid table.selection.tiles v → IsFoldedValue table v (slice_index least (placement_in (length table.selection.tiles) v.cells))

-- behind the old values are those of the placements on a set of cells, by order
pub record AreLeastAdded (table : TableModel) (cells old new : List ℕ) : Type 0 where
  pub size : length new ≡ length old + factorial (length table.selection.tiles)
  pub kept : (i : ℕ) → i < length old → slice_index new i ≡ slice_index old i
  pub added : (v : ViewModel) → IsView table.selection.grid table.selection.tiles v → AreSame v.cells cells → IsFoldedValue table v (slice_index new (length old + order_of v.cells))
