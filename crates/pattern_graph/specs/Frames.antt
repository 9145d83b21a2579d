-- What the tables of all groups of as many tiles have in common.
use Rattle.std.specs.Prelude.{ℕ, ◌≡◌, length}
use Rattle.board.specs.Shapes.{ShapeModel}
use Rattle.pattern_index.specs.Groups.{GroupModel}
use Rattle.pattern_graph.specs.Regions.{IsRegions, AreEdges}
use Rattle.pattern_graph.specs.Graphs.{IsOrders}
use Rattle.pattern_graph.specs.declared.frame.Frame.TheInside.{Inside}

-- A grid, and how many tiles a group has.
pub record FrameModel : Type 0 where
  pub grid : ShapeModel
  pub count : ℕ

-- the size of groups that a frame is made for
abbrev pub size_of_frame : Inside → FrameModel
size_of_frame f = record { grid = f.regions.shape; count = f.regions.count }

-- its regions, the edges between them, and the orders of tiles
pub record IsFrame (f : Inside) : Type 0 where
  pub regions : IsRegions f.regions.shape f.regions.count f.regions
  pub edges : AreEdges f.regions f.edges
  pub orders : IsOrders f.regions.count f.orders

-- the group has this size
pub record FitsGroup (size : FrameModel) (g : GroupModel) : Type 0 where
  pub grid : size.grid ≡ g.grid
  pub count : size.count ≡ length g.tiles
