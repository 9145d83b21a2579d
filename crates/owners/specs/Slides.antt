-- A tile that moves onto the blank's cell, and the board to which that leads.
use Rattle.std.specs.Prelude.{◌≡◌, ◌<◌, slice_index}
use Rattle.board.specs.Shapes.{ShapeModel, cell_count}
use Rattle.board.specs.Moves.{blank_exchange}
use Rattle.board.specs.Boards.{BoardModel, IsBoard, blank_of}
use Rattle.search_keys.specs.SearchKeys.{HasSearchKey}
use Rattle.owners.specs.declared.spread.Moved.{Moved}
use Rattle.owners.specs.declared.spread.Slide.{Slide}

-- on this board, which has this grid, the tile and the blank are where the slide says
pub record IsSlide (grid : ShapeModel) (b : BoardModel) (slide : Slide) : Type 0 where
  pub board : IsBoard b
  pub sides : b.grid ≡ grid
  pub within : slide.from < cell_count grid
  pub tile : slice_index b.tiles slide.from ≡ slide.tile
  pub some : 0 < slide.tile
  pub blank : blank_of b ≡ slide.to

-- the slide leads from this board to the one with the search key
pub record IsMoved (b : BoardModel) (moved : Moved) : Type 0 where
  pub slide : IsSlide moved.shape b moved.slide
  pub key : HasSearchKey moved.shape moved.key (blank_exchange b moved.slide.from)
