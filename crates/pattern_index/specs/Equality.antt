-- What `==` answers of views and groups: whether they are the same.
use Rattle.std.specs.Prelude.{◌≡◌, ◌==◌, ◌&&◌, Bool}
use Rattle.std.specs.Bool.{Decides}
use Rattle.std.specs.Cmp.{IsEquivalence, decided}
use Rattle.std.specs.Str.{bytes_eq}
use Rattle.std.proofs.Common.{ap}
use Rattle.std.proofs.lemmas.Bool.Decides.{Decides-and, Decides-like, Decides-eqb}
use Rattle.std.proofs.lemmas.Slice.Eq.{bytes_eq-Decides}
use Rattle.board.specs.Equality.{grid_eq, grids_Decide}
use Rattle.pattern_index.specs.Views.{ViewModel}
use Rattle.pattern_index.specs.Groups.{GroupModel}

-- they have the blank on the same cell, and the same cells
abbrev pub sight_eq : ViewModel → ViewModel → Bool
sight_eq v w = v.blank == w.blank && bytes_eq v.cells w.cells

-- they have the same grid and the same tiles
abbrev pub selection_eq : GroupModel → GroupModel → Bool
selection_eq g h = grid_eq g.grid h.grid && bytes_eq g.tiles h.tiles

pub sights_Decide : (v w : ViewModel) → Decides (sight_eq v w) (v ≡ w)
sights_Decide v w = Decides-like _ same (λ e. (ap (λ (x : ViewModel). x.blank) e, ap (λ (x : ViewModel). x.cells) e)) (Decides-and _ _ (Decides-eqb _ _) (bytes_eq-Decides _ _))
  where
    same : (v.blank ≡ w.blank) × (v.cells ≡ w.cells) → v ≡ w
    same p = λ i. record { blank = p.0 i; cells = p.1 i }

pub selections_Decide : (g h : GroupModel) → Decides (selection_eq g h) (g ≡ h)
selections_Decide g h = Decides-like _ same (λ e. (ap (λ (x : GroupModel). x.grid) e, ap (λ (x : GroupModel). x.tiles) e)) (Decides-and _ _ (grids_Decide _ _) (bytes_eq-Decides _ _))
  where
    same : (g.grid ≡ h.grid) × (g.tiles ≡ h.tiles) → g ≡ h
    same p = λ i. record { grid = p.0 i; tiles = p.1 i }

pub sight_eq-laws : IsEquivalence sight_eq
sight_eq-laws = decided sight_eq sights_Decide

pub selection_eq-laws : IsEquivalence selection_eq
selection_eq-laws = decided selection_eq selections_Decide
