use Rattle.pattern_index.proofs.ViewMoveLemmas.{successor_of_sight, blank_inside}
use Rattle.pattern_index.proofs.laws.successors_are_view_moves.Goals as goal

pub returns : goal.returns
returns c = λ a v m v' cost view. successor_of_sight a v m v' cost (blank_inside a.grid a.tiles v view)
