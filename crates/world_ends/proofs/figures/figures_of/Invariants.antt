use Rattle.world_ends.specs.Parts.{states_of}
use Rattle.world_ends.proofs.FigureLemmas.{IsCountedTo}
use Rattle.world_ends.proofs.figures.figures_of.Given as goal

-- the figures of the workers so far
abbrev pub invariant-workers : goal.invariant-workers
invariant-workers g l = IsCountedTo l.i (states_of l.fn.workers) l.figures
