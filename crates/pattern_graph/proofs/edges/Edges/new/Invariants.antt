use Rattle.std.proofs.Common.{[], ◌∷◌, ◌++◌, length}
use Rattle.pattern_graph.proofs.EdgeLemmas.{AreDone}
use Rattle.pattern_graph.proofs.edges.Edges.new.Given as goal

-- the edges of the regions done
abbrev pub invariant-regions : goal.invariant-regions
invariant-regions l = AreDone l.regions l.region (l.edges.starts.items ++ length l.edges.edges.items ∷ []) l.edges.edges.items
