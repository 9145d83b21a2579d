use Rattle.pattern_graph.proofs.GraphLemmas.{frame_copied}
use Rattle.pattern_graph.proofs.frame.Frame.copy.Goals as goal

pub invariant_of-result : goal.invariant_of-result
invariant_of-result c = frame_copied c.self.inside _ c.in_ok-copy.ensures c.in_ok-copy-2.ensures.starts c.in_ok-copy-2.ensures.edges c.in_ok-copy-3.ensures c.self.invariant
