use Rattle.pattern_graph.proofs.SlotLemmas.{HavePositions}
use Rattle.pattern_graph.proofs.slots.find_positions.Given as goal

-- the positions in the orders before this one are there
abbrev pub invariant-orders : goal.invariant-orders
invariant-orders l = HavePositions l.count l.order l.all.items
