use Rattle.std.proofs.Common.{ℕ, List, map}
use Rattle.std.specs.Borrow.{Bor}
use Rattle.batch_lines.specs.Texts.{AreGroupsOf}
use Rattle.batch_lines.proofs.groups.groups_in.Given as goal

abbrev pub invariant-groups : goal.invariant-groups
invariant-groups l =
    goal.iterator-groups.can_next l.piece-iterator × goal.iterator-groups.is_finite l.piece-iterator
    × AreGroupsOf l.shape (map (λ (piece : Bor (List ℕ)). piece.now) l.yielded) l.groups.items
