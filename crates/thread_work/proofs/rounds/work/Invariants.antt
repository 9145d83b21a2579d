use Rattle.std.proofs.Common.{◌≡◌}
use Rattle.thread_parts.specs.Parts.{IsSoundPart, face_of}
use Rattle.thread_work.proofs.rounds.work.Given as goal

abbrev pub invariant-rounds : goal.invariant-rounds
invariant-rounds g l =
    (goal.iterator-rounds g).can_next l.iterator'
    × (goal.iterator-rounds g).is_finite l.iterator'
    × (face_of l.part ≡ l.fn.sealed)
    × IsSoundPart g.S.Spread.owner_of g.C.Tokens.workers l.part
