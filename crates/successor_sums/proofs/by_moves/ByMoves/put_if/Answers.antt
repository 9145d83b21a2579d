use Rattle.std.proofs.Common.{sym, ap, ◌∙◌, subst}
use Rattle.std.specs.Prelude.{if◌then◌else◌, Some, None}
use Rattle.successor_sums.specs.ByMoves.{IsBehind, with_move}
use Rattle.successor_sums.proofs.EntryLemmas.{put_listed}
use Rattle.successor_sums.proofs.by_moves.ByMoves.put_if.Goals as goal

pub invariant_of-self : goal.invariant_of-self
invariant_of-self g c = (put_listed c.self.inside c.args.direction c.args.item c.args.is_there c.self.invariant (subst (λ four. IsBehind four c.args.direction) (sym c.self.view_is) c.requires)).0

pub returns : goal.returns
returns g c =
    (put_listed c.self.inside c.args.direction c.args.item c.args.is_there c.self.invariant (subst (λ four. IsBehind four c.args.direction) (sym c.self.view_is) c.requires)).1
    ∙ ap (λ four. with_move four c.args.direction (if c.args.is_there then Some c.args.item else None)) c.self.view_is
