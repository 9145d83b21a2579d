use Rattle.std.proofs.Common.{ℕ, List, sym, subst}
use Rattle.std.specs.List.Sorted.{IsNonDecreasingBy}
use Rattle.board.specs.Boards.{BoardModel}
use Rattle.certificate_check.specs.Lookups.{IsTold}
use Rattle.certificate_check.proofs.RowLemmas.{row_key, keys_never_fall, leaves_none, leaves_dear, leaves_by}
use Rattle.certificate_check.proofs.successors.leaves_open.Goals as goal

pub returns-in_default : goal.returns-in_default
returns-in_default c = λ tables b m board told. leaves_none c.args.certificate.now tables (b, c.args.reached) m board (subst (IsTold c.args.certificate.now.costs tables b m) c.in_default.is told)

pub returns-then-next-cost : goal.returns-then-next-cost
returns-then-next-cost c = λ tables b m board told. leaves_dear c.args.certificate.now tables (b, c.args.reached) m c.in-Some.next c.cost.result board (subst (IsTold c.args.certificate.now.costs tables b m) c.in-Some.is told) c.cost.ensures c.if-next-cost.true

pub first_from-at-requires : goal.first_from-at-requires
first_from-at-requires c = subst (λ (rows : List (BoardModel × ℕ)). IsNonDecreasingBy row_key rows) (sym c.rows.ensures) (keys_never_fall c.args.certificate.now c.requires.certificate)

pub returns : goal.returns
returns c = λ tables b m board told. leaves_by c.args.certificate.now tables (b, c.args.reached) m c.in-Some.next c.cost.result board (subst (IsTold c.args.certificate.now.costs tables b m) c.in-Some.is told) c.cost.ensures c.if-next-cost.false c.has_row_at.result c.has_row_at.ensures
