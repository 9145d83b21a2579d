use Rattle.std.proofs.Common.{◌≡◌, length, map, take, sym, ap, ◌∙◌, arith}
use Rattle.std.proofs.Math.Seq.{take-length}
use Rattle.lower_bound.specs.Folded.{value_for}
use Rattle.lower_bound.proofs.PartLemmas.{values_are}
use Rattle.lower_bound.proofs.parts.Parts.of.Goals as goal

pub returns : goal.returns
returns c =
    let end : c.tables.i ≡ length c.args.folds.now = omega (arith, c.tables-test.false, c.tables.auto.i-end) in
    ap (λ k. take k c.tables.values) (sym end)
    ∙ c.tables.invariant.is
    ∙ ap (λ k. map (value_for c.args.board.now) (take k c.args.folds.now)) end
    ∙ ap (map (value_for c.args.board.now)) (take-length c.args.folds.now)
    ∙ sym (values_are c.args.folds.now c.args.board.now)
