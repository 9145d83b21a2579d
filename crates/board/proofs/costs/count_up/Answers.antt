use Rattle.std.proofs.Common.{◌+◌, ◌-◌, ◌++◌, ℕ, List, set, replicate, arith, ap, sym, ◌∙◌}
use Rattle.std.specs.List.{range_with_len}
use Rattle.std.proofs.lemmas.List.FromFn.{length-range_with_len}
use Rattle.board.proofs.StorageLemmas.{filled_more, counted_more}
use Rattle.board.proofs.costs.count_up.Goals as goal

pub loop-place-preserved : goal.loop-place-preserved
loop-place-preserved c =
    let place : ℕ = c.loop-place.place in
    ap (λ (ts : List ℕ). set ts place place) c.loop-place.invariant
    ∙ filled_more 25 place (range_with_len 0 place) place (length-range_with_len 0 place) (omega arith)
    ∙ ap (λ (ts : List ℕ). ts ++ replicate (25 - (place + 1)) 0) (sym (counted_more place))
