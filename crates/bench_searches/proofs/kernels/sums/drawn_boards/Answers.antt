use Rattle.std.proofs.Common.{◌≡◌, ◌≤◌, ℕ, List, [], ◌∷◌, sym, ap, ◌∙◌, subst, arith}
use Rattle.std.specs.Prelude.{All}
use Rattle.std.proofs.lemmas.List.Elements.{All-append, All-cons, All-nil}
use Rattle.board.specs.declared.costs.TheConstants.{GREATEST_EXPANDED_COST}
use Rattle.board.specs.Boards.{BoardModel}
use Rattle.pattern_index.specs.Partitions.{PartitionModel}
use Rattle.lower_bound.specs.Bounds.{sum_of}
use Rattle.lower_bound.specs.Tables.{parts_of}
use Rattle.search_keys.specs.declared.keyed.KeyedBoard.{KeyedBoard}
use Rattle.bench_searches.proofs.kernels.sums.drawn_boards.Goals as goal

pub boards-preserved : goal.boards-preserved
boards-preserved c =
    let fits : KeyedBoard × ℕ → Type 0 = λ (d : KeyedBoard × ℕ). (d.0.grid ≡ c.args.bound.now.split.grid) × (d.1 ≡ sum_of (parts_of c.args.bound.now) d.0) × (d.1 ≤ GREATEST_EXPANDED_COST) in
    let grid = ap (λ (b : BoardModel). b.grid) (c.new.ensures ∙ c.in-Ok.ensures.value) ∙ c.shape-shape.ensures.value ∙ ap (λ (s : PartitionModel). s.grid) c.partition.ensures.value in
    let sum = c.of-sum.ensures.value ∙ ap (sum_of (parts_of c.args.bound.now)) (sym c.new.ensures) in
    let one : fits (c.new.result, c.of-sum.result) = (grid, sum, omega (arith, c.if-sum-gt-GREATEST_EXPANDED_COST.false)) in
    let pushed = rw c.if-is_err.ensures.negation at c.push.ensures.items in
    subst (λ (items : List (KeyedBoard × ℕ)). All fits items) (sym pushed) (All-append fits c.boards.drawn.items ((c.new.result, c.of-sum.result) ∷ []) c.boards.invariant (All-cons fits (c.new.result, c.of-sum.result) [] one (All-nil fits)))
