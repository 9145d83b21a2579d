use Rattle.std.proofs.Common.{◌≡◌, ◌≤◌, ◌∷◌, [], ◌++◌, ◌+◌, ℕ, List, length, ap, sym, subst, ◌∙◌, arith}
use Rattle.std.specs.Prelude.{IsPermutation}
use Rattle.std.specs.List.{range_with_len}
use Rattle.std.proofs.lemmas.List.FromFn.{length-range_with_len}
use Rattle.board.specs.Shapes.{cell_count}
use Rattle.batch_lines.proofs.OptionLawLemmas.{range_one_more, size_low, rising_is_group, rising_is}
use Rattle.batch_lines.proofs.defaults.rising_group.Goals as goal

pub push-requires : goal.push-requires
push-requires c =
    let count : length c.tiles.tiles.items ≡ c.tiles.place = ap length c.tiles.invariant ∙ length-range_with_len c.args.first c.tiles.place in
    let low = size_low (cell_count c.args.shape) in
    (omega arith, omega (arith, count, low, c.requires.few, c.tiles-test.true))

pub tiles-preserved : goal.tiles-preserved
tiles-preserved c = c.push.ensures.items ∙ ap (λ (ns : List ℕ). ns ++ (c.args.first + c.tiles.place) ∷ []) c.tiles.invariant ∙ sym (range_one_more c.args.first c.tiles.place)

pub unwrap-requires : goal.unwrap-requires
unwrap-requires c =
    let place : c.tiles.place ≡ c.args.count = omega (arith, c.tiles-test.false, c.tiles.auto.place-end) in
    let numbers : c.as_slice.result.now ≡ range_with_len c.args.first c.args.count = c.as_slice.ensures.value ∙ c.tiles.invariant ∙ ap (range_with_len c.args.first) place in
    let few = subst (λ (n : ℕ). n ≤ 25) c.cells-cells.ensures.value c.cells-cells.ensures.high in
    c.new.ensures.accepted.1 (rising_is_group c.args.shape c.as_slice.result.now c.args.first c.args.count numbers c.requires.tiles c.requires.some c.requires.room few c.requires.few)

pub returns : goal.returns
returns c =
    let place : c.tiles.place ≡ c.args.count = omega (arith, c.tiles-test.false, c.tiles.auto.place-end) in
    let numbers : c.as_slice.result.now ≡ range_with_len c.args.first c.args.count = c.as_slice.ensures.value ∙ c.tiles.invariant ∙ ap (range_with_len c.args.first) place in
    let grid = rw c.unwrap.ensures at c.new.ensures.grid in
    let moved = rw c.unwrap.ensures at c.new.ensures.tiles in
    let sound = rw c.unwrap.ensures at c.new.ensures.group in
    let tiles : c.unwrap.result.tiles ≡ range_with_len c.args.first c.args.count = rising_is c.args.first c.args.count c.unwrap.result.tiles (subst (λ (ns : List ℕ). IsPermutation ns c.unwrap.result.tiles) numbers moved) sound.rising in
    λ i. record { grid = grid i; tiles = tiles i }
