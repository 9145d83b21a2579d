use Rattle.std.proofs.Common.{◌≡◌, ◌<◌, ◌-◌, length, drop, take, sym, ap, ◌∙◌, subst, arith}
use Rattle.std.specs.Prelude.{All}
use Rattle.std.proofs.lemmas.List.{take_rest}
use Rattle.board.specs.Shapes.{cell_count}
use Rattle.pattern_index.proofs.GroupLemmas.{groups_small}
use Rattle.pattern_index.proofs.PlaceLemmas.{place_listing}
use Rattle.pattern_index.proofs.group.Group.sparse_place.Goals as goal

rest_is : (c : goal.After-sparse_place-arg-1) → take (length c.cells-2.result.now - 1) (drop 1 c.cells-2.result.now) ≡ c.args.view.now.cells
rest_is c = take_rest c.cells-2.result.now 1 ∙ ap (drop 1) c.cells-2.ensures

pub sparse_place-requires-clause-short : goal.sparse_place-requires-clause-short
sparse_place-requires-clause-short c =
    let few = (groups_small c.args.self.now c.shape.ensures.group).0 in
    let long = c.requires.one_each in
    let rest = ap length (rest_is c) in
    omega (arith, few, long, rest)

pub sparse_place-requires-clause-below : goal.sparse_place-requires-clause-below
sparse_place-requires-clause-below c =
    subst (λ n. All (λ cell. cell < n) (take (length c.cells-2.result.now - 1) (drop 1 c.cells-2.result.now))) (sym (c.cells.ensures.value ∙ ap cell_count c.shape.ensures.value))
    (subst (All (λ cell. cell < cell_count c.args.self.now.grid)) (sym (rest_is c)) (place_listing c.args.self.now.grid c.args.self.now.tiles c.args.view.now c.requires).in_range)
