use Rattle.std.proofs.Common.{◌*◌, sym, ap, ◌∙◌, ⊎_elim, inl, inr, arith}
use Rattle.std.specs.Prelude.{slice_index}
use Rattle.pattern_index.specs.Groups.{GroupModel}
use Rattle.pattern_index.specs.Sparse.{sparse_in}
use Rattle.pattern_index.specs.Views.{view_at, exchanged}
use Rattle.lower_bound.proofs.SlideLemmas.{next_place, place_low, times_low}
use Rattle.lower_bound.proofs.slides.told_values.Goals as goal

pub overflow_mul-after : goal.overflow_mul-after
overflow_mul-after c =
    let times = times_low c.args.fold.now.selection c.stride-stride.ensures.group c.args.cells.now c.args.tile c.told-cells c.requires.low c.requires.before (slice_index c.args.cells.now 0) (c.fits-cells 0) in
    let is = ap (λ s. slice_index c.args.cells.now 0 * s) c.stride-stride.ensures.value in
    omega (arith, times, is)

pub overflow_add-after : goal.overflow_add-after
overflow_add-after c =
    let times = times_low c.args.fold.now.selection c.stride-stride.ensures.group c.args.cells.now c.args.tile c.told-cells c.requires.low c.requires.before (slice_index c.args.cells.now 0) (c.fits-cells 0) in
    let is = ap (λ s. slice_index c.args.cells.now 0 * s) c.stride-stride.ensures.value in
    let low = place_low c.args.fold.now.selection c.stride-stride.ensures.group c.args.cells.now c.args.tile c.told-cells c.requires.low c.requires.before in
    let at = c.sparse_place_at-before.ensures ∙ ap (λ (g : GroupModel). sparse_in g.grid (view_at g.tiles c.args.cells.now)) c.group.ensures.value in
    omega (arith, times, is, low, at)

pub overflow_mul-after-2 : goal.overflow_mul-after-2
overflow_mul-after-2 c =
    let times = times_low c.args.fold.now.selection c.stride-stride.ensures.group c.args.cells.now c.args.tile c.told-cells c.requires.low c.requires.before (slice_index c.args.cells.now c.args.tile) (c.fits-cells c.args.tile) in
    let is = ap (λ s. slice_index c.args.cells.now c.args.tile * s) c.stride-stride.ensures.value in
    omega (arith, times, is)

pub overflow_sub-after : goal.overflow_sub-after
overflow_sub-after c =
    let next = next_place c.args.fold.now.selection c.stride-stride.ensures.group c.args.cells.now c.args.tile c.told-cells c.requires.low c.requires.before in
    let old = ap (λ s. slice_index c.args.cells.now c.args.tile * s) c.stride-stride.ensures.value in
    let new = ap (λ s. slice_index c.args.cells.now 0 * s) c.stride-stride.ensures.value in
    let at = c.sparse_place_at-before.ensures ∙ ap (λ (g : GroupModel). sparse_in g.grid (view_at g.tiles c.args.cells.now)) c.group.ensures.value in
    omega (arith, next, old, new, at)

pub returns-in_default-clause-none : goal.returns-in_default-clause-none
returns-in_default-clause-none c =
    let at = c.sparse_place_at-before.ensures ∙ ap (λ (g : GroupModel). sparse_in g.grid (view_at g.tiles c.args.cells.now)) c.group.ensures.value in
    ⊎_elim (λ same. inl (omega (arith, same))) (λ many. inr (inr many)) (c.in_default.ensures.none (view_at c.args.fold.now.selection.tiles c.args.cells.now) c.requires.before (sym at))

pub returns-in_default-sparse_value-clause-none : goal.returns-in_default-sparse_value-clause-none
returns-in_default-sparse_value-clause-none c =
    let next = next_place c.args.fold.now.selection c.stride-stride.ensures.group c.args.cells.now c.args.tile c.told-cells c.requires.low c.requires.before in
    let old = ap (λ s. slice_index c.args.cells.now c.args.tile * s) c.stride-stride.ensures.value in
    let new = ap (λ s. slice_index c.args.cells.now 0 * s) c.stride-stride.ensures.value in
    let at = c.sparse_place_at-before.ensures ∙ ap (λ (g : GroupModel). sparse_in g.grid (view_at g.tiles c.args.cells.now)) c.group.ensures.value in
    ⊎_elim (λ same. inr (inl (omega (arith, same)))) (λ many. inr (inr many)) (c.in_default-sparse_value.ensures.none (view_at c.args.fold.now.selection.tiles (exchanged c.args.cells.now c.args.tile)) c.requires.after (omega (arith, next, old, new, at)))

pub returns-clause-some : goal.returns-clause-some
returns-clause-some c =
    let next = next_place c.args.fold.now.selection c.stride-stride.ensures.group c.args.cells.now c.args.tile c.told-cells c.requires.low c.requires.before in
    let old = ap (λ s. slice_index c.args.cells.now c.args.tile * s) c.stride-stride.ensures.value in
    let new = ap (λ s. slice_index c.args.cells.now 0 * s) c.stride-stride.ensures.value in
    let at = c.sparse_place_at-before.ensures ∙ ap (λ (g : GroupModel). sparse_in g.grid (view_at g.tiles c.args.cells.now)) c.group.ensures.value in
    let was = c.in-Some.ensures.some (view_at c.args.fold.now.selection.tiles c.args.cells.now) c.requires.before (sym at) in
    let is = c.in-Some-sparse_value.ensures.some (view_at c.args.fold.now.selection.tiles (exchanged c.args.cells.now c.args.tile)) c.requires.after (omega (arith, next, old, new, at)) in
    λ i. (was i, is i)
