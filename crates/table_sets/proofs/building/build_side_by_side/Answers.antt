use Rattle.std.proofs.Common.{◌≡◌, length, get_or, ap, sym, subst, ◌∙◌, arith}
use Rattle.std.proofs.lemmas.Result.{IfOk-weaker}
use Rattle.table_sets.proofs.BuiltLemmas.{IsFilled, all_taken, written_back}
use Rattle.table_sets.proofs.building.build_side_by_side.Goals as goal

pub returns : goal.returns
returns g c =
    let is = g.T.GroupTable.is_true c.args.weights.now c.args.goal.now in
    let places = c.in_ok-places.places in
    let filled = c.par_for_each_mut.new.s in
    let count : length filled ≡ length places.items = c.par_for_each_mut.auto.s ∙ ap length c.as_mut_slice.ensures.value in
    let kept : length filled ≡ length c.args.groups.now = count ∙ c.in_ok-places.ensures in
    let back = written_back places.len filled places.items (omega (arith, places.ok)) count in
    IfOk-weaker c.take_tables.result _ _
    (λ tables taken.
    all_taken is c.args.groups.now filled tables.items kept
    (λ i d within. let at = (c.par_for_each_mut.ensures i d (omega (arith, within, c.par_for_each_mut.auto.s))).1 in subst (IsFilled is c.args.groups.now i) {y = get_or filled i d} at.left at.call)
    (sym back ∙ taken))
    c.take_tables.ensures
