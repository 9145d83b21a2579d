use Rattle.std.proofs.Common.{◌≡◌, ◌<◌, suc, length, sym, ap, ◌∙◌, subst, arith}
use Rattle.pattern_index.specs.Sparse.{digit_base, slot_count_of, sparse_of}
use Rattle.pattern_index.proofs.GroupLemmas.{groups_small}
use Rattle.pattern_index.proofs.SparseLemmas.{slot_below}
use Rattle.pattern_index.proofs.group.Group.slot.Goals as goal

pub sparse_place-requires-clause-short : goal.sparse_place-requires-clause-short
sparse_place-requires-clause-short c =
    let few = (groups_small c.args.self.now c.shape.ensures.group).0 in
    let long = c.requires.one_each in
    let cells : length c.cells.result.now ≡ suc (length c.args.view.now.cells) = ap length c.cells.ensures in
    omega (arith, few, long, cells)

pub returns-clause-below : goal.returns-clause-below
returns-clause-below c =
    subst (λ k. k < slot_count_of c.args.self.now) (sym (c.sparse_place.ensures ∙ (λ i. sparse_of ((c.digit_base.ensures.value ∙ ap digit_base c.shape.ensures.value) i) (c.cells.ensures i)))) (slot_below c.args.self.now c.args.view.now c.requires)
