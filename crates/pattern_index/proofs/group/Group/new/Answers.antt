use Rattle.std.proofs.Common.{length, sym}
use Rattle.pattern_index.proofs.GroupLemmas.{numbers_few, numbers_small, group_stored, room_taken}
use Rattle.pattern_index.proofs.FaultLemmas.{no_fault}
use Rattle.pattern_index.proofs.group.Group.new.Goals as goal

pub slice_bounds-tiles-end : goal.slice_bounds-tiles-end
slice_bounds-tiles-end c = numbers_few c.args.shape c.args.numbers.now c.cells.result c.in-Some.size c.cells.ensures.sides c.in_default.ensures.group c.cells.ensures.value c.in-Some.ensures

pub slice_bounds-sort_into-end : goal.slice_bounds-sort_into-end
slice_bounds-sort_into-end c =
    sym (room_taken (length c.args.numbers.now) (numbers_few c.args.shape c.args.numbers.now c.cells.result c.in-Some.size c.cells.ensures.sides c.in_default.ensures.group c.cells.ensures.value c.in-Some.ensures))

pub sort_into-requires : goal.sort_into-requires
sort_into-requires c = room_taken (length c.args.numbers.now) (numbers_few c.args.shape c.args.numbers.now c.cells.result c.in-Some.size c.cells.ensures.sides c.in_default.ensures.group c.cells.ensures.value c.in-Some.ensures)

pub invariant_of-result : goal.invariant_of-result
invariant_of-result c =
    group_stored c.args.shape c.args.numbers.now c.cells.result c.in-Some.size c.cells.ensures.sides c.in_default.ensures.group c.cells.ensures.value c.in-Some.ensures c.sort_into.new.tiles c.in_default.ensures.some c.sort_into.ensures.tiles c.sort_into.ensures.rising

pub returns-clause-group : goal.returns-clause-group
returns-clause-group c = (invariant_of-result c).selection

pub returns-clause-fault : goal.returns-clause-fault
returns-clause-fault c = λ fault. (
  (λ e. absurd (cc)),
  (λ first.
      absurd
      (no_fault c.args.shape c.args.numbers.now c.in_default.ensures.some c.in_default.ensures.group
      (numbers_small c.args.shape c.args.numbers.now c.cells.result c.in-Some.size c.cells.ensures.sides c.in_default.ensures.group c.cells.ensures.value c.in-Some.ensures) fault first)),
)
