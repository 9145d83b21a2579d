use Rattle.std.proofs.Common.{ap, subst, ◌∙◌, arith}
use Rattle.std.proofs.lemmas.List.{length-set}
use Rattle.board.specs.Shapes.{cell_count}
use Rattle.pattern_index.specs.Groups.{IsGroup, GroupModel}
use Rattle.database_build.proofs.LeastLemmas.{before_pass, before_more, before_all, blank_put, blank_view, blank_kept}
use Rattle.database_build.proofs.least.least_value.Goals as goal

pub blanks-preserved-then-marks-blank : goal.blanks-preserved-then-marks-blank
blanks-preserved-then-marks-blank c = record {
  size = c.blanks.invariant.size;
  written = c.blanks.invariant.written;
  least = before_pass c.args.table.now c.args.cells.now c.blanks.blank c.blanks.least ((c.requires.marked c.blanks.blank).0 c.if-marks-blank.true) c.blanks.invariant.least;
}

pub value_at-requires : goal.value_at-requires
value_at-requires c =
    let selection = subst IsGroup c.group.ensures.value c.tiles.ensures.group in
    let counted = c.cells-blank-end.ensures.value ∙ ap cell_count (c.shape.ensures.value ∙ ap (λ (g : GroupModel). g.grid) c.group-2.ensures.value) in
    blank_view c.args.table.now.selection.grid c.blanks.numbers c.args.table.now.selection.tiles c.args.cells.now c.args.marks.now c.blanks.blank c.cells-blank-end.result selection.group c.blanks.invariant.size c.blanks.invariant.written c.requires.placed c.requires.marked c.blanks-test.true counted c.if-marks-blank.false

pub blanks-preserved : goal.blanks-preserved
blanks-preserved c =
    let selection = subst IsGroup c.group.ensures.value c.tiles.ensures.group in
    let counted = c.cells-blank-end.ensures.value ∙ ap cell_count (c.shape.ensures.value ∙ ap (λ (g : GroupModel). g.grid) c.group-2.ensures.value) in
    let size = c.blanks.invariant.size in
    record {
      size = length-set c.blanks.numbers 0 c.blanks.blank ∙ size;
      written = blank_kept c.args.table.now.selection.grid c.blanks.numbers c.args.table.now.selection.tiles c.args.cells.now c.blanks.blank selection.group size c.blanks.invariant.written;
      least = before_more c.args.table.now c.args.cells.now c.blanks.blank c.blanks.least c.value_at.result c.min-least.result _
          (blank_view c.args.table.now.selection.grid c.blanks.numbers c.args.table.now.selection.tiles c.args.cells.now c.args.marks.now c.blanks.blank c.cells-blank-end.result selection.group size c.blanks.invariant.written c.requires.placed c.requires.marked c.blanks-test.true counted c.if-marks-blank.false)
          (blank_put c.args.table.now.selection.grid c.blanks.numbers c.args.table.now.selection.tiles c.args.cells.now c.blanks.blank selection.group (omega (arith, size)) c.blanks.invariant.written)
          c.value_at.ensures c.min-least.ensures c.blanks.invariant.least;
    }

pub returns : goal.returns
returns c =
    let end = c.blanks-test.false in
    let counted = c.cells-blank-end.ensures.value ∙ ap cell_count (c.shape.ensures.value ∙ ap (λ (g : GroupModel). g.grid) c.group-2.ensures.value) in
    before_all c.args.table.now c.args.cells.now c.blanks.blank c.blanks.least (omega (arith, end, counted)) c.group.ensures.high c.blanks.invariant.least
