use Rattle.std.proofs.Common.{ap, ◌∙◌}
use Rattle.pattern_index.specs.Views.{exchanged, view_at}
use Rattle.pattern_index.specs.Sparse.{slot_in}
use Rattle.database_build.specs.Tables.{TableModel}
use Rattle.database_build.proofs.EntryLemmas.{byte_read, word_read}
use Rattle.database_build.proofs.table.Table.values_at.Goals as goal

pub returns-in-Bytes-clause-before : goal.returns-in-Bytes-clause-before
returns-in-Bytes-clause-before c =
    byte_read c.args.self.now c.self.inside.group c.self.inside.entries c.self.view_is c.self.invariant (view_at c.args.self.now.selection.tiles c.args.cells.now) c.requires.before
    c.slots_at-before.result.0 (c.slots_at-before.ensures.before ∙ ap (λ (t : TableModel). slot_in c.self.inside.group.grid (view_at t.selection.tiles c.args.cells.now)) c.self.view_is)
    c.in-Bytes.bytes c.index-in-Bytes.result.now c.widened.result c.in-Bytes.is c.index-in-Bytes.ensures c.widened.ensures

pub returns-in-Bytes-clause-after : goal.returns-in-Bytes-clause-after
returns-in-Bytes-clause-after c =
    byte_read c.args.self.now c.self.inside.group c.self.inside.entries c.self.view_is c.self.invariant (view_at c.args.self.now.selection.tiles (exchanged c.args.cells.now c.args.tile)) c.requires.after
    c.slots_at-before.result.1 (c.slots_at-before.ensures.after ∙ ap (λ (t : TableModel). slot_in c.self.inside.group.grid (view_at t.selection.tiles (exchanged c.args.cells.now c.args.tile))) c.self.view_is)
    c.in-Bytes.bytes c.index-in-Bytes-2.result.now c.widened-in-Bytes.result c.in-Bytes.is c.index-in-Bytes-2.ensures c.widened-in-Bytes.ensures

pub returns-in-Words-clause-before : goal.returns-in-Words-clause-before
returns-in-Words-clause-before c =
    word_read c.args.self.now c.self.inside.group c.self.inside.entries c.self.view_is c.self.invariant (view_at c.args.self.now.selection.tiles c.args.cells.now) c.requires.before
    c.slots_at-before-in-Words.result.0 (c.slots_at-before-in-Words.ensures.before ∙ ap (λ (t : TableModel). slot_in c.self.inside.group.grid (view_at t.selection.tiles c.args.cells.now)) c.self.view_is)
    c.in-Words.words c.index-in-Words.result.now c.in-Words.is c.index-in-Words.ensures

pub returns-in-Words-clause-after : goal.returns-in-Words-clause-after
returns-in-Words-clause-after c =
    word_read c.args.self.now c.self.inside.group c.self.inside.entries c.self.view_is c.self.invariant (view_at c.args.self.now.selection.tiles (exchanged c.args.cells.now c.args.tile)) c.requires.after
    c.slots_at-before-in-Words.result.1 (c.slots_at-before-in-Words.ensures.after ∙ ap (λ (t : TableModel). slot_in c.self.inside.group.grid (view_at t.selection.tiles (exchanged c.args.cells.now c.args.tile))) c.self.view_is)
    c.in-Words.words c.index-in-Words-2.result.now c.in-Words.is c.index-in-Words-2.ensures
