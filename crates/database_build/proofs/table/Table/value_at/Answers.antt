use Rattle.std.proofs.Common.{ap, ◌∙◌}
use Rattle.pattern_index.specs.Views.{view_at}
use Rattle.pattern_index.specs.Sparse.{slot_in}
use Rattle.database_build.specs.Tables.{TableModel}
use Rattle.database_build.proofs.EntryLemmas.{byte_read, word_read}
use Rattle.database_build.proofs.table.Table.value_at.Goals as goal

pub returns-in-Bytes : goal.returns-in-Bytes
returns-in-Bytes c =
    byte_read c.args.self.now c.self.inside.group c.self.inside.entries c.self.view_is c.self.invariant (view_at c.args.self.now.selection.tiles c.args.cells.now) c.requires
    c.slot_at.result (c.slot_at.ensures.value ∙ ap (λ (t : TableModel). slot_in c.self.inside.group.grid (view_at t.selection.tiles c.args.cells.now)) c.self.view_is)
    c.in-Bytes.bytes c.index-in-Bytes.result.now c.widened.result c.in-Bytes.is c.index-in-Bytes.ensures c.widened.ensures

pub returns-in-Words : goal.returns-in-Words
returns-in-Words c =
    word_read c.args.self.now c.self.inside.group c.self.inside.entries c.self.view_is c.self.invariant (view_at c.args.self.now.selection.tiles c.args.cells.now) c.requires
    c.slot_at-in-Words.result (c.slot_at-in-Words.ensures.value ∙ ap (λ (t : TableModel). slot_in c.self.inside.group.grid (view_at t.selection.tiles c.args.cells.now)) c.self.view_is)
    c.in-Words.words c.index-in-Words.result.now c.in-Words.is c.index-in-Words.ensures
